-- What a file of a schema says, before a name or a type in it is read.
use Rattle.std.specs.Prelude.{List, [], Option, Some, None, codes, if◌then◌else◌}
use Rattle.std.specs.Str.{bytes_eq}
use Rattle.serde_json.specs.Data.{Data}
use Rattle.graphql_names.specs.Names.{Bytes}
use Rattle.graphql_json.specs.Parts.{◌>>=◌, text_of, text_at, text_if, list_at, list_if}
use Rattle.graphql_schema_files.specs.declared.drafts.ArgumentDraft.{ArgumentDraft}
use Rattle.graphql_schema_files.specs.declared.drafts.FieldDraft.{FieldDraft}
use Rattle.graphql_schema_files.specs.declared.drafts.DraftKind.{DraftKind}
use Rattle.graphql_schema_files.specs.declared.drafts.DraftKind.TheVariants.{Object, Interface}
use Rattle.graphql_schema_files.specs.declared.drafts.DraftKind.TheVariants.{Union}
use Rattle.graphql_schema_files.specs.declared.drafts.TypeDraft.{TypeDraft}
use Rattle.graphql_schema_files.specs.declared.drafts.SchemaDraft.{SchemaDraft}

-- an argument: the texts `name` and `type`, and the text `default` if it has one
abbrev pub argument_draft : Data → Option ArgumentDraft
argument_draft d = do
  name ← text_at (codes "name") d
  type_text ← text_at (codes "type") d
  default ← text_if (codes "default") d
  Some (record { name = name; type_text = type_text; default_text = default })

-- the list `args`, if it has one
abbrev pub argument_drafts : Data → Option (List ArgumentDraft)
argument_drafts = list_if argument_draft (codes "args")

-- a field: the texts `name` and `type`, and its arguments
abbrev pub field_draft : Data → Option FieldDraft
field_draft d = do
  name ← text_at (codes "name") d
  type_text ← text_at (codes "type") d
  arguments ← argument_drafts d
  Some (record { name = name; type_text = type_text; arguments = arguments })

-- the kinds, by their names
abbrev pub kind_named : Bytes → Option DraftKind
kind_named name =
    if bytes_eq name (codes "object") then Some Object else
    if bytes_eq name (codes "interface") then Some Interface else
    if bytes_eq name (codes "union") then Some Union else None

abbrev pub kind_in : Data → Option DraftKind
kind_in d = text_at (codes "kind") d >>= kind_named

-- the list `fields` of an object or an interface
abbrev pub field_drafts : DraftKind → Data → Option (List FieldDraft)
field_drafts Object d = list_at field_draft (codes "fields") d
field_drafts Interface d = list_at field_draft (codes "fields") d
field_drafts Union d = Some []

-- the list `interfaces` of texts, if an object or an interface has one, and the list `members` of a
-- union
abbrev pub listed_in : DraftKind → Data → Option (List Bytes)
listed_in Object d = list_if text_of (codes "interfaces") d
listed_in Interface d = list_if text_of (codes "interfaces") d
listed_in Union d = list_at text_of (codes "members") d

-- a type: the texts `kind` and `name`, and what its kind asks for
abbrev pub type_draft : Data → Option TypeDraft
type_draft d = do
  kind ← kind_in d
  name ← text_at (codes "name") d
  fields ← field_drafts kind d
  listed ← listed_in kind d
  Some (record { kind = kind; name = name; fields = fields; listed = listed })

abbrev pub types_in : Data → Option (List TypeDraft)
types_in = list_at type_draft (codes "types")

-- a schema: the text `query`, the text `mutation` if it has one, and the list `types`
abbrev pub schema_of : Data → Option SchemaDraft
schema_of d = do
  query ← text_at (codes "query") d
  mutation ← text_if (codes "mutation") d
  types ← types_in d
  Some (record { query = query; mutation = mutation; types = types })
