-- Whether what a file declares has names (GraphQL October 2021, 2.1.9 Names).
use Rattle.std.specs.Prelude.{◌&&◌, ◌||◌, ◌==◌, ℕ, Bool, false, List, [], ◌∷◌}
use Rattle.std.specs.Char.{is_ascii_alphabetic}
use Rattle.std.specs.List.{list_all}
use Rattle.std.specs.Str.{chars}
use Rattle.graphql_text.specs.Characters.{continues_name}
use Rattle.graphql_names.specs.Names.{Bytes}
use Rattle.graphql_schema_files.specs.declared.drafts.ArgumentDraft.{ArgumentDraft}
use Rattle.graphql_schema_files.specs.declared.drafts.FieldDraft.{FieldDraft}
use Rattle.graphql_schema_files.specs.declared.drafts.TypeDraft.{TypeDraft}

-- a letter or an underscore, and then letters, digits and underscores
abbrev pub spells_name : List ℕ → Bool
spells_name [] = false
spells_name (c ∷ cs) = (c == 95 || is_ascii_alphabetic c) && list_all continues_name cs

-- a text is a name, by its characters
abbrev pub is_name : Bytes → Bool
is_name text = spells_name (chars text)

abbrev pub argument_is_named : ArgumentDraft → Bool
argument_is_named argument = is_name argument.name

-- the field, and each argument
abbrev pub field_is_named : FieldDraft → Bool
field_is_named field = is_name field.name && list_all argument_is_named field.arguments

-- the type, each field, and each argument; what it lists is not judged
abbrev pub type_is_named : TypeDraft → Bool
type_is_named draft = is_name draft.name && list_all field_is_named draft.fields
