-- What a registry makes and takes (GraphQL October 2021, 3.3 Schema, 3.6 Objects, 3.6.1 Field
-- Arguments).
use Rattle.std.specs.Prelude.{◌≡◌, Option, Some, None, codes}
use Rattle.std.specs.BTreeMap.{BTreeMap, IsUnchanged, get, insert_entry}
use Rattle.std.specs.Str.{chars}
use Rattle.std.specs.declared.cmp.Ordering.{Ordering}
use Rattle.graphql_text.specs.Grammar.{IsName}
use Rattle.graphql_names.specs.Names.{Bytes}
use Rattle.graphql_schema.specs.declared.meta.argument.Argument.{Argument}
use Rattle.graphql_schema.specs.declared.meta.deprecation.DeprecationStatus.TheVariants as status
use Rattle.graphql_schema.specs.declared.meta.field.Field.{Field}
use Rattle.graphql_schema.specs.Types.{TypeOf, reference_to}

module _ {S : Type 0} where
  -- the field of a name whose values are those of a type
  abbrev pub declared_field : Bytes → TypeOf → Field S
  declared_field name field_type = record {
    name = name;
    description = None;
    arguments = None;
    field_type = field_type;
    deprecation_status = status.Current;
  }

  -- `__typename: String!` (4.1 Type Name Introspection)
  abbrev pub typename_field : Field S
  typename_field = declared_field (codes "__typename") (reference_to (codes "String"))

  -- the argument of a name whose values are those of a type
  abbrev pub declared_argument : Bytes → TypeOf → Argument S
  declared_argument name arg_type = record {
    name = name;
    description = None;
    arg_type = arg_type;
    default_value = None;
  }

module _ {A : Type 0} (name_of : A → Bytes) (cmp : Bytes → Bytes → Ordering) where
  -- its name is one by the standard (2.1.9 Names; the empty one of what has none is not), and no
  -- type there has it (3.3 Schema)
  abbrev pub MayEnter : BTreeMap Bytes A → A → Type 0
  MayEnter types meta = IsName (chars (name_of meta)) × (get cmp types (name_of meta) ≡ None)

  -- a type that may come in stands under its name; any other is handed back, and the types stay
  abbrev pub Registers : BTreeMap Bytes A → A → BTreeMap Bytes A → Option A → Type 0
  Registers old meta new None =
      MayEnter old meta × (new.entries ≡ insert_entry cmp old.entries (name_of meta) meta)
  Registers old meta new (Some back) = (back ≡ meta) × IsUnchanged old new × (MayEnter old meta → ⊥)
