-- The types that metadata describe, with the fields of introspection at the query root (GraphQL
-- October 2021, 4.2 Schema Introspection).
use Rattle.std.specs.Prelude.{◌++◌, List, [], ◌∷◌, map, Option, Some, None, codes, if◌then◌else◌}
use Rattle.std.specs.Option.{is_some}
use Rattle.std.specs.List.{filter}
use Rattle.std.specs.Str.{bytes_eq}
use Rattle.graphql_names.specs.declared.type_modifier.TypeModifier.TheVariants as modifier
use Rattle.graphql_schema.specs.declared.meta.argument.Argument.{Argument}
use Rattle.graphql_schema.specs.declared.meta.field.Field.{Field}
use Rattle.graphql_schema.specs.declared.meta.deprecation.DeprecationStatus.TheVariants as status
use Rattle.graphql_schema.specs.declared.meta.MetaType.{MetaType}
use Rattle.graphql_schema.specs.declared.meta.MetaType.TheVariants as meta
use Rattle.graphql_schema.specs.Types.{name_of}
use Rattle.graphql_names.specs.Names.{Bytes}

module _ {S : Type 0} where
  -- `__schema: __Schema!`
  abbrev pub schema_field : Field S
  schema_field =
      record {
        name = codes "__schema";
        description = None;
        arguments = None;
        field_type = record { name = codes "__Schema"; modifiers = modifier.NonNull ∷ [] };
        deprecation_status = status.Current;
      }

  -- `name: String!`
  abbrev pub name_argument : Argument S
  name_argument =
      record {
        name = codes "name";
        description = None;
        arg_type = record {
          name = codes "String";
          modifiers = modifier.NonNull ∷ [];
        };
        default_value = None;
      }

  -- `__type(name: String!): __Type`
  abbrev pub type_field : Field S
  type_field =
      record {
        name = codes "__type";
        description = None;
        arguments = Some (name_argument ∷ []);
        field_type = record { name = codes "__Type"; modifiers = [] };
        deprecation_status = status.Current;
      }

module _ {S C : Type 0} where
  -- an object of this name with the fields of introspection; every other type as it is
  abbrev pub with_introspection : Bytes → MetaType S C → MetaType S C
  with_introspection root (meta.Object m) = if bytes_eq m.name root
      then meta.Object (record m { fields = m.fields ++ schema_field ∷ type_field ∷ [] })
      else meta.Object m
  with_introspection root m = m

  -- the named metadata, with the fields of introspection
  abbrev pub completed : List (MetaType S C) → Bytes → List (MetaType S C)
  completed metadata query =
      map (with_introspection query) (filter (λ m. is_some (name_of m)) metadata)

-- the root that a name means: the name that stands for none means none
abbrev pub root_named : Bytes → Option Bytes → Option Bytes
root_named none None = None
root_named none (Some name) = if bytes_eq name none then None else Some name
