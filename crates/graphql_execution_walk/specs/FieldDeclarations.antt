-- What a schema declares of a field of an object type, and of the types of its values (GraphQL
-- October 2021, 3.6 Objects, 4.1 Type Name Introspection).
use Rattle.std.specs.Prelude.{Bool, true, false, List, [], Option, Some, unwrap_or}
use Rattle.graphql_names.specs.Names.{Bytes}
use Rattle.graphql_schema.specs.declared.meta.argument.Argument.{Argument}
use Rattle.graphql_schema.specs.declared.meta.MetaType.{MetaType}
use Rattle.graphql_schema.specs.declared.meta.MetaType.TheVariants as meta
use Rattle.graphql_schema.specs.Types.{TypeOf}
use Rattle.graphql_schema.specs.Lookups.{type_named}
use Rattle.graphql_schema.specs.Possible.{is_possible}
use Rattle.graphql_occurrences.specs.DeclaredLookups.{field_of, field_type, field_arguments}

module _ {S C : Type 0} where
  -- a scalar or an enum (5.3.3 Leaf Field Selections)
  abbrev pub is_leaf : Option (MetaType S C) → Bool
  is_leaf (Some (meta.Scalar m)) = true
  is_leaf (Some (meta.Enum m)) = true
  is_leaf _ = false

  abbrev pub are_possible : Option (MetaType S C) → Option (MetaType S C) → Bool
  are_possible (Some at) (Some object) = is_possible at object
  are_possible _ _ = false

module _ {S C : Type 0} (types : List (MetaType S C)) where
  -- the type of an object type's field
  abbrev pub declared_type : Bytes → Bytes → Option TypeOf
  declared_type object name = field_type (field_of (type_named types object) name)

  -- its arguments, none where it is not declared
  abbrev pub declared_arguments : Bytes → Bytes → List (Argument S)
  declared_arguments object name =
      unwrap_or (field_arguments (field_of (type_named types object) name)) []

  -- the type of this name is a scalar or an enum
  abbrev pub is_leaf_named : Bytes → Bool
  is_leaf_named name = is_leaf (type_named types name)

  -- whether at a place of a type an object of an object type can stand
  abbrev pub is_possible_named : Bytes → Bytes → Bool
  is_possible_named at object = are_possible (type_named types at) (type_named types object)
