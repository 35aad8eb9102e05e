-- The types of the schema of the sample (GraphQL October 2021, 3.4 Types).
use Rattle.std.specs.Prelude.{◌++◌, ◌∷◌, [], true, List, Some, None, codes, map}
use Rattle.std.specs.Borrow.{Bor}
use Rattle.graphql_names.specs.Names.{Bytes}
use Rattle.graphql_scalars.specs.declared.default_scalar.DefaultScalarValue.{DefaultScalarValue}
use Rattle.graphql_scalars.specs.declared.default_scalar.DefaultScalarValue.TheVariants as
    scalar_value
use Rattle.graphql_names.specs.declared.type_modifier.TypeModifier.{TypeModifier}
use Rattle.graphql_names.specs.declared.type_modifier.TypeModifier.TheVariants as modifier
use Rattle.graphql_introspection.specs.Metadata.{introspection_types}
use Rattle.graphql_schema.specs.declared.introspection_checks.IntrospectionChecks.{IntrospectionChecks}
use Rattle.graphql_schema.specs.declared.meta.argument.Argument.{Argument}
use Rattle.graphql_schema.specs.declared.meta.deprecation.DeprecationStatus.TheVariants as status
use Rattle.graphql_schema.specs.declared.meta.field.Field.{Field}
use Rattle.graphql_schema.specs.declared.meta.object.ObjectMeta.{ObjectMeta}
use Rattle.graphql_schema.specs.declared.meta.MetaType.{MetaType}
use Rattle.graphql_schema.specs.declared.meta.MetaType.TheVariants as meta
use Rattle.graphql_schema.specs.Faults.{Roots}

abbrev pub Wraps : Type 0
Wraps = List TypeModifier

abbrev pub no_wraps : Wraps
no_wraps = []

abbrev pub non_null : Wraps
non_null = modifier.NonNull ∷ []

-- an argument of a name, and of the type of a name within wraps
abbrev pub argument : Bytes → Bytes → Wraps → Argument DefaultScalarValue
argument name type_name wraps =
    record {
      name = name;
      description = None;
      arg_type = record { name = type_name; modifiers = wraps };
      default_value = None;
    }

-- a field of a name, and of the type of a name within wraps
abbrev pub a_field : Bytes → Bytes → Wraps → List (Argument DefaultScalarValue)
    → Field DefaultScalarValue
a_field name type_name wraps arguments =
    record {
      name = name;
      description = None;
      arguments = Some arguments;
      field_type = record { name = type_name; modifiers = wraps };
      deprecation_status = status.Current;
    }

abbrev pub object : Bytes → List (Field DefaultScalarValue) → ObjectMeta DefaultScalarValue
object name fields =
    record { name = name; description = None; fields = fields; interface_names = [] }

-- what a row of a table stands for
abbrev pub row_argument : Bor Bytes × Bor Bytes × Bor Wraps → Argument DefaultScalarValue
row_argument row = argument row.0.now row.1.now row.2.now

abbrev pub row_field : Bor Bytes
    × Bor Bytes
    × Bor Wraps
    × Bor (List (Bor Bytes × Bor Bytes × Bor Wraps)) → Field DefaultScalarValue
row_field row = a_field row.0.now row.1.now row.2.now (map row_argument row.3.now)

-- `hero: Human`
abbrev pub query : List (Field DefaultScalarValue)
query = a_field (codes "hero") (codes "Human") no_wraps [] ∷ []

-- `hero: Human`, `find(by: By!): Human`
abbrev pub query_by : List (Field DefaultScalarValue)
query_by = a_field (codes "hero") (codes "Human") no_wraps []
    ∷ a_field (codes "find") (codes "Human")
    no_wraps (argument (codes "by") (codes "By") non_null ∷ []) ∷ []

-- `id: String`, `name: String`
abbrev pub by_fields : List (Argument DefaultScalarValue)
by_fields = argument (codes "id") (codes "String") no_wraps
    ∷ argument (codes "name") (codes "String") no_wraps ∷ []

-- `id: String!`, `name: String!`, `friend: Human`
abbrev pub human : List (Field DefaultScalarValue)
human =
    a_field (codes "id") (codes "String") non_null []
    ∷ a_field (codes "name") (codes "String") non_null
    [] ∷ a_field (codes "friend") (codes "Human") no_wraps [] ∷ []

-- `rename(id: String!, name: String!): Human`
abbrev pub mutation : List (Field DefaultScalarValue)
mutation =
    a_field (codes "rename") (codes "Human") no_wraps
    (argument (codes "id") (codes "String") non_null
    ∷ argument (codes "name") (codes "String") non_null ∷ []) ∷ []

module _ {C : Type 0} where
  abbrev pub scalar : Bytes → C → MetaType DefaultScalarValue C
  scalar name check = meta.Scalar
      (record { name = name; description = None; specified_by_url = None; check = check })

  -- of the fields of the query root; with the types of introspection; of the checks of `Int`,
  -- `String`, `Boolean` and `ID`, and of theirs
  abbrev pub types_of : List (Field DefaultScalarValue) → C → C → C → C → IntrospectionChecks C
      → List (MetaType DefaultScalarValue C)
  types_of root int string boolean id introspection =
      (scalar (codes "Int") int ∷ scalar (codes "String") string
      ∷ scalar (codes "Boolean") boolean ∷ scalar (codes "ID") id
      ∷ meta.Object (object (codes "Query") root) ∷ meta.Object (object (codes "Human") human)
      ∷ meta.Object (object (codes "Mutation") mutation) ∷ [])
      ++ introspection_types scalar_value.Boolean introspection

  abbrev pub types : C → C → C → C → IntrospectionChecks C → List (MetaType DefaultScalarValue C)
  types = types_of query

  -- `input By @oneOf { id: String, name: String }`
  abbrev pub by_type : C → MetaType DefaultScalarValue C
  by_type check = meta.InputObject (record {
    name = codes "By";
    description = None;
    input_fields = by_fields;
    check = check;
    exactly_one = true;
  })

  -- with `find`, and the check of `By`
  abbrev pub types_by : C → C → C → C → IntrospectionChecks C → C
      → List (MetaType DefaultScalarValue C)
  types_by int string boolean id introspection by =
      types_of query_by int string boolean id introspection ++ by_type by ∷ []

-- the roots: `Query` and `Mutation` (3.3.1 Root Operation Types)
abbrev pub roots : Roots
roots = record { query = codes "Query"; mutation = Some (codes "Mutation"); subscription = None }
