-- The types that each schema has (GraphQL October 2021, 3.5 Scalars, 4.2 Schema Introspection).
use Rattle.std.specs.Prelude.{◌++◌, ◌∷◌, [], List, None, codes}
use Rattle.graphql_names.specs.Names.{Bytes}
use Rattle.graphql_scalars.specs.declared.default_scalar.DefaultScalarValue.{DefaultScalarValue}
use Rattle.graphql_scalars.specs.declared.default_scalar.DefaultScalarValue.TheVariants as
    scalar_value
use Rattle.graphql_introspection.specs.Metadata.{introspection_types}
use Rattle.graphql_schema.specs.declared.introspection_checks.IntrospectionChecks.{IntrospectionChecks}
use Rattle.graphql_schema.specs.declared.meta.MetaType.{MetaType}
use Rattle.graphql_schema.specs.declared.meta.MetaType.TheVariants as meta

module _ {C : Type 0} where
  abbrev pub scalar : Bytes → C → MetaType DefaultScalarValue C
  scalar name check = meta.Scalar
      (record { name = name; description = None; specified_by_url = None; check = check })

  -- the scalars of the checks of `Int`, `String`, `Boolean` and `ID`, and the types of
  -- introspection of theirs
  abbrev pub built_ins : C → C → C → C → IntrospectionChecks C
      → List (MetaType DefaultScalarValue C)
  built_ins int string boolean id introspection =
      (scalar (codes "Int") int ∷ scalar (codes "String") string
      ∷ scalar (codes "Boolean") boolean ∷ scalar (codes "ID") id ∷ [])
      ++ introspection_types scalar_value.Boolean introspection
