-- The types that each schema has, whatever its file declares (GraphQL October 2021, 3.5 Scalars,
-- 4.2 Schema Introspection).
use Rattle.std.specs.Prelude.{◌≡◌, ◌++◌, ◌∷◌, [], List, Some, None, codes}
use Rattle.graphql_names.specs.Names.{Bytes}
use Rattle.graphql_scalars.specs.declared.default_scalar.DefaultScalarValue.{DefaultScalarValue}
use Rattle.graphql_scalars.specs.declared.default_scalar.DefaultScalarValue.TheVariants as
    scalar_value
use Rattle.graphql_introspection.specs.Metadata.{introspection_types}
use Rattle.graphql_schema.specs.declared.introspection_checks.IntrospectionChecks.{IntrospectionChecks}
use Rattle.graphql_schema.specs.declared.meta.MetaType.{MetaType}
use Rattle.graphql_schema.specs.declared.meta.MetaType.TheVariants as meta
use Rattle.graphql_schema.specs.Lookups.{type_named}

module _ {C : Type 0} where
  abbrev pub scalar : Bytes → C → MetaType DefaultScalarValue C
  scalar name check = meta.Scalar
      (record { name = name; description = None; specified_by_url = None; check = check })

  -- the scalars of the checks of `Int`, `String`, `Boolean` and `ID`, and the types of
  -- introspection of theirs
  abbrev pub builtin_types : C → C → C → C → IntrospectionChecks C
      → List (MetaType DefaultScalarValue C)
  builtin_types int string boolean id introspection =
      (scalar (codes "Int") int ∷ scalar (codes "String") string
      ∷ scalar (codes "Boolean") boolean ∷ scalar (codes "ID") id ∷ [])
      ++ introspection_types scalar_value.Boolean introspection

  -- each scalar has its check
  pub record HasScalars (int string boolean id : C)
      (types : List (MetaType DefaultScalarValue C)) : Type 0 where
    pub int_has : type_named types (codes "Int") ≡ Some (scalar (codes "Int") int)
    pub string_has : type_named types (codes "String") ≡ Some (scalar (codes "String") string)
    pub boolean_has : type_named types (codes "Boolean") ≡ Some (scalar (codes "Boolean") boolean)
    pub id_has : type_named types (codes "ID") ≡ Some (scalar (codes "ID") id)
