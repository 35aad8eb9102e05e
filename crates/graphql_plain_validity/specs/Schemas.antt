-- What a schema is to be for the directive of a stand-in, `skip(if: true)` (GraphQL October 2021,
-- 3.5.4 Boolean, 3.13.1 @skip).
use Rattle.std.specs.Prelude.{◌≡◌, Bool, true, Some, codes}
use Rattle.graphql_values.specs.declared.input_value.InputValue.{InputValue}
use Rattle.graphql_values.specs.declared.input_value.InputValue.TheVariants as value
use Rattle.graphql_schema.specs.declared.meta.MetaType.TheVariants as meta
use Rattle.graphql_schema.specs.declared.meta.scalar.ScalarMeta.{ScalarMeta}
use Rattle.graphql_schema.specs.Declarations.{Declarations}
use Rattle.graphql_schema.specs.Lookups.{type_named}

-- its `Boolean` is a scalar that takes `true`; `accepts`: what the check of a type accepts
pub record TakesTrue {S C : Type 0} (accepts : C → InputValue S → Type 0)
    (schema : Declarations S C)
    (of_bool : Bool → S) : Type 0 where
  pub boolean : ScalarMeta C
  pub declared : type_named schema.types (codes "Boolean") ≡ Some (meta.Scalar boolean)
  pub takes : accepts boolean.check (value.Scalar (of_bool true))
