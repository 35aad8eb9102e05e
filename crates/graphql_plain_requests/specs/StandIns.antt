-- What a schema is to be for the directive of a stand-in, `@skip(if: true)` (GraphQL October 2021,
-- 3.5.4 Boolean, 3.13.1 @skip).
use Rattle.std.specs.Prelude.{◌≡◌, true}
pub use Rattle.graphql_plain_validity.specs.Schemas.{TakesTrue}
use Rattle.graphql_schema.specs.Scalars.{Scalars}
use Rattle.graphql_schema.specs.Declarations.{declarations_of}
use Rattle.graphql_schema.specs.Directives.{has_standard_conditions}
use Rattle.graphql_schema.specs.declared.schema.SchemaType.{SchemaType}

-- by what scalars mean
module _ {S C : Type 0} (s : Scalars S C) (schema : SchemaType S C) where
  -- its `Boolean` is a scalar that takes `true`
  abbrev pub HasTrue : Type 0
  HasTrue = TakesTrue s.accepts (declarations_of schema) s.of_bool

  -- and its `skip` and `include` are the standard's: so the stand-in is valid wherever it stands
  pub record TakesStandIn : Type 0 where
    pub conditions : has_standard_conditions schema.directives ≡ true
    pub truth : HasTrue
