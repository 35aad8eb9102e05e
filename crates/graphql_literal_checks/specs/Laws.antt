-- Laws of the definitions (GraphQL October 2021, 5.6.1 Values of Correct Type).
use Rattle.std.specs.Prelude.{◌↔◌, List}
use Rattle.graphql_values.specs.declared.input_value.InputValue.{InputValue}
use Rattle.graphql_values.specs.InputValues.{unlocated}
use Rattle.graphql_schema.specs.Scalars.{Scalars}
use Rattle.graphql_schema.specs.declared.meta.MetaType.{MetaType}
use Rattle.graphql_schema.specs.Types.{TypeOf}
use Rattle.graphql_literal_checks.specs.declared.source.Source.{Source}
use Rattle.graphql_literal_checks.specs.Conforms.{Conforms}

module _ {S C : Type 0} (scalars : Scalars S C) where
  -- a value conforms exactly where it does without its places
  abbrev pub ConformsWithoutPlaces : Type 0
  ConformsWithoutPlaces =
      (types : List (MetaType S C)) (source : Source) (t : TypeOf) (v : InputValue S)
      → Conforms scalars types source t v
      ↔ Conforms scalars types source t (unlocated v)
