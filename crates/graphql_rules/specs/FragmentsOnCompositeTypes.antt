-- A type condition that is a known type, and no object, interface or union (GraphQL October 2021,
-- 5.5.1.3 Fragments on Composite Types).
use Rattle.std.specs.Prelude.{[], ◌∷◌, not, Bool}
use Rattle.graphql_names.specs.Names.{Bytes, passes}
use Rattle.graphql_occurrences.specs.Lookups.{known}
use Rattle.graphql_occurrences.specs.Parts.{Condition}
use Rattle.graphql_rule_errors.specs.Places.{error_if}
use Rattle.graphql_schema.specs.Declarations.{Declarations}
use Rattle.graphql_schema.specs.Faults.{is_composite}
use Rattle.graphql_visitors.specs.Rules.{Rule}

module _ {S C : Type 0} where
  -- the type of this name is known, and nothing is selected of it
  abbrev pub is_no_composite : Declarations S C → Bytes → Bool
  is_no_composite schema name = passes (λ m. not (is_composite m)) (known schema name)

  -- at the condition's name
  abbrev pub fragments_on_composite_types_faults : Rule S C
  fragments_on_composite_types_faults subject (Condition name) =
      error_if (is_no_composite subject.schema name.item) (name.span.start ∷ [])
  fragments_on_composite_types_faults subject _ = []
