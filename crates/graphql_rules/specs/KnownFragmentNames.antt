-- A spread of a fragment that the document has not (GraphQL October 2021, 5.5.2.1 Fragment Spread
-- Target Defined).
use Rattle.std.specs.Prelude.{[], ◌∷◌, not}
use Rattle.std.specs.Option.{is_some}
use Rattle.graphql_tree.specs.Definitions.{fragment_named}
use Rattle.graphql_occurrences.specs.Parts.{ASpread}
use Rattle.graphql_rule_errors.specs.Places.{error_if}
use Rattle.graphql_visitors.specs.Rules.{Rule}

module _ {S C : Type 0} where
  -- at the fragment's name
  abbrev pub known_fragment_names_faults : Rule S C
  known_fragment_names_faults subject (ASpread s) = error_if
      (not (is_some (fragment_named subject.document s.name.item))) (s.name.span.start ∷ [])
  known_fragment_names_faults subject _ = []
