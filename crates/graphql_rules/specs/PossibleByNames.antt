-- What the rule on possible spreads says of a fragment by the name of the type of which it is
-- selected (GraphQL October 2021, 5.5.2.3 Fragment Spread Is Possible).
use Rattle.std.specs.Prelude.{[], ◌∷◌}
use Rattle.std.specs.Option.{option_map}
use Rattle.graphql_schema.specs.Types.{own_name}
use Rattle.graphql_names.specs.Names.{passes}
use Rattle.graphql_tree.specs.Definitions.{fragment_named}
use Rattle.graphql_occurrences.specs.Nodes.{Seen}
use Rattle.graphql_occurrences.specs.Parts.{ASpread, AnInline}
use Rattle.graphql_rule_errors.specs.Places.{Places, error_if}
use Rattle.graphql_rules.specs.Overlaps.{are_apart}
use Rattle.graphql_schema.specs.Declarations.{Declarations}
use Rattle.graphql_visitors.specs.Rules.{Rule, told_at}
use Rattle.graphql_visitors.specs.Subjects.{Subject}

module _ {S C : Type 0} (schema : Declarations S C) where
  -- at the spread, or at the inline fragment: the two types are those of their names in a schema
  abbrev pub impossible_by_names : Rule S C
  impossible_by_names subject (ASpread s) =
      error_if (passes (λ name. are_apart schema (own_name s.parent) name.item) (option_map
      (λ f. f.item.type_condition) (fragment_named subject.document s.name.item))) (s.place ∷ [])
  impossible_by_names subject (AnInline i) = error_if
      (passes (λ name. are_apart schema (own_name i.parent) name.item) i.condition) (i.place ∷ [])
  impossible_by_names subject _ = []

  -- the same of an event
  abbrev pub told_by_names : Subject S C → Seen S C → Places
  told_by_names = told_at impossible_by_names
