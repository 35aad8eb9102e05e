-- Each later field of a name in its object (GraphQL October 2021, 5.6.3 Input Object Field
-- Uniqueness).
use Rattle.std.specs.Prelude.{[], map}
use Rattle.graphql_occurrences.specs.Parts.{ObjectOf}
use Rattle.graphql_visitors.specs.Rules.{Rule}
use Rattle.graphql_rule_errors.specs.Repeats.{mention, repeats}

abbrev pub unique_input_field_names_faults : {S C : Type 0} → Rule S C
unique_input_field_names_faults subject (ObjectOf names) = repeats (map mention names)
unique_input_field_names_faults subject _ = []
