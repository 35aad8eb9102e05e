-- Each later argument of a name in its list (GraphQL October 2021, 5.4.2 Argument Uniqueness).
use Rattle.std.specs.Prelude.{map}
use Rattle.graphql_occurrences.specs.Parts.{GivenPart}
use Rattle.graphql_rule_errors.specs.Places.{Places}
use Rattle.graphql_visitors.specs.Rules.{Rule}
use Rattle.graphql_rules.specs.Givens.{of_given}
use Rattle.graphql_rule_errors.specs.Repeats.{mention, repeats}

abbrev pub repeated_in : {S : Type 0} → GivenPart S → Places
repeated_in g = repeats (map (λ a. mention a.0) g.given)

-- each name that a second argument has
abbrev pub unique_argument_names_faults : {S C : Type 0} → Rule S C
unique_argument_names_faults = of_given repeated_in
