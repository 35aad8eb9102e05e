-- Rules that look at what fields and directives are given (GraphQL October 2021, 5.4 Arguments).
use Rattle.std.specs.Prelude.{List, [], ◌∷◌}
use Rattle.std.specs.List.{flat_map}
use Rattle.std.specs.Option.{option_map}
use Rattle.graphql_occurrences.specs.Lent.{arguments_lent}
use Rattle.graphql_occurrences.specs.Parts.{Part, Given as GivenTo, GivenPart}
use Rattle.graphql_rule_errors.specs.Places.{Places}
use Rattle.graphql_visitors.specs.Rules.{Rule}
use Rattle.graphql_rules.specs.declared.given.Given.{Given}

module _ {S C : Type 0} where
  -- what a part is given, where it is a field or a directive
  abbrev pub given_in : Part S C → List (GivenPart S)
  given_in (GivenTo g) = g ∷ []
  given_in _ = []

  -- what is said of all that is given
  abbrev pub of_given : (GivenPart S → Places) → Rule S C
  of_given says subject part = flat_map says (given_in part)

-- what is given, of which this is a loan
abbrev pub given_of : {S : Type 0} → Given S → GivenPart S
given_of g = record {
  place = g.place;
  given = g.arguments.now;
  declared = option_map arguments_lent g.declared;
}
