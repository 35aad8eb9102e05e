-- An argument that its field or directive does not declare (GraphQL October 2021, 5.4.1 Argument
-- Names).
use Rattle.std.specs.Prelude.{List, [], ◌∷◌, not, Option, Some, None}
use Rattle.std.specs.List.{flat_map}
use Rattle.std.specs.Option.{is_some}
use Rattle.graphql_schema.specs.declared.meta.argument.Argument.{Argument as Declared}
use Rattle.graphql_occurrences.specs.Lookups.{argument_named}
use Rattle.graphql_occurrences.specs.Parts.{GivenPart}
use Rattle.graphql_rule_errors.specs.Places.{Places, error_if}
use Rattle.graphql_tree.specs.Arguments.{Argument}
use Rattle.graphql_visitors.specs.Rules.{Rule}
use Rattle.graphql_rules.specs.Givens.{of_given}

module _ {S : Type 0} where
  abbrev pub undeclared : List (Declared S) → Argument S → Places
  undeclared declared a =
      error_if (not (is_some (argument_named declared a.0.item))) (a.0.span.start ∷ [])

  -- nothing is said of what an unknown field or directive is given
  abbrev pub undeclared_among : Option (List (Declared S)) → List (Argument S) → Places
  undeclared_among (Some declared) given = flat_map (undeclared declared) given
  undeclared_among None given = []

  abbrev pub undeclared_in : GivenPart S → Places
  undeclared_in g = undeclared_among g.declared g.given

-- each argument that its field or directive does not declare
abbrev pub known_argument_names_faults : {S C : Type 0} → Rule S C
known_argument_names_faults = of_given undeclared_in
