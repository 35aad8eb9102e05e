-- An argument whose value does not conform to the type that is declared for it (GraphQL October
-- 2021, 5.6.1 Values of Correct Type).
use Rattle.std.specs.Prelude.{List, [], Option, Some, None}
use Rattle.std.specs.List.{flat_map}
use Rattle.std.specs.Option.{option_map, option_to_list}
use Rattle.graphql_schema.specs.Scalars.{Scalars}
use Rattle.graphql_schema.specs.declared.meta.argument.Argument.{Argument as Declared}
use Rattle.graphql_occurrences.specs.Lookups.{argument_named}
use Rattle.graphql_occurrences.specs.Parts.{Part, Given}
use Rattle.graphql_tree.specs.Arguments.{Argument}
use Rattle.graphql_visitors.specs.Rules.{Relation}
use Rattle.graphql_rules.specs.Literals.{Asked, Misfits}

module _ {S : Type 0} where
  abbrev pub asked_argument : Argument S → Declared S → Asked S
  asked_argument a d = record { type_of = d.arg_type; literal = a.1 }

  -- the value of an argument, where the argument is declared
  abbrev pub literal_of : List (Declared S) → Argument S → List (Asked S)
  literal_of declared a =
      option_to_list (option_map (asked_argument a) (argument_named declared a.0.item))

  -- no type is asked for in what an unknown field or directive is given
  abbrev pub literals_among : Option (List (Declared S)) → List (Argument S) → List (Asked S)
  literals_among (Some declared) given = flat_map (literal_of declared) given
  literals_among None given = []

module _ {S C : Type 0} where
  abbrev pub literals_at : Part S C → List (Asked S)
  literals_at (Given g) = literals_among g.declared g.given
  literals_at _ = []

module _ {S C : Type 0} (scalars : Scalars S C) where
  -- each argument's literal that does not conform
  abbrev pub arguments_of_correct_type_faults : Relation S C
  arguments_of_correct_type_faults subject part =
      Misfits scalars subject.schema.types (literals_at part)
