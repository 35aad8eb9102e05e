-- Names that stand more than once among operations (GraphQL October 2021, 5.2.1.1 Operation Name
-- Uniqueness).
use Rattle.std.specs.Prelude.{List}
use Rattle.std.specs.List.{flat_map}
use Rattle.std.specs.Option.{option_map, option_to_list}
use Rattle.graphql_rules_document.specs.Scopes.{OperationScope}
use Rattle.graphql_rule_errors.specs.Places.{Places}
use Rattle.graphql_rule_errors.specs.Repeats.{Mention, repeats}

module _ {S : Type 0} where
  -- an operation's name, where it has one, at the operation's place
  abbrev pub operation_mention : OperationScope S → List Mention
  operation_mention o =
      option_to_list (option_map (λ name. record { name = name; place = o.place }) o.name)

  -- each name that a second operation has
  abbrev pub unique_operation_names_faults : List (OperationScope S) → Places
  unique_operation_names_faults operations = repeats (flat_map operation_mention operations)
