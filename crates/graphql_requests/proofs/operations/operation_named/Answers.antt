use Rattle.std.proofs.Common.{◌≡◌, ◌∙◌, ◌≤◌, ℕ, List, Option, Some, None, ap, drop, length}
use Rattle.std.specs.Option.{option_copied}
use Rattle.std.proofs.lemmas.List.{drop_all}
use Rattle.graphql_names.specs.Names.{Bytes}
use Rattle.graphql_values.specs.InputValues.{Placed}
use Rattle.graphql_tree.specs.Definitions.{operations_of}
use Rattle.graphql_tree.specs.declared.document.Definition.{Definition}
use Rattle.graphql_tree.specs.declared.document.Operation.{Operation}
use Rattle.graphql_requests.specs.Operations.{operation_has_name}
use Rattle.graphql_requests.specs.declared.graphql_error.GraphQLError.TheVariants.{UnknownOperationName}
use Rattle.graphql_requests.proofs.LastNamed.{last_from, last_answered}
use Rattle.graphql_requests.proofs.operations.operation_named.Goals as goal

module _ {S : Type 0} (name : Bytes) (document : List (Definition S)) (i : ℕ) where
  -- behind the last definition
  at-end : (before found : Option (Placed (Operation S)))
      → last_from (operation_has_name name) None (operations_of document) ≡ last_from (operation_has_name name) before (operations_of (drop i document))
      → length document ≤ i → before ≡ found → last_from (operation_has_name name) None (operations_of document) ≡ found
  at-end before found so_far past is = so_far ∙ ap (λ (ds : List (Definition S)). last_from (operation_has_name name) before (operations_of ds)) (drop_all i document past) ∙ is

pub returns-in-Some : goal.returns-in-Some
returns-in-Some g c =
    let name = c.args.name.now in
    let document = c.args.document.now in
    let found = Some c.in-Some.operation.now in
    last_answered (operation_has_name name) UnknownOperationName (operations_of document) found
    (at-end name document c.named.definition-index (option_copied c.named.found) found c.named.invariant c.named-test.false (ap option_copied c.in-Some.is))

pub returns-in-None : goal.returns-in-None
returns-in-None g c =
    let name = c.args.name.now in
    let document = c.args.document.now in
    last_answered (operation_has_name name) UnknownOperationName (operations_of document) None
    (at-end name document c.named.definition-index (option_copied c.named.found) None c.named.invariant c.named-test.false (ap option_copied c.in-None.is))
