use Rattle.std.proofs.Common.{◌++◌, map, ap, ◌∙◌}
use Rattle.graphql_rule_errors.specs.Places.{places}
use Rattle.graphql_rules_document.specs.Lent.{fragment_of, operation_of}
use Rattle.graphql_rules_document.proofs.once.rule_errors.Goals as goal

pub returns : goal.returns
returns g c =
    let says = g.R.DocumentRule.says in
    let types = c.args.schema.now.types in
    let operations = map operation_of c.as_slice-operations.result.now in
    let fragments = map fragment_of c.in_ok-index.index.fragments.now in
    c.in_ok-add_errors.ensures.at
    ∙ ap (λ es. places es ++ says types operations fragments) c.new-errors.ensures
    ∙ (λ i. says types (map operation_of (c.as_slice-operations.ensures i)) (map fragment_of ((c.in_ok-index.ensures ∙ c.as_slice.ensures) i)))
    ∙ ap (λ scopes. says types scopes.operations scopes.fragments) c.in_ok-scopes.ensures
