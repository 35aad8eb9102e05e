use Rattle.std.proofs.Common.{◌+◌, sym, ◌∙◌, ap, drop}
use Rattle.std.proofs.lemmas.List.{drop_all}
use Rattle.graphql_names.specs.Names.{is_one_of}
use Rattle.graphql_plain_tree.specs.PlainOperations.{definitions_used}
use Rattle.graphql_plain_print.specs.NameSets.{is_nothing}
use Rattle.graphql_plain_print.proofs.OperationLemmas.{used-first, used-not}
use Rattle.graphql_plain_print.proofs.WrittenLemmas.{drop-first}
use Rattle.graphql_plain_print.proofs.variables.is_one_used.Goals as goal

pub returns-then-is_used : goal.returns-then-is_used
returns-then-is_used g c =
    let names = c.args.used.now.keys in
    let k = c.loop-definition.definition-index in
    let v = c.definition-item.result in
    ap is_nothing (c.loop-definition.invariant ∙ ap (definitions_used names) (drop-first c.args.definitions.now k v c.loop-definition-test.true c.definition-item.is))
    ∙ used-first names v (drop (k + 1) c.args.definitions.now) (ap (is_one_of names) (sym c.as_str.ensures) ∙ sym c.is_used.ensures ∙ c.if-is_used.true)

pub loop-definition-preserved : goal.loop-definition-preserved
loop-definition-preserved g c =
    let names = c.args.used.now.keys in
    let k = c.loop-definition.definition-index in
    let v = c.definition-item.result in
    c.loop-definition.invariant ∙ ap (definitions_used names) (drop-first c.args.definitions.now k v c.loop-definition-test.true c.definition-item.is)
    ∙ used-not names v (drop (k + 1) c.args.definitions.now) (ap (is_one_of names) (sym c.as_str.ensures) ∙ sym c.is_used.ensures ∙ c.if-is_used.false)

pub returns : goal.returns
returns g c =
    ap is_nothing (c.loop-definition.invariant ∙ ap (definitions_used c.args.used.now.keys) (drop_all c.loop-definition.definition-index c.args.definitions.now c.loop-definition-test.false))
