use Rattle.std.proofs.Common.{◌+◌, ◌++◌, [], sym, ap, take, append-nil}
use Rattle.std.proofs.lemmas.List.{take_all}
use Rattle.graphql_values.specs.Variables.{names_of_variables}
use Rattle.graphql_plain_tree.specs.PlainOperations.{variables_given}
use Rattle.graphql_plain_print.proofs.NameLemmas.{given-more, same-as, same-next, same-refl}
use Rattle.graphql_plain_print.proofs.variables.add_used.Goals as goal

pub loop-argument-init : goal.loop-argument-init
loop-argument-init g c =
    let old = c.args.used.now.keys in
    same-as old old (old ++ []) (same-refl old) (sym (append-nil old))

pub loop-argument-preserved : goal.loop-argument-preserved
loop-argument-preserved g c =
    let all = c.args.arguments.now in
    let k = c.loop-argument.argument-index in
    same-next c.args.used.now.keys c.loop-argument.used.keys c.add_of_value.new.used.keys (variables_given (take k all)) (names_of_variables c.argument-item.result.1.item) (variables_given (take (k + 1) all))
    c.loop-argument.invariant c.in_ok-add_of_value.ensures (sym (given-more all k c.argument-item.result c.loop-argument-test.true c.argument-item.is))

pub returns : goal.returns
returns g c =
    let old = c.args.used.now.keys in
    let all = c.args.arguments.now in
    let k = c.loop-argument.argument-index in
    same-as c.loop-argument.used.keys (old ++ variables_given (take k all)) (old ++ variables_given all) c.loop-argument.invariant
    (ap (λ l. old ++ variables_given l) (take_all k all c.loop-argument-test.false))
