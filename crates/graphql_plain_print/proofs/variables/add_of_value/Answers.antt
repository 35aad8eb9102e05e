use Rattle.std.proofs.Common.{◌+◌, ◌∷◌, ◌++◌, [], sym, ◌∙◌, ap, take, append-nil}
use Rattle.std.proofs.lemmas.List.{take_more, take_all}
use Rattle.graphql_values.specs.Variables.{names_of_variables}
use Rattle.graphql_plain_print.proofs.NameLemmas.{same-as, same-next, same-refl}
use Rattle.graphql_plain_print.proofs.variables.add_of_value.Goals as goal

pub loop-name-init : goal.loop-name-init
loop-name-init g c =
    let old = c.args.used.now.keys in
    same-as old old (old ++ []) (same-refl old) (sym (append-nil old))

pub loop-name-preserved : goal.loop-name-preserved
loop-name-preserved g c =
    let names = c.as_slice-name-items.result.now in
    let k = c.loop-name.name-index in
    same-next c.args.used.now.keys c.loop-name.used.keys c.add.new.used.keys (take k names) (c.copied.result ∷ []) (take (k + 1) names) c.loop-name.invariant c.in_ok-add.ensures
    (ap (λ x. take k names ++ x ∷ []) (c.copied.ensures ∙ c.name-item.is) ∙ sym (take_more names k c.name-item.result c.loop-name-test.true))

pub returns : goal.returns
returns g c =
    let old = c.args.used.now.keys in
    let names = c.as_slice-name-items.result.now in
    let k = c.loop-name.name-index in
    same-as c.loop-name.used.keys (old ++ take k names) (old ++ names_of_variables c.args.value.now) c.loop-name.invariant
    (ap (λ l. old ++ l) (take_all k names c.loop-name-test.false ∙ c.as_slice-name-items.ensures ∙ c.in_ok-names.ensures))
