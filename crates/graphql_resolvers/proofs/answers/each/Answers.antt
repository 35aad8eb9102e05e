use Rattle.std.proofs.Common.{◌≡◌, ◌++◌, ◌∷◌, [], ap, rules, subst, sym}
use Rattle.graphql_resolvers.specs.Answers as spec
use Rattle.graphql_resolvers.proofs.EachTurns.{each_stops, each_turn, each_whole, from, from_start}
use Rattle.graphql_resolvers.proofs.answers.each.Goals as goal

pub items-init : goal.items-init
items-init g c = λ wanted by.
    let whole = spec.answers wanted c.args.items.now in
    subst (λ found. whole ≡ from found whole) (sym c.in_ok-answers.ensures) (from_start whole)

pub returns-in_err-answer : goal.returns-in_err-answer
returns-in_err-answer g c = λ wanted by.
    let this = c.item-item.result in
    each_stops wanted c.args.items.now c.items.item-index this c.items.answers c.items-test.true (sym c.item-item.is) (c.items.invariant wanted by)
    c.in_err-answer.field-0.0 c.from_residual-in_err-answer.result (by _ _ c.in_err-answer.ensures) c.from_residual-in_err-answer.ensures.1

pub items-preserved : goal.items-preserved
items-preserved g c = λ wanted by.
    let this = c.item-item.result in
    let one = c.in_ok-answer.field-0 in
    let pushed : c.push.new.self ≡ c.items.answers ++ one.resolved ∷ [] = search rules in
    each_turn wanted c.args.items.now c.items.item-index this c.items.answers c.items-test.true (sym c.item-item.is) (c.items.invariant wanted by)
    one c.push.new.self (by _ _ c.in_ok-answer.ensures) pushed

pub returns : goal.returns
returns g c = λ wanted by.
    ap spec.list_answer (each_whole wanted c.args.items.now c.items.item-index c.items.answers c.items-test.false (c.items.invariant wanted by))
