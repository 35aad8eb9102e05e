use Rattle.std.proofs.Common.{◌≡◌, ◌∙◌, map, take, ap, sym, arith}
use Rattle.std.proofs.lemmas.List.{take_all}
use Rattle.graphql_names.specs.Names.{stands_twice}
use Rattle.graphql_names.proofs.Repeats.{twice-found, once-turn, seen-turn}
use Rattle.graphql_names.proofs.repeated.repeated_name.Goals as goal

pub returns-then-not-branch : goal.returns-then-not-branch
returns-then-not-branch g c =
    let is = c.name-name.ensures ∙ ap g.T.Named.name_of c.item-item.is in
    twice-found g.T.Named.name_of c.args.items.now c.items.item-index c.item-item.result c.items-test.true c.name-name.result is
    c.items.seen.keys c.in_ok-insert.field-0 c.items.invariant.seen c.in_ok-insert.ensures.added c.if-not-branch.true

pub items-preserved : goal.items-preserved
items-preserved g c =
    let is = c.name-name.ensures ∙ ap g.T.Named.name_of c.item-item.is in
    let put = c.in_ok-insert.ensures in
    record {
      once_each = once-turn g.T.Named.name_of c.args.items.now c.items.item-index c.item-item.result c.items-test.true c.name-name.result is
          c.items.seen.keys c.in_ok-insert.field-0 c.items.invariant.seen put.added c.if-not-branch.false c.items.invariant.once_each;
      seen = seen-turn g.T.Named.name_of c.args.items.now c.items.item-index c.item-item.result c.items-test.true c.name-name.result is
          c.items.seen.keys c.in_ok-insert.field-0 c.items.invariant.seen c.insert.new.self.keys put.keys c.if-not-branch.false;
    }

pub returns : goal.returns
returns g c = λ name.
    let whole : take c.items.item-index c.args.items.now ≡ c.args.items.now = take_all c.items.item-index c.args.items.now (omega arith) in
    sym (ap (λ items. stands_twice (map g.T.Named.name_of items) name) whole) ∙ c.items.invariant.once_each name
