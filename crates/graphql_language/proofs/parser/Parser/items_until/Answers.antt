use Rattle.std.proofs.Common.{◌≡◌, Some, None, Ok, Err, ap, arith}
use Rattle.graphql_grammar.specs.Input.{left}
use Rattle.graphql_language.specs.Parser.{State}
use Rattle.graphql_language.specs.Lists.{Item, closed, unclosed, refused, more, full}
use Rattle.graphql_language.proofs.Lists.{skipped_none, skipped_as, until_same}
use Rattle.graphql_language.proofs.parser.Parser.items_until.Goals as goal

pub returns-in-Ok-Some-clause-items : goal.returns-in-Ok-Some-clause-items
returns-in-Ok-Some-clause-items g c =
    let last = c.in-Ok-Some.last in
    c.items.invariant.goes_on (Ok (c.items.found, last)) c.skip.new.self (closed c.items.found c.items.self c.skip.new.self last (skipped_as c.args.closing.now c.items.self c.skip.new.self (Some last) c.in-Ok-Some.field-0-is c.in-Ok-Some.ensures.calls))

pub returns-in-Err-clause-items : goal.returns-in-Err-clause-items
returns-in-Err-clause-items g c = c.items.invariant.goes_on (Err c.in-Err.fault) c.skip.new.self (unclosed c.items.found c.items.self c.skip.new.self c.in-Err.fault c.in-Err.ensures.calls)

pub returns-in-Err-item-clause-items : goal.returns-in-Err-item-clause-items
returns-in-Err-item-clause-items g c =
    let none = skipped_as c.args.closing.now c.items.self c.skip.new.self None c.in-Ok-None.field-0-is c.in-Ok-None.ensures.calls in
    c.items.invariant.goes_on (Err c.in-Err-item.fault) c.item.new.self (refused c.items.found c.items.self c.skip.new.self c.item.new.self c.in-Err-item.fault none c.in-Err-item.ensures.item)

pub returns-in-Err-keep_item-clause-items : goal.returns-in-Err-keep_item-clause-items
returns-in-Err-keep_item-clause-items g c =
    let none = skipped_as c.args.closing.now c.items.self c.skip.new.self None c.in-Ok-None.field-0-is c.in-Ok-None.ensures.calls in
    c.items.invariant.goes_on (Err c.in-Err-keep_item.fault) c.keep_item.new.self
    (full c.items.found c.items.self c.skip.new.self c.item.new.self c.keep_item.new.self c.in-Ok.item c.in-Err-keep_item.fault none c.in-Ok.ensures.item c.in-Err-keep_item.ensures.full)

pub items-preserved : goal.items-preserved
items-preserved g c =
    let none = skipped_as c.args.closing.now c.items.self c.skip.new.self None c.in-Ok-None.field-0-is c.in-Ok-None.ensures.calls in
    let same : c.skip.new.self.input ≡ c.items.self.input = skipped_none c.args.closing.now c.items.self c.skip.new.self none in
    let kept = c.in-Ok-keep_item.ensures in
    let read = c.in-Ok.ensures in
    record {
      goes_on = λ r t u. c.items.invariant.goes_on r t
          (more c.items.found c.items.self c.skip.new.self c.item.new.self t c.in-Ok.item r none read.item (until_same c.args.closing.now (Item g.F.Fn c.args.parse.now) kept.ok kept.stays u));
      no_more = omega (arith, ap (λ (s : State). left s.input) kept.stays, ap left same, read.fewer);
    }
