use Rattle.std.proofs.Common.{arith, ◌+◌, drop, ap, length}
use Rattle.graphql_collected.specs.Requests.{drops_in, fragments_in}
use Rattle.graphql_look_ahead.specs.Open.{rest_of}
use Rattle.graphql_look_ahead.proofs.OpenLemmas.{rest-next, skips-is-next, skips-is-unknown}
use Rattle.graphql_look_ahead.proofs.open.Open.next.Goals as goal

pub overflow_add-self : goal.overflow_add-self
overflow_add-self g c = grind (arith, c.in-Some.ensures.lookup.3.0, ap (λ a. length a.now) c.rest.invariant.among, c.well_formed)

pub returns-in-Some-meet-clause-next : goal.returns-in-Some-meet-clause-next
returns-in-Some-meet-clause-next g c =
    let looked = c.in-Some.ensures.lookup in
    let among = c.rest.self.among.now in
    skips-is-next (drops_in g.S.ScalarValue.answer c.args.request.now) (fragments_in c.args.request.now) (rest_of c.args.self.now) (drop c.rest.self.next among)
    c.in-Some.first.now (drop (c.rest.self.next + 1) among) c.in-Some-meet.met c.rest.invariant.skips
    (rest-next among c.rest.self.next c.in-Some.first.now looked.3.0 looked.1) c.in-Some-meet.ensures

pub rest-preserved : goal.rest-preserved
rest-preserved g c =
    let looked = c.in-Some.ensures.lookup in
    let among = c.rest.self.among.now in
    record {
      skips = skips-is-unknown (drops_in g.S.ScalarValue.answer c.args.request.now) (fragments_in c.args.request.now) (rest_of c.args.self.now) (drop c.rest.self.next among)
          c.in-Some.first.now (drop (c.rest.self.next + 1) among) c.rest.invariant.skips
          (rest-next among c.rest.self.next c.in-Some.first.now looked.3.0 looked.1) c.in_default-meet.ensures;
      among = c.rest.invariant.among;
      applies = c.rest.invariant.applies;
    }
