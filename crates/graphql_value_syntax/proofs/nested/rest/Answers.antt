use Rattle.std.proofs.Common.{Ok, ap, ◌∙◌, arith}
use Rattle.graphql_grammar.specs.Kinds.{only}
use Rattle.graphql_grammar.proofs.Leaves.{behind_then, behind_after}
use Rattle.graphql_grammar.proofs.Parts.{exits_with}
use Rattle.graphql_value_syntax.proofs.OpenValues.{parts_fewer, parts_end, part_ends, parts_unnamed, parts_refused, parts_more, parts_open}
use Rattle.graphql_value_syntax.specs.declared.nested.Begun.{Begun}
use Rattle.graphql_value_syntax.proofs.nested.rest.Goals as goal

pub parts-smaller-in-Some : goal.parts-smaller-in-Some
parts-smaller-in-Some g c =
    parts_fewer {S = g.row.S.Denot} g.S.ParseScalarValue.reads g.S.ScalarValue.of_bool c.args.is_const c.parts.invariant.reads c.closing.ensures c.eat.ensures.result c.eat.ensures.after c.if-eat.true

pub parts-preserved-in-Some : goal.parts-preserved-in-Some
parts-preserved-in-Some g c =
    record {
      reads = part_ends {S = g.row.S.Denot} g.S.ParseScalarValue.reads g.S.ScalarValue.of_bool c.args.is_const c.parts.invariant.reads c.closing.ensures c.eat.ensures.result c.eat.ensures.after c.if-eat.true
          c.in-Some.place c.end.ensures c.closed-value.ensures c.in-Some.ensures c.in_ok-holder-in-Some.ensures;
      behind = behind_then c.parts.invariant.behind (behind_after (only c.closing.result) c.eat.ensures.after);
      no_more = omega (arith, c.eat.ensures.no_more, c.parts.invariant.no_more);
    }

pub returns-in-None-clause-reads : goal.returns-in-None-clause-reads
returns-in-None-clause-reads g c =
    parts_end {S = g.row.S.Denot} g.S.ParseScalarValue.reads g.S.ScalarValue.of_bool c.args.is_const c.parts.invariant.reads c.closing.ensures c.eat.ensures.result c.eat.ensures.after c.if-eat.true
    c.end.ensures c.closed-value.ensures c.in-None.ensures.0

pub returns-in_err-place-clause-reads : goal.returns-in_err-place-clause-reads
returns-in_err-place-clause-reads g c =
    exits_with c.from_residual-in_err-place.result c.next_place.new.cursor c.from_residual-in_err-place.ensures.1 c.in_err-place.ensures.reads
    (parts_unnamed {S = g.row.S.Denot} g.S.ParseScalarValue.reads g.S.ScalarValue.of_bool c.args.is_const c.parts.invariant.reads c.closing.ensures c.eat.ensures.result c.eat.ensures.after c.if-eat.false)

pub returns-in_err-value-clause-reads : goal.returns-in_err-value-clause-reads
returns-in_err-value-clause-reads g c =
    exits_with c.from_residual-in_err-value.result c.begin.new.cursor c.from_residual-in_err-value.ensures.1 c.in_err-value.ensures.reads
    (parts_refused {S = g.row.S.Denot} g.S.ParseScalarValue.reads g.S.ScalarValue.of_bool c.args.is_const c.parts.invariant.reads c.closing.ensures c.eat.ensures.result c.eat.ensures.after c.if-eat.false c.in_ok-place.ensures.reads)

pub parts-preserved-in-Whole : goal.parts-preserved-in-Whole
parts-preserved-in-Whole g c =
    record {
      reads = parts_more {S = g.row.S.Denot} g.S.ParseScalarValue.reads g.S.ScalarValue.of_bool c.args.is_const c.parts.invariant.reads c.closing.ensures c.eat.ensures.result c.eat.ensures.after c.if-eat.false c.in_ok-place.ensures.reads
          (c.in_ok-value.ensures.reads ∙ ap (λ (x : Begun g.row.S.Denot). Ok (x, c.begin.new.cursor)) c.in-Whole.is) c.in_ok-holder-in-Whole.ensures;
      behind = behind_then c.parts.invariant.behind (behind_then (behind_after (only c.closing.result) c.eat.ensures.after) (behind_then c.in_ok-place.ensures.behind c.in_ok-value.ensures.behind));
      no_more = omega (arith, c.in_ok-value.ensures.no_more, c.in_ok-place.ensures.no_more, c.eat.ensures.no_more, c.parts.invariant.no_more);
    }

pub parts-preserved : goal.parts-preserved
parts-preserved g c =
    record {
      reads = parts_open {S = g.row.S.Denot} g.S.ParseScalarValue.reads g.S.ScalarValue.of_bool c.args.is_const c.parts.invariant.reads c.closing.ensures c.eat.ensures.result c.eat.ensures.after c.if-eat.false c.in_ok-place.ensures.reads
          (c.in_ok-value.ensures.reads ∙ ap (λ (x : Begun g.row.S.Denot). Ok (x, c.begin.new.cursor)) c.in-Opens.is) c.in_ok-keep-in-Opens.ensures.ok;
      behind = behind_then c.parts.invariant.behind (behind_then (behind_after (only c.closing.result) c.eat.ensures.after) (behind_then c.in_ok-place.ensures.behind c.in_ok-value.ensures.behind));
      no_more = omega (arith, c.in_ok-value.ensures.no_more, c.in_ok-place.ensures.no_more, c.eat.ensures.no_more, c.parts.invariant.no_more);
    }

pub returns-in_err-holder-in-Some-clause-behind : goal.returns-in_err-holder-in-Some-clause-behind
returns-in_err-holder-in-Some-clause-behind g c = behind_then c.parts.invariant.behind (behind_after (only c.closing.result) c.eat.ensures.after)

pub returns-in-None-clause-behind : goal.returns-in-None-clause-behind
returns-in-None-clause-behind g c = behind_then c.parts.invariant.behind (behind_after (only c.closing.result) c.eat.ensures.after)

pub returns-in_err-place-clause-behind : goal.returns-in_err-place-clause-behind
returns-in_err-place-clause-behind g c = behind_then c.parts.invariant.behind (behind_then (behind_after (only c.closing.result) c.eat.ensures.after) c.in_err-place.ensures.behind)

pub returns-in_err-value-clause-behind : goal.returns-in_err-value-clause-behind
returns-in_err-value-clause-behind g c = behind_then c.parts.invariant.behind (behind_then (behind_after (only c.closing.result) c.eat.ensures.after) (behind_then c.in_ok-place.ensures.behind c.in_err-value.ensures.behind))

pub returns-in_err-holder-in-Whole-clause-behind : goal.returns-in_err-holder-in-Whole-clause-behind
returns-in_err-holder-in-Whole-clause-behind g c = behind_then c.parts.invariant.behind (behind_then (behind_after (only c.closing.result) c.eat.ensures.after) (behind_then c.in_ok-place.ensures.behind c.in_ok-value.ensures.behind))

pub returns-in_err-keep-in-Opens-clause-behind : goal.returns-in_err-keep-in-Opens-clause-behind
returns-in_err-keep-in-Opens-clause-behind g c = behind_then c.parts.invariant.behind (behind_then (behind_after (only c.closing.result) c.eat.ensures.after) (behind_then c.in_ok-place.ensures.behind c.in_ok-value.ensures.behind))
