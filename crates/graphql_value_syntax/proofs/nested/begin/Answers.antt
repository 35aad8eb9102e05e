use Rattle.std.proofs.Common.{rules, refl, sym, ap, ◌∙◌, arith}
use Rattle.graphql_grammar.specs.declared.kind.Kind.TheVariants as k
use Rattle.graphql_grammar.specs.Input.{left}
use Rattle.graphql_grammar.proofs.Cursors.{fewer_kind}
use Rattle.graphql_grammar.proofs.Parts.{exits_with}
use Rattle.graphql_value_syntax.proofs.ValueDepth.{single_uses}
use Rattle.graphql_value_syntax.proofs.ValueSteps.{sees_only}
use Rattle.graphql_value_syntax.proofs.OpenValues.{begins_list, begins_object, begins_refused, begins_whole}
use Rattle.graphql_grammar.proofs.Leaves.{behind_next}
use Rattle.graphql_value_syntax.proofs.nested.begin.Goals as goal

pub returns-in_err-item-in_default : goal.returns-in_err-item-in_default
returns-in_err-item-in_default g c =
    record {
      reads = exits_with c.from_residual.result c.single.new.cursor c.from_residual.ensures.1 c.in_err-item-in_default.ensures.reads
          (begins_refused {S = g.row.S.Denot} g.S.ParseScalarValue.reads g.S.ScalarValue.of_bool c.args.is_const c.args.cursor.now (λ e. c.in_default.not-BracketOpen (c.kind.ensures ∙ e)) (λ e. c.in_default.not-CurlyOpen (c.kind.ensures ∙ e)));
      no_more = c.in_err-item-in_default.ensures.no_more;
      fewer = search rules;
      behind = c.in_err-item-in_default.ensures.behind;
      stands = search rules;
    }

pub returns-in-BracketOpen-clause-reads : goal.returns-in-BracketOpen-clause-reads
returns-in-BracketOpen-clause-reads g c =
    begins_list {S = g.row.S.Denot} g.S.ParseScalarValue.reads g.S.ScalarValue.of_bool c.args.is_const c.args.cursor.now (sym c.in-BracketOpen.ensures) c.start-start.ensures c.new.ensures c.advance.ensures.next

pub returns-in-BracketOpen-clause-fewer : goal.returns-in-BracketOpen-clause-fewer
returns-in-BracketOpen-clause-fewer g c =
    let less = fewer_kind c.args.cursor.now k.BracketOpen (sees_only k.BracketOpen c.args.cursor.now (sym c.in-BracketOpen.ensures) refl) (λ e. cc) in
    omega (arith, less, ap left c.advance.ensures.next)

pub returns-in-CurlyOpen-clause-reads : goal.returns-in-CurlyOpen-clause-reads
returns-in-CurlyOpen-clause-reads g c =
    begins_object {S = g.row.S.Denot} g.S.ParseScalarValue.reads g.S.ScalarValue.of_bool c.args.is_const c.args.cursor.now (sym c.in-CurlyOpen.ensures) c.start-start.ensures c.new-in-CurlyOpen.ensures c.advance-in-CurlyOpen.ensures.next

pub returns-in-CurlyOpen-clause-fewer : goal.returns-in-CurlyOpen-clause-fewer
returns-in-CurlyOpen-clause-fewer g c =
    let less = fewer_kind c.args.cursor.now k.CurlyOpen (sees_only k.CurlyOpen c.args.cursor.now (sym c.in-CurlyOpen.ensures) refl) (λ e. cc) in
    omega (arith, less, ap left c.advance-in-CurlyOpen.ensures.next)

pub returns-in_ok-item-in_default : goal.returns-in_ok-item-in_default
returns-in_ok-item-in_default g c =
    let takes = single_uses {S = g.row.S.Denot} g.S.ParseScalarValue.reads g.S.ScalarValue.of_bool c.args.is_const c.args.cursor.now _ _ c.in_ok-item-in_default.ensures.reads in
    record {
      reads = begins_whole {S = g.row.S.Denot} g.S.ParseScalarValue.reads g.S.ScalarValue.of_bool c.args.is_const c.args.cursor.now (λ e. c.in_default.not-BracketOpen (c.kind.ensures ∙ e)) (λ e. c.in_default.not-CurlyOpen (c.kind.ensures ∙ e))
          c.in_ok-item-in_default.ensures.reads c.start-start.ensures c.closed.ensures;
      no_more = c.in_ok-item-in_default.ensures.no_more;
      fewer = omega (arith, takes);
      behind = c.in_ok-item-in_default.ensures.behind;
      stands = tt;
    }

pub returns-in-BracketOpen-clause-behind : goal.returns-in-BracketOpen-clause-behind
returns-in-BracketOpen-clause-behind g c = behind_next c.advance.ensures.next

pub returns-in-CurlyOpen-clause-behind : goal.returns-in-CurlyOpen-clause-behind
returns-in-CurlyOpen-clause-behind g c = behind_next c.advance-in-CurlyOpen.ensures.next
