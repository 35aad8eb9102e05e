use Rattle.std.proofs.Common.{◌≡◌, ◌≢◌, true, false, Ok, inl, inr, refl, ap, ◌∙◌, arith}
use Rattle.graphql_grammar.specs.declared.kind.Kind.TheVariants as k
use Rattle.graphql_grammar.specs.Input.{left}
use Rattle.graphql_grammar.proofs.Cursors.{fewer_kind}
use Rattle.graphql_grammar.proofs.Parts.{exits_with}
use Rattle.graphql_grammar.proofs.KindTests.{asked_kind}
use Rattle.graphql_language.specs.declared.parse.selection.Begun.{Begun}
use Rattle.graphql_language.specs.declared.parse.selection.Begun.TheVariants as how
use Rattle.graphql_language.specs.ReadHeads.{selection_start as begins}
use Rattle.graphql_language.proofs.SelectionLevels.{set_refused}
use Rattle.graphql_language.proofs.OpenSets.{GoesOn, sets_start, sets_end, set_ends, sets_refused, sets_more, sets_unopened, sets_open}
use Rattle.graphql_language.proofs.parse.selection.selection_set.Goals as goal
use Rattle.graphql_language.proofs.parse.selection.selection_set.Goals.{else-eq-via-then-eq+else-not-is_empty, else-eq-via-else-eq}

pub returns-in_err-expect-clause-reads : goal.returns-in_err-expect-clause-reads
returns-in_err-expect-clause-reads g c =
    exits_with c.from_residual.result c.expect.new.self c.from_residual.ensures.1 c.in_err-expect.ensures.reads
    (set_refused g.S.ParseScalarValue.reads g.S.ScalarValue.of_bool c.args.cursor.now)

pub selections-init : goal.selections-init
selections-init g c =
    let apart : k.CurlyOpen ≢ k.EndOfFile = λ e. cc in
    let less = c.in_ok-expect.ensures.fewer apart in
    record {
      reads = sets_start g.S.ParseScalarValue.reads g.S.ScalarValue.of_bool c.args.cursor.now c.in_ok-expect.ensures.reads c.in_ok-outer.ensures c.in_ok-found.ensures;
      fewer = less;
    }

pub returns-in-None-clause-reads : goal.returns-in-None-clause-reads
returns-in-None-clause-reads g c =
    let seen = asked_kind k.CurlyClose c.selections.cursor c.kind.result true c.kind.ensures c.if-eq.ensures in
    sets_end g.S.ParseScalarValue.reads g.S.ScalarValue.of_bool c.selections.invariant.reads (λ e. let q = c.if-not-is_empty.ensures.1 e in cc) seen c.advance.ensures.next c.in-None.ensures.0

pub selections-smaller-then-not-is_empty : goal.selections-smaller-then-not-is_empty
selections-smaller-then-not-is_empty g c =
    let seen = asked_kind k.CurlyClose c.selections.cursor c.kind.result true c.kind.ensures c.if-eq.ensures in
    let less = fewer_kind c.selections.cursor k.CurlyClose seen (λ e. cc) in
    omega (arith, less, ap left c.advance.ensures.next)

pub selections-preserved-then-not-is_empty : goal.selections-preserved-then-not-is_empty
selections-preserved-then-not-is_empty g c =
    let seen = asked_kind k.CurlyClose c.selections.cursor c.kind.result true c.kind.ensures c.if-eq.ensures in
    record {
      reads = set_ends g.S.ParseScalarValue.reads g.S.ScalarValue.of_bool c.selections.invariant.reads c.in-Some.last (λ e. let q = c.if-not-is_empty.ensures.1 e in cc) seen c.advance.ensures.next c.in-Some.ensures c.end.ensures
          c.in_ok-close_set-in-Some.ensures;
      fewer = omega arith;
    }

pub returns-in_err-selection-clause-reads : goal.returns-in_err-selection-clause-reads
returns-in_err-selection-clause-reads g c =
    let goes : GoesOn g.S.ParseScalarValue.reads g.S.ScalarValue.of_bool c.selections.found c.selections.cursor = elim c.else-eq.branch [
      | else-eq-via-then-eq+else-not-is_empty w ↦ inl (w.if-not-is_empty.ensures.0 refl)
      | else-eq-via-else-eq w ↦ inr (asked_kind k.CurlyClose c.selections.cursor c.kind.result false c.kind.ensures w.if-eq.ensures)
    ] in
    exits_with c.from_residual-in_err-selection.result c.begin.new.cursor c.from_residual-in_err-selection.ensures.1 c.in_err-selection.ensures.reads
    (sets_refused g.S.ParseScalarValue.reads g.S.ScalarValue.of_bool c.selections.invariant.reads goes)

pub selections-preserved-in-Continue-branch-7 : goal.selections-preserved-in-Continue-branch-7
selections-preserved-in-Continue-branch-7 g c =
    let goes : GoesOn g.S.ParseScalarValue.reads g.S.ScalarValue.of_bool c.selections.found c.selections.cursor = elim c.else-eq.branch [
      | else-eq-via-then-eq+else-not-is_empty w ↦ inl (w.if-not-is_empty.ensures.0 refl)
      | else-eq-via-else-eq w ↦ inr (asked_kind k.CurlyClose c.selections.cursor c.kind.result false c.kind.ensures w.if-eq.ensures)
    ] in
    let begun : begins g.S.ParseScalarValue.reads g.S.ScalarValue.of_bool c.selections.cursor ≡ Ok (how.Whole c.in-Whole.selection, c.begin.new.cursor) = c.in_ok-selection.ensures.reads ∙ ap (λ (x : Begun g.row.S.Denot). Ok (x, c.begin.new.cursor)) c.in-Whole.is in
    let less = c.in_ok-selection.ensures.fewer in
    record {
      reads = sets_more g.S.ParseScalarValue.reads g.S.ScalarValue.of_bool c.selections.invariant.reads goes begun c.in_ok-keep-in-Whole.ensures.ok;
      fewer = omega arith;
    }

pub selections-preserved : goal.selections-preserved
selections-preserved g c =
    let goes : GoesOn g.S.ParseScalarValue.reads g.S.ScalarValue.of_bool c.selections.found c.selections.cursor = elim c.else-eq.branch [
      | else-eq-via-then-eq+else-not-is_empty w ↦ inl (w.if-not-is_empty.ensures.0 refl)
      | else-eq-via-else-eq w ↦ inr (asked_kind k.CurlyClose c.selections.cursor c.kind.result false c.kind.ensures w.if-eq.ensures)
    ] in
    let begun : begins g.S.ParseScalarValue.reads g.S.ScalarValue.of_bool c.selections.cursor ≡ Ok (how.Opens c.in-Opens.head, c.begin.new.cursor) = c.in_ok-selection.ensures.reads ∙ ap (λ (x : Begun g.row.S.Denot). Ok (x, c.begin.new.cursor)) c.in-Opens.is in
    let opened = c.in_ok-open_set-in-Opens.ensures in
    let less = opened.fewer in
    record {
      reads = sets_open g.S.ParseScalarValue.reads g.S.ScalarValue.of_bool c.selections.invariant.reads goes begun opened.reads opened.opened opened.empty;
      fewer = omega arith;
    }

pub returns-in_err-open_set-in-Opens-clause-reads : goal.returns-in_err-open_set-in-Opens-clause-reads
returns-in_err-open_set-in-Opens-clause-reads g c =
    let goes : GoesOn g.S.ParseScalarValue.reads g.S.ScalarValue.of_bool c.selections.found c.selections.cursor = elim c.else-eq.branch [
      | else-eq-via-then-eq+else-not-is_empty w ↦ inl (w.if-not-is_empty.ensures.0 refl)
      | else-eq-via-else-eq w ↦ inr (asked_kind k.CurlyClose c.selections.cursor c.kind.result false c.kind.ensures w.if-eq.ensures)
    ] in
    let begun : begins g.S.ParseScalarValue.reads g.S.ScalarValue.of_bool c.selections.cursor ≡ Ok (how.Opens c.in-Opens.head, c.begin.new.cursor) = c.in_ok-selection.ensures.reads ∙ ap (λ (x : Begun g.row.S.Denot). Ok (x, c.begin.new.cursor)) c.in-Opens.is in
    exits_with c.from_residual-in_err-open_set-in-Opens.result c.open_set.new.cursor c.from_residual-in_err-open_set-in-Opens.ensures.1 c.in_err-open_set-in-Opens.ensures.reads
    (sets_unopened g.S.ParseScalarValue.reads g.S.ScalarValue.of_bool c.selections.invariant.reads goes begun)
