use Rattle.std.proofs.Common.{true, false, ◌∙◌, ap, sym, None, Ok}
use Rattle.graphql_text.specs.declared.position.SourcePosition.{SourcePosition}
use Rattle.graphql_tree.specs.declared.selection.Selection.{Selection}
use Rattle.graphql_grammar.specs.declared.kind.Kind.TheVariants as k
use Rattle.graphql_grammar.proofs.KindTests.{asked_kind}
use Rattle.graphql_grammar.proofs.Parts.{exits_with}
use Rattle.graphql_language.specs.declared.parse.selection.Begun.TheVariants as how
use Rattle.graphql_language.specs.ReadHeads.{field_with}
use Rattle.graphql_language.proofs.SelectionParts.{field_refused, field_opens, field_whole}
use Rattle.graphql_language.proofs.parse.selection.begin_field.Goals as goal

pub returns-in_err-head-clause-reads : goal.returns-in_err-head-clause-reads
returns-in_err-head-clause-reads g c =
    exits_with c.from_residual.result c.field_head.new.cursor c.from_residual.ensures.1 c.in_err-head.ensures.reads (field_refused g.S.ParseScalarValue.reads g.S.ScalarValue.of_bool c.args.cursor.now)

pub returns-then-eq-clause-reads : goal.returns-then-eq-clause-reads
returns-then-eq-clause-reads g c =
    let j = c.field_head.new.cursor in
    field_opens g.S.ParseScalarValue.reads g.S.ScalarValue.of_bool c.args.cursor.now c.in_ok-head.ensures.reads (asked_kind k.CurlyOpen j c.kind.result true c.kind.ensures c.if-eq.ensures)

pub returns-else-eq-clause-reads : goal.returns-else-eq-clause-reads
returns-else-eq-clause-reads g c =
    let j = c.field_head.new.cursor in
    let read = field_whole g.S.ParseScalarValue.reads g.S.ScalarValue.of_bool c.args.cursor.now c.in_ok-head.ensures.reads (asked_kind k.CurlyOpen j c.kind.result false c.kind.ensures c.if-eq.ensures) in
    let is = c.field.ensures ∙ ap (λ (e : SourcePosition). field_with c.in_ok-head.head None e) c.end.ensures in
    read ∙ ap (λ (x : Selection g.row.S.Denot). Ok (how.Whole x, j)) (sym is)
