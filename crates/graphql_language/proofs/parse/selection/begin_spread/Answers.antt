use Rattle.std.proofs.Common.{◌≡◌, true, false, sym, ap, ◌∙◌}
use Rattle.graphql_text.specs.declared.position.SourcePosition.{SourcePosition}
use Rattle.graphql_grammar.specs.Input.{peek}
use Rattle.graphql_grammar.specs.Kinds.{fragment_names}
use Rattle.graphql_grammar.specs.Steps.{sees}
use Rattle.graphql_grammar.proofs.Turns.{sees_kind}
use Rattle.graphql_grammar.proofs.Parts.{exits_with}
use Rattle.graphql_language.specs.ReadHeads.{spread_begun}
use Rattle.graphql_language.proofs.SelectionParts.{points_refused, begun_spread_refused, begun_spread, begun_inline_refused, begun_inline}
use Rattle.graphql_language.proofs.parse.selection.begin_spread.Goals as goal

pub returns-in_err-expect-clause-reads : goal.returns-in_err-expect-clause-reads
returns-in_err-expect-clause-reads g c =
    let i = c.args.cursor.now in
    exits_with c.from_residual.result c.expect.new.self c.from_residual.ensures.1 c.in_err-expect.ensures.reads (points_refused g.S.ParseScalarValue.reads g.S.ScalarValue.of_bool (peek i).span.start i)

pub returns-in_err-spread-clause-reads : goal.returns-in_err-spread-clause-reads
returns-in_err-spread-clause-reads g c =
    let i = c.args.cursor.now in
    let j = c.expect.new.self in
    let seen : sees fragment_names j ≡ true = sees_kind fragment_names j c.kind.result true c.kind.ensures (sym c.if-is_fragment_name.ensures) in
    exits_with c.from_residual-in_err-spread.result c.fragment_spread.new.cursor c.from_residual-in_err-spread.ensures.1 c.in_err-spread.ensures.reads
    (begun_spread_refused g.S.ParseScalarValue.reads g.S.ScalarValue.of_bool (peek i).span.start i c.in_ok-expect.ensures.reads seen)

pub returns-in_ok-spread-clause-reads : goal.returns-in_ok-spread-clause-reads
returns-in_ok-spread-clause-reads g c =
    let i = c.args.cursor.now in
    let j = c.expect.new.self in
    let seen : sees fragment_names j ≡ true = sees_kind fragment_names j c.kind.result true c.kind.ensures (sym c.if-is_fragment_name.ensures) in
    begun_spread g.S.ParseScalarValue.reads g.S.ScalarValue.of_bool (peek i).span.start i c.in_ok-expect.ensures.reads seen c.in_ok-spread.ensures.reads c.start-start.ensures c.closed.ensures

pub returns-in_err-head-clause-reads : goal.returns-in_err-head-clause-reads
returns-in_err-head-clause-reads g c =
    let i = c.args.cursor.now in
    let j = c.expect.new.self in
    let seen : sees fragment_names j ≡ false = sees_kind fragment_names j c.kind.result false c.kind.ensures (sym c.if-is_fragment_name.ensures) in
    let same = ap (λ (p : SourcePosition). spread_begun g.S.ParseScalarValue.reads g.S.ScalarValue.of_bool p i) (sym c.start-start.ensures) in
    exits_with c.from_residual-in_err-head.result c.inline_head.new.cursor c.from_residual-in_err-head.ensures.1 c.in_err-head.ensures.reads
    (λ refused. same ∙ begun_inline_refused g.S.ParseScalarValue.reads g.S.ScalarValue.of_bool c.start-start.result i c.in_ok-expect.ensures.reads seen refused)

pub returns-in_ok-head-clause-reads : goal.returns-in_ok-head-clause-reads
returns-in_ok-head-clause-reads g c =
    let i = c.args.cursor.now in
    let j = c.expect.new.self in
    let seen : sees fragment_names j ≡ false = sees_kind fragment_names j c.kind.result false c.kind.ensures (sym c.if-is_fragment_name.ensures) in
    let same = ap (λ (p : SourcePosition). spread_begun g.S.ParseScalarValue.reads g.S.ScalarValue.of_bool p i) (sym c.start-start.ensures) in
    same ∙ begun_inline g.S.ParseScalarValue.reads g.S.ScalarValue.of_bool c.start-start.result i c.in_ok-expect.ensures.reads seen c.in_ok-head.ensures.reads
