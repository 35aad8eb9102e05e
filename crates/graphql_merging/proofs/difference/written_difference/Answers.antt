use Rattle.std.proofs.Common.{sym, ◌∙◌}
use Rattle.graphql_values.proofs.SameValueLemmas.{refuted}
use Rattle.graphql_merging.proofs.SameWraps.{same-text}
use Rattle.graphql_merging.proofs.Reports.{lent-arguments}
use Rattle.graphql_merging.proofs.difference.written_difference.Goals as goal

pub returns-then-not-same : goal.returns-then-not-same
returns-then-not-same g c = (
  c.if-excused.false,
  sym c.as_str.ensures ∙ same-text c.as_str.result.now c.as_str-2.result.now c.ne.result c.ne.ensures c.if-ne.false ∙ c.as_str-2.ensures,
  (λ same. refuted _ c.if-not-same.true (c.in_ok-same.ensures.1 (lent-arguments g.S.PartialEq.eq (sym c.arguments_in.ensures) (sym c.arguments_in-2.ensures) same))),
)

pub returns : goal.returns
returns g c = λ _. (
  sym c.as_str.ensures ∙ same-text c.as_str.result.now c.as_str-2.result.now c.ne.result c.ne.ensures c.if-ne.false ∙ c.as_str-2.ensures,
  lent-arguments g.S.PartialEq.eq c.arguments_in.ensures c.arguments_in-2.ensures (c.in_ok-same.ensures.0 c.if-not-same.false),
)
