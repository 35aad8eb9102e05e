-- Lines are answered apart, and queries leave the context.
use Rattle.std.proofs.Common.{◌≡◌, refl, sym, ◌∙◌, ap, subst, List, [], ◌∷◌, ◌++◌, append_assoc, Option, None, Ok}
use Rattle.graphql_names.specs.Names.{Bytes}
use Rattle.graphql_tree.specs.declared.document.OperationType.{OperationType}
use Rattle.graphql_tree.specs.declared.document.OperationType.TheVariants as kind
use Rattle.graphql_streams.specs.Lines.{last_line, lines, whole_lines}
use Rattle.graphql_streams.specs.Runs.{LineAnswered, Run}
use Rattle.graphql_streams.proofs.RunLemmas.{run_more}
use Rattle.graphql_streams.proofs.StreamLemmas.{last_more, whole_more}
use Rattle.graphql_requests.specs.Operations.{mutation_root}
use Rattle.graphql_requests.proofs.Exclusive.{from-ok}
use Rattle.graphql_executor.specs.Executed.{runs}
use Rattle.graphql_service.specs.Answers.{Answerer, IsAnswer, asked_by, executed_to, no_request, not_executed}
use Rattle.graphql_service.specs.ApartLaws.{AreAnswered, AreAnsweredApart, AsksMutation, LinesAreAnsweredApart, QueriesLeaveTheContext}
use Rattle.graphql_service.specs.Serving.{AnswersLine}

-- ---- two runs, one behind the other

module _ {X : Type 0} (answers : X → Bytes → Bytes → X → Type 0) where
  run-apart : (old new : X) (xs ys : List Bytes) (text : Bytes) → Run answers old (xs ++ ys) text new
      → (m : X) × (a : Bytes) × (b : Bytes) × (text ≡ a ++ b) × Run answers old xs a m × Run answers m ys b new
  run-apart old new [] ys text r = (old, [], text, refl, (refl, refl), r)
  run-apart old new (x ∷ xs) ys text (m, first, others, h, is, r) =
      let p = run-apart m new xs ys others r in (
        p.0,
        first ++ p.1,
        p.2,
        is ∙ ap (λ z. first ++ z) p.3 ∙ sym (append_assoc first p.1 p.2),
        (m, first, p.1, h, refl, p.4),
        p.5,
      )

-- a line feed parts lines
lines-apart : (front behind : Bytes) → lines (front ++ 10 ∷ behind) ≡ lines front ++ lines behind
lines-apart front behind =
    let ws = whole_lines [] front in
    let l = last_line [] front in
    let vs = whole_lines [] behind in
    let m = last_line [] behind in
    (λ i. whole_more [] front (10 ∷ behind) i ++ last_more [] front (10 ∷ behind) i ∷ [])
    ∙ append_assoc ws (l ∷ vs) (m ∷ []) ∙ sym (append_assoc ws (l ∷ []) (vs ++ m ∷ []))

-- ---- queries

-- no mutation is executed on a root of mutations
no-root : (type : OperationType) (mutation root : Option Bytes) → mutation_root mutation type ≡ Ok root
    → (type ≡ kind.Mutation → ⊥) → root ≡ None
no-root kind.Query mutation root served other = ap (from-ok root) (sym served)
no-root kind.Mutation mutation root served other = absurd (other refl)
no-root kind.Subscription mutation root served other = absurd (cc)

module _ {S C N X : Type 0} (a : Answerer S C N X) where
  pub lines-are-answered-apart : LinesAreAnsweredApart a
  lines-are-answered-apart front behind old new text = (
    (λ r.
        let p = run-apart (AnswersLine a) old new (lines front) (lines behind) text
        (subst (λ ls. AreAnswered a old ls text new) (lines-apart front behind) r) in
        record { between = p.0; first = p.1; second = p.2; is = p.3; front = p.4; behind = p.5 }),
    (λ p.
        subst (λ ls. AreAnswered a old ls text new) (sym (lines-apart front behind))
        (subst (λ z. AreAnswered a old (lines front ++ lines behind) z new) (sym p.is)
        (run_more (AnswersLine a) old p.between new (lines front) (lines behind) p.first p.second
        p.front p.behind))),
  )

  pub line-left : (line : Bytes) → (AsksMutation a line → ⊥) → (old new : X) (text : Bytes)
      → IsAnswer a line old text new → new ≡ old
  line-left line none old new text (no_request refusal h e kept) = kept
  line-left line none old new text (not_executed refusal h e kept) = kept
  line-left line none old new text (executed_to found errors h e) =
      let x = h.answers in
      let query : x.operation.item.operation_type ≡ kind.Mutation → ⊥ = λ changes. none (record {
        request = h.request;
        asks = h.asks;
        document = x.document;
        operation = x.operation;
        executable = x.executable;
        changes = changes;
      }) in
      let root : x.yields.root ≡ None =
      no-root x.operation.item.operation_type a.schema.mutation x.yields.root x.yields.served query in
      x.yields.responds.after
      ∙ ap (λ r. (runs a.scalars a.schema a.resolver x.document (asked_by a line h.request).given
      x.operation.item r old).after) root

  answered-left : (line : Bytes) → (AsksMutation a line → ⊥) → (old new : X) (text : Bytes)
      → LineAnswered (AnswersLine a) old line text new → new ≡ old
  answered-left [] none old new text (nothing, same) = same
  answered-left (b ∷ bs) none old new text h = line-left (b ∷ bs) none old new text h.answer

  pub queries-leave : QueriesLeaveTheContext a
  queries-leave [] none old new text (nothing, same) = same
  queries-leave (line ∷ ls) none old new text (m, first, others, h, is, r) =
      queries-leave ls none.1 m new others r ∙ answered-left line none.0 old m first h
