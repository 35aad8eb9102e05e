use Rattle.std.proofs.Common.{◌≡◌, ◌∷◌, [], ℕ, List, append-nil, sym, ◌∙◌, Result, Ok, Err}
use Rattle.std.specs.Prelude.{OnErr}
use Rattle.graphql_streams.specs.Counts.{HasRisen}
use Rattle.graphql_streams.specs.Runs.{Broken}
use Rattle.graphql_streams.specs.Waiting.{MadePartly}
use Rattle.graphql_streams.proofs.RunLemmas.{partly_none}
use Rattle.graphql_streams.proofs.StreamLemmas.{stops-if}
use Rattle.graphql_streams.proofs.serving.answer_rest.Goals as goal

broken-partly : {S A E : Type 0} (answers : S → List ℕ → List ℕ → S → Type 0) (breaks : S → List ℕ → S → Type 0) (s t : S) (xs : List (List ℕ)) (old new : List ℕ) (r : Result A E)
    → OnErr r ((new ≡ old) × Broken answers breaks s xs t) → OnErr r (MadePartly answers breaks s xs old new t)
broken-partly answers breaks s t xs old new (Ok x) h = tt
broken-partly answers breaks s t xs old new (Err x) h = record { text = []; is = h.0 ∙ sym (append-nil old); run = partly_none answers breaks s t xs h.1 }

pub returns-clause-err : goal.returns-clause-err
returns-clause-err g c = λ begun is.
    let E = g.E.LineEngine in
    let s = c.args.engine.now in
    let t = c.end_line-made.new.engine in
    let old = c.args.buffers.now.answers.items in
    let new = c.end_line-made.new.buffers.answers.items in
    let made = c.end_line-made.result in
    stops-if E.answers E.breaks (HasRisen (g.O.ByteSink.faults c.args.writer.now) (g.O.ByteSink.faults c.flush.new.writer)) s t (begun ∷ []) old new (g.O.ByteSink.written c.args.writer.now) (g.O.ByteSink.written c.flush.new.writer) c.requires.none made c.flush.result
    (rw (append-nil begun) at (c.end_line-made.ensures.ok begun is))
    (broken-partly E.answers E.breaks s t (begun ∷ []) old new made (rw (append-nil begun) at (c.end_line-made.ensures.err begun is)))
    c.flush.ensures.err
