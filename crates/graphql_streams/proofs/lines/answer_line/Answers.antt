use Rattle.std.proofs.Common.{◌≡◌, ℕ, false, ◌==◌, List, [], ◌∷◌, ◌++◌, length, Result, Ok, Err}
use Rattle.std.proofs.lemmas.Bool.{false≢true}
use Rattle.std.specs.Prelude.{OnOk}
use Rattle.graphql_streams.specs.Runs.{LineAnswered}
use Rattle.graphql_streams.specs.Waiting.{Made}
use Rattle.graphql_streams.proofs.RunLemmas.{run_one}
use Rattle.graphql_streams.proofs.lines.answer_line.Goals as goal

answered : {S : Type 0} (answers : S → List ℕ → List ℕ → S → Type 0) (s t : S) (line text : List ℕ) → false ≡ (length line == 0) → answers s line text t → LineAnswered answers s line text t
answered answers s t [] text e h = absurd (false≢true e)
answered answers s t (b ∷ bs) text e h = h

made-line : {S A E : Type 0} (answers : S → List ℕ → List ℕ → S → Type 0) (s t : S) (line old new : List ℕ) (r : Result A E) → false ≡ (length line == 0)
    → OnOk r ((text : List ℕ) × (new ≡ old ++ text) × answers s line text t) → OnOk r (Made answers s (line ∷ []) old new t)
made-line answers s t line old new (Ok x) e h = record { text = h.0; is = h.1; run = run_one answers s t line h.0 (answered answers s t line h.0 e h.2) }
made-line answers s t line old new (Err x) e h = tt

pub returns-clause-ok : goal.returns-clause-ok
returns-clause-ok g c =
    made-line g.E.LineEngine.answers c.args.engine.now c.append_answer.new.self c.args.line.now c.args.answers.now.items
    c.append_answer.new.out.items c.append_answer.result c.if-is_empty.ensures c.append_answer.ensures.answers
