-- The parts of a call of a parser make the call.
use Rattle.std.proofs.Common.{◌≡◌, Option, Some, None, Result, Ok, Err, MatchOption, refl, sym, ap, subst, ◌∙◌}
use Rattle.graphql_grammar.specs.Input.{Input, Fault, StandsFor, peek, refusal}
use Rattle.graphql_language.specs.Parser.{State, Rule, RefusesAgain, CallsFresh, Calls, ReadsBy, KeepsRefusal, first_of}

-- a rule that refuses the next token
pub reads_by_refused : {A : Type 0} (rule : Rule A) (i : Input) (f : Fault) → StandsFor (refusal i) f → (f ≡ refusal i → rule i (Err f) i) → ReadsBy rule i (Err f) i
unfolding refusal
reads_by_refused rule i f is refuses = λ told. let e = is told in (refuses (sym e), ap (λ (z : Fault). z.span) e)

-- a parser that has failed
pub calls_again : {A : Type 0} (rule : Rule A) (s : State) (e f : Fault) (r : Result A Fault) → s.refused ≡ Some e → StandsFor e f → r ≡ Err f → Calls rule s r s
calls_again {A} rule s e f r failed is answer =
    let P : Option Fault → Type 0 = λ o. MatchOption o (CallsFresh rule s.input r s) (λ e. RefusesAgain e r × (s ≡ s)) in
    let Q : Result A Fault → Type 0 = RefusesAgain e in
    subst P (sym failed) (subst Q (sym answer) is, refl)

calls_fresh : {A : Type 0} (rule : Rule A) (old new : State) (r : Result A Fault) → old.refused ≡ None → CallsFresh rule old.input r new → Calls rule old r new
calls_fresh {A} rule old new r fresh gives =
    let P : Option Fault → Type 0 = λ o. MatchOption o (CallsFresh rule old.input r new) (λ e. RefusesAgain e r × (new ≡ old)) in
    subst P (sym fresh) gives

fresh_kept : {A : Type 0} (rule : Rule A) (i j : Input) (answer r : Result A Fault) (mid new : State) → ReadsBy rule i answer j → mid ≡ record { input = j; refused = None } → KeepsRefusal answer mid r new → CallsFresh rule i r new
fresh_kept {A} rule i j (Ok x) r mid new meets is (same, stays) =
    let e = stays ∙ is in
    let P : Result A Fault → Type 0 = λ z. CallsFresh rule i z new in
    let Q : State → Type 0 = λ s. CallsFresh rule i (Ok x) s in
    subst P (sym same) (subst Q (sym e) (meets, refl))
fresh_kept {A} rule i j (Err f) (Ok y) mid new meets is (again, kept) = absurd again
fresh_kept {A} rule i j (Err f) (Err g) mid new meets is (again, kept) =
    let at : new.input ≡ j = ap (λ (s : State). s.input) kept ∙ ap (λ (s : State). s.input) is in
    let P : Input → Type 0 = λ z. rule i (Err f) z in
    record { fault = f; kept = ap (λ (s : State). s.refused) kept ∙ ap (λ (s : State). Some (first_of s.refused f)) is; told = again; refuses = λ told. subst P (sym at) (meets told).0; stands = λ told. ap (λ z. (peek z).span) at ∙ (meets told).1 }

-- a parser that has not failed, and keeps what it answers: the state before is `old`, and after reading `j` is left
pub calls_kept : {A : Type 0} (rule : Rule A) {old : State} (new : State) {i : Input} (j : Input) {o : Option Fault} (answer r : Result A Fault) → record { input = i; refused = o } ≡ old → old.refused ≡ None
    → ReadsBy rule i answer j → KeepsRefusal answer (record { input = j; refused = o }) r new → Calls rule old r new
calls_kept {A} rule {old} new {i} j {o} answer r is fresh meets keeps =
    let none : o ≡ None = ap (λ (s : State). s.refused) is ∙ fresh in
    let P : Input → Type 0 = λ z. CallsFresh rule z r new in
    let mid = ap (λ (z : Option Fault). record { input = j; refused = z }) none in
    calls_fresh rule old new r fresh (subst P (ap (λ (s : State). s.input) is) (fresh_kept rule i j answer r (record { input = j; refused = o }) new meets mid keeps))
