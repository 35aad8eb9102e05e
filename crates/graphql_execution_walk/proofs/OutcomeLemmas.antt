-- Outcomes, put together one by one.
use Rattle.std.proofs.Common.{◌≡◌, refl, sym, ◌∙◌, ap, ℕ, ◌-◌, ◌+◌, arith, Bool, List, [], ◌∷◌, ◌++◌, append-nil, append_assoc, length, length-append, take, Option, Some, None, option_map}
use Rattle.std.proofs.Math.Seq.{take-append_seam}
use Rattle.graphql_output_values.specs.declared.value.Value.{Value}
use Rattle.graphql_execution_walk.specs.declared.report.Report.{Report}
use Rattle.graphql_execution_walk.specs.Paths.{up}
use Rattle.graphql_semantics.specs.Outcomes.{Outcome, both, together, outcome_map, show_place, shown}
use Rattle.graphql_execution_walk.specs.GivesOutcome.{GivesOutcome}

abbrev pub first : {A : Type 0} → Option A → Option (List A) → Option (List A)
first = both (λ x xs. x ∷ xs)

abbrev pub last : {A : Type 0} → Option (List A) → Option A → Option (List A)
last = both (λ xs x. xs ++ x ∷ [])

first-last : {A : Type 0} (a : Option A) (b : Option (List A)) (c : Option A) → first a (last b c) ≡ last (first a b) c
first-last None b c = refl
first-last (Some x) None c = refl
first-last (Some x) (Some xs) None = refl
first-last (Some x) (Some xs) (Some y) = refl

only : {A : Type 0} (o : Option A) → first o (Some []) ≡ last (Some []) o
only None = refl
only (Some x) = refl

pub up-last : {X : Type 0} (xs : List X) (x : X) → up (xs ++ x ∷ []) ≡ xs
up-last {X} xs x =
    let long : length (xs ++ x ∷ []) ≡ length xs + 1 = length-append xs (x ∷ []) in
    let before : length (xs ++ x ∷ []) - 1 ≡ length xs = omega (arith, long) in
    ap (λ n. take n (xs ++ x ∷ [])) before ∙ take-append_seam xs (x ∷ [])

module _ {S A : Type 0} where
  abbrev longer : List (Outcome S A) → Outcome S A → Outcome S (List A)
  longer os o = record { value = last (together os).value o.value; failures = (together os).failures ++ o.failures }

  pub together-last : (os : List (Outcome S A)) (o : Outcome S A) → together (os ++ o ∷ []) ≡ longer os o
  together-last [] o = λ i. record { value = only o.value i; failures = append-nil o.failures i }
  together-last (p ∷ os) o =
      let ih : together (os ++ o ∷ []) ≡ longer os o = together-last os o in
      λ i. record {
        value = (ap (λ (q : Outcome S (List A)). first p.value q.value) ih ∙ first-last p.value (together os).value o.value) i;
        failures = (ap (λ (q : Outcome S (List A)). p.failures ++ q.failures) ih ∙ sym (append_assoc p.failures (together os).failures o.failures)) i;
      }

  pub gives-nothing : (old : Report S) → GivesOutcome {S = S} {A = List A} (together []) old (Some []) old
  gives-nothing old = record { is = refl; path = refl; errors = sym (append-nil old.errors) }

  pub gives-last : (os : List (Outcome S A)) (o : Outcome S A) (old mid new : Report S) (values : Option (List A)) (one : Option A) (more : Option (List A))
      → GivesOutcome (together os) old values mid → GivesOutcome o mid one new → more ≡ last values one → GivesOutcome (together (os ++ o ∷ [])) old more new
  gives-last os o old mid new values one more g h p =
      let grown : together (os ++ o ∷ []) ≡ longer os o = together-last os o in
      record {
        is = p ∙ (λ i. last (g.is i) (h.is i)) ∙ sym (ap (λ (q : Outcome S (List A)). q.value) grown);
        path = h.path ∙ g.path;
        errors = h.errors ∙ ap (λ es. es ++ o.failures) g.errors ∙ append_assoc old.errors (together os).failures o.failures ∙ sym (ap (λ (q : Outcome S (List A)). old.errors ++ q.failures) grown);
      }

  pub gives-map : {B : Type 0} (f : A → B) (o : Outcome S A) (old new : Report S) (value : Option A) → GivesOutcome o old value new → GivesOutcome (outcome_map f o) old (option_map f value) new
  gives-map f o old new value g = record { is = ap (option_map f) g.is; path = g.path; errors = g.errors }

  -- what is given below a key, where the report goes down and up again
  pub gives-below : (key : List ℕ) (o : Outcome S A) (old mid below new : Report S) (value : Option A) → mid.path ≡ old.path ++ key ∷ [] → mid.errors ≡ old.errors
      → GivesOutcome o mid value below → new.path ≡ up below.path → new.errors ≡ below.errors → GivesOutcome o old value new
  gives-below key o old mid below new value down same g back kept = record {
    is = g.is;
    path = back ∙ ap up (g.path ∙ down) ∙ up-last old.path key;
    errors = kept ∙ g.errors ∙ ap (λ es. es ++ o.failures) same;
  }

pub gives-shown : {S : Type 0} (needed : Bool) (o : Outcome S (Value S)) (old new : Report S) (value : Option (Value S)) → GivesOutcome o old value new → GivesOutcome (show_place needed o) old (shown needed value) new
gives-shown needed o old new value g = record { is = ap (shown needed) g.is; path = g.path; errors = g.errors }
