-- What is told of definitions: a refusal that a call hands on, and arguments one after the other.
use Rattle.std.proofs.Common.{◌≡◌, List, [], ◌∷◌, ◌++◌, Result, Ok, Err, ap, ◌∙◌, sym, refl}
use Rattle.std.specs.Result.{IsErrAnd}
use Rattle.graphql_text.specs.Memory.{◌>>=◌, Meets, UnlessMemory}
use Rattle.graphql_schema.specs.declared.meta.argument.Argument.{Argument}
use Rattle.graphql_schema_rows.specs.Notes.{IsMemory, told_argument, told_arguments}
use Rattle.graphql_schema_rows.specs.declared.note_fault.NoteFault.{NoteFault}
use Rattle.graphql_schema_rows.specs.declared.written.ArgumentDefinition.{ArgumentDefinition}

-- a refusal that is handed on is the caller's
pub hands_on : {A B : Type 0} {w : Result A NoteFault} {o : Result B NoteFault} {e : NoteFault} (r : Result A NoteFault)
    → IsErrAnd r (λ f. f ≡ e) → UnlessMemory IsMemory e (o ≡ Err e) → (o ≡ Err e → w ≡ Err e) → Meets IsMemory r w
hands_on (Ok x) is refused whole = absurd is
hands_on (Err f) is refused whole = λ told. whole (refused (λ memory. told (is ∙ memory))) ∙ ap Err (sym is)

-- ---- arguments

abbrev joined : {A : Type 0} → Result A NoteFault → Result (List A) NoteFault → Result (List A) NoteFault
joined o p = o >>= (λ first. p >>= (λ more. Ok (first ∷ more)))

joined_ok : {A : Type 0} (o : Result A NoteFault) (p : Result (List A) NoteFault) (all : List A) → joined o p ≡ Ok all
    → (first : A) × (more : List A) × (o ≡ Ok first) × (p ≡ Ok more) × (all ≡ first ∷ more)
joined_ok (Ok a) (Ok more) all h = (a, more, refl, refl, cc)
joined_ok (Ok a) (Err e) all h = absurd (cc)
joined_ok (Err e) p all h = absurd (cc)

module _ {S : Type 0} where
  -- the first that can't be told stops it
  pub told_stops : (ds : List (ArgumentDefinition S)) (d : ArgumentDefinition S) (rest : List (ArgumentDefinition S)) (told : List (Argument S)) (e : NoteFault)
      → told_arguments ds ≡ Ok told → told_argument d ≡ Err e → told_arguments (ds ++ d ∷ rest) ≡ Err e
  told_stops [] d rest told e front refused = ap (λ o. joined o (told_arguments rest)) refused
  told_stops (c ∷ ds) d rest told e front refused =
      let u = joined_ok (told_argument c) (told_arguments ds) told front in
      ap (λ o. joined o (told_arguments (ds ++ d ∷ rest))) u.2 ∙ ap (λ p. joined (Ok u.0) p) (told_stops ds d rest u.1 e u.3 refused)

  -- one more is told behind those in front
  pub told_more : (ds : List (ArgumentDefinition S)) (d : ArgumentDefinition S) (told : List (Argument S)) (a : Argument S)
      → told_arguments ds ≡ Ok told → told_argument d ≡ Ok a → told_arguments (ds ++ d ∷ []) ≡ Ok (told ++ a ∷ [])
  told_more [] d told a front means =
      let none : [] ≡ told = cc in
      ap (λ o. joined o (told_arguments [])) means ∙ ap (λ (xs : List (Argument S)). Ok (xs ++ a ∷ [])) none
  told_more (c ∷ ds) d told a front means =
      let u = joined_ok (told_argument c) (told_arguments ds) told front in
      ap (λ o. joined o (told_arguments (ds ++ d ∷ []))) u.2 ∙ ap (λ p. joined (Ok u.0) p) (told_more ds d u.1 a u.3 means)
      ∙ ap (λ (xs : List (Argument S)). Ok (xs ++ a ∷ [])) (sym u.4)
