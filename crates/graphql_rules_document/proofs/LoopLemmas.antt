-- Errors and names, one item after another.
use Rattle.std.proofs.Common.{◌≡◌, ℕ, ◌+◌, ◌<◌, List, [], ◌∷◌, ◌++◌, Result, Ok, Err, OnOk, map, length, get_or, take, sym, ap, ◌∙◌, append-nil}
use Rattle.std.specs.List.{flat_map}
use Rattle.std.proofs.lemmas.Grind.{flat_map-append}
use Rattle.std.proofs.lemmas.List.{take_more, map-append}
use Rattle.graphql_rule_errors.specs.declared.rule_error.RuleError.{RuleError}
use Rattle.graphql_rule_errors.specs.Places.{Places, Reports}
use Rattle.graphql_rule_errors.proofs.ReportLemmas.{reports_as, reports_more}

pub on_ok : {A E : Type 0} (r : Result A E) (P Q : Type 0) → (P → Q) → OnOk r P → OnOk r Q
on_ok (Ok x) P Q f h = f h
on_ok (Err e) P Q f h = tt

module _ {A B C : Type 0} (view : A → B) (tell : B → List C) (xs : List A) (i : ℕ) (d : A) (within : i < length xs) where
  -- what is told of one item more
  pub told_more : flat_map tell (map view (take (i + 1) xs)) ≡ flat_map tell (map view (take i xs)) ++ tell (view (get_or xs i d))
  told_more =
      ap (λ ys. flat_map tell (map view ys)) (take_more xs i d within)
      ∙ ap (flat_map tell) (map-append view (take i xs) (get_or xs i d ∷ []))
      ∙ flat_map-append tell (map view (take i xs)) (view (get_or xs i d) ∷ [])
      ∙ ap (λ es. flat_map tell (map view (take i xs)) ++ es) (append-nil (tell (view (get_or xs i d))))

-- errors of one item more
pub reports_turn : {A B : Type 0} (view : A → B) (tell : B → Places) (xs : List A) (i : ℕ) (d : A) → i < length xs → (old mid new : List RuleError) → Reports (flat_map tell (map view (take i xs))) old mid
    → Reports (tell (view (get_or xs i d))) mid new → Reports (flat_map tell (map view (take (i + 1) xs))) old new
reports_turn view tell xs i d within old mid new h k =
    reports_as _ _ old new (sym (told_more view tell xs i d within)) (reports_more (flat_map tell (map view (take i xs))) (tell (view (get_or xs i d))) old mid new h k)

-- items that are gathered of one item more
pub gathers_turn : {A B C D : Type 0} (view : A → B) (tell : B → List C) (shown : D → C) (xs : List A) (i : ℕ) (d : A) → i < length xs → (old new : List D) → map shown old ≡ flat_map tell (map view (take i xs))
    → map shown new ≡ map shown old ++ tell (view (get_or xs i d)) → map shown new ≡ flat_map tell (map view (take (i + 1) xs))
gathers_turn view tell shown xs i d within old new h k = k ∙ ap (λ ys. ys ++ tell (view (get_or xs i d))) h ∙ sym (told_more view tell xs i d within)
