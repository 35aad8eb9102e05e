-- Fields put into a map one by one.
use Rattle.std.proofs.Common.{◌≡◌, ℕ, ◌+◌, ◌<◌, Bool, true, false, List, [], ◌∷◌, ◌++◌, map, fold, length, take, get_or, ap, sym, refl, ◌∙◌}
use Rattle.std.specs.Prelude.{if◌then◌else◌}
use Rattle.std.specs.Str.{bytes_eq}
use Rattle.std.proofs.lemmas.List.{take_more}
use Rattle.indexmap.specs.IndexMap.{insert_entry}
use Rattle.graphql_text.specs.declared.text.Text.{Text}
use Rattle.graphql_values.specs.InputValues.{Pair}
use Rattle.graphql_values.specs.Parts.{with_field, by_name}

module _ {A B : Type 0} (h : A → B) where
  abbrev seen : Text × A → Text × B
  seen e = (e.0, h e.1)

  one_inserted : (same : Bool) (e : Text × A) (es es2 : List (Text × A)) (fs : List (Text × B)) (a : A) → map seen es2 ≡ fs
      → map seen (if same then (e.0, a) ∷ es else e ∷ es2) ≡ (if same then (e.0, h a) ∷ map seen es else seen e ∷ fs)
  one_inserted true e es es2 fs a is = refl
  one_inserted false e es es2 fs a is = ap (λ rest. seen e ∷ rest) is

  inserted : (es : List (Text × A)) (name : Text) (a : A) → map seen (insert_entry bytes_eq es name a) ≡ with_field (map seen es) name (h a)
  inserted [] name a = refl
  inserted (e ∷ es) name a = one_inserted (bytes_eq name e.0) e es (insert_entry bytes_eq es name a) (with_field (map seen es) name (h a)) a (inserted es name a)

fold_last : {X Y : Type 0} (f : Y → X → Y) (y : Y) (xs : List X) (x : X) → fold f y (xs ++ x ∷ []) ≡ f (fold f y xs) x
fold_last f y [] x = refl
fold_last f y (z ∷ xs) x = fold_last f (f y z) xs x

-- one field more
pub field_more : {A B : Type 0} (h : A → B) (ps : List (Pair B)) (k : ℕ) (p : Pair B) (before after : List (Text × A)) (name : Text) (a : A)
    → map (λ e. (e.0, h e.1)) before ≡ by_name (take k ps) → k < length ps → p ≡ get_or ps k p → name ≡ p.0.item → after ≡ insert_entry bytes_eq before name a → h a ≡ p.1.item
    → map (λ e. (e.0, h e.1)) after ≡ by_name (take (k + 1) ps)
field_more h ps k p before after name a so_far within is same_name now same_value =
    ap (map (λ e. (e.0, h e.1))) now
    ∙ inserted h before name a
    ∙ ap (λ fields. with_field fields name (h a)) so_far
    ∙ ap (λ n. with_field (by_name (take k ps)) n (h a)) same_name
    ∙ ap (with_field (by_name (take k ps)) p.0.item) same_value
    ∙ sym (fold_last (λ fields q. with_field fields q.0.item q.1.item) [] (take k ps) p)
    ∙ ap by_name (sym (take_more ps k p within ∙ ap (λ z. take k ps ++ z ∷ []) (sym is)))
