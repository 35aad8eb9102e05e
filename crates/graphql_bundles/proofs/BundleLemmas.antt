-- Bundles are begun.
use Rattle.std.proofs.Common.{◌≡◌, refl, ap, sym, ◌∙◌, ℕ, Bool, true, false, ◌&&◌, Some, slice_get, option_map, List, [], ◌∷◌, ◌++◌, map, append-nil, if◌then◌else◌}
use Rattle.std.specs.List.{Contains, list_any}
use Rattle.std.proofs.lemmas.List.{map-append}
use Rattle.std.specs.Str.{bytes_eq}
use Rattle.std.proofs.lemmas.Bool.{false≢true}
use Rattle.std.proofs.lemmas.Slice.Eq.{bytes_eq-Decides}
use Rattle.std.proofs.lemmas.Option.{slice_get-map, slice_get_within, get_or_from_slice_get}
use mathlib.Core.Bool.{beq}
use Rattle.indexmap.specs.IndexSet.{insert_key}
use Rattle.graphql_text.specs.declared.position.SourcePosition.{SourcePosition}
use Rattle.graphql_rule_errors.specs.Places.{Places}
use Rattle.graphql_bundles.specs.Bundles.{Bundle}
use Rattle.graphql_merging.proofs.Nested.{one-only, in-nothing}
use Rattle.graphql_bundles.specs.Going.{Stage, Grows}

pub grows-none : (F : List SourcePosition → Type 0) (M : Bundle → Type 0) (stage : Stage) → Grows F M stage stage
grows-none F M stage = record {
  errors = [];
  told = sym (append-nil stage.told);
  found = (λ e i. in-nothing e i);
  more = [];
  bundles = sym (append-nil stage.bundles);
  may = (λ b i. in-nothing b i);
  within = (λ e. e);
}

-- the bound is met
pub grows-out : (F : List SourcePosition → Type 0) (M : Bundle → Type 0) (stage : Stage)
    → Grows F M stage (record { told = stage.told; bundles = stage.bundles; is_within = false })
grows-out F M stage = record {
  errors = [];
  told = sym (append-nil stage.told);
  found = (λ e i. in-nothing e i);
  more = [];
  bundles = sym (append-nil stage.bundles);
  may = (λ b i. in-nothing b i);
  within = (λ e. absurd (false≢true e));
}

module _ {B : Type 0} (eq : B → B → Bool) (view : B → Bundle) (told : Places) (w : Bool) where
  pub grows-key : (ks new : List B) (v : B) → new ≡ insert_key eq ks v
      → Grows (λ e. ⊥) (λ b. b ≡ view v) (record { told = told; bundles = map view ks; is_within = w }) (record { told = told; bundles = map view new; is_within = w })
  grows-key ks new v e = cases (list_any (eq v) ks) refl
    where
      cases : (b : Bool) → list_any (eq v) ks ≡ b → Grows (λ e. ⊥) (λ b. b ≡ view v) (record { told = told; bundles = map view ks; is_within = w }) (record { told = told; bundles = map view new; is_within = w })
      cases true q = record {
        errors = [];
        told = sym (append-nil told);
        found = (λ e i. in-nothing e i);
        more = [];
        bundles = ap (map view) (e ∙ ap (λ c. if c then ks else ks ++ v ∷ []) q) ∙ sym (append-nil (map view ks));
        may = (λ b i. in-nothing b i);
        within = (λ e. e);
      }
      cases false q = record {
        errors = [];
        told = sym (append-nil told);
        found = (λ e i. in-nothing e i);
        more = view v ∷ [];
        bundles = ap (map view) (e ∙ ap (λ c. if c then ks else ks ++ v ∷ []) q) ∙ map-append view ks (v ∷ []);
        may = (λ b i. sym (one-only (view v) b i));
        within = (λ e. e);
      }

pub there-key : {B : Type 0} (view : B → Bundle) (keys : List B) (i : ℕ) (x : B) (b : Bundle) → slice_get keys i ≡ Some x → view x ≡ b → Contains (map view keys) b
there-key view keys i x b at e =
    let there : slice_get (map view keys) i ≡ Some b = slice_get-map view keys i ∙ ap (option_map view) at ∙ ap Some e in
    (i, slice_get_within (map view keys) i b there, get_or_from_slice_get (map view keys) i b b there)

-- what the derived equality says
pub same-bundle : (xs ys : List ℕ) (x y : Bool) → (bytes_eq xs ys && beq x y) ≡ true → (ys ≡ xs) × (y ≡ x)
same-bundle xs ys x y e = let h = both (bytes_eq xs ys) (beq x y) e in (sym ((bytes_eq-Decides xs ys).0 h.0), flags x y h.1)
  where
    both : (p q : Bool) → (p && q) ≡ true → (p ≡ true) × (q ≡ true)
    both true q e = (refl, e)
    both false q e = absurd (false≢true e)

    flags : (x y : Bool) → beq x y ≡ true → y ≡ x
    flags true true e = refl
    flags false false e = refl
    flags true false e = absurd (false≢true e)
    flags false true e = absurd (false≢true e)
