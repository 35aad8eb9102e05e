-- Items put into a map by their names, one after another.
use Rattle.std.proofs.Common.{◌≡◌, ℕ, ◌+◌, ◌<◌, Bool, true, false, cond, List, [], ◌∷◌, ◌++◌, Option, Some, None, Bor, length, get_or, take, ap, sym, refl, ◌∙◌}
use Rattle.std.specs.HashMap.{HashMap, UpdatesBy, get_by}
use Rattle.std.specs.Option.{option_map, option_or, is_some}
use Rattle.std.specs.Str.{bytes_eq}
use Rattle.std.proofs.lemmas.Bool.{false≢true}
use Rattle.std.proofs.lemmas.List.{take_more}
use Rattle.std.proofs.lemmas.List.Folds.{find-append}
use Rattle.std.proofs.lemmas.Map.Text.{hash_map_updates_str}
use Rattle.graphql_names.specs.Names.{Bytes, named}
use Rattle.graphql_names.proofs.NameLemmas.{same_bytes}
use Rattle.graphql_rule_errors.specs.Found.{item_named}

none_if : {A : Type 0} (o : Option A) → is_some o ≡ false → o ≡ None
none_if None absent = refl
none_if (Some x) absent = absurd (false≢true (sym absent))

or_none : {A : Type 0} (o : Option A) → o ≡ option_or o None
or_none None = refl
or_none (Some x) = refl

module _ {A S : Type 0} (old new : HashMap (Bor Bytes) (Bor A) S) (own bytes : Bytes) (item : Bor A) (is : bytes ≡ own) where
  -- an item put at a name at which there is none
  pub put_one : is_some (get_by (λ k. bytes_eq bytes k.now) old) ≡ false → UpdatesBy (λ x y. bytes_eq x.now y.now) (λ k. bytes_eq bytes k.now) old new (Some item)
      → (q : Bytes) → item_named new q ≡ option_or (item_named old q) (cond (bytes_eq own q) (Some item.now) None)
  put_one absent updates q =
      ap (option_map (λ a. a.now)) (hash_map_updates_str bytes old new (Some item) updates q)
      ∙ either (bytes_eq bytes q) refl
      ∙ ap (λ b. option_or (item_named old q) (cond (bytes_eq b q) (Some item.now) None)) is
    where
      either : (b : Bool) → bytes_eq bytes q ≡ b → option_map (λ a. a.now) (cond b (Some item) (get_by (λ k. bytes_eq q k.now) old)) ≡ option_or (item_named old q) (cond b (Some item.now) None)
      either true same =
          let none : item_named old q ≡ None = ap (option_map (λ a. a.now)) (ap (λ name. get_by (λ k. bytes_eq name k.now) old) (sym (same_bytes bytes q same)) ∙ none_if _ absent) in
          sym (ap (λ o. option_or o (Some item.now)) none)
      either false differs = or_none (item_named old q)

module _ {A : Type 0} (name_of : A → Bytes) where
  -- the first of a name among one more
  pub one_more_named : (xs : List A) (k : ℕ) (x : A) (q : Bytes) → k < length xs → x ≡ get_or xs k x
      → named name_of (take (k + 1) xs) q ≡ option_or (named name_of (take k xs) q) (cond (bytes_eq (name_of x) q) (Some x) None)
  one_more_named xs k x q within is =
      ap (λ zs. named name_of zs q) (take_more xs k x within ∙ ap (λ z. take k xs ++ z ∷ []) (sym is))
      ∙ find-append (λ z. bytes_eq (name_of z) q) (take k xs) (x ∷ [])
