-- An index of values by their keys, made from the last field on.
use Rattle.std.proofs.Common.{◌≡◌, ℕ, Bool, true, false, cond, List, ◌∷◌, Some, Bor, ap, ◌∙◌}
use Rattle.std.specs.HashMap.{HashMap, UpdatesBy, get_by}
use Rattle.std.specs.Option.{option_copied}
use Rattle.std.specs.Str.{bytes_eq}
use Rattle.std.specs.Cmp.Lexicographic.{nat_list_eq_equiv}
use Rattle.std.proofs.lemmas.Map.Text.{hash_map_updates_str}
use Rattle.graphql_output_values.specs.Lookups.{IsIndex}
use Rattle.graphql_output_values.specs.Objects.{Pair, field_value}

module _ {A H : Type 0} where
  -- one more field, before the others
  pub one_more :
      (fs : List (Pair A)) (f : Pair A) (m n : HashMap (Bor (List ℕ)) (Bor A) H) (key : List ℕ) (value : Bor A) →
      key ≡ f.0 → value.now ≡ f.1 → IsIndex m fs → UpdatesBy (λ x y. bytes_eq x.now y.now) (λ k. bytes_eq key k.now) m n (Some value) → IsIndex n (f ∷ fs)
  one_more fs f m n key value named valued before put other =
      ap option_copied (hash_map_updates_str key m n (Some value) put other)
      ∙ either (bytes_eq key other)
      ∙ ap (λ b. cond b (Some f.1) (field_value fs other)) (nat_list_eq_equiv.symm key other ∙ ap (bytes_eq other) named)
    where
      either : (b : Bool) → option_copied (cond b (Some value) (get_by (λ k. bytes_eq other k.now) m)) ≡ cond b (Some f.1) (field_value fs other)
      either true = ap Some valued
      either false = before other
