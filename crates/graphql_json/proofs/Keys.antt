-- The keys of an object's data, where the object's keys are distinct.
use Rattle.std.proofs.Common.{◌≡◌, ℕ, Bool, true, false, cond, bytes_eq, List, [], ◌∷◌, map, Option, Some, None, option_map, refl, ap, ◌∙◌, subst, Decides}
use Rattle.std.specs.List.{AllByRecursion, IsDistinct}
use Rattle.std.specs.Map.{keys_of}
use Rattle.std.proofs.lemmas.Slice.Eq.{bytes_eq-Decides}
use Rattle.serde_json.specs.Data.{Data, Members, no_members, put}
use Rattle.serde_json.specs.Find.{get, get_member}
use Rattle.serde_json.proofs.Views.{get_member-put, get_member-put_other}
use Rattle.graphql_output_values.specs.Objects.{Pair, HasDistinctKeys, field_value}
use Rattle.graphql_output_values.specs.ValueEquations.{on_value, fold_object, fold_fields}
use Rattle.graphql_json.specs.Laws.{with_fields, data_layer, data_fields, data_of_value, KeysKeepValues}
use Rattle.graphql_scalars.specs.ScalarAnswers.{ScalarAnswer}

-- the first of these, where there is one
abbrev first_of_both : Option Data → Option Data → Option Data
first_of_both None other = other
first_of_both (Some d) other = Some d

module _ {A : Type 0} (read_as : A → Data) where
  abbrev found_in : List (Pair A) → List ℕ → Option Data
  found_in ps key = option_map read_as (field_value ps key)

  not_among : (key l : List ℕ) (ps : List (Pair A)) → key ≡ l → AllByRecursion (λ k. bytes_eq l k ≡ false) (keys_of ps) → field_value ps key ≡ None
  not_among key l [] same apart = refl
  not_among key l (p ∷ ps) same apart = ap (λ b. cond b (Some p.1) (field_value ps key)) (ap (λ k. bytes_eq k p.0) same ∙ apart.0) ∙ not_among key l ps same apart.1

  one_more : (key : List ℕ) (p : Pair A) (ps : List (Pair A)) (so_far : Members) (b : Bool) → Decides b (key ≡ p.0) → AllByRecursion (λ k. bytes_eq p.0 k ≡ false) (keys_of ps)
      → first_of_both (found_in ps key) (get_member key (put p.0 (read_as p.1) so_far)) ≡ first_of_both (option_map read_as (cond b (Some p.1) (field_value ps key))) (get_member key so_far)
  one_more key p ps so_far true decides apart =
      let same = decides.0 refl in
      ap (λ o. first_of_both (option_map read_as o) (get_member key (put p.0 (read_as p.1) so_far))) (not_among key p.0 ps same apart)
      ∙ subst (λ k. get_member key (put k (read_as p.1) so_far) ≡ Some (read_as p.1)) same (get_member-put key (read_as p.1) so_far)
  one_more key p ps so_far false decides apart = ap (first_of_both (found_in ps key)) (get_member-put_other key p.0 (read_as p.1) so_far (λ same. let e : false ≡ true = decides.1 same in cc))

  found : (key : List ℕ) (ps : List (Pair A)) (so_far : Members) → HasDistinctKeys ps → get_member key (with_fields so_far (map (on_value read_as) ps)) ≡ first_of_both (found_in ps key) (get_member key so_far)
  unfolding IsDistinct
  found key [] so_far apart = refl
  found key (p ∷ ps) so_far apart = found key ps (put p.0 (read_as p.1) so_far) apart.1 ∙ one_more key p ps so_far (bytes_eq key p.0) (bytes_eq-Decides key p.0) apart.0

or_none : (o : Option Data) → first_of_both o None ≡ o
or_none None = refl
or_none (Some d) = refl

module _ {S : Type 0} (answer : S → ScalarAnswer) where
  pub keys_keep_values : KeysKeepValues answer
  keys_keep_values o key apart =
      ap (get key) (fold_object (data_layer answer) (data_fields answer) o ∙ fold_fields (data_layer answer) (data_fields answer) o)
      ∙ found (data_of_value answer) key o.fields no_members apart
      ∙ or_none _
