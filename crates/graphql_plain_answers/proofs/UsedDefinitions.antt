-- The definitions that are still used give the names that are used their final values.
use Rattle.std.proofs.Common.{◌≡◌, refl, ◌∙◌, ap, Bool, true, false, List, [], ◌∷◌, map, Option, Some, cond}
use Rattle.std.specs.List.{Contains, filter, find}
use Rattle.std.specs.Option.{option_and_then, option_or}
use Rattle.std.specs.Str.{bytes_eq}
use Rattle.std.proofs.lemmas.Bool.{false≢true}
use Rattle.std.proofs.lemmas.Cmp.{nat_list_eq_equiv}
use Rattle.std.proofs.lemmas.Map.Views.{list_any-from_Contains}
use Rattle.std.proofs.lemmas.Slice.Eq.{bytes_eq-Decides}
use Rattle.graphql_names.specs.Names.{Bytes, is_named, is_one_of}
use Rattle.graphql_tree.specs.Variables.{Variable}
use Rattle.graphql_written_out.specs.FinalValues.{default_named, default_of, final_value, variable_name}
use Rattle.graphql_plain_tree.specs.PlainOperations.{definitions_used, without_directives}
use Rattle.graphql_plain_answers.specs.AgreeingValues.{Values}

module _ {S : Type 0} where
  -- a definition that counts is kept, without its directives, or is not looked for
  one-kept : (counts kept : Bool) → (counts ≡ true → kept ≡ true)
      → (v : Variable S) (x y : Option (Variable S))
      → option_and_then default_of x ≡ option_and_then default_of y
      → option_and_then default_of (cond kept (cond counts (Some (without_directives v)) x) x)
      ≡ option_and_then default_of (cond counts (Some v) y)
  one-kept true true h v x y same = refl
  one-kept true false h v x y same = absurd (false≢true (h refl))
  one-kept false true h v x y same = same
  one-kept false false h v x y same = same

  module _ (names : List Bytes) (name : Bytes) (used : Contains names name) where
    abbrev first : List (Variable S) → Option (Variable S)
    first = find (is_named variable_name name)

    abbrev kept : List (Variable S) → List (Variable S)
    kept = filter (λ v. is_one_of names v.0.item)

    is-kept : (v : Variable S) → bytes_eq v.0.item name ≡ true → is_one_of names v.0.item ≡ true
    is-kept v is =
        ap (is_one_of names) ((bytes_eq-Decides v.0.item name).0 is)
        ∙ list_any-from_Contains nat_list_eq_equiv name names used

    first-if : (b : Bool) (v : Variable S) (vs : List (Variable S))
        → first (map without_directives (cond b (v ∷ vs) vs))
        ≡ cond b
        (cond (bytes_eq v.0.item name) (Some (without_directives v))
        (first (map without_directives vs))) (first (map without_directives vs))
    first-if true v vs = refl
    first-if false v vs = refl

    default-stays : (vs : List (Variable S))
        → default_named (definitions_used names vs) name ≡ default_named vs name
    default-stays [] = refl
    default-stays (v ∷ vs) =
        ap (option_and_then default_of) (first-if (is_one_of names v.0.item) v (kept vs))
        ∙ one-kept (bytes_eq v.0.item name) (is_one_of names v.0.item) (is-kept v) v
        (first (map without_directives (kept vs))) (first vs) (default-stays vs)

    pub final-stays : (given : Values S) (vs : List (Variable S))
        → final_value given (definitions_used names vs) name ≡ final_value given vs name
    final-stays given vs = ap (option_or (given name)) (default-stays vs)
