-- Links of values item by item, and of records one by one.
use Rattle.std.proofs.Common.{◌≡◌, ℕ, ◌+◌, ◌<◌, ◌&&◌, Bool, true, List, [], ◌∷◌, drop, length, map, slice_get, ap, sym, refl, ◌∙◌, arith}
use Rattle.std.proofs.lemmas.List.{at_drop_more}
use Rattle.std.proofs.lemmas.Option.{slice_get-get_or}
use Rattle.std.specs.List.{list_all}
use Rattle.std.specs.Option.{option_map_or}
use Rattle.graphql_records.specs.Tables.{Entries}
use Rattle.graphql_records.specs.declared.field_value.FieldValue.{FieldValue}
use Rattle.graphql_records.specs.declared.field_value.FieldValue.TheVariants as value
use Rattle.graphql_records.proofs.ValueEquations.{fold_list}
use Rattle.graphql_data_files.specs.Links.{leads_here, value_leads}

all_map : (test : FieldValue → Bool) (xs : List FieldValue) → list_all (λ b. b) (map test xs) ≡ list_all test xs
all_map test [] = refl
all_map test (x ∷ xs) = ap (λ b. test x && b) (all_map test xs)

-- a list leads where its items do
pub value_leads_list : (records : Entries) (v : FieldValue) (xs : List FieldValue) → v ≡ value.List xs → value_leads records v ≡ list_all (value_leads records) xs
value_leads_list records v xs is = ap (value_leads records) is ∙ fold_list (leads_here records) xs ∙ all_map (value_leads records) xs

-- one turn of a loop that tests each item of a list
pub all_turn : {A : Type 0} (test : A → Bool) (whole : Bool) (xs : List A) (i : ℕ) (b : Bool) → i < length xs → option_map_or test (slice_get xs i) true ≡ b
    → whole ≡ list_all test (drop i xs) → whole ≡ (b && list_all test (drop (i + 1) xs))
all_turn test whole [] i b inside is so_far = absurd (omega arith)
all_turn test whole (x ∷ xs) i b inside is so_far =
    so_far ∙ at_drop_more (list_all test) (x ∷ xs) i x inside
    ∙ ap (λ o. option_map_or test o true && list_all test (drop (i + 1) (x ∷ xs))) (sym (slice_get-get_or (x ∷ xs) i x inside))
    ∙ ap (λ c. c && list_all test (drop (i + 1) (x ∷ xs))) is
