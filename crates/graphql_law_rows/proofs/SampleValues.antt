-- The samples meet what laws ask of values.
use Rattle.std.proofs.Common.{◌≡◌, ◌≢◌, ℕ, List, [], ◌∷◌, Some, None, refl, sym, arith, codes, subst}
use Rattle.std.specs.List.{All, Any, IsDistinct}
use Rattle.std.specs.Str.{bytes_eq}
use Rattle.std.specs.Prelude.{nat_eq, length}
use Rattle.std.proofs.lemmas.Bool.{false≢true}
use Rattle.std.proofs.lemmas.List.Elements.{All-from_recursion}
use Rattle.std.proofs.lemmas.List.Kept.{AllPairs-cons}
use Rattle.std.proofs.lemmas.Map.Keys.{IsDistinct-cons, IsDistinct-from_apart}
use Rattle.std.proofs.lemmas.Slice.Eq.{bytes_eq-Decides}
use Rattle.graphql_output_values.specs.DistinctKeys.{HasDistinctKeysThroughout, ObjectHasDistinctKeysThroughout, keys_in}
use Rattle.graphql_output_values.specs.Objects.{HasDistinctKeys}
use Rattle.graphql_output_values.specs.ValueEquations as outputs
use Rattle.graphql_output_values.specs.declared.value.Value.TheVariants as output
use Rattle.graphql_values.proofs.InputValueEquations as inputs
use Rattle.graphql_values.specs.InputValues.{Pair}
use Rattle.graphql_values.specs.SameValue.{SameValue, UniqueNames, same_scalar, same_variable, same_list, more_items, no_items}
use Rattle.graphql_values.specs.Variables.{constant_of, names_of_variables}
use Rattle.graphql_values.specs.declared.input_value.InputValue.{InputValue}
use Rattle.graphql_values.specs.declared.input_value.InputValue.TheVariants as input
use Rattle.graphql_law_rows.specs.SampleValues.{inner_list, sample_object, turned, at_index, variables, constants, sample_fields, turned_fields, x_at, y_at, seven, nothing}

-- ---- objects

none_distinct : IsDistinct bytes_eq []
none_distinct = IsDistinct-from_apart bytes_eq [] (λ i j d before within. absurd (omega (arith, within)))

one_distinct : (key : List ℕ) → IsDistinct bytes_eq (key ∷ [])
one_distinct key = IsDistinct-cons bytes_eq key [] tt none_distinct

pub object_distinct : HasDistinctKeys sample_object.fields
object_distinct = IsDistinct-cons bytes_eq (codes "b") (codes "a" ∷ []) (refl, tt) (one_distinct (codes "a"))

pub turned_distinct : HasDistinctKeys turned.fields
turned_distinct = IsDistinct-cons bytes_eq (codes "a") (codes "b" ∷ []) (refl, tt) (one_distinct (codes "b"))

scalar_distinct : HasDistinctKeysThroughout {S = ℕ} (output.Scalar 1)
scalar_distinct = subst (All (IsDistinct bytes_eq)) (sym keys) (All-from_recursion (IsDistinct bytes_eq) [] tt)
  where
    keys : keys_in {S = ℕ} (output.Scalar 1) ≡ []
    keys = simp outputs.value_folds refl

pub list_distinct : HasDistinctKeysThroughout inner_list
list_distinct =
    subst (All (IsDistinct bytes_eq)) (sym keys)
    (All-from_recursion (IsDistinct bytes_eq) ((codes "c" ∷ []) ∷ []) (one_distinct (codes "c"), tt))
  where
    keys : keys_in inner_list ≡ (codes "c" ∷ []) ∷ []
    keys = simp outputs.value_folds refl

null_distinct : HasDistinctKeysThroughout {S = ℕ} output.Null
null_distinct = subst (All (IsDistinct bytes_eq)) (sym keys) (All-from_recursion (IsDistinct bytes_eq) [] tt)
  where
    keys : keys_in {S = ℕ} output.Null ≡ []
    keys = simp outputs.value_folds refl

pub object_distinct_throughout : ObjectHasDistinctKeysThroughout sample_object
object_distinct_throughout = (
  object_distinct,
  All-from_recursion HasDistinctKeysThroughout (output.Scalar 1 ∷ inner_list ∷ []) (scalar_distinct, (list_distinct, tt)),
)

pub pairs_distinct : All HasDistinctKeysThroughout (output.Scalar 1 ∷ inner_list ∷ output.Null ∷ [])
pairs_distinct =
    All-from_recursion HasDistinctKeysThroughout (output.Scalar 1 ∷ inner_list ∷ output.Null ∷ [])
    (scalar_distinct, (list_distinct, (null_distinct, tt)))

-- ---- input values

abbrev Differ : Pair (InputValue ℕ) → Pair (InputValue ℕ) → Type 0
Differ p q = p.0.item ≢ q.0.item

x_is_not_y : codes "x" ≢ codes "y"
x_is_not_y e = false≢true ((bytes_eq-Decides (codes "x") (codes "y")).1 e)

one_unique : (p : Pair (InputValue ℕ)) → UniqueNames (p ∷ [])
one_unique p i j d before within = absurd (omega (arith, before, within))

pub fields_unique : UniqueNames sample_fields
fields_unique =
    AllPairs-cons Differ (x_at 1) (y_at 7 ∷ []) (All-from_recursion (Differ (x_at 1)) (y_at 7 ∷ []) (x_is_not_y, tt))
    (one_unique (y_at 7))

pub turned_unique : UniqueNames turned_fields
turned_unique =
    AllPairs-cons Differ (y_at 1) (x_at 10 ∷ [])
    (All-from_recursion (Differ (y_at 1)) (x_at 10 ∷ []) ((λ e. x_is_not_y (sym e)), tt))
    (one_unique (x_at 10))

abbrev Like : Pair (InputValue ℕ) → Pair (InputValue ℕ) → Type 0
Like p q = (p.0.item ≡ q.0.item) × SameValue ℕ nat_eq p.1.item q.1.item

abbrev HasLike : Pair (InputValue ℕ) → Type 0
HasLike p = Any (Like p) turned_fields

same_ones : SameValue ℕ nat_eq (input.Scalar 1) (input.Scalar 1)
same_ones = same_scalar 1 1 refl

same_variables : SameValue ℕ nat_eq variables variables
same_variables =
    same_list (at_index 0 (input.Variable (codes "v")) ∷ []) (at_index 0 (input.Variable (codes "v")) ∷ [])
    (more_items (at_index 0 (input.Variable (codes "v"))) (at_index 0 (input.Variable (codes "v"))) [] []
    (same_variable (codes "v")) no_items)

pub each_has_its_like : (length sample_fields ≡ length turned_fields) × All HasLike sample_fields
each_has_its_like = (
  refl,
  All-from_recursion HasLike sample_fields (
    (1, x_at 10, omega arith, refl, (refl, same_ones)),
    ((0, y_at 1, omega arith, refl, (refl, same_variables)), tt),
  ),
)

pub no_variable_in_constants : names_of_variables constants ≡ []
no_variable_in_constants = simp inputs.value_folds refl

pub seven_is_put : constant_of seven variables ≡ Some constants
seven_is_put = simp inputs.value_folds refl

pub nothing_is_put : constant_of nothing variables ≡ None
nothing_is_put = simp inputs.value_folds refl

pub no_variable_in_seven : names_of_variables {S = ℕ} (input.Scalar 7) ≡ []
no_variable_in_seven = simp inputs.value_folds refl
