-- The text of an input value of each form.
use Rattle.std.proofs.Common.{◌≡◌, ℕ, List, ◌++◌, map, ap, sym, ◌∙◌}
use Rattle.std.specs.List.{flat_map, join_by}
use Rattle.std.specs.Prelude.{codes}
use Rattle.graphql_scalars.specs.declared.default_scalar.DefaultScalarValue.{DefaultScalarValue}
use Rattle.graphql_scalars.specs.DefaultScalar.{scalar_answer}
use Rattle.graphql_scalars.specs.ScalarText.{scalar_text}
use Rattle.graphql_scalars.proofs.JoinLemmas.{join_by-map}
use Rattle.graphql_values.specs.declared.input_value.InputValue.TheVariants as v
use Rattle.graphql_values.specs.InputValues.{Placed, Pair}
use Rattle.graphql_values.specs.InputValueText.{layer_text}
use Rattle.graphql_values.proofs.InputValueEquations.{fold_null, fold_scalar, fold_enum, fold_variable}
use Rattle.graphql_values.proofs.InputValueTextLemmas.{input_value_text-list, input_value_text-object}
use Rattle.graphql_plain_text.specs.Writable.{Value, value_text}

-- texts, each behind a comma and a space
abbrev pub followed : List (List ℕ) → List ℕ
followed texts = flat_map (λ next. codes ", " ++ next) texts

-- the texts of the items, and of the fields
abbrev pub item_texts : List (Placed Value) → List (List ℕ)
item_texts xs = map (λ (x : Placed Value). value_text x.item) xs

abbrev pub field_texts : List (Pair Value) → List (List ℕ)
field_texts ps = map (λ (p : Pair Value). p.0.item ++ codes ": " ++ value_text p.1.item) ps

pub value_text-null : value_text v.Null ≡ codes "null"
value_text-null = fold_null (layer_text scalar_answer)

pub value_text-scalar : (x : DefaultScalarValue) → value_text (v.Scalar x) ≡ scalar_text (scalar_answer x)
value_text-scalar x = fold_scalar (layer_text scalar_answer) x

pub value_text-enum : (n : List ℕ) → value_text (v.Enum n) ≡ n
value_text-enum n = fold_enum (layer_text scalar_answer) n

pub value_text-variable : (n : List ℕ) → value_text (v.Variable n) ≡ codes "$" ++ n
value_text-variable n = fold_variable (layer_text scalar_answer) n

pub value_text-list : (xs : List (Placed Value)) → value_text (v.List xs) ≡ codes "[" ++ join_by (λ t. t) (codes ", ") (item_texts xs) ++ codes "]"
value_text-list xs = input_value_text-list scalar_answer xs ∙ ap (λ t. codes "[" ++ t ++ codes "]") (sym (join_by-map (λ t. t) (λ (x : Placed Value). value_text x.item) xs))

pub value_text-object : (ps : List (Pair Value)) → value_text (v.Object ps) ≡ codes "{" ++ join_by (λ t. t) (codes ", ") (field_texts ps) ++ codes "}"
value_text-object ps = input_value_text-object scalar_answer ps ∙ ap (λ t. codes "{" ++ t ++ codes "}") (sym (join_by-map (λ t. t) (λ (p : Pair Value). p.0.item ++ codes ": " ++ value_text p.1.item) ps))
