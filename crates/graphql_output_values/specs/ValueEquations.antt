-- What a fold gives at each form of a value, and at an object.
use Rattle.std.proofs.Common.{◌≡◌, List, [], ◌∷◌, map, ap, sym, refl, ◌∙◌}
use Rattle.std.specs.Map.{keys_of}
use Rattle.graphql_output_values.specs.declared.object.Object.{Object, fold_out-Object}
use Rattle.graphql_output_values.specs.declared.value.Value.{Value, fold-Value, fold-roll-Value}
use Rattle.graphql_output_values.specs.declared.value.Value.TheFolds.{fold-Object}
use Rattle.graphql_output_values.specs.declared.value.Value.TheOpen.{Value-F, Object-F}
use Rattle.graphql_output_values.specs.declared.value.Value.TheVariants as value
use Rattle.graphql_output_values.specs.Objects.{Pair}

-- a function on the value of a field
abbrev pub on_value : {A B : Type 0} → (A → B) → Pair A → Pair B
on_value f p = (p.0, f p.1)

pub keys_on_value : {A B : Type 0} (f : A → B) (fs : List (Pair A))
    → keys_of (map (on_value f) fs) ≡ keys_of fs
keys_on_value f [] = refl
keys_on_value f (p ∷ fs) = ap (λ ks. p.0 ∷ ks) (keys_on_value f fs)

module _ {S A O : Type 0} (step : Value-F S A O → A) (object_step : Object-F S A O → O) where
  abbrev pub folded : Value S → A
  folded = fold-Value S A O step object_step

  abbrev pub folded_object : Object S → O
  folded_object = fold-Object S A O step object_step

  pub fold_null : folded value.Null ≡ step Value-F.Null
  fold_null = ap folded (sym value.rolls-Null) ∙ fold-roll-Value S A O step object_step Value-F.Null

  pub fold_scalar : (s : S) → folded (value.Scalar s) ≡ step (Value-F.Scalar s)
  fold_scalar s = ap folded (sym (value.rolls-Scalar s))
      ∙ fold-roll-Value S A O step object_step (Value-F.Scalar s)

  pub fold_list : (xs : List (Value S))
      → folded (value.List xs) ≡ step (Value-F.List (map folded xs))
  fold_list xs = ap folded (sym (value.rolls-List xs))
      ∙ fold-roll-Value S A O step object_step (Value-F.List xs)

  pub fold_object : (o : Object S)
      → folded (value.Object o) ≡ step (Value-F.Object (folded_object o))
  fold_object o = ap folded (sym (value.rolls-Object o))
      ∙ fold-roll-Value S A O step object_step (Value-F.Object o)

  pub fold_fields : (o : Object S)
      → folded_object o ≡ object_step (record { fields = map (on_value folded) o.fields })
  fold_fields o = fold_out-Object S A O step object_step o

pub ruleset value_folds = (fold_null, fold_scalar, fold_list, fold_object, fold_fields)
