-- Whether a selection is left out depends on what scalars answer, and on no place.
use Rattle.std.proofs.Common.{◌≡◌, refl, sym, ◌∙◌, ap, Bool, true, false, ◌||◌, List, [], ◌∷◌, map, Option, Some, None, cond, codes}
use Rattle.std.specs.List.{find}
use Rattle.std.specs.Option.{option_map, option_and_then}
use Rattle.std.specs.Str.{bytes_eq}
use Rattle.graphql_names.specs.Names.{Bytes}
use Rattle.graphql_text.specs.declared.position.SourcePosition.{SourcePosition}
use Rattle.graphql_scalars.specs.ScalarAnswers.{ScalarAnswer}
use Rattle.graphql_values.specs.InputValues.{Placed}
use Rattle.graphql_values.specs.declared.input_value.InputValue.{InputValue}
use Rattle.graphql_values.specs.declared.input_value.InputValue.TheVariants as value
use Rattle.graphql_values.proofs.InputValueEquations.{fold_null, fold_scalar, fold_enum, fold_variable}
use Rattle.graphql_values.proofs.InputValueInduction.{value_ind}
use Rattle.graphql_tree.specs.Arguments.{Argument, value_of}
use Rattle.graphql_tree.specs.Documents.{arguments_in}
use Rattle.graphql_tree.specs.declared.directive.Directive.{Directive}
use Rattle.graphql_written_out.specs.Filled.{filled, filled_layer}
use Rattle.graphql_written_out.proofs.FilledEquations.{filled_list, filled_object}
use Rattle.graphql_written_out.specs.Trees.{Directives}
use Rattle.graphql_written_out.specs.Conditions.{truth_layer, truth_of, truth, condition, leaves_out, left_out}
use Rattle.graphql_moved.specs.Moved.{moved, moved_value, moved_argument, moved_directive}
use Rattle.graphql_moved.proofs.MovedEquations.{moved-null, moved-scalar, moved-enum, moved-variable, moved-list, moved-object}
use Rattle.graphql_moved.specs.MovedTrees.{moved_marks}
use Rattle.graphql_moved.proofs.MovedWritten.{arguments-moved}

-- the truth value of a value, if there is one and it is one
abbrev pub truth_in : {S : Type 0} → (S → ScalarAnswer) → Option (InputValue S) → Option Bool
truth_in answer = option_and_then (truth_of answer)

-- values of variables that have one truth value in both, or none in either
abbrev pub TruthsAlike : {S T : Type 0} → (S → ScalarAnswer) → (T → ScalarAnswer)
    → (Bytes → Option (InputValue S)) → (Bytes → Option (InputValue T)) → Type 0
TruthsAlike answer other given others = (name : Bytes) → truth_in other (others name)
    ≡ truth_in answer (given name)

module _ {S T : Type 0} (f : S → T) (at : SourcePosition → SourcePosition)
    (answer : T → ScalarAnswer) where
  abbrev V : InputValue S → InputValue T
  V = moved_value f at

  abbrev own : S → ScalarAnswer
  own s = answer (f s)

  -- ---- the truth value of a value

  pub truth-moved : (x : InputValue S) → truth_of answer (V x) ≡ truth_of own x
  truth-moved = value_ind (λ x. truth_of answer (V x) ≡ truth_of own x)
      (ap (truth_of answer) (moved-null f at) ∙ ap (truth_layer answer) value.outs-Null
      ∙ sym (ap (truth_layer own) value.outs-Null))
      (λ s. ap (truth_of answer) (moved-scalar f at s)
      ∙ ap (truth_layer answer) (value.outs-Scalar (f s))
      ∙ sym (ap (truth_layer own) (value.outs-Scalar s)))
      (λ n. ap (truth_of answer) (moved-enum f at n) ∙ ap (truth_layer answer) (value.outs-Enum n)
      ∙ sym (ap (truth_layer own) (value.outs-Enum n)))
      (λ n. ap (truth_of answer) (moved-variable f at n)
      ∙ ap (truth_layer answer) (value.outs-Variable n)
      ∙ sym (ap (truth_layer own) (value.outs-Variable n)))
      (λ xs each. ap (truth_of answer) (moved-list f at xs)
      ∙ ap (truth_layer answer) (value.outs-List _)
      ∙ sym (ap (truth_layer own) (value.outs-List xs)))
      (λ ps each. ap (truth_of answer) (moved-object f at ps)
      ∙ ap (truth_layer answer) (value.outs-Object _)
      ∙ sym (ap (truth_layer own) (value.outs-Object ps)))

  pub truths-moved : (o : Option (InputValue S)) → truth_in answer (option_map V o) ≡ truth_in own o
  truths-moved None = refl
  truths-moved (Some x) = truth-moved x

  -- ---- arguments by their names

  named-moved : (is : Bool) (x : Argument S) (o : Option (Argument T)) (p : Option (Argument S))
      → option_map (λ (a : Argument T). a.1) o
      ≡ option_map (moved at V) (option_map (λ (a : Argument S). a.1) p)
      → option_map (λ (a : Argument T). a.1) (cond is (Some (moved_argument f at x)) o)
      ≡ option_map (moved at V) (option_map (λ (a : Argument S). a.1) (cond is (Some x) p))
  named-moved true x o p same = refl
  named-moved false x o p same = same

  value-of-moved : (name : Bytes) (xs : List (Argument S))
      → value_of name (map (moved_argument f at) xs) ≡ option_map (moved at V) (value_of name xs)
  value-of-moved name [] = refl
  value-of-moved name (x ∷ xs) =
      named-moved (bytes_eq x.0.item name) x
      (find (λ (a : Argument T). bytes_eq a.0.item name) (map (moved_argument f at) xs))
      (find (λ (a : Argument S). bytes_eq a.0.item name) xs) (value-of-moved name xs)

  -- ---- conditions

  module _ (given : Bytes → Option (InputValue S)) (others : Bytes → Option (InputValue T))
      (alike : TruthsAlike own answer given others) where
    abbrev filled-here : InputValue T → Option Bool
    filled-here x = truth_in answer (filled others x)

    truth-filled : (x : InputValue S) → filled-here (V x) ≡ truth_in own (filled given x)
    truth-filled = value_ind (λ x. filled-here (V x) ≡ truth_in own (filled given x))
        (ap filled-here (moved-null f at) ∙ ap (truth_in answer) (fold_null (filled_layer others))
        ∙ ap (truth_layer answer) value.outs-Null
        ∙ sym (ap (truth_in own) (fold_null (filled_layer given))
        ∙ ap (truth_layer own) value.outs-Null))
        (λ s. ap filled-here (moved-scalar f at s)
        ∙ ap (truth_in answer) (fold_scalar (filled_layer others) (f s))
        ∙ ap (truth_layer answer) (value.outs-Scalar (f s))
        ∙ sym (ap (truth_in own) (fold_scalar (filled_layer given) s)
        ∙ ap (truth_layer own) (value.outs-Scalar s)))
        (λ n. ap filled-here (moved-enum f at n)
        ∙ ap (truth_in answer) (fold_enum (filled_layer others) n)
        ∙ ap (truth_layer answer) (value.outs-Enum n)
        ∙ sym (ap (truth_in own) (fold_enum (filled_layer given) n)
        ∙ ap (truth_layer own) (value.outs-Enum n)))
        (λ n. ap filled-here (moved-variable f at n)
        ∙ ap (truth_in answer) (fold_variable (filled_layer others) n) ∙ alike n
        ∙ sym (ap (truth_in own) (fold_variable (filled_layer given) n)))
        (λ xs each. ap filled-here (moved-list f at xs)
        ∙ ap (truth_in answer) (filled_list others _) ∙ ap (truth_layer answer) (value.outs-List _)
        ∙ sym (ap (truth_in own) (filled_list given xs)
        ∙ ap (truth_layer own) (value.outs-List _)))
        (λ ps each. ap filled-here (moved-object f at ps)
        ∙ ap (truth_in answer) (filled_object others _)
        ∙ ap (truth_layer answer) (value.outs-Object _)
        ∙ sym (ap (truth_in own) (filled_object given ps)
        ∙ ap (truth_layer own) (value.outs-Object _)))

    at-literal : (o : Option (Placed (InputValue S)))
        → option_and_then (λ literal. truth answer others literal.item) (option_map (moved at V) o)
        ≡ option_and_then (λ literal. truth own given literal.item) o
    at-literal None = refl
    at-literal (Some x) = truth-filled x.item

    if-moved : (d : Directive S) → condition answer others (moved_directive f at d)
        ≡ condition own given d
    if-moved d =
        ap (λ xs. option_and_then (λ literal. truth answer others literal.item)
        (value_of (codes "if") xs)) (arguments-moved f at d.arguments)
        ∙ ap (option_and_then (λ literal. truth answer others literal.item))
        (value-of-moved (codes "if") (arguments_in d.arguments))
        ∙ at-literal (value_of (codes "if") (arguments_in d.arguments))

    leaves-out-moved : (d : Directive S) → leaves_out answer others (moved_directive f at d)
        ≡ leaves_out own given d
    unfolding leaves_out
    leaves-out-moved d = rw (if-moved d) refl

    pub left-out-moved : (ds : Directives S) → left_out answer others (moved_marks f at ds)
        ≡ left_out own given ds
    left-out-moved [] = refl
    left-out-moved (d ∷ ds) = λ i. leaves-out-moved d.item i || left-out-moved ds i
