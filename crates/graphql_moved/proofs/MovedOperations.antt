-- Plain operations over other scalars and at other places.
use Rattle.std.proofs.Common.{◌≡◌, refl, sym, ◌∙◌, ap, ap₂, Bool, true, false, List, [], ◌∷◌, ◌++◌, map, cond, Option, Some, None, codes}
use Rattle.std.specs.List.{All, filter, flat_map}
use Rattle.std.specs.Option.{option_map}
use Rattle.std.proofs.lemmas.List.Elements.{All-head, All-tail}
use Rattle.std.proofs.lemmas.List.Folds.{flat_map-map}
use Rattle.graphql_names.specs.Names.{Bytes, is_one_of}
use Rattle.graphql_text.specs.Position.{origin}
use Rattle.graphql_text.specs.declared.position.SourcePosition.{SourcePosition}
use Rattle.graphql_scalars.specs.ScalarAnswers.{ScalarAnswer}
use Rattle.graphql_values.specs.InputValues.{Pair, Placed}
use Rattle.graphql_values.specs.Variables.{names_of_variables as variables_of, variables_layer}
use Rattle.graphql_values.specs.declared.input_value.InputValue.{InputValue}
use Rattle.graphql_values.specs.declared.input_value.InputValue.TheVariants as value
use Rattle.graphql_values.proofs.InputValueInduction.{value_ind}
use Rattle.graphql_values.proofs.InputValueEquations.{fold_null, fold_scalar, fold_enum, fold_variable}
use Rattle.graphql_values.proofs.VariableLemmas.{variables_in_list, variables_in_object}
use Rattle.graphql_tree.specs.Arguments.{Argument}
use Rattle.graphql_tree.specs.Documents.{variables_in}
use Rattle.graphql_tree.specs.Variables.{Variable}
use Rattle.graphql_tree.specs.declared.document.Fragment.{Fragment}
use Rattle.graphql_tree.specs.declared.document.Operation.{Operation}
use Rattle.graphql_tree.specs.declared.variable.VariableDefinitions.{VariableDefinitions}
use Rattle.graphql_written_out.specs.Conditions.{left_out}
use Rattle.graphql_written_out.specs.Trees.{Tree, none, field, inline}
use Rattle.graphql_written_out.specs.Written.{written}
use Rattle.graphql_plain_tree.specs.PlainOperations.{definitions_used, plain_by, plain_operation, variables_given, variables_used, without_directives}
use Rattle.graphql_plain_tree.specs.StandIns.{skip_true}
use Rattle.graphql_moved.specs.Moved.{moved, moved_argument, moved_fragment, moved_operation, moved_value, moved_variable, moved_variables}
use Rattle.graphql_moved.proofs.MovedEquations.{moved-null, moved-scalar, moved-enum, moved-variable, moved-list, moved-object}
use Rattle.graphql_moved.specs.MovedTrees.{moved_marks, moved_plain, moved_tree}
use Rattle.graphql_moved.proofs.MovedConditions.{TruthsAlike, left-out-moved}
use Rattle.graphql_moved.proofs.MovedPlain.{plain-moved}
use Rattle.graphql_moved.proofs.MovedWritten.{condition-moved, written-moved}

module _ {S T : Type 0} (f : S → T) (at : SourcePosition → SourcePosition) where
  abbrev V : InputValue S → InputValue T
  V = moved_value f at

  abbrev D : Variable S → Variable T
  D = moved_variable f at

  -- ---- the variables that are used

  Same : InputValue S → Type 0
  Same x = variables_of (V x) ≡ variables_of x

  items-same : (xs : List (Placed (InputValue S)))
      → All (λ (x : Placed (InputValue S)). Same x.item) xs
      → flat_map (λ (x : Placed (InputValue S)). variables_of (V x.item)) xs
      ≡ flat_map (λ (x : Placed (InputValue S)). variables_of x.item) xs
  unfolding Same
  items-same [] h = refl
  items-same (x ∷ xs) h =
      let one : variables_of (V x.item) ≡ variables_of x.item =
      All-head (λ (x : Placed (InputValue S)). Same x.item) x xs h in
      let more = items-same xs (All-tail (λ (x : Placed (InputValue S)). Same x.item) x xs h) in
      λ i. one i ++ more i

  pairs-same : (ps : List (Pair (InputValue S)))
      → All (λ (p : Pair (InputValue S)). Same p.1.item) ps
      → flat_map (λ (p : Pair (InputValue S)). variables_of (V p.1.item)) ps
      ≡ flat_map (λ (p : Pair (InputValue S)). variables_of p.1.item) ps
  unfolding Same
  pairs-same [] h = refl
  pairs-same (p ∷ ps) h =
      let one : variables_of (V p.1.item) ≡ variables_of p.1.item =
      All-head (λ (p : Pair (InputValue S)). Same p.1.item) p ps h in
      let more = pairs-same ps (All-tail (λ (p : Pair (InputValue S)). Same p.1.item) p ps h) in
      λ i. one i ++ more i

  variables-same : (x : InputValue S) → variables_of (V x) ≡ variables_of x
  unfolding Same
  variables-same = value_ind Same
      (ap variables_of (moved-null f at) ∙ no-variables-null)
      (λ s. ap variables_of (moved-scalar f at s) ∙ fold_scalar variables_layer (f s)
      ∙ sym (fold_scalar variables_layer s))
      (λ n. ap variables_of (moved-enum f at n) ∙ no-variables-enum n)
      (λ n. ap variables_of (moved-variable f at n) ∙ own-variable n)
      (λ xs h. ap variables_of (moved-list f at xs) ∙ variables_in_list _
      ∙ flat_map-map (λ (x : Placed (InputValue T)). variables_of x.item) _ xs
      ∙ items-same xs h ∙ sym (variables_in_list xs))
      (λ ps h. ap variables_of (moved-object f at ps) ∙ variables_in_object _
      ∙ flat_map-map (λ (p : Pair (InputValue T)). variables_of p.1.item) _ ps
      ∙ pairs-same ps h ∙ sym (variables_in_object ps))
    where
      no-variables-null : variables_of {S = T} value.Null ≡ variables_of {S = S} value.Null
      no-variables-null = fold_null variables_layer ∙ sym (fold_null variables_layer)

      no-variables-enum : (n : Bytes) → variables_of {S = T} (value.Enum n)
          ≡ variables_of {S = S} (value.Enum n)
      no-variables-enum n = fold_enum variables_layer n ∙ sym (fold_enum variables_layer n)

      own-variable : (n : Bytes) → variables_of {S = T} (value.Variable n)
          ≡ variables_of {S = S} (value.Variable n)
      own-variable n = fold_variable variables_layer n ∙ sym (fold_variable variables_layer n)

  given-same : (xs : List (Argument S)) → variables_given (map (moved_argument f at) xs)
      ≡ variables_given xs
  given-same [] = refl
  given-same (x ∷ xs) = ap₂ (λ a b. a ++ b) (variables-same x.1.item) (given-same xs)

  used-same : (t : Tree S) → variables_used (moved_tree f at t) ≡ variables_used t
  used-same none = refl
  used-same (field head directives below rest) =
      λ i. given-same head.arguments i ++ (used-same below i ++ used-same rest i)
  used-same (inline on directives below rest) = λ i. used-same below i ++ used-same rest i

  definitions-moved : (names : List Bytes) (vs : List (Variable S))
      → definitions_used names (map D vs) ≡ map D (definitions_used names vs)
  definitions-moved names [] = refl
  definitions-moved names (v ∷ vs) =
      elim (is_one_of names v.0.item) as
      (λ q. map without_directives (cond q (D v ∷ filter (λ (w : Variable T).
      is_one_of names w.0.item) (map D vs)) (filter (λ (w : Variable T). is_one_of names w.0.item)
      (map D vs)))
      ≡ map D (map without_directives (cond q
      (v ∷ filter (λ (w : Variable S). is_one_of names w.0.item) vs)
      (filter (λ (w : Variable S). is_one_of names w.0.item) vs)))) [
        | true ↦ ap (λ us. D (without_directives v) ∷ us) (definitions-moved names vs)
        | false ↦
            definitions-moved names vs
      ]

  variables-listed : (o : Option (Placed (VariableDefinitions S)))
      → variables_in (option_map (moved at (moved_variables f at)) o) ≡ map D (variables_in o)
  variables-listed None = refl
  variables-listed (Some v) = refl

  -- ---- plain operations

  module _ (stays : at origin ≡ origin) (of_bool : Bool → S) (bool_again : Bool → T)
      (bools : (b : Bool) → bool_again b ≡ f (of_bool b)) where
    skip-moved : moved_marks f at (skip_true of_bool) ≡ skip_true bool_again
    skip-moved =
        let truth : V (value.Scalar (of_bool true)) ≡ value.Scalar (bool_again true) =
        moved-scalar f at (of_bool true) ∙ ap value.Scalar (sym (bools true)) in
        λ i. record {
          item = record {
            name = record { item = codes "skip"; span = record { start = stays i; end = stays i } };
            arguments = Some (record {
              item = record {
                items = (
                  record { item = codes "if"; span = record { start = stays i; end = stays i } },
                  record { item = truth i; span = record { start = stays i; end = stays i } },
                ) ∷ [];
              };
              span = record { start = stays i; end = stays i };
            });
          };
          span = record { start = stays i; end = stays i };
        } ∷ []

    module _ (answer : T → ScalarAnswer) (given : Bytes → Option (InputValue S))
        (others : Bytes → Option (InputValue T))
        (alike : TruthsAlike (λ s. answer (f s)) answer given others) where
      pub operation-moved : (fs : List (Fragment S)) (o : Operation S)
          → plain_operation answer bool_again others (map (moved_fragment f at) fs)
          (moved_operation f at o)
          ≡ moved_plain f at (plain_operation (λ s. answer (f s)) of_bool given fs o)
      operation-moved fs o =
          let own : S → ScalarAnswer = λ s. answer (f s) in
          let p : Tree S = plain_by own of_bool given (written fs o.selection_set) in
          let set : plain_by answer bool_again others
          (written (map (moved_fragment f at) fs) (moved_operation f at o).selection_set)
          ≡ moved_tree f at p =
          ap (plain_by answer bool_again others) (written-moved f at fs o.selection_set)
          ∙ plain-moved f at (left_out own given) (left_out answer others)
          (left-out-moved f at answer given others alike)
          (skip_true of_bool) (skip_true bool_again) skip-moved (written fs o.selection_set) in
          let names : variables_used (plain_by answer bool_again others
          (written (map (moved_fragment f at) fs) (moved_operation f at o).selection_set))
          ≡ variables_used p =
          ap variables_used set ∙ used-same p in
          λ i. record {
            operation_type = o.operation_type;
            name = condition-moved at o.name i;
            variables = (ap₂ definitions_used names (variables-listed o.variable_definitions)
                ∙ definitions-moved (variables_used p) (variables_in o.variable_definitions)) i;
            set = set i;
          }
