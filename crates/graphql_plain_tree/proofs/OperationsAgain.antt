-- The operation of a plain document is its own plain operation.
use Rattle.std.proofs.Common.{◌≡◌, refl, ◌∙◌, ap, ap₂, Bool, true, false, List, [], ◌∷◌, ◌++◌, map, cond, ⊎_elim, inl, inr}
use Rattle.std.specs.List.{filter}
use Rattle.graphql_names.specs.Names.{Bytes, is_one_of}
use Rattle.graphql_scalars.specs.ScalarAnswers.{ScalarAnswer, boolean}
use Rattle.graphql_tree.specs.Documents.{variables_in}
use Rattle.graphql_tree.specs.Variables.{Variable}
use Rattle.graphql_written_out.specs.Conditions.{left_out}
use Rattle.graphql_written_out.specs.Trees.{Directives, Tree, none, field, inline}
use Rattle.graphql_written_out.specs.Written.{written}
use Rattle.graphql_plain_tree.specs.DocumentTrees.{unplaced_fields}
use Rattle.graphql_plain_tree.specs.Laws.{OperationAgain}
use Rattle.graphql_plain_tree.specs.Plain.{plain}
use Rattle.graphql_plain_tree.specs.PlainDocuments.{definitions_as, operation_as}
use Rattle.graphql_plain_tree.specs.PlainOperations.{definitions_used, plain_operation, variables_given, variables_used, without_directives}
use Rattle.graphql_plain_tree.specs.PlainShape.{IsPlain, IsPlainSet}
use Rattle.graphql_plain_tree.specs.StandIns.{skip_true}
use Rattle.graphql_plain_tree.proofs.DocumentSets.{condition-is, document-is-its-tree}
use Rattle.graphql_plain_tree.proofs.PlainShapes.{plain-stays, plain-throughout}
use Rattle.graphql_plain_tree.proofs.StandInLaws.{stand-in-leaves-out}

module _ {S : Type 0} where
  abbrev u : Tree S → Tree S
  u = unplaced_fields

  -- ---- without places it is plain as before, and uses the same variables

  either : (stand_in : Directives S) (t : Tree S) → (IsPlainSet stand_in true t → IsPlainSet stand_in true (u t)) → (IsPlainSet stand_in false t → IsPlainSet stand_in false (u t))
      → IsPlain stand_in t → IsPlain stand_in (u t)
  either stand_in t f g h = ⊎_elim (λ a. inl (f a)) (λ b. inr (g b)) h

  shape : (stand_in : Directives S) (t : Tree S) (out : Bool) → IsPlainSet stand_in out t → IsPlainSet stand_in out (u t)
  shape stand_in none out h = tt
  shape stand_in (field head directives below rest) true h =
      (h.0, ap u h.1, either stand_in below (shape stand_in below true) (shape stand_in below false) h.2)
  shape stand_in (field head directives below rest) false h =
      (h.0, shape stand_in rest false h.1, either stand_in below (shape stand_in below true) (shape stand_in below false) h.2)
  shape stand_in (inline on directives below rest) true h =
      (h.0, ap u h.1, either stand_in below (shape stand_in below true) (shape stand_in below false) h.2)
  shape stand_in (inline on directives below rest) false h =
      (h.0, shape stand_in rest false h.1, either stand_in below (shape stand_in below true) (shape stand_in below false) h.2)

  unplaced-is-plain : (stand_in : Directives S) (t : Tree S) → IsPlain stand_in t → IsPlain stand_in (u t)
  unplaced-is-plain stand_in t = either stand_in t (shape stand_in t true) (shape stand_in t false)

  same-uses : (t : Tree S) → variables_used (u t) ≡ variables_used t
  same-uses none = refl
  same-uses (field head directives below rest) =
      ap₂ (λ xs ys. variables_given head.arguments ++ (xs ++ ys)) (same-uses below) (same-uses rest)
  same-uses (inline on directives below rest) = ap₂ (λ xs ys. xs ++ ys) (same-uses below) (same-uses rest)

  -- ---- the definitions that are used are all used

  used-again : (names : List Bytes) (vs : List (Variable S)) → definitions_used names (definitions_used names vs) ≡ definitions_used names vs
  used-again names [] = refl
  used-again names (v ∷ vs) =
      let cases : (q : Bool) → is_one_of names v.0.item ≡ q
      → definitions_used names (map without_directives (cond q (v ∷ filter (λ w. is_one_of names w.0.item) vs) (filter (λ w. is_one_of names w.0.item) vs)))
      ≡ map without_directives (cond q (v ∷ filter (λ w. is_one_of names w.0.item) vs) (filter (λ w. is_one_of names w.0.item) vs)) =
      elim [ true ↦ λ e. rw e (ap (λ (xs : List (Variable S)). without_directives v ∷ xs) (used-again names vs)) | false ↦ λ e. used-again names vs ] in
      cases (is_one_of names v.0.item) refl

  definitions-are : (vs : List (Variable S)) → variables_in (definitions_as vs) ≡ vs
  definitions-are [] = refl
  definitions-are (v ∷ vs) = refl

module _ {S : Type 0} (answer : S → ScalarAnswer) (of_bool : Bool → S) (answers : (b : Bool) → answer (of_bool b) ≡ boolean b) where
  pub operation-again : OperationAgain answer of_bool
  operation-again given other fragments o filled =
      let p = plain_operation answer of_bool given fragments o in
      let drops = left_out answer other in
      let stand_in = skip_true of_bool in
      let set : plain drops stand_in (written [] (operation_as p).selection_set) ≡ unplaced_fields p.set =
      ap (plain drops stand_in) (document-is-its-tree answer of_bool given fragments o filled)
      ∙ plain-stays drops stand_in (stand-in-leaves-out answer of_bool answers other) (unplaced_fields p.set)
      (unplaced-is-plain stand_in p.set (plain-throughout (left_out answer given) stand_in (written fragments o.selection_set))) in
      let uses : variables_used (plain drops stand_in (written [] (operation_as p).selection_set)) ≡ variables_used p.set =
      ap variables_used set ∙ same-uses p.set in
      let variables : definitions_used (variables_used (plain drops stand_in (written [] (operation_as p).selection_set))) (variables_in (definitions_as p.variables)) ≡ p.variables =
      ap₂ definitions_used uses (definitions-are p.variables) ∙ used-again (variables_used p.set) (variables_in o.variable_definitions) in
      λ i. record { operation_type = p.operation_type; name = condition-is p.name i; variables = variables i; set = set i }
