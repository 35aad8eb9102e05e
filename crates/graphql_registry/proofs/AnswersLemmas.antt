-- The answers of lists, item by item.
use Rattle.std.proofs.Common.{◌≡◌, ℕ, ◌+◌, ◌<◌, ◌≤◌, Result, Ok, Err, List, [], ◌∷◌, ◌++◌, length, take, drop, get_or, ap, sym, refl, ◌∙◌}
use Rattle.std.proofs.lemmas.List.{take_all, take_more, drop_more, take-append-drop}
use Rattle.graphql_text.specs.Memory.{◌>>=◌}
use Rattle.graphql_field_results.specs.Answered.{Answered}
use Rattle.graphql_field_results.specs.declared.field_fault.FieldFault.{FieldFault}
use Rattle.graphql_field_results.specs.declared.field_fault.FieldFault.TheVariants as fault
use Rattle.graphql_field_results.specs.declared.resolved.Resolved.TheVariants as resolved
use Rattle.graphql_field_results.specs.declared.field_error.FieldError.{FieldError}
use Rattle.graphql_field_results.specs.declared.resolved.Resolved.{Resolved}
use Rattle.graphql_registry.specs.Resolvables.{AnswerOf, answer_of_list, answers_of}

module _ {B E : Type 0} where
  -- what is put behind what a step gave
  abbrev joined : Result (List B) E → Result (List B) E → Result (List B) E
  joined some others = some >>= (λ a. others >>= (λ b. Ok (a ++ b)))

  abbrev with_first : Result B E → Result (List B) E → Result (List B) E
  with_first first rest = first >>= (λ y. rest >>= (λ ys. Ok (y ∷ ys)))

  joined_nil : (others : Result (List B) E) → others ≡ joined (Ok []) others
  joined_nil (Ok b) = refl
  joined_nil (Err e) = refl

  joined_first : (first : Result B E) (some others : Result (List B) E) → with_first first (joined some others) ≡ joined (with_first first some) others
  joined_first (Err e) some others = refl
  joined_first (Ok y) (Err e) others = refl
  joined_first (Ok y) (Ok a) (Err e) = refl
  joined_first (Ok y) (Ok a) (Ok b) = refl

module _ {S N A : Type 0} (answer : A → AnswerOf S N) where
  answers-append : (xs ys : List A) → answers_of answer (xs ++ ys) ≡ joined (answers_of answer xs) (answers_of answer ys)
  answers-append [] ys = joined_nil (answers_of answer ys)
  answers-append (x ∷ xs) ys =
      ap (λ more. with_first (answer x) more) (answers-append xs ys) ∙ joined_first (answer x) (answers_of answer xs) (answers_of answer ys)

  -- so many items have answered
  abbrev pub HaveAnswered : List A → ℕ → List (Resolved S N) → Type 0
  HaveAnswered items i answers = answers_of answer (take i items) ≡ Ok answers

  -- one item more has
  pub have_answered_more :
      (items : List A) (i : ℕ) (answers : List (Resolved S N)) (x : A) (y : Resolved S N) → i < length items → x ≡ get_or items i x
      → HaveAnswered items i answers → answer x ≡ Ok y → HaveAnswered items (i + 1) (answers ++ y ∷ [])
  have_answered_more items i answers x y inside is before one =
      ap (answers_of answer) (take_more items i x inside ∙ ap (λ d. take i items ++ d ∷ []) (sym is))
      ∙ answers-append (take i items) (x ∷ [])
      ∙ ap (λ some. joined some (answers_of answer (x ∷ []))) before
      ∙ ap (λ first. joined (Ok answers) (with_first first (Ok []))) one

  split_at : (items : List A) (i : ℕ) (x : A) → i < length items → x ≡ get_or items i x → take i items ++ x ∷ drop (i + 1) items ≡ items
  split_at items i x inside is =
      ap (λ d. take i items ++ d ∷ drop (i + 1) items) is ∙ ap (λ rest. take i items ++ rest) (sym (drop_more items i x inside)) ∙ take-append-drop i items

  -- the next item is the error of the field, or there is no memory
  pub list_stops :
      (items : List A) (i : ℕ) (answers : List (Resolved S N)) (x : A) (fault : FieldFault S) → i < length items → x ≡ get_or items i x
      → HaveAnswered items i answers → Answered {A = Resolved S N} (answer x) (Err fault) → Answered {A = Resolved S N} (answer_of_list answer items) (Err fault)
  list_stops items i answers x fault.Memory inside is before one = tt
  list_stops items i answers x (fault.Error e) inside is before one =
      ap (answer_of_list answer) (sym (split_at items i x inside is))
      ∙ ap (λ (some : Result (List (Resolved S N)) (FieldError S)). some >>= (λ all. Ok (resolved.List all)))
      (answers-append (take i items) (x ∷ drop (i + 1) items)
      ∙ ap (λ some. joined some (answers_of answer (x ∷ drop (i + 1) items))) before
      ∙ ap (λ first. joined (Ok answers) (with_first first (answers_of answer (drop (i + 1) items)))) one)

  -- all items have answered
  pub list_answers : (items : List A) (i : ℕ) (answers : List (Resolved S N)) → length items ≤ i → HaveAnswered items i answers → answer_of_list answer items ≡ Ok (resolved.List answers)
  list_answers items i answers past before =
      ap (λ (some : Result (List (Resolved S N)) (FieldError S)). some >>= (λ all. Ok (resolved.List all))) (ap (answers_of answer) (sym (take_all i items past)) ∙ before)
