-- An answer begins with `data`, and with errors it ends with their list.
use Rattle.std.proofs.Common.{◌≡◌, ◌+◌, ◌-◌, refl, sym, ◌∙◌, ap, subst, arith, ℕ, Bool, true, false, List, [], ◌∷◌, ◌++◌, map, length, drop, codes, nat_eq, append_assoc, append-nil}
use Rattle.std.specs.Cmp.Lexicographic.{pointwise}
use Rattle.std.proofs.Math.Seq.{drop-append_seam}
use Rattle.std.proofs.lemmas.List.{length-append}
use Rattle.graphql_names.specs.Names.{Bytes}
use Rattle.graphql_scalars.specs.ScalarAnswers.{ScalarAnswer}
use Rattle.graphql_output_values.specs.declared.value.Value.{Value}
use Rattle.graphql_output_values.specs.Objects.{Pair}
use Rattle.graphql_output_values.specs.Values.{map_scalars}
use Rattle.graphql_output_values.specs.ValueEquations.{on_value, fold_list, fold_object, fold_fields}
use Rattle.graphql_output_values.specs.declared.value.Value.TheVariants as value
use Rattle.graphql_json.specs.Json.{fields_layer, joined, json, json_layer, json_text, member_json}
use Rattle.graphql_answers.specs.Lines.{line_of}
use Rattle.graphql_answers.specs.Responses.{errors_of, field_error_of, object_of, request_error_of}
use Rattle.graphql_service.specs.Answers.{Answerer, executed_to, no_request, not_executed}
use Rattle.graphql_service.specs.Texts.{told_of_line, told_of_request}
use Rattle.graphql_stores.specs.AnswerEnds.{LinesShowErrors, begins_with_data, ends_with_list}
use Rattle.graphql_stores.specs.Laws.{AnswersShowErrors}

-- the text ends with the end of a list
record Closes (text : Bytes) : Type 0 where
  pub front : Bytes
  pub is : text ≡ front ++ 93 ∷ []

after : (a xs : Bytes) → Closes xs → Closes (a ++ xs)
after a xs h = record { front = a ++ h.front; is = ap (λ ys. a ++ ys) h.is ∙ sym (append_assoc a h.front (93 ∷ [])) }

behind : (x : ℕ) (xs : Bytes) → Closes xs → Closes (x ∷ xs)
behind x xs h = record { front = x ∷ h.front; is = ap (λ ys. x ∷ ys) h.is }

before-nothing : (xs : Bytes) → Closes xs → Closes (xs ++ [])
before-nothing xs h = subst Closes (sym (append-nil xs)) h

in-list : (items : Bytes) → Closes (91 ∷ (items ++ 93 ∷ []))
in-list items = record { front = 91 ∷ items; is = refl }

-- in braces, and before a line feed
in-braces : (xs : Bytes) (h : Closes xs) → (123 ∷ (xs ++ 125 ∷ [])) ++ 10 ∷ [] ≡ (123 ∷ h.front) ++ 93 ∷ 125 ∷ 10 ∷ []
in-braces xs h =
    ap (λ ys. (123 ∷ (ys ++ 125 ∷ [])) ++ 10 ∷ []) h.is
    ∙ ap (λ ys. 123 ∷ ys) (append_assoc (h.front ++ 93 ∷ []) (125 ∷ []) (10 ∷ []) ∙ append_assoc h.front (93 ∷ []) (125 ∷ 10 ∷ []))

ends-so : (front : Bytes) → ends_with_list (front ++ 93 ∷ 125 ∷ 10 ∷ []) ≡ true
ends-so front =
    ap (λ n. pointwise nat_eq (93 ∷ 125 ∷ 10 ∷ []) (drop n (front ++ 93 ∷ 125 ∷ 10 ∷ []))) here
    ∙ ap (pointwise nat_eq (93 ∷ 125 ∷ 10 ∷ [])) (drop-append_seam front (93 ∷ 125 ∷ 10 ∷ []))
  where
    here : length (front ++ 93 ∷ 125 ∷ 10 ∷ []) - 3 ≡ length front
    here = omega (arith, length-append front (93 ∷ 125 ∷ 10 ∷ []))

ends-then : (xs text : Bytes) → Closes xs → text ≡ (123 ∷ (xs ++ 125 ∷ [])) ++ 10 ∷ [] → ends_with_list text ≡ true
ends-then xs text h e = ap (λ t. ends_with_list t) (e ∙ in-braces xs h) ∙ ends-so (123 ∷ h.front)

-- the last of two members
last : (m n : Bytes) → Closes n → Closes (joined [] (m ∷ n ∷ []))
last m n h = after m _ (before-nothing (44 ∷ n) (behind 44 n h))

-- the JSON of a list, and of an object
abbrev same : ScalarAnswer → ScalarAnswer
same s = s

list-closes : (xs : List (Value ScalarAnswer)) → Closes (json same (value.List xs))
list-closes xs = subst Closes (sym (fold_list (json_layer same) (fields_layer same) xs)) (in-list (joined [] (map (json same) xs)))

abbrev members : List (Pair (Value ScalarAnswer)) → List Bytes
members fields = map member_json (map (on_value (json same)) fields)

object-is : (fields : List (Pair (Value ScalarAnswer)))
    → line_of (object_of fields) ≡ (123 ∷ (joined [] (members fields) ++ 125 ∷ [])) ++ 10 ∷ []
object-is fields =
    ap (λ t. t ++ 10 ∷ []) (fold_object (json_layer same) (fields_layer same) (record { fields = fields })
    ∙ fold_fields (json_layer same) (fields_layer same) (record { fields = fields }))

errors-close : (key : Bytes) (xs : List (Value ScalarAnswer)) → Closes (json_text key ++ 58 ∷ json same (value.List xs))
errors-close key xs = after (json_text key) (58 ∷ json same (value.List xs)) (behind 58 (json same (value.List xs)) (list-closes xs))

object-ends : (fields : List (Pair (Value ScalarAnswer))) → Closes (joined [] (members fields))
    → ends_with_list (line_of (object_of fields)) ≡ true
object-ends fields h = ends-then (joined [] (members fields)) (line_of (object_of fields)) h (object-is fields)

pub lines-show-errors : {S : Type 0} (answer : S → ScalarAnswer) → LinesShowErrors answer
lines-show-errors answer = (
  (λ errors.
      ap (λ t. begins_with_data t) (object-is ((codes "errors", value.List (map request_error_of errors)) ∷ [])) ∙ refl),
  (λ found errors.
      ap (λ t. begins_with_data t) (object-is ((codes "data", map_scalars answer found) ∷ errors_of answer errors)) ∙ refl),
  (λ found error errors.
      let es = map (field_error_of answer) (error ∷ errors) in
      object-ends ((codes "data", map_scalars answer found) ∷ (codes "errors", value.List es) ∷ [])
      (last (json_text (codes "data") ++ 58 ∷ json same (map_scalars answer found))
      (json_text (codes "errors") ++ 58 ∷ json same (value.List es)) (errors-close (codes "errors") es))),
)

clash : {A : Type 0} (b : Bool) → b ≡ true → b ≡ false → A
clash b t f = absurd (let both : true ≡ false = sym t ∙ f in cc)

module _ {S C N X : Type 0} (a : Answerer S C N X) where
  -- the bytes of an answer line tell whether the request was executed, and whether there are errors
  pub answers-show-errors : LinesShowErrors a.scalars.answer → AnswersShowErrors a
  answers-show-errors shows line text old new (no_request refusal h e kept) = (
    (λ otherwise. kept),
    (λ begins ends.
        clash (begins_with_data text) begins
        (ap begins_with_data e ∙ shows.0 (told_of_line a.limit refusal))),
  )
  answers-show-errors shows line text old new (not_executed refusal h e kept) = (
    (λ otherwise. kept),
    (λ begins ends. clash (begins_with_data text) begins (ap begins_with_data e ∙ shows.0 (told_of_request refusal))),
  )
  answers-show-errors shows line text old new (executed_to found [] h e) = (
    (λ otherwise. clash (begins_with_data text) (ap begins_with_data e ∙ shows.1 found []) otherwise),
    (λ begins ends. (found, h, e)),
  )
  answers-show-errors shows line text old new (executed_to found (error ∷ errors) h e) = (
    (λ otherwise. clash (begins_with_data text) (ap begins_with_data e ∙ shows.1 found (error ∷ errors)) otherwise),
    (λ begins ends. clash (ends_with_list text) (ap ends_with_list e ∙ shows.2 found error errors) ends),
  )
