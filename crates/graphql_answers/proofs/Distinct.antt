-- The keys of answers are distinct, however deep.
use Rattle.std.proofs.Common.{◌+◌, ℕ, pos, List, [], ◌∷◌, map, codes, refl, sym, subst}
use Rattle.std.specs.Bool.{⊤}
use Rattle.std.specs.List.{All, IsDistinct}
use Rattle.std.specs.Map.{values_of}
use Rattle.std.specs.Str.{bytes_eq}
use Rattle.std.proofs.lemmas.List.Elements.{All-nil, All-cons, All-head, All-tail}
use Rattle.graphql_text.specs.declared.position.SourcePosition.{SourcePosition}
use Rattle.graphql_names.specs.Names.{Bytes}
use Rattle.graphql_scalars.specs.ScalarAnswers.{ScalarAnswer, integer, text}
use Rattle.graphql_output_values.specs.DistinctKeys.{HasDistinctKeysThroughout}
use Rattle.graphql_output_values.specs.Objects.{Pair, HasDistinctKeys}
use Rattle.graphql_output_values.specs.Values.{map_scalars}
use Rattle.graphql_output_values.specs.ValueEquations.{fold_null, fold_scalar, fold_list, fold_object}
use Rattle.graphql_output_values.specs.ValueInduction.{value_ind}
use Rattle.graphql_output_values.specs.declared.value.Value.{Value}
use Rattle.graphql_output_values.specs.declared.value.Value.TheVariants as value
use Rattle.graphql_output_values.proofs.DistinctKeyLaws.{by_forms, keeps_keys}
use Rattle.graphql_field_results.specs.declared.execution_error.ExecutionError.{ExecutionError}
use Rattle.graphql_rule_errors.specs.declared.rule_error.RuleError.{RuleError}
use Rattle.graphql_answers.specs.Lines.{ToldInDistinctKeys}
use Rattle.graphql_answers.specs.Responses.{object_of, text_value, number_of, location_of, locations_of, extensions_layer, extensions_by, extensions_of, field_error_of, plain_answer_of, request_error_of, response_of, refusal_response}

abbrev Distinct : Value ScalarAnswer → Type 0
Distinct = HasDistinctKeysThroughout

-- values of fields
abbrev AreDistinct : List (Pair (Value ScalarAnswer)) → Type 0
AreDistinct fields = All Distinct (values_of fields)

of_object : (fields : List (Pair (Value ScalarAnswer))) → HasDistinctKeys fields → AreDistinct fields → Distinct (object_of fields)
of_object fields keys values = (by_forms.3 (record { fields = fields })).1 (keys, values)

mapped : {A : Type 0} (f : A → Value ScalarAnswer) (P : A → Type 0) → ((x : A) → P x → Distinct (f x)) → (xs : List A) → All P xs → All Distinct (map f xs)
mapped f P each [] h = All-nil Distinct
mapped f P each (x ∷ xs) h = All-cons Distinct (f x) (map f xs) (each x (All-head P x xs h)) (mapped f P each xs (All-tail P x xs h))

of_list : {A : Type 0} (f : A → Value ScalarAnswer) (P : A → Type 0) → ((x : A) → P x → Distinct (f x)) → (xs : List A) → All P xs → Distinct (value.List (map f xs))
of_list f P each xs all = (by_forms.2 (map f xs)).1 (mapped f P each xs all)

of_text_value : (t : Bytes) → Distinct (text_value t)
of_text_value t = by_forms.1 (text t)

of_number : (n : ℕ) → Distinct (number_of n)
of_number n = by_forms.1 (integer (pos n))

none : AreDistinct []
none = All-nil Distinct

also : (key : Bytes) (v : Value ScalarAnswer) (fields : List (Pair (Value ScalarAnswer))) → Distinct v → AreDistinct fields → AreDistinct ((key, v) ∷ fields)
also key v fields d all = All-cons Distinct v (values_of fields) d all

two_keys : (v w : Value ScalarAnswer) → HasDistinctKeys ((codes "line", v) ∷ (codes "column", w) ∷ [])
unfolding IsDistinct
two_keys v w = ((refl, tt), (tt, tt))

of_location : (p : SourcePosition) → Distinct (location_of p)
of_location p =
    let l = number_of (p.line + 1) in
    let c = number_of (p.column + 1) in
    of_object ((codes "line", l) ∷ (codes "column", c) ∷ []) (two_keys l c)
    (also (codes "line") l ((codes "column", c) ∷ []) (of_number (p.line + 1)) (also (codes "column") c [] (of_number (p.column + 1)) none))

-- values that need no premise
each_of : {A : Type 0} (f : A → Value ScalarAnswer) → ((x : A) → Distinct (f x)) → (xs : List A) → Distinct (value.List (map f xs))
each_of {A} f each xs = of_list f (λ x. ⊤) (λ x h. each x) xs (λ k d h. tt)

message_keys : (v : Value ScalarAnswer) → HasDistinctKeys ((codes "message", v) ∷ [])
unfolding IsDistinct
message_keys v = (tt, tt)

message_and_locations : (v w : Value ScalarAnswer) → HasDistinctKeys ((codes "message", v) ∷ (codes "locations", w) ∷ [])
unfolding IsDistinct
message_and_locations v w = ((refl, tt), (tt, tt))

of_request_fields : (m : Value ScalarAnswer) → Distinct m → (places : List SourcePosition) → Distinct (object_of ((codes "message", m) ∷ locations_of places))
of_request_fields m d [] = of_object ((codes "message", m) ∷ []) (message_keys m) (also (codes "message") m [] d none)
of_request_fields m d (p ∷ ps) =
    let l = value.List (map (location_of) (p ∷ ps)) in
    of_object ((codes "message", m) ∷ (codes "locations", l) ∷ []) (message_and_locations m l)
    (also (codes "message") m ((codes "locations", l) ∷ []) d (also (codes "locations") l [] (each_of (location_of) of_location (p ∷ ps)) none))

of_request_error : (e : RuleError) → Distinct (request_error_of e)
of_request_error e = of_request_fields (text_value e.message) (of_text_value e.message) e.locations

errors_key : (v : Value ScalarAnswer) → HasDistinctKeys ((codes "errors", v) ∷ [])
unfolding IsDistinct
errors_key v = (tt, tt)

pub of_refusal : (errors : List RuleError) → Distinct (refusal_response errors)
of_refusal errors =
    let all = value.List (map (request_error_of) errors) in
    of_object ((codes "errors", all) ∷ []) (errors_key all) (also (codes "errors") all [] (each_of (request_error_of) of_request_error errors) none)

plain_key : (v : Value ScalarAnswer) → HasDistinctKeys ((codes "plain", v) ∷ [])
unfolding IsDistinct
plain_key v = (tt, tt)

pub of_plain_answer : (plain : Bytes) → Distinct (plain_answer_of plain)
of_plain_answer plain =
    let told = text_value plain in
    of_object ((codes "plain", told) ∷ []) (plain_key told) (also (codes "plain") told [] (of_text_value plain) none)

three_keys : (u v w : Value ScalarAnswer) → HasDistinctKeys ((codes "message", u) ∷ (codes "locations", v) ∷ (codes "path", w) ∷ [])
unfolding IsDistinct
three_keys u v w = ((refl, (refl, tt)), ((refl, tt), (tt, tt)))

four_keys : (u v w x : Value ScalarAnswer) → HasDistinctKeys ((codes "message", u) ∷ (codes "locations", v) ∷ (codes "path", w) ∷ (codes "extensions", x) ∷ [])
unfolding IsDistinct
four_keys u v w x = ((refl, (refl, (refl, tt))), ((refl, (refl, tt)), ((refl, tt), (tt, tt))))

data_key : (v : Value ScalarAnswer) → HasDistinctKeys ((codes "data", v) ∷ [])
unfolding IsDistinct
data_key v = (tt, tt)

data_and_errors : (v w : Value ScalarAnswer) → HasDistinctKeys ((codes "data", v) ∷ (codes "errors", w) ∷ [])
unfolding IsDistinct
data_and_errors v w = ((refl, tt), (tt, tt))

module _ {S : Type 0} (answer : S → ScalarAnswer) where
  -- the same value with its scalars' answers
  mapped_distinct : (v : Value S) → HasDistinctKeysThroughout v → Distinct (map_scalars answer v)
  mapped_distinct v d = subst (All (IsDistinct bytes_eq)) (sym (keeps_keys answer v)) d

  -- what holds of no field and of the field of what is told beside an error holds of the fields that are told
  by_extensions : (P : List (Pair (Value ScalarAnswer)) → Type 0) (beside : Value S) → P [] → P ((codes "extensions", map_scalars answer beside) ∷ []) → P (extensions_of answer beside)
  by_extensions P beside none some =
      let told = map_scalars answer beside in
      let fields = extensions_layer told in
      value_ind (λ v. P (extensions_by told v))
      (subst P (sym (fold_null fields (λ o. []))) none)
      (λ s. subst P (sym (fold_scalar fields (λ o. []) s)) some)
      (λ xs are. subst P (sym (fold_list fields (λ o. []) xs)) some)
      (λ o are. subst P (sym (fold_object fields (λ o. []) o)) some) beside

  of_field_error : (e : ExecutionError S) → ToldInDistinctKeys e → Distinct (field_error_of answer e)
  of_field_error e d =
      let beside = map_scalars answer e.error.extensions in
      let m = text_value e.error.message in
      let l = value.List (map location_of (e.location ∷ [])) in
      let p = value.List (map text_value e.path) in
      let front = λ (fs : List (Pair (Value ScalarAnswer))). (codes "message", m) ∷ (codes "locations", l) ∷ (codes "path", p) ∷ fs in
      let values = λ (fs : List (Pair (Value ScalarAnswer))) (h : AreDistinct fs).
      also (codes "message") m ((codes "locations", l) ∷ (codes "path", p) ∷ fs) (of_text_value e.error.message)
      (also (codes "locations") l ((codes "path", p) ∷ fs) (each_of location_of of_location (e.location ∷ []))
      (also (codes "path") p fs (each_of text_value of_text_value e.path) h)) in
      by_extensions (λ fs. Distinct (object_of (front fs))) e.error.extensions
      (of_object (front []) (three_keys m l p) (values [] none))
      (of_object (front ((codes "extensions", beside) ∷ [])) (four_keys m l p beside)
      (values ((codes "extensions", beside) ∷ []) (also (codes "extensions") beside [] (mapped_distinct e.error.extensions d) none)))

  pub of_response : (answered : Value S) (errors : List (ExecutionError S)) → HasDistinctKeysThroughout answered → All ToldInDistinctKeys errors → Distinct (response_of answer answered errors)
  of_response answered [] d all =
      let found = map_scalars answer answered in
      of_object ((codes "data", found) ∷ []) (data_key found) (also (codes "data") found [] (mapped_distinct answered d) none)
  of_response answered (e ∷ es) d all =
      let found = map_scalars answer answered in
      let told = value.List (map (field_error_of answer) (e ∷ es)) in
      of_object ((codes "data", found) ∷ (codes "errors", told) ∷ []) (data_and_errors found told)
      (also (codes "data") found ((codes "errors", told) ∷ []) (mapped_distinct answered d)
      (also (codes "errors") told [] (of_list (field_error_of answer) ToldInDistinctKeys of_field_error (e ∷ es) all) none))
