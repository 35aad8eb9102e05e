-- The texts that are written are the JSON of the values that are answered.
use Rattle.std.proofs.Common.{◌≡◌, ◌==◌, ◌+◌, ℕ, pos, true, false, List, [], ◌∷◌, ◌++◌, map, length, get_or, codes, refl, sym, ap, ap₂, ◌∙◌, append_assoc, append-nil}
use Rattle.std.specs.Fmt.{decimal}
use Rattle.std.specs.List.{All}
use Rattle.std.proofs.lemmas.List.Elements.{All-head, All-tail}
use Rattle.std.proofs.lemmas.Simd.{map-map}
use Rattle.graphql_text.specs.declared.position.SourcePosition.{SourcePosition}
use Rattle.graphql_names.specs.Names.{Bytes}
use Rattle.graphql_scalars.specs.ScalarAnswers.{ScalarAnswer, integer, boolean, text, as_int, as_bool, as_text}
use Rattle.graphql_output_values.specs.Objects.{Pair}
use Rattle.graphql_output_values.specs.ValueEquations.{fold_null, fold_scalar, fold_list, fold_object}
use Rattle.graphql_output_values.specs.ValueInduction.{value_ind, HoldsOfItems, HoldsOfFields}
use Rattle.graphql_output_values.specs.Values.{map_scalars, map_field}
use Rattle.graphql_output_values.specs.declared.object.Object.{Object}
use Rattle.graphql_output_values.specs.declared.value.Value.{Value, fold-Value}
use Rattle.graphql_output_values.specs.declared.value.Value.TheOpen.{Value-F, Object-F}
use Rattle.graphql_output_values.specs.declared.value.Value.TheVariants as value
use Rattle.graphql_output_values.proofs.MapLemmas.{map_scalars-null, map_scalars-scalar, map_scalars-list, map_scalars-object}
use Rattle.graphql_field_results.specs.declared.execution_error.ExecutionError.{ExecutionError}
use Rattle.graphql_rule_errors.specs.declared.rule_error.RuleError.{RuleError}
use Rattle.graphql_json.specs.Json.{joined, json_text, member_json, int_or, bool_or, json_text_or_null, json, json_layer, fields_layer}
use Rattle.graphql_json.proofs.JsonSteps.{object_is}
use Rattle.graphql_answers.specs.Lines.{answer_json}
use Rattle.graphql_answers.specs.Responses.{plain_answer_of, object_of, text_value, number_of, location_of, locations_of, extensions_layer, extensions_by, extensions_of, field_error_of, request_error_of, errors_of, response_of, refusal_response}
use Rattle.graphql_answers.specs.Texts.{plain_answer_text, location_text, locations_text, extensions_text_layer, extensions_text, field_error_text, errors_text, response_text, request_error_text, refusal_text}

same_texts : {A : Type 0} (f g : A → Bytes) → ((x : A) → f x ≡ g x) → (xs : List A) → map f xs ≡ map g xs
same_texts f g same [] = refl
same_texts f g same (x ∷ xs) = ap₂ (λ y ys. y ∷ ys) (same x) (same_texts f g same xs)

-- of items that have one text each, the texts
same_each : {A : Type 0} (f g : A → Bytes) (xs : List A) → All (λ x. f x ≡ g x) xs → map f xs ≡ map g xs
same_each f g [] same = refl
same_each f g (x ∷ xs) same = ap₂ (λ y ys. y ∷ ys) (All-head (λ x. f x ≡ g x) x xs same) (same_each f g xs (All-tail (λ x. f x ≡ g x) x xs same))

pub some_locations : (places : List SourcePosition) → (length places == 0) ≡ false → codes ",\"locations\":[" ++ (joined [] (map location_text places) ++ codes "]") ≡ locations_text places
some_locations [] e = cc
some_locations (place ∷ places) e = refl

module _ {S : Type 0} (answer : S → ScalarAnswer) where
  pub some_errors : (errors : List (ExecutionError S)) → (length errors == 0) ≡ false → codes ",\"errors\":[" ++ (joined [] (map (field_error_text answer) errors) ++ codes "]") ≡ errors_text answer errors
  some_errors [] e = cc
  some_errors (error ∷ errors) e = refl

  -- what is told beside an error, by the value that tells whether it is null
  abbrev told_by : Value S → Value S → Bytes
  told_by beside = fold-Value S Bytes Bytes (extensions_text_layer answer beside) (λ o. [])

  told_some : (beside v : Value S) → (v ≡ value.Null → ⊥) → codes ",\"extensions\":" ++ json answer beside ≡ told_by beside v
  told_some beside = value_ind (λ v. (v ≡ value.Null → ⊥) → codes ",\"extensions\":" ++ json answer beside ≡ told_by beside v)
      (λ h. absurd (h refl))
      (λ s h. sym (fold_scalar (extensions_text_layer answer beside) (λ o. []) s))
      (λ xs is h. sym (fold_list (extensions_text_layer answer beside) (λ o. []) xs))
      (λ o is h. sym (fold_object (extensions_text_layer answer beside) (λ o. []) o))

  pub some_extensions : (beside : Value S) → (beside ≡ value.Null → ⊥) → codes ",\"extensions\":" ++ json answer beside ≡ extensions_text answer beside
  some_extensions beside h = told_some beside beside h

  pub no_extensions : (beside : Value S) → beside ≡ value.Null → extensions_text answer beside ≡ []
  no_extensions beside e = ap (told_by beside) e ∙ fold_null (extensions_text_layer answer beside) (λ o. [])

-- scalars that are answers
abbrev as_told : ScalarAnswer → ScalarAnswer
as_told scalar = scalar

abbrev layer : Value-F ScalarAnswer Bytes Bytes → Bytes
layer = json_layer as_told

abbrev members : Object-F ScalarAnswer Bytes Bytes → Bytes
members = fields_layer as_told

-- the JSON of a field
abbrev member : Pair (Value ScalarAnswer) → Bytes
member p = member_json (p.0, answer_json p.1)

of_fields : (fields : List (Pair (Value ScalarAnswer))) → answer_json (object_of fields) ≡ 123 ∷ joined [] (map member fields) ++ 125 ∷ []
of_fields fields = fold_object layer members (record { fields = fields }) ∙ object_is as_told (record { fields = fields })

-- a list of values, by the texts of what they are made of
of_list : {A : Type 0} (f : A → Value ScalarAnswer) (g : A → Bytes) → ((x : A) → answer_json (f x) ≡ g x) → (xs : List A) → answer_json (value.List (map f xs)) ≡ 91 ∷ joined [] (map g xs) ++ 93 ∷ []
of_list f g same xs =
    fold_list layer members (map f xs)
    ∙ ap (λ ts. 91 ∷ joined [] ts ++ 93 ∷ []) (map-map answer_json f xs ∙ same_texts (λ x. answer_json (f x)) g same xs)

of_text_value : (t : Bytes) → answer_json (text_value t) ≡ json_text t
of_text_value t = fold_scalar layer members (text t)

of_number : (n : ℕ) → answer_json (number_of n) ≡ decimal n
of_number n = fold_scalar layer members (integer (pos n))

-- an object of two fields
two_fields : (l c : Bytes) → 123 ∷ (member_json (codes "line", l) ++ (codes "," ++ member_json (codes "column", c) ++ [])) ++ 125 ∷ []
    ≡ codes "{\"line\":" ++ (l ++ (codes ",\"column\":" ++ (c ++ codes "}")))
two_fields l c =
    ap (λ z. codes "{\"line\":" ++ z)
    (append_assoc l (codes ",\"column\":" ++ (c ++ [])) (125 ∷ []) ∙ ap (λ z. l ++ (codes ",\"column\":" ++ (z ++ 125 ∷ []))) (append-nil c))

of_location : (p : SourcePosition) → answer_json (location_of p) ≡ location_text p
of_location p =
    of_fields ((codes "line", number_of (p.line + 1)) ∷ (codes "column", number_of (p.column + 1)) ∷ [])
    ∙ ap₂ (λ l c. 123 ∷ (member_json (codes "line", l) ++ (codes "," ++ member_json (codes "column", c) ++ [])) ++ 125 ∷ []) (of_number (p.line + 1)) (of_number (p.column + 1))
    ∙ two_fields (decimal (p.line + 1)) (decimal (p.column + 1))

of_locations : (places : List SourcePosition) → joined (codes ",") (map member (locations_of places)) ≡ locations_text places
of_locations [] = refl
of_locations (place ∷ places) =
    ap (λ t. codes "," ++ member_json (codes "locations", t) ++ []) (of_list location_of location_text of_location (place ∷ places))
    ∙ ap (λ z. codes ",\"locations\":[" ++ z) (append-nil (joined [] (map location_text (place ∷ places)) ++ 93 ∷ []))

of_request_error : (e : RuleError) → answer_json (request_error_of e) ≡ request_error_text e
of_request_error e =
    of_fields ((codes "message", text_value e.message) ∷ locations_of e.locations)
    ∙ ap₂ (λ m l. 123 ∷ (member_json (codes "message", m) ++ l) ++ 125 ∷ []) (of_text_value e.message) (of_locations e.locations)
    ∙ ap (λ z. codes "{\"message\":" ++ z) (append_assoc (json_text e.message) (locations_text e.locations) (125 ∷ []))

pub of_refusal : (errors : List RuleError) → answer_json (refusal_response errors) ≡ refusal_text errors
of_refusal errors =
    let texts = joined [] (map request_error_text errors) in
    of_fields ((codes "errors", value.List (map request_error_of errors)) ∷ [])
    ∙ ap (λ t. 123 ∷ (member_json (codes "errors", t) ++ []) ++ 125 ∷ []) (of_list request_error_of request_error_text of_request_error errors)
    ∙ ap (λ z. codes "{\"errors\":[" ++ z) (ap (λ z. z ++ 125 ∷ []) (append-nil (texts ++ 93 ∷ [])) ∙ append_assoc texts (93 ∷ []) (125 ∷ []))

pub of_plain_answer : (plain : Bytes) → answer_json (plain_answer_of plain) ≡ plain_answer_text plain
of_plain_answer plain =
    of_fields ((codes "plain", text_value plain) ∷ [])
    ∙ ap (λ t. 123 ∷ (member_json (codes "plain", t) ++ []) ++ 125 ∷ []) (of_text_value plain)
    ∙ ap (λ z. codes "{\"plain\":" ++ z) (ap (λ z. z ++ 125 ∷ []) (append-nil (json_text plain)))

-- the object of an error, of whose fields the texts stand
error_fields : (m l p e : Bytes)
    → 123 ∷ (member_json (codes "message", m) ++ (codes "," ++ member_json (codes "locations", 91 ∷ (l ++ []) ++ 93 ∷ []) ++ (codes "," ++ member_json (codes "path", 91 ∷ p ++ 93 ∷ []) ++ e))) ++ 125 ∷ []
    ≡ codes "{\"message\":" ++ (m ++ ((codes ",\"locations\":[" ++ (l ++ (codes "],\"path\":[" ++ (p ++ codes "]")))) ++ (e ++ codes "}")))
error_fields m l p e =
    let path = codes ",\"path\":[" ++ ((p ++ 93 ∷ []) ++ e) in
    let places = codes ",\"locations\":[" ++ (((l ++ []) ++ 93 ∷ []) ++ path) in
    let places_whole : (((l ++ []) ++ 93 ∷ []) ++ path) ++ 125 ∷ [] ≡ (l ++ (codes "],\"path\":[" ++ (p ++ codes "]"))) ++ (e ++ codes "}") =
    ap (λ z. ((z ++ 93 ∷ []) ++ path) ++ 125 ∷ []) (append-nil l)
    ∙ append_assoc (l ++ 93 ∷ []) path (125 ∷ [])
    ∙ append_assoc l (93 ∷ []) (path ++ 125 ∷ [])
    ∙ ap (λ z. l ++ (codes "],\"path\":[" ++ z)) (append_assoc (p ++ 93 ∷ []) e (125 ∷ []))
    ∙ sym (append_assoc l (codes "],\"path\":[" ++ (p ++ codes "]")) (e ++ codes "}")) in
    ap (λ z. codes "{\"message\":" ++ z)
    (append_assoc m places (125 ∷ []) ∙ ap (λ z. m ++ (codes ",\"locations\":[" ++ z)) places_whole)

module _ {S : Type 0} (answer : S → ScalarAnswer) where
  same_scalar : (a : ScalarAnswer)
      → int_or as_told (as_int a) (bool_or as_told (as_bool a) (json_text_or_null as_told (as_text a)))
      ≡ int_or answer (as_int a) (bool_or answer (as_bool a) (json_text_or_null answer (as_text a)))
  same_scalar (integer n) = refl
  same_scalar (boolean true) = refl
  same_scalar (boolean false) = refl
  same_scalar (text t) = refl

  abbrev IsSame : Value S → Type 0
  IsSame v = answer_json (map_scalars answer v) ≡ json answer v

  same_list : (xs : List (Value S)) → HoldsOfItems IsSame xs → IsSame (value.List xs)
  same_list xs are =
      ap answer_json (map_scalars-list answer xs)
      ∙ fold_list layer members (map (map_scalars answer) xs)
      ∙ ap (λ ts. 91 ∷ joined [] ts ++ 93 ∷ []) (map-map answer_json (map_scalars answer) xs ∙ same_each (λ v. answer_json (map_scalars answer v)) (json answer) xs are)
      ∙ sym (fold_list (json_layer answer) (fields_layer answer) xs)

  same_object : (o : Object S) → HoldsOfFields IsSame o.fields → IsSame (value.Object o)
  same_object o are =
      ap answer_json (map_scalars-object answer o)
      ∙ of_fields (map (map_field answer) o.fields)
      ∙ ap (λ ts. 123 ∷ joined [] ts ++ 125 ∷ [])
      (map-map member (map_field answer) o.fields
      ∙ same_each (λ (p : Pair (Value S)). member (map_field answer p)) (λ p. member_json (p.0, json answer p.1)) o.fields
      (λ k d h. ap (λ t. member_json ((get_or o.fields k d).0, t)) (are k d h)))
      ∙ sym (fold_object (json_layer answer) (fields_layer answer) o ∙ object_is answer o)

  -- a value and the same value with its scalars' answers have one JSON
  same_json : (v : Value S) → IsSame v
  same_json = value_ind IsSame
      (ap answer_json (map_scalars-null answer) ∙ fold_null layer members ∙ sym (fold_null (json_layer answer) (fields_layer answer)))
      (λ s. ap answer_json (map_scalars-scalar answer s) ∙ fold_scalar layer members (answer s) ∙ same_scalar (answer s) ∙ sym (fold_scalar (json_layer answer) (fields_layer answer) s))
      same_list
      same_object

  of_beside : (beside v : Value S) → joined (codes ",") (map member (extensions_by (map_scalars answer beside) v)) ≡ told_by answer beside v
  of_beside beside =
      let told = map_scalars answer beside in
      let fields = extensions_layer told in
      let texts = extensions_text_layer answer beside in
      let some : codes "," ++ member (codes "extensions", told) ++ [] ≡ codes ",\"extensions\":" ++ json answer beside
      = ap (λ z. codes ",\"extensions\":" ++ z) (append-nil (answer_json told) ∙ same_json beside) in
      value_ind (λ v. joined (codes ",") (map member (extensions_by told v)) ≡ told_by answer beside v)
      (ap (λ fs. joined (codes ",") (map member fs)) (fold_null fields (λ o. [])) ∙ sym (fold_null texts (λ o. [])))
      (λ s. ap (λ fs. joined (codes ",") (map member fs)) (fold_scalar fields (λ o. []) s) ∙ some ∙ sym (fold_scalar texts (λ o. []) s))
      (λ xs is. ap (λ fs. joined (codes ",") (map member fs)) (fold_list fields (λ o. []) xs) ∙ some ∙ sym (fold_list texts (λ o. []) xs))
      (λ o is. ap (λ fs. joined (codes ",") (map member fs)) (fold_object fields (λ o. []) o) ∙ some ∙ sym (fold_object texts (λ o. []) o))

  of_field_error : (e : ExecutionError S) → answer_json (field_error_of answer e) ≡ field_error_text answer e
  of_field_error e =
      let m = text_value e.error.message in
      let l = value.List (map location_of (e.location ∷ [])) in
      let p = value.List (map text_value e.path) in
      of_fields ((codes "message", m) ∷ (codes "locations", l) ∷ (codes "path", p) ∷ extensions_of answer e.error.extensions)
      ∙ ap₂ (λ m r. 123 ∷ (member_json (codes "message", m) ++ r) ++ 125 ∷ []) (of_text_value e.error.message)
      (ap₂ (λ l r. codes "," ++ member_json (codes "locations", l) ++ r) (of_list location_of location_text of_location (e.location ∷ []))
      (ap₂ (λ p r. codes "," ++ member_json (codes "path", p) ++ r) (of_list text_value json_text of_text_value e.path) (of_beside e.error.extensions e.error.extensions)))
      ∙ error_fields (json_text e.error.message) (location_text e.location) (joined [] (map json_text e.path)) (extensions_text answer e.error.extensions)

  of_errors : (errors : List (ExecutionError S)) → joined (codes ",") (map member (errors_of answer errors)) ≡ errors_text answer errors
  of_errors [] = refl
  of_errors (e ∷ es) =
      ap (λ t. codes "," ++ member_json (codes "errors", t) ++ []) (of_list (field_error_of answer) (field_error_text answer) of_field_error (e ∷ es))
      ∙ ap (λ z. codes ",\"errors\":[" ++ z) (append-nil (joined [] (map (field_error_text answer) (e ∷ es)) ++ 93 ∷ []))

  pub of_response : (answered : Value S) (errors : List (ExecutionError S)) → answer_json (response_of answer answered errors) ≡ response_text answer answered errors
  of_response answered errors =
      of_fields ((codes "data", map_scalars answer answered) ∷ errors_of answer errors)
      ∙ ap₂ (λ d r. 123 ∷ (member_json (codes "data", d) ++ r) ++ 125 ∷ []) (same_json answered) (of_errors errors)
      ∙ ap (λ z. codes "{\"data\":" ++ z) (append_assoc (json answer answered) (errors_text answer errors) (125 ∷ []))
