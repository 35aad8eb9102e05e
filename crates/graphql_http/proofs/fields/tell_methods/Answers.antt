use Rattle.std.proofs.Common.{◌≡◌, ℕ, List, ◌∷◌, [], ◌++◌, ap, ◌∙◌, refl, rules}
use Rattle.http1.specs.Fields.{Header}
use Rattle.http_header.specs.FieldValue.{FieldValue, plain_value}
use Rattle.graphql_http.proofs.fields.tell_methods.Goals as goal

-- one more field, whose value is known
pushed : (before old new : List Header) (name : List ℕ) (value : FieldValue) (bytes : List ℕ)
    → new ≡ old ++ ((name, value.bytes) ∷ []) → value ≡ plain_value bytes → old ≡ before
    → new ≡ before ++ ((name, bytes) ∷ [])
pushed before old new name value bytes more is same =
    more ∙ (ap (λ (v : FieldValue). old ++ ((name, v.bytes) ∷ [])) is ∙ ap (λ fields. fields ++ ((name, bytes) ∷ [])) same)

pub returns : goal.returns
returns c = record {
  status = search rules;
  headers =
      pushed _ _ _ _ _ _ c.in_ok-add_header-3.ensures.headers c.from_static-sent.ensures
      (pushed _ _ _ _ _ _ c.in_ok-add_header-2.ensures.headers c.from_static-asked.ensures
      (pushed _ _ _ _ _ _ c.in_ok-add_header.ensures.headers c.from_static-allowed.ensures refl));
  body = search rules;
}
