use Rattle.std.proofs.Common.{◌∷◌, [], ◌++◌, ap, ◌∙◌, rules}
use Rattle.std.specs.Prelude.{codes}
use Rattle.http_header.specs.FieldValue.{FieldValue}
use Rattle.http_server.specs.Response.{fields_of}
use Rattle.graphql_http.specs.Fields.{with_allow}
use Rattle.graphql_http.specs.Refusals as refusal_of
use Rattle.graphql_http.proofs.fields.refuse.Goals as goal

pub returns : goal.returns
returns c =
    let begun = fields_of c.args.response.now in record {
      status = c.in_ok-add_allow.ensures.status ∙ (c.in_ok-fill.ensures.status ∙ search rules);
      headers =
          c.in_ok-add_allow.ensures.fields
          ∙ ap (λ fields. with_allow (refusal_of.allow c.args.refusal) fields)
          (c.in_ok-fill.ensures.headers
          ∙ ap (λ (value : FieldValue). begun ++ ((codes "content-type", value.bytes) ∷ [])) c.from_static-json.ensures);
      body = c.in_ok-add_allow.ensures.body ∙ (c.in_ok-fill.ensures.body ∙ search rules);
    }
