use Rattle.std.proofs.Common.{◌∷◌, [], ◌++◌, ap, ◌∙◌}
use Rattle.std.specs.Prelude.{codes}
use Rattle.http_header.specs.FieldValue.{FieldValue}
use Rattle.http_server.specs.Response.{fields_of}
use Rattle.graphql_http.proofs.answering.tell_health.Goals as goal

pub returns : goal.returns
returns c =
    let begun = fields_of c.args.response.now in record {
      status = c.in_ok-fill.ensures.status;
      headers =
          c.in_ok-fill.ensures.headers
          ∙ ap (λ (value : FieldValue). begun ++ ((codes "content-type", value.bytes) ∷ [])) c.from_static-json.ensures;
      body = c.in_ok-fill.ensures.body;
    }
