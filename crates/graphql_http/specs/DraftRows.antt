-- Rows of RFC 9110 and of GraphQL over HTTP at which the definitions are computed.
use Rattle.std.specs.Prelude.{◌≡◌, true, false, [], ◌∷◌, codes, Option, Some, None}
use Rattle.http_header.specs.FieldValue.{plain_value}
use Rattle.graphql_http.specs.Accept.{accepted}
use Rattle.graphql_http.specs.ContentType.{is_json}
use Rattle.graphql_http.specs.Media.{status}
use Rattle.graphql_http.specs.Pieces.{Bytes}
use Rattle.graphql_http.specs.Weights.{weight_of}
use Rattle.graphql_http.specs.declared.media.Media.{Media}
use Rattle.graphql_http.specs.declared.media.Media.TheVariants.{Json, Response}

-- the media type of an answer to a request with this `Accept`
abbrev pub Accepts : Bytes → Option Media → Type 0
Accepts value media = accepted (plain_value value ∷ []) ≡ media

pub record AcceptRows : Type 0 where
  pub any : Accepts (codes "*/*") (Some Json)
  pub any_application : Accepts (codes "application/*") (Some Json)
  pub json : Accepts (codes "application/json; charset=utf-8") (Some Json)
  pub response : Accepts (codes "Application/GraphQL-Response+JSON") (Some Response)
  pub of_clients : Accepts (codes "application/graphql-response+json, application/json;q=0.9") (Some Response)
  pub equal : Accepts (codes "application/json, application/graphql-response+json") (Some Response)
  pub lighter : Accepts (codes "application/graphql-response+json; q=0.5, application/json") (Some Json)
  pub nearest : Accepts (codes "application/json;q=0, */*;q=0.1") (Some Response)
  pub of_browsers : Accepts (codes "text/html,application/xml;q=0.9,*/*;q=0.8") (Some Json)
  pub html : Accepts (codes "text/html") None
  pub nothing : Accepts (codes "*/*;q=0") None
  pub quoted : Accepts (codes "text/html;level=\"1,application/json\"") None

pub record WeightRows : Type 0 where
  pub one : weight_of (codes "1.000") ≡ 1000
  pub half : weight_of (codes "0.5") ≡ 500
  pub third : weight_of (codes "0.333") ≡ 333
  pub zero : weight_of (codes "0") ≡ 0

pub record ContentRows : Type 0 where
  pub json : is_json (codes "application/json") ≡ true
  pub utf8 : is_json (codes "application/json; charset=utf-8") ≡ true
  pub quoted : is_json (codes "APPLICATION/JSON ;Charset=\"UTF-8\"") ≡ true
  pub latin : is_json (codes "application/json;charset=iso-8859-1") ≡ false
  pub plain : is_json (codes "text/plain") ≡ false
  pub form : is_json (codes "application/x-www-form-urlencoded") ≡ false

-- an answer with data; one that was refused by a rule; and a line that is no request
pub record StatusRows : Type 0 where
  pub with_data : status Response false (codes "{\"data\":{\"hero\":null}}\n") ≡ 200
  pub null_data : status Response false (codes "{\"data\":null,\"errors\":[]}\n") ≡ 200
  pub refused : status Response false (codes "{\"errors\":[{\"message\":\"No mutation type\"}]}\n") ≡ 400
  pub no_request : status Response false (codes "{\"errors\":[{\"message\":\"Line is not a request\"}]}\n") ≡ 400
  pub json_data : status Json false (codes "{\"data\":{\"hero\":null}}\n") ≡ 200
  pub json_refused : status Json false (codes "{\"errors\":[{\"message\":\"No mutation type\"}]}\n") ≡ 200
  pub json_no_request : status Json false (codes "{\"errors\":[{\"message\":\"Line is not a request\"}]}\n") ≡ 400
  pub too_long : status Json true (codes "{\"errors\":[{\"message\":\"Line is longer than 9 bytes\"}]}\n") ≡ 413
