-- The responses to requests that are not asked (RFC 9110, 15.5; GraphQL over HTTP).
use Rattle.std.specs.Prelude.{ℕ, codes, Option, Some, None}
use Rattle.graphql_http.specs.Pieces.{Bytes}
use Rattle.graphql_http.specs.declared.refusal.HttpRefusal.{HttpRefusal}
use Rattle.graphql_http.specs.declared.refusal.HttpRefusal.TheVariants.{
  UnknownPath,
  OnlyRead,
  UnknownMethod,
  MutationByGet,
  NotAcceptable,
  NotJson,
  NoQuery,
  BadVariables,
  BadExtensions,
}

abbrev pub status : HttpRefusal → ℕ
status UnknownPath = 404
status OnlyRead = 405
status UnknownMethod = 405
status MutationByGet = 405
status NotAcceptable = 406
status NotJson = 415
status NoQuery = 400
status BadVariables = 400
status BadExtensions = 400

abbrev pub text : HttpRefusal → Bytes
text UnknownPath = codes "{\"errors\":[{\"message\":\"There is nothing at this path\"}]}\n"
text OnlyRead = codes "{\"errors\":[{\"message\":\"This path takes GET and HEAD\"}]}\n"
text UnknownMethod = codes "{\"errors\":[{\"message\":\"Requests are asked by POST or GET\"}]}\n"
text MutationByGet = codes "{\"errors\":[{\"message\":\"A mutation is asked by POST\"}]}\n"
text NotAcceptable = codes "{\"errors\":[{\"message\":\"No media type of answers is accepted\"}]}\n"
text NotJson = codes "{\"errors\":[{\"message\":\"The body is not application/json in UTF-8\"}]}\n"
text NoQuery = codes "{\"errors\":[{\"message\":\"The parameter query is missing\"}]}\n"
text BadVariables = codes "{\"errors\":[{\"message\":\"The parameter variables is not JSON\"}]}\n"
text BadExtensions = codes "{\"errors\":[{\"message\":\"The parameter extensions is not JSON\"}]}\n"

-- the methods that there are, which come with a 405
abbrev pub allow : HttpRefusal → Option Bytes
allow UnknownPath = None
allow OnlyRead = Some (codes "GET, HEAD")
allow UnknownMethod = Some (codes "GET, HEAD, OPTIONS, POST")
allow MutationByGet = Some (codes "POST")
allow NotAcceptable = None
allow NotJson = None
allow NoQuery = None
allow BadVariables = None
allow BadExtensions = None
