-- The media types of answers, and their statuses (GraphQL over HTTP, Responses).
use Rattle.std.specs.Prelude.{ℕ, Bool, true, false, codes, bytes_eq, if◌then◌else◌, nat_eq}
use Rattle.std.specs.List.{starts_with}
use Rattle.graphql_http.specs.Pieces.{Bytes}
use Rattle.graphql_http.specs.declared.media.TheConstants.{HAS_DATA, NO_REQUEST}
use Rattle.graphql_http.specs.declared.media.Media.{Media}
use Rattle.graphql_http.specs.declared.media.Media.TheVariants.{Response, Json}

abbrev pub content_type : Media → Bytes
content_type Response = codes "application/graphql-response+json; charset=utf-8"
content_type Json = codes "application/json; charset=utf-8"

-- the answer has data: an answer's data stand first
abbrev pub has_data : Bytes → Bool
has_data answer = starts_with nat_eq answer HAS_DATA.now

-- the answer to what is no request
abbrev pub is_no_request : Bytes → Bool
is_no_request answer = bytes_eq answer NO_REQUEST.now

-- the status of an answer to a line that is not too long. As `application/graphql-response+json`
-- it is 200 where there are data; as `application/json` wherever the request is well formed
abbrev pub status_of : Media → Bytes → ℕ
status_of Response answer = if has_data answer then 200 else 400
status_of Json answer = if is_no_request answer then 400 else 200

-- the status of an answer, whose line is too long or not
abbrev pub status : Media → Bool → Bytes → ℕ
status media true answer = 413
status media false answer = status_of media answer
