-- The fields of responses.
use Rattle.std.specs.Prelude.{◌≡◌, ◌⊎◌, ◌++◌, Bool, List, [], ◌∷◌, codes, bytes_eq, if◌then◌else◌, Option, Some, None}
use Rattle.std.specs.List.{list_any}
use Rattle.http_header.specs.FieldValue.{FieldValue}
use Rattle.http_header.specs.HeaderMap.{Entries, get}
use Rattle.http1.specs.Fields.{Header}
use Rattle.http_server.specs.Response.{fields_of}
use Rattle.http_server.specs.declared.response.Response.{Response}
use Rattle.graphql_http.specs.Pieces.{Bytes}

abbrev pub is_allowed : List FieldValue → Bytes → Bool
is_allowed origins origin = list_any (λ allowed. bytes_eq allowed.bytes origin) origins

-- a request from an allowed origin is told that it is (Fetch Standard, 3.3 CORS protocol)
abbrev pub allowing_origin : List FieldValue → Option FieldValue → List Header
allowing_origin origins None = []
allowing_origin origins (Some origin) =
    if is_allowed origins origin.bytes then (codes "access-control-allow-origin", origin.bytes) ∷ [] else []

-- each response is kept by no cache, depends on what is accepted and where it is asked, and is what
-- its media type says
abbrev pub always : List Header
always =
    (codes "cache-control", codes "no-store") ∷ (codes "vary", codes "Accept, Origin")
    ∷ (codes "x-content-type-options", codes "nosniff") ∷ []

-- the fields that each response has
abbrev pub begun : List FieldValue → Entries FieldValue → List Header
begun origins headers = always ++ allowing_origin origins (get headers (codes "origin"))

-- the media type of a body
abbrev pub typed : Bytes → List Header
typed kind = (codes "content-type", kind) ∷ []

abbrev pub json : Bytes
json = codes "application/json; charset=utf-8"

abbrev pub html : Bytes
html = codes "text/html; charset=utf-8"

-- the methods that there are, which come with a 405 (RFC 9110, 15.5.6)
abbrev pub with_allow : Option Bytes → List Header → List Header
with_allow None fields = fields
with_allow (Some methods) fields = fields ++ ((codes "allow", methods) ∷ [])

-- the methods by which requests are asked, also for a browser that asks before it sends
abbrev pub with_methods : List Header → List Header
with_methods fields =
    fields ++ ((codes "allow", codes "GET, HEAD, OPTIONS, POST") ∷ [])
    ++ ((codes "access-control-allow-methods", codes "GET, HEAD, POST") ∷ [])
    ++ ((codes "access-control-allow-headers", codes "Content-Type") ∷ [])

-- the connection is to be closed (RFC 9112, 9.6)
abbrev pub closing : List Header
closing = (codes "connection", codes "close") ∷ []

-- memory ran out: a 503 without a body, which asks to close the connection where there is room
pub record TellsWantOfMemory (response : Response) : Type 0 where
  pub status : response.status ≡ 503
  pub fields : (fields_of response ≡ closing) ⊎ (fields_of response ≡ [])
  pub body : response.body.items ≡ []
