-- What a request of HTTP is answered.
use Rattle.std.specs.Prelude.{◌≡◌, ◌⊎◌, ℕ, ◌++◌, List, [], length, nat_lt, unwrap_or}
use Rattle.http.specs.Request.{body_of, head_of}
use Rattle.http.specs.declared.request.Request.{Request}
use Rattle.http_uri.specs.Uri.{uri_query}
use Rattle.http1.specs.Fields.{Header}
use Rattle.http_server.specs.Response.{IsResponse}
use Rattle.http_server.specs.declared.response.Response.{Response}
use Rattle.graphql_http.specs.Fields.{html, json, typed, with_allow, with_methods}
use Rattle.graphql_http.specs.Media as media_type
use Rattle.graphql_http.specs.Pieces.{Bytes}
use Rattle.graphql_http.specs.QueryLine.{AsksNothing, IsLineOf}
use Rattle.graphql_http.specs.Refusals as refusal_of
use Rattle.graphql_http.specs.declared.answering.TheConstants.{HEALTHY}
use Rattle.graphql_http.specs.declared.media.Media.{Media}
use Rattle.graphql_http.specs.declared.page.TheConstants.{PAGE}
use Rattle.graphql_http.specs.declared.refusal.HttpRefusal.{HttpRefusal}
use Rattle.graphql_http.specs.declared.refusal.HttpRefusal.TheVariants.{MutationByGet}
use Rattle.graphql_http.specs.declared.route.Route.{Route}
use Rattle.graphql_http.specs.declared.route.Route.TheVariants.{Body, Query, Page, Health, Options, Refused}

-- the target's query; empty where there is none
abbrev pub query_of : Request Bytes → Bytes
query_of request = unwrap_or (uri_query (head_of request).uri) []

-- behind the fields that it began with, the response tells a refusal
abbrev pub IsTold : List Header → HttpRefusal → Response → Type 0
IsTold begun refusal =
    IsResponse (refusal_of.status refusal) (with_allow (refusal_of.allow refusal) (begun ++ typed json))
    (refusal_of.text refusal)

-- the line that a request asks: its body, or the line of its target's query
abbrev pub Asks : Route → Request Bytes → Bytes → Type 0
Asks (Body media) request line = line ≡ body_of request
Asks (Query media) request line = IsLineOf (query_of request) line
Asks Page request line = ⊥
Asks Health request line = ⊥
Asks Options request line = ⊥
Asks (Refused refusal) request line = ⊥

-- what an engine answers and leaves, which lines ask for a mutation, and how long a line may be
module _ {E : Type 0} (answers : E → Bytes → Bytes → E → Type 0) (breaks : E → Bytes → E → Type 0)
    (mutates : E → Bytes → Type 0) (limit : E → ℕ) where
  -- the response is the answer to the line, as this media type
  pub record IsAnsweredAs (begun : List Header) (media : Media) (old : E) (line : Bytes) (response : Response)
      (new : E) : Type 0 where
    pub text : Bytes
    pub answer : answers old line text new
    pub is : IsResponse (media_type.status media (nat_lt (limit old) (length line)) text)
        (begun ++ typed (media_type.content_type media)) text response

  -- a target's query asks for nothing, for a mutation, or for a line that is answered
  abbrev pub QueryGives : List Header → Media → Bytes → E → Response → E → Type 0
  QueryGives begun media query old response new =
      ((refusal : HttpRefusal) × AsksNothing query refusal × IsTold begun refusal response × (new ≡ old))
      ⊎ (((line : Bytes) × IsLineOf query line × mutates old line × IsTold begun MutationByGet response × (new ≡ old))
      ⊎ ((line : Bytes) × IsLineOf query line × (mutates old line → ⊥) × IsAnsweredAs begun media old line response new))

  abbrev pub RouteGives : List Header → Route → Request Bytes → E → Response → E → Type 0
  RouteGives begun (Body media) request old response new = IsAnsweredAs begun media old (body_of request) response new
  RouteGives begun (Query media) request old response new = QueryGives begun media (query_of request) old response new
  RouteGives begun Page request old response new = IsResponse 200 (begun ++ typed html) PAGE.now response × (new ≡ old)
  RouteGives begun Health request old response new =
      IsResponse 200 (begun ++ typed json) HEALTHY.now response × (new ≡ old)
  RouteGives begun Options request old response new = IsResponse 204 (with_methods begun) [] response × (new ≡ old)
  RouteGives begun (Refused refusal) request old response new = IsTold begun refusal response × (new ≡ old)

  -- memory ran out at the line: before its answer was made, while it was, or after
  abbrev pub MayLeave : E → Bytes → E → Type 0
  MayLeave old line new = (new ≡ old) ⊎ (breaks old line new ⊎ ((text : Bytes) × answers old line text new))

  -- memory ran out at the query: a line that asks for a mutation was not begun
  abbrev pub QueryLeaves : Bytes → E → E → Type 0
  QueryLeaves query old new =
      (new ≡ old) ⊎ ((line : Bytes) × IsLineOf query line × (mutates old line → ⊥) × MayLeave old line new)

  abbrev pub RouteLeaves : Route → Request Bytes → E → E → Type 0
  RouteLeaves (Body media) request old new = MayLeave old (body_of request) new
  RouteLeaves (Query media) request old new = QueryLeaves (query_of request) old new
  RouteLeaves Page request old new = new ≡ old
  RouteLeaves Health request old new = new ≡ old
  RouteLeaves Options request old new = new ≡ old
  RouteLeaves (Refused refusal) request old new = new ≡ old
