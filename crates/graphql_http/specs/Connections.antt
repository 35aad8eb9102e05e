-- What the requests of a connection are given, one after another.
use Rattle.std.specs.Prelude.{◌≡◌, ◌⊎◌, ℕ, true, false}
use Rattle.http.specs.Request.{head_of}
use Rattle.http.specs.declared.request.Request.{Request}
use Rattle.http_server.specs.declared.response.Response.{Response}
use Rattle.graphql_http.specs.Answers.{RouteGives, RouteLeaves}
use Rattle.graphql_http.specs.Fields.{TellsWantOfMemory, begun}
use Rattle.graphql_http.specs.Pieces.{Bytes}
use Rattle.graphql_http.specs.Routes.{route_of}
use Rattle.graphql_http.specs.declared.endpoint.Endpoint.{Endpoint}

module _ {E : Type 0} (answers : E → Bytes → Bytes → E → Type 0) (breaks : E → Bytes → E → Type 0)
    (mutates : E → Bytes → Type 0) (limit : E → ℕ) where
  -- a request is given the response of what it asks for
  pub record IsGiven (old : Endpoint E) (request : Request Bytes) (response : Response) (new : Endpoint E) : Type 0 where
    pub gives : RouteGives answers breaks mutates limit (begun old.origins.items (head_of request).headers)
        (route_of request) request old.engine response new.engine
    pub goes_on : new.is_spent ≡ false

  -- or memory ran out, which is told, and no more requests are answered
  pub record IsBroken (old : Endpoint E) (request : Request Bytes) (response : Response) (new : Endpoint E) : Type 0 where
    pub told : TellsWantOfMemory response
    pub leaves : RouteLeaves answers breaks mutates limit (route_of request) request old.engine new.engine
    pub ends : new.is_spent ≡ true

  pub record EndpointGives (old : Endpoint E) (request : Request Bytes) (response : Response) (new : Endpoint E)
      : Type 0 where
    pub goes_on : old.is_spent ≡ false
    pub same : new.origins ≡ old.origins
    pub gives : IsGiven old request response new ⊎ IsBroken old request response new
