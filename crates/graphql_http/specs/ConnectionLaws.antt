-- What a connection's requests do to the engine, one after another.
use Rattle.std.specs.Prelude.{◌≡◌, ◌⊎◌, ℕ, List, [], ◌∷◌, ◌++◌, codes, bytes_eq, true, false}
use Rattle.http.specs.Request.{head_of}
use Rattle.http.specs.declared.request.Request.{Request}
use Rattle.http_server.specs.Exchange.{Call, Chain}
use Rattle.http_server.specs.declared.response.Response.{Response}
use Rattle.graphql_http.specs.Answers.{Asks, RouteLeaves}
use Rattle.graphql_http.specs.Connections.{EndpointGives}
use Rattle.graphql_http.specs.Fields.{TellsWantOfMemory}
use Rattle.graphql_http.specs.Pieces.{Bytes}
use Rattle.graphql_http.specs.Routes.{route_of}
use Rattle.graphql_http.specs.declared.endpoint.Endpoint.{Endpoint}

module _ {E : Type 0} (answers : E → Bytes → Bytes → E → Type 0) (breaks : E → Bytes → E → Type 0)
    (mutates : E → Bytes → Type 0) (limit : E → ℕ) where
  -- the request asks this line, and its response's body is this answer to it
  pub record AnswersLine (old : E) (call : Call) (line text : Bytes) (new : E) : Type 0 where
    pub asks : Asks (route_of call.0) call.0 line
    pub answer : answers old line text new
    pub body : call.1.body.items ≡ text

  -- the calls lead from one state of the engine to the other by these lines and their answers, in
  -- order; every other call leaves it as it is
  abbrev pub Follows : E → List Call → List (Bytes × Bytes) → E → Type 0
  Follows old [] lines new = (lines ≡ []) × (new ≡ old)
  Follows old (call ∷ calls) lines new =
      Follows old calls lines new
      ⊎ ((line : Bytes) × (text : Bytes) × (others : List (Bytes × Bytes)) × (next : E)
      × AnswersLine old call line text next × (lines ≡ (line, text) ∷ others) × Follows next calls others new)

  -- memory lasted
  pub record GoesOn (old : Endpoint E) (calls : List Call) (new : Endpoint E) : Type 0 where
    pub lines : List (Bytes × Bytes)
    pub follows : Follows old.engine calls lines new.engine
    pub unspent : new.is_spent ≡ false

  -- memory ran out at the last request, which is told so
  pub record Ends (old : Endpoint E) (calls : List Call) (new : Endpoint E) : Type 0 where
    pub front : List Call
    pub last : Call
    pub is : calls ≡ front ++ last ∷ []
    pub lines : List (Bytes × Bytes)
    pub between : E
    pub follows : Follows old.engine front lines between
    pub told : TellsWantOfMemory last.1
    pub leaves : RouteLeaves answers breaks mutates limit (route_of last.0) last.0 between new.engine
    pub spent : new.is_spent ≡ true

  -- over a connection the engine is asked the lines that the requests ask, in order, and nothing
  -- else, each on what the lines before it left; where memory runs out no request comes after
  abbrev pub CallsAreLines : Type 0
  CallsAreLines =
      (old new : Endpoint E) (calls : List Call) → old.is_spent ≡ false
      → Chain (EndpointGives answers breaks mutates limit) old calls new
      → GoesOn old calls new ⊎ Ends old calls new

  -- no request but one by POST changes the context
  abbrev pub OnlyPostChanges : {C : Type 0} → (E → C) → Type 0
  OnlyPostChanges context =
      (old new : Endpoint E) (request : Request Bytes) (response : Response)
      → bytes_eq (head_of request).method (codes "POST") ≡ false
      → EndpointGives answers breaks mutates limit old request response new
      → context new.engine ≡ context old.engine
