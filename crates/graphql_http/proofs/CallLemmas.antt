-- What the calls of a connection do to the engine.
use Rattle.std.proofs.Common.{◌≡◌, ◌≢◌, ◌⊎◌, ℕ, Bool, true, false, true≢false, cond, List, [], ◌∷◌, refl, sym, ap, ◌∙◌, subst, inl, inr, ⊎_elim}
use Rattle.std.specs.Prelude.{codes, bytes_eq, ⊤, Option, Some, None}
use Rattle.http.specs.Request.{body_of, head_of}
use Rattle.http.specs.declared.request.Request.{Request}
use Rattle.http1.specs.Fields.{Header}
use Rattle.http_header.specs.FieldValue.{FieldValue}
use Rattle.http_header.specs.HeaderMap.{Entries, get_all}
use Rattle.http_server.specs.Exchange.{Call, Chain}
use Rattle.http_server.specs.declared.response.Response.{Response}
use Rattle.http_uri.specs.Uri.{uri_path}
use Rattle.graphql_http.specs.Accept.{accepted}
use Rattle.graphql_http.specs.Answers.{Asks, MayLeave, RouteGives, RouteLeaves}
use Rattle.graphql_http.specs.ConnectionLaws.{CallsAreLines, Ends, Follows, GoesOn, OnlyPostChanges}
use Rattle.graphql_http.specs.Connections.{EndpointGives, IsBroken, IsGiven}
use Rattle.graphql_http.specs.Fields.{begun}
use Rattle.graphql_http.specs.Pieces.{Bytes}
use Rattle.graphql_http.specs.Routes.{is_read, route_of, route_of_get, route_of_requests}
use Rattle.graphql_http.specs.declared.endpoint.Endpoint.{Endpoint}
use Rattle.graphql_http.specs.declared.media.Media.{Media}
use Rattle.graphql_http.specs.declared.refusal.HttpRefusal.TheVariants.{UnknownMethod, OnlyRead}
use Rattle.graphql_http.specs.declared.route.Route.{Route}
use Rattle.graphql_http.specs.declared.route.Route.TheVariants.{Body, Query, Page, Health, Options, Refused}

-- ---- which requests have a body that is asked

abbrev NotBody : Route → Type 0
NotBody (Body media) = ⊥
NotBody (Query media) = ⊤
NotBody Page = ⊤
NotBody Health = ⊤
NotBody Options = ⊤
NotBody (Refused refusal) = ⊤

either_is : (b : Bool) (x y : Route) → NotBody x → NotBody y → NotBody (cond b x y)
either_is true x y first second = first
either_is false x y first second = second

get_is_not : (accepted : Option Media) → NotBody (route_of_get accepted)
get_is_not None = tt
get_is_not (Some media) = tt

requests_are_not : (method : Bytes) (headers : Entries FieldValue) → bytes_eq method (codes "POST") ≡ false
    → NotBody (route_of_requests method headers)
requests_are_not method headers other =
    rw other
    (either_is (is_read method) _ _ (get_is_not (accepted (get_all headers (codes "accept"))))
    (either_is (bytes_eq method (codes "OPTIONS")) Options (Refused UnknownMethod) tt tt))

only_post_has_body : (request : Request Bytes) → bytes_eq (head_of request).method (codes "POST") ≡ false
    → NotBody (route_of request)
only_post_has_body request other =
    let path = uri_path (head_of request).uri in
    either_is (bytes_eq path (codes "/graphql")) _ _ (requests_are_not (head_of request).method (head_of request).headers other)
    (either_is (bytes_eq path (codes "/")) _ _ (either_is (is_read (head_of request).method) Page (Refused OnlyRead) tt tt)
    (either_is (bytes_eq path (codes "/health")) _ _ (either_is (is_read (head_of request).method) Health (Refused OnlyRead) tt tt) tt))

module _ {E : Type 0} (answers : E → Bytes → Bytes → E → Type 0) (breaks : E → Bytes → E → Type 0)
    (mutates : E → Bytes → Type 0) (limit : E → ℕ) where
  -- ---- the lines that are asked

  abbrev Step : Route → E → Call → E → Type 0
  Step route old call new =
      ((line : Bytes) × (text : Bytes) × Asks route call.0 line × answers old line text new × (call.1.body.items ≡ text))
      ⊎ (new ≡ old)

  step_of : (begun : List Header) (route : Route) (old : E) (call : Call) (new : E)
      → RouteGives answers breaks mutates limit begun route call.0 old call.1 new → Step route old call new
  step_of begun (Body media) old call new given = inl (body_of call.0, given.text, refl, given.answer, given.is.body)
  step_of begun (Query media) old call new (inl none) = inr none.3
  step_of begun (Query media) old call new (inr (inl mutation)) = inr mutation.4
  step_of begun (Query media) old call new (inr (inr line)) =
      inl (line.0, line.3.text, line.1, line.3.answer, line.3.is.body)
  step_of begun Page old call new given = inr given.1
  step_of begun Health old call new given = inr given.1
  step_of begun Options old call new given = inr given.1
  step_of begun (Refused refusal) old call new given = inr given.1

  -- a call and what follows it
  followed : (old : E) (call : Call) (next : E) (calls : List Call) (lines : List (Bytes × Bytes)) (new : E)
      → Step (route_of call.0) old call next → Follows answers breaks mutates limit next calls lines new
      → (all : List (Bytes × Bytes)) × Follows answers breaks mutates limit old (call ∷ calls) all new
  followed old call next calls lines new (inl asked) follows = (
    (asked.0, asked.1) ∷ lines,
    inr (asked.0, asked.1, lines, next, record { asks = asked.2; answer = asked.3; body = asked.4 }, refl, follows),
  )
  followed old call next calls lines new (inr same) follows =
      (lines, inl (subst (λ s. Follows answers breaks mutates limit s calls lines new) same follows))

  abbrev Outcome : Endpoint E → List Call → Endpoint E → Type 0
  Outcome old calls new =
      GoesOn answers breaks mutates limit old calls new ⊎ Ends answers breaks mutates limit old calls new

  after_given : (old : Endpoint E) (call : Call) (next : Endpoint E) (calls : List Call) (new : Endpoint E)
      → IsGiven answers breaks mutates limit old call.0 call.1 next → Outcome next calls new → Outcome old (call ∷ calls) new
  after_given old call next calls new given (inl rest) =
      let step = step_of (begun old.origins.items (head_of call.0).headers) (route_of call.0) old.engine call next.engine given.gives in
      let all = followed old.engine call next.engine calls rest.lines new.engine step rest.follows in
      inl (record { lines = all.0; follows = all.1; unspent = rest.unspent })
  after_given old call next calls new given (inr rest) =
      let step = step_of (begun old.origins.items (head_of call.0).headers) (route_of call.0) old.engine call next.engine given.gives in
      let all = followed old.engine call next.engine rest.front rest.lines rest.between step rest.follows in
      inr (record {
        front = call ∷ rest.front;
        last = rest.last;
        is = ap (λ cs. call ∷ cs) rest.is;
        lines = all.0;
        between = rest.between;
        follows = all.1;
        told = rest.told;
        leaves = rest.leaves;
        spent = rest.spent;
      })

  -- no call comes after one at which memory ran out
  after_broken : (old : Endpoint E) (call : Call) (next : Endpoint E) (calls : List Call) (new : Endpoint E)
      → IsBroken answers breaks mutates limit old call.0 call.1 next
      → Chain (EndpointGives answers breaks mutates limit) next calls new → Outcome old (call ∷ calls) new
  after_broken old call next [] new broken same =
      inr (record {
        front = [];
        last = call;
        is = refl;
        lines = [];
        between = old.engine;
        follows = (refl, refl);
        told = broken.told;
        leaves =
            subst (λ (e : Endpoint E). RouteLeaves answers breaks mutates limit (route_of call.0) call.0 old.engine e.engine) (sym same)
            broken.leaves;
        spent = ap (λ (e : Endpoint E). e.is_spent) same ∙ broken.ends;
      })
  after_broken old call next (later ∷ calls) new broken chain =
      absurd (true≢false (sym broken.ends ∙ chain.1.goes_on))

  pub calls_are_lines : CallsAreLines answers breaks mutates limit
  calls_are_lines old new [] unspent same =
      inl (record {
        lines = [];
        follows = (refl, ap (λ (e : Endpoint E). e.engine) same);
        unspent = ap (λ (e : Endpoint E). e.is_spent) same ∙ unspent;
      })
  calls_are_lines old new (call ∷ calls) unspent chain =
      ⊎_elim
      (λ given. after_given old call chain.0 calls new given (calls_are_lines chain.0 new calls given.goes_on chain.2))
      (λ broken. after_broken old call chain.0 calls new broken chain.2)
      chain.1.gives

  -- ---- what changes the context

  module _ {C : Type 0} (context : E → C)
      (keeps : (s : E) (line text : Bytes) (t : E) → (mutates s line → ⊥) → answers s line text t → context t ≡ context s)
      (keeps_broken : (s : E) (line : Bytes) (t : E) → (mutates s line → ⊥) → breaks s line t → context t ≡ context s) where
    given_keeps : (begun : List Header) (route : Route) (request : Request Bytes) (old : E) (response : Response) (new : E)
        → NotBody route → RouteGives answers breaks mutates limit begun route request old response new → context new ≡ context old
    given_keeps begun (Body media) request old response new other given = absurd other
    given_keeps begun (Query media) request old response new other (inl none) = ap context none.3
    given_keeps begun (Query media) request old response new other (inr (inl mutation)) = ap context mutation.4
    given_keeps begun (Query media) request old response new other (inr (inr line)) =
        keeps old line.0 line.3.text new line.2 line.3.answer
    given_keeps begun Page request old response new other given = ap context given.1
    given_keeps begun Health request old response new other given = ap context given.1
    given_keeps begun Options request old response new other given = ap context given.1
    given_keeps begun (Refused refusal) request old response new other given = ap context given.1

    left_keeps : (old : E) (line : Bytes) (new : E) → (mutates old line → ⊥)
        → MayLeave answers breaks mutates limit old line new → context new ≡ context old
    left_keeps old line new other (inl same) = ap context same
    left_keeps old line new other (inr (inl broken)) = keeps_broken old line new other broken
    left_keeps old line new other (inr (inr answered)) = keeps old line answered.0 new other answered.1

    broken_keeps : (route : Route) (request : Request Bytes) (old new : E) → NotBody route
        → RouteLeaves answers breaks mutates limit route request old new → context new ≡ context old
    broken_keeps (Body media) request old new other leaves = absurd other
    broken_keeps (Query media) request old new other (inl same) = ap context same
    broken_keeps (Query media) request old new other (inr line) = left_keeps old line.0 new line.2 line.3
    broken_keeps Page request old new other same = ap context same
    broken_keeps Health request old new other same = ap context same
    broken_keeps Options request old new other same = ap context same
    broken_keeps (Refused refusal) request old new other same = ap context same

    pub only_post_changes : OnlyPostChanges answers breaks mutates limit context
    only_post_changes old new request response other gives =
        let route = route_of request in
        let begins = begun old.origins.items (head_of request).headers in
        ⊎_elim
        (λ given. given_keeps begins route request old.engine response new.engine (only_post_has_body request other) given.gives)
        (λ broken. broken_keeps route request old.engine new.engine (only_post_has_body request other) broken.leaves)
        gives.gives
