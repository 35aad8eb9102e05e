-- A line that is refused on its way to a plain text asks for nothing that is executed.
use Rattle.std.proofs.Common.{◌≡◌, arith, sym, subst, ◌∙◌, ℕ, List, Option, Some, None, IsSome, true, false}
use Rattle.std.proofs.lemmas.Option.{none-some, same_Some}
use Rattle.graphql_names.specs.Names.{Bytes}
use Rattle.graphql_values.specs.InputValues.{Placed}
use Rattle.graphql_tree.specs.declared.document.Definition.{Definition}
use Rattle.graphql_tree.specs.declared.document.Operation.{Operation}
use Rattle.graphql_requests.specs.Asked.{ExecutableAreNotRefused, IsExecutable}
use Rattle.graphql_executor.specs.Requests.{GraphQLError}
use Rattle.graphql_lines.specs.Request.{Request}
use Rattle.graphql_lines.specs.Variables.{fields_of}
use Rattle.graphql_lines.specs.declared.refusal.LineRefusal.{LineRefusal}
use Rattle.graphql_lines.specs.declared.refusal.LineRefusal.TheVariants.{LineTooLong, NotARequest, BadNumber, Memory}
use Rattle.graphql_service.specs.Answers.{Answerer, Asks, IsNoRequest, asked_by}
use Rattle.graphql_service.specs.PlainRequests.{HasNoPlainText, Refused}
use Rattle.graphql_stores.specs.Stored.{IsRefusedFirst, no_plain, no_request}

some-not-none : {A : Type 0} (o : Option A) → o ≡ None → IsSome o → ⊥
some-not-none None e h = let both : false ≡ true = h in absurd (cc)
some-not-none (Some x) e h = none-some x (sym e)

module _ {S C N X : Type 0} (a : Answerer S C N X) (line : Bytes) where
  -- a line asks one request
  pub one-request : (one other : Request) → Asks a line one → Asks a line other → one ≡ other
  one-request one other h k = same_Some one other (sym h.asked ∙ k.asked)

  no-request-asked : (refusal : LineRefusal) → IsNoRequest a line refusal → (request : Request) → Asks a line request → ⊥
  no-request-asked LineTooLong h request asks = omega (arith, h, asks.within)
  no-request-asked NotARequest h request asks = none-some request (sym h.1 ∙ asks.asked)
  no-request-asked BadNumber h request asks =
      let s = a.scalars in
      let same : h.0 ≡ request = same_Some h.0 request (sym h.2 ∙ asks.asked) in
      some-not-none (fields_of s.of_bool s.of_int s.of_text h.0.variables) h.3
      (subst (λ (r : Request). IsSome (fields_of s.of_bool s.of_int s.of_text r.variables)) (sym same) asks.numbers)
  no-request-asked Memory h request asks = h

  module _ (size_limit : ℕ) where
    -- what it asks is refused, too
    pub refused-asks-none : IsRefusedFirst a size_limit line → (request : Request) → Asks a line request
        → ((why : GraphQLError) → HasNoPlainText a.scalars (asked_by a line request) a.by_rules size_limit (Refused why) → ⊥)
        → ⊥
    refused-asks-none (no_request refusal h) request asks none = no-request-asked refusal h request asks
    refused-asks-none (no_plain why h) request asks none =
        none why (subst (λ r. HasNoPlainText a.scalars (asked_by a line r) a.by_rules size_limit (Refused why))
        (one-request h.request request h.asks asks) h.due)

    pub refused-not-executed : ExecutableAreNotRefused a.scalars → IsRefusedFirst a size_limit line → (request : Request)
        → Asks a line request → (document : List (Definition S)) (operation : Placed (Operation S))
        → IsExecutable a.scalars (asked_by a line request) document operation → ⊥
    refused-not-executed law first request asks document operation executable =
        refused-asks-none first request asks
        (λ why due. due.1 (law (asked_by a line request) document operation a.by_rules why executable due.0))
