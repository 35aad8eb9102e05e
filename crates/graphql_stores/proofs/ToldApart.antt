-- What a line asks for is allowed, or it is not, or the line is refused first.
use Rattle.std.proofs.Common.{◌≡◌, sym, subst, ◌∙◌, ap, inl, inr, ℕ, true, false}
use Rattle.graphql_names.specs.Names.{Bytes}
use Rattle.graphql_stores.specs.Stores.{is_allowed}
use Rattle.graphql_stores.specs.declared.allowed_queries.AllowedQueries.{AllowedQueries}
use Rattle.graphql_executor.specs.Requests.{GraphQLError}
use Rattle.graphql_lines.specs.Request.{Request}
use Rattle.graphql_plain_requests.specs.Laws.{PlainAreNotRefused, PlainTextsAreOne}
use Rattle.graphql_requests.specs.Asked.{ExecutableAreNotRefused}
use Rattle.graphql_service.specs.Answers.{Answerer, Asks, asked_by}
use Rattle.graphql_service.specs.PlainRequests.{IsPlainTextWithin, Memory, Refused, TooLarge}
use Rattle.graphql_stores.specs.AllowedLaws.{AreToldApart}
use Rattle.graphql_stores.specs.Allowing.{AsksAllowed, AsksOther}
use Rattle.graphql_stores.specs.Stored.{IsRefusedFirst}
use Rattle.graphql_stores.proofs.RefusedFirst.{one-request, refused-asks-none, refused-not-executed}

module _ {S C N X : Type 0} (a : Answerer S C N X) (size_limit : ℕ) (store : AllowedQueries) (line : Bytes)
    (executed : ExecutableAreNotRefused a.scalars) (not_refused : PlainAreNotRefused a.scalars)
    (one_text : PlainTextsAreOne a.scalars) where
  large-not-memory : TooLarge ≡ Memory → ⊥
  large-not-memory same = absurd (cc)

  refused-not-memory : (why : GraphQLError) → Refused why ≡ Memory → ⊥
  refused-not-memory why same = absurd (cc)

  stored-and-not : (plain other : Bytes) → plain ≡ other → is_allowed store plain ≡ true → is_allowed store other ≡ false → ⊥
  stored-and-not plain other same stored not_stored =
      let both : true ≡ false = sym stored ∙ ap (is_allowed store) same ∙ not_stored in absurd (cc)

  plain-not-refused : (request : Request) → Asks a line request → (plain : Bytes)
      → IsPlainTextWithin a.scalars (asked_by a line request) size_limit plain → IsRefusedFirst a size_limit line → ⊥
  plain-not-refused request asks plain is first =
      refused-asks-none a line size_limit first request asks
      (λ why due. refused-not-memory why (not_refused (asked_by a line request) size_limit plain a.by_rules (Refused why) is due))

  allowed-or-other : AsksAllowed a size_limit store line → AsksOther a size_limit store line → ⊥
  allowed-or-other h (inl (other, has, not_stored)) =
      let same = one-request a line h.request has.request h.asks has.asks in
      stored-and-not h.allowed.plain other
      (one_text (asked_by a line has.request) h.allowed.plain other
      (subst (λ r. IsPlainTextWithin a.scalars (asked_by a line r) size_limit h.allowed.plain) same h.allowed.is).plain
      has.is.plain) h.allowed.stored not_stored
  allowed-or-other h (inr k) =
      let same = one-request a line h.request k.request h.asks k.asks in
      large-not-memory (not_refused (asked_by a line k.request) size_limit h.allowed.plain a.by_rules TooLarge
      (subst (λ r. IsPlainTextWithin a.scalars (asked_by a line r) size_limit h.allowed.plain) same h.allowed.is) k.due)

  other-or-refused : AsksOther a size_limit store line → IsRefusedFirst a size_limit line → ⊥
  other-or-refused (inl (plain, has, not_stored)) first = plain-not-refused has.request has.asks plain has.is first
  other-or-refused (inr k) first =
      refused-not-executed a line size_limit executed first k.request k.asks k.due.document k.due.operation k.due.executable

  pub told-apart : AreToldApart a size_limit store line
  told-apart = record {
    not_other = allowed-or-other;
    not_refused = λ h first. plain-not-refused h.request h.asks h.allowed.plain h.allowed.is first;
    other_not_refused = other-or-refused;
  }
