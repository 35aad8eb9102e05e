-- A request has one plain text, or is refused.
use Rattle.std.proofs.Common.{◌≡◌, refl, ap, sym, ◌∙◌, arith, List}
use Rattle.std.proofs.lemmas.List.{same_from_push}
use Rattle.graphql_lexer.specs.Laws.{OneList}
use Rattle.graphql_values.specs.InputValues.{Placed}
use Rattle.graphql_tree.specs.declared.document.Definition.{Definition}
use Rattle.graphql_tree.specs.declared.document.Operation.{Operation}
use Rattle.graphql_plain_text.specs.PlainTexts.{plain_text}
use Rattle.graphql_requests.specs.Asked.{ExecutableAreNotRefused, OneIsExecuted}
use Rattle.graphql_schema.specs.Scalars.{Scalars}
use Rattle.graphql_plain_requests.specs.Laws.{PlainAreNotRefused, PlainTextsAreOne}
use Rattle.graphql_plain_requests.specs.PlainRequests.{plain_of, size_of}
use Rattle.graphql_plain_requests.specs.declared.plain_error.PlainError.TheVariants as error

module _ {S C : Type 0} (s : Scalars S C) (one_executed : OneIsExecuted s) where
  pub plain-texts-are-one : OneList → PlainTextsAreOne s
  plain-texts-are-one one_list a one other x y =
      let both = one_executed a x.document y.document x.operation y.operation x.executable y.executable in
      let tokens : y.tokens ≡ x.tokens = (same_from_push y.tokens x.tokens _ _ (one_list a.text _ _ y.cut x.cut)).0 in
      x.is ∙ sym (y.is
      ∙ ap (λ ts. plain_text ts (plain_of s a y.document y.operation.item)) tokens
      ∙ ap (λ (d : List (Definition S)). plain_text x.tokens (plain_of s a d y.operation.item)) both.0
      ∙ ap (λ (o : Placed (Operation S)). plain_text x.tokens (plain_of s a x.document o.item)) both.1)

  module _ (not_refused : ExecutableAreNotRefused s) where
    pub plain-are-not-refused : PlainAreNotRefused s
    plain-are-not-refused a limit bytes cmp (error.Refused why) p h =
        absurd (h.1 (not_refused a p.plain.document p.plain.operation cmp why p.plain.executable h.0))
    plain-are-not-refused a limit bytes cmp error.TooLarge p h =
        let both = one_executed a p.plain.document h.document p.plain.operation h.operation p.plain.executable h.executable in
        let sizes : size_of s a h.document h.operation.item ≡ size_of s a p.plain.document p.plain.operation.item =
        ap (λ (d : List (Definition S)). size_of s a d h.operation.item) both.0
        ∙ ap (λ (o : Placed (Operation S)). size_of s a p.plain.document o.item) both.1 in
        absurd (omega (arith, h.larger, p.fits, sizes))
    plain-are-not-refused a limit bytes cmp error.Memory p h = refl
