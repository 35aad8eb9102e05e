use Rattle.std.proofs.Common.{◌<◌, ◌∙◌, ap, arith, sym}
use Rattle.graphql_lexer.specs.declared.token_text.TokenText.{TokenText}
use Rattle.graphql_lexer.specs.Records.{token_of}
use Rattle.graphql_lexer.proofs.RecordTexts.{none_within, others_left}
use Rattle.graphql_lexer.proofs.token_texts.TokenTextsIterator.next.Goals as goal

pub returns-then-index-clause-steps : goal.returns-then-index-clause-steps
returns-then-index-clause-steps c =
    let i = c.self.inside in
    let first = c.in-Some.first.now in
    let ends = ap (λ (t : TokenText). t.token.span.end.index) c.with_text-found.ensures in
    let later : i.end.index < (token_of i.source.now first).span.end.index = omega (arith, ends) in
    let none = sym c.self.view_is ∙ none_within i.source.now i.end.index i.rest.now c.in-Some.others.now first c.self.invariant c.in-Some.ensures.cases.0 later in
    (none, none)

pub invariant_of-self : goal.invariant_of-self
invariant_of-self c =
    let i = c.self.inside in
    others_left i.source.now i.end.index i.rest.now c.in-Some.others.now c.in-Some.first.now c.self.invariant c.in-Some.ensures.cases.0
