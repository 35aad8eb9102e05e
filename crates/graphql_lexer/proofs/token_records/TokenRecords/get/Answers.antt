use Rattle.std.proofs.Common.{Some, slice_get, ap, sym, ◌∙◌, rules}
use Rattle.graphql_text.specs.Tokens.{Located}
use Rattle.graphql_lexer.specs.Records.{Recorded}
use Rattle.graphql_lexer.proofs.RecordLists.{fits_at, at_some, at_none}
use Rattle.graphql_lexer.proofs.token_records.TokenRecords.get.Goals as goal

pub token-requires : goal.token-requires
token-requires c = fits_at c.self.inside.source.now c.self.inside.records c.args.index c.in-Some.found.now c.self.invariant.0 (search rules)

pub returns-in-Some : goal.returns-in-Some
returns-in-Some c =
    ap (λ (x : Located). Some x) c.token.ensures ∙ sym (at_some c.self.inside.source.now c.self.inside.records c.args.index c.in-Some.found.now (search rules))
    ∙ ap (λ (r : Recorded). slice_get r.tokens c.args.index) c.self.view_is

pub returns-in-None : goal.returns-in-None
returns-in-None c = sym (at_none c.self.inside.source.now c.self.inside.records c.args.index (search rules)) ∙ ap (λ (r : Recorded). slice_get r.tokens c.args.index) c.self.view_is
