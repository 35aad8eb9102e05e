use Rattle.std.proofs.Common.{slice_get, ap, sym, ◌∙◌, rules}
use Rattle.std.specs.Option.{option_map}
use Rattle.graphql_text.specs.Tokens.{Located}
use Rattle.graphql_lexer.specs.Records.{Recorded, token_of}
use Rattle.graphql_lexer.proofs.RecordLists.{at_some, at_none}
use Rattle.graphql_lexer.proofs.token_records.TokenRecords.start.Goals as goal

pub returns-in-Some : goal.returns-in-Some
unfolding token_of
returns-in-Some c =
    sym (ap (option_map (λ (t : Located). t.span.start)) (at_some c.self.inside.source.now c.self.inside.records c.args.index c.in-Some.found.now (search rules)))
    ∙ ap (λ (r : Recorded). option_map (λ (t : Located). t.span.start) (slice_get r.tokens c.args.index)) c.self.view_is

pub returns-in-None : goal.returns-in-None
returns-in-None c = sym (ap (option_map (λ (t : Located). t.span.start)) (at_none c.self.inside.source.now c.self.inside.records c.args.index (search rules))) ∙ ap (λ (r : Recorded). option_map (λ (t : Located). t.span.start) (slice_get r.tokens c.args.index)) c.self.view_is
