use Rattle.std.proofs.Common.{Some, slice_get, ap, sym, ◌∙◌, rules}
use Rattle.std.specs.Option.{option_map}
use Rattle.graphql_text.specs.Tokens.{Located}
use Rattle.graphql_lexer.specs.Records.{Recorded, token_of}
use Rattle.graphql_lexer.proofs.RecordLists.{fits_at, at_some, at_none}
use Rattle.graphql_lexer.proofs.token_records.TokenRecords.item.Goals as goal

pub item-requires : goal.item-requires
item-requires c = fits_at c.self.inside.source.now c.self.inside.records c.args.index c.in-Some.found.now c.self.invariant.0 (search rules)

pub returns-in-Some : goal.returns-in-Some
unfolding token_of
returns-in-Some c =
    ap (λ x. Some x) c.item.ensures ∙ sym (ap (option_map (λ (t : Located). t.item)) (at_some c.self.inside.source.now c.self.inside.records c.args.index c.in-Some.found.now (search rules)))
    ∙ ap (λ (r : Recorded). option_map (λ (t : Located). t.item) (slice_get r.tokens c.args.index)) c.self.view_is

pub returns-in-None : goal.returns-in-None
returns-in-None c = sym (ap (option_map (λ (t : Located). t.item)) (at_none c.self.inside.source.now c.self.inside.records c.args.index (search rules))) ∙ ap (λ (r : Recorded). option_map (λ (t : Located). t.item) (slice_get r.tokens c.args.index)) c.self.view_is
