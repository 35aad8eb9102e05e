use Rattle.std.proofs.Common.{length, ap, ◌∙◌}
use Rattle.graphql_lexer.specs.Records.{Recorded}
use Rattle.graphql_lexer.proofs.RecordLists.{as_many}
use Rattle.graphql_lexer.proofs.token_records.TokenRecords.len.Goals as goal

pub returns : goal.returns
returns c = c.len.ensures ∙ as_many c.self.inside.source.now c.self.inside.records ∙ ap (λ (r : Recorded). length r.tokens) c.self.view_is
