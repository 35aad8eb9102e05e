use Rattle.std.proofs.Common.{ap}
use Rattle.graphql_lexer.specs.Records.{Recorded}
use Rattle.graphql_lexer.proofs.token_records.TokenRecords.finish.Goals as goal

pub returns : goal.returns
returns c = ap (λ (r : Recorded). r.finish) c.self.view_is
