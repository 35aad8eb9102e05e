use Rattle.std.proofs.Common.{subst, sym}
use Rattle.graphql_streams.specs.Lines.{EndsAt}
use Rattle.graphql_streams.proofs.LineLemmas.{ends-at}
use Rattle.graphql_stores.proofs.allowed_queries.line_end.Goals as goal

pub returns-clause-ends : goal.returns-clause-ends
returns-clause-ends c = subst (EndsAt c.args.bytes.now) (sym c.first_feed.ensures.place) (ends-at c.args.bytes.now)
