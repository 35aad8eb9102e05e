use Rattle.std.proofs.Common.{subst, sym}
use Rattle.graphql_collected.specs.Requests.{fragments_in}
use Rattle.graphql_written_out.specs.Written.{Settled}
use Rattle.graphql_execution_walk.proofs.completing.Executor+Context+S.resolve_with_ctx.Goals as goal

pub resolve-requires : goal.resolve-requires
resolve-requires g c = subst (λ rq. Settled (fragments_in rq)) (sym c.replaced_context-within.ensures.request) c.requires
