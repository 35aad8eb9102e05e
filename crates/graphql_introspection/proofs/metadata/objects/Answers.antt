use Rattle.std.proofs.Common.{arith}
use Rattle.std.proofs.lemmas.Grind.{common_steps}
use Rattle.graphql_introspection.proofs.metadata.objects.Goals as goal

pub kinds-preserved : goal.kinds-preserved
kinds-preserved g c = grind (arith, common_steps)
