use Rattle.graphql_bundles.specs.Going.{stage_of}
use Rattle.graphql_bundles.proofs.BundleLemmas.{grows-none, grows-out}
use Rattle.graphql_bundles.proofs.bundle.Progress.spend.Goals as goal

pub returns-then-self-amount : goal.returns-then-self-amount
returns-then-self-amount c = grows-out _ _ (stage_of c.args.self.now)

pub returns-else-self-amount : goal.returns-else-self-amount
returns-else-self-amount c = grows-none _ _ (stage_of c.args.self.now)
