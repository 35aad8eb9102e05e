use Rattle.graphql_visitors.proofs.RuleLemmas.{runs_both}
use Rattle.graphql_visitors.proofs.laws.one_pass_is_separate_passes.Goals as goal

pub returns : goal.returns
returns g c = λ subject v w es told runs. runs_both g.A.Visitor.step g.B.Visitor.step subject v w es told runs
