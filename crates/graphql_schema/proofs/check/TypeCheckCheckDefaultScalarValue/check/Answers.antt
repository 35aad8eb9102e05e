use Rattle.graphql_scalars.specs.contracts.default_scalar.DefaultScalarValueEq.TheImpl.Laws.{lawful}
use Rattle.graphql_schema.proofs.CheckLemmas.{answer_tells}
use Rattle.graphql_schema.proofs.check.TypeCheckCheckDefaultScalarValue.check.Goals as goal

pub returns : goal.returns
returns g c = answer_tells lawful.laws c.args.value c.ask.result c.args.self.now.consistent c.ask.ensures
