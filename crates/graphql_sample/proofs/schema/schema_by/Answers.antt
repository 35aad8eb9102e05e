use Rattle.graphql_scalars.specs.contracts.default_scalar.DefaultScalarValueScalarValue.TheImpl.{ghosts}
use Rattle.graphql_sample.specs.SampleTypes.{roots}
use Rattle.graphql_sample.proofs.FoundLemmas.{boolean_in, made_of}
use Rattle.graphql_sample.proofs.schema.schema_by.Goals as goal

pub returns-clause-made : goal.returns-clause-made
returns-clause-made g c = made_of ghosts.of_text _ _ roots c.new.result c.in_ok-types.ensures c.new.ensures.made

pub returns-clause-boolean : goal.returns-clause-boolean
returns-clause-boolean g c =
    let checks = c.args.checks in
    boolean_in _ checks.int checks.string checks.boolean checks.id _ c.in_ok-types.types c.new.result c.in_ok-types.ensures c.new.ensures.made
