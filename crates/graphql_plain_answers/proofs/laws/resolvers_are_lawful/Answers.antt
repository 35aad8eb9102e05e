use Rattle.graphql_plain_answers.proofs.laws.resolvers_are_lawful.Goals as goal

pub returns : goal.returns
returns g c = record {
  respects = g.met.R.GraphQLValue.respects c.args.resolver.now;
  respects_root = g.met.R.GraphQLMutationValue.respects_root c.args.resolver.now;
}
