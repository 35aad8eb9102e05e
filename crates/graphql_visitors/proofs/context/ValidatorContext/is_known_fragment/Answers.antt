use Rattle.std.proofs.Common.{◌∙◌}
use Rattle.graphql_visitors.proofs.FragmentLemmas.{known-named}
use Rattle.graphql_visitors.proofs.context.ValidatorContext.is_known_fragment.Goals as goal

pub returns : goal.returns
returns g c = c.is_some.ensures ∙ known-named c.args.self.now.fragments.document.now c.args.name.now (λ f. f.now) c.get.result c.get.ensures
