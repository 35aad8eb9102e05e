use Rattle.std.proofs.Common.{None, Some, ap, ◌∙◌, option_map}
use Rattle.graphql_visitors.proofs.FragmentLemmas.{told-named}
use Rattle.graphql_visitors.proofs.context.ValidatorContext.fragment_condition.Goals as goal

pub returns-in_err-get : goal.returns-in_err-get
returns-in_err-get g c =
    ap (option_map (λ b. b.now)) c.from_residual.ensures
    ∙ told-named c.args.self.now.fragments.document.now c.args.name.now (λ f. f.type_condition) None c.in_err-get.ensures

pub returns : goal.returns
returns g c = told-named c.args.self.now.fragments.document.now c.args.name.now (λ f. f.type_condition) (Some c.in_ok-get.field-0.now) c.in_ok-get.ensures
