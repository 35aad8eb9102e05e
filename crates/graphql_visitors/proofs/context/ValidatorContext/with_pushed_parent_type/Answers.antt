use Rattle.std.proofs.Common.{refl}
use Rattle.graphql_visitors.proofs.context.ValidatorContext.with_pushed_parent_type.Goals as goal

pub returns : goal.returns
returns g c =
    (c.current_type-self.result, c.inside-answer.new.arg2, c.current_type-self.ensures, record { shown = _; shows = refl; left = _; met = c.inside-answer.ensures; leaves = refl }, refl)
