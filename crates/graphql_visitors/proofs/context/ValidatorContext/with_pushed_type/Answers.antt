use Rattle.std.proofs.Common.{refl}
use Rattle.graphql_visitors.proofs.context.ValidatorContext.with_pushed_type.Goals as goal

pub returns : goal.returns
returns g c = (c.inside-answer.new.arg2, record { shown = _; shows = refl; left = _; met = c.inside-answer.ensures; leaves = refl }, refl)
