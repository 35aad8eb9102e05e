use Rattle.graphql_stores.proofs.Endings.{answers-show-errors}
use Rattle.graphql_stores.proofs.laws.answers_show_errors.Goals as goal

pub returns : goal.returns
returns g c = answers-show-errors _ c.lines_show_errors.ensures
