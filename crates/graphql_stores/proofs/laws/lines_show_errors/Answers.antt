use Rattle.graphql_stores.proofs.Endings.{lines-show-errors}
use Rattle.graphql_stores.proofs.laws.lines_show_errors.Goals as goal

pub returns : goal.returns
returns g c = lines-show-errors _
