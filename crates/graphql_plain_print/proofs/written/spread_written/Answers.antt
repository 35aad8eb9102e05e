use Rattle.std.proofs.Common.{refl, ap, Some}
use Rattle.graphql_plain_print.proofs.written.spread_written.Goals as goal

pub returns : goal.returns
returns g c = (ap (λ name. Some name) c.as_str.ensures, refl, c.as_slice.ensures)
