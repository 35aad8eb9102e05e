use Rattle.std.proofs.Common.{rules}
use Rattle.std.specs.Prelude.{FitsSigned}
use mir.Syntax.{w32}
use Rattle.graphql_scalars.proofs.IntLemmas.{integer_reads}
use Rattle.graphql_scalars.proofs.laws.integers_read_back.Goals as goal

pub returns : goal.returns
returns c =
    let fits : FitsSigned w32 c.args._integer = search rules in
    integer_reads c.args._integer fits
