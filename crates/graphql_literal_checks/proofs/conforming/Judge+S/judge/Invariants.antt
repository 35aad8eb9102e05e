use Rattle.graphql_schema.proofs.MeantScalars.{scalars_of}
use Rattle.std.specs.Prelude.{◌↔◌}
use Rattle.graphql_literal_checks.specs.Conforms.{Conforms}
use Rattle.graphql_literal_checks.specs.Judged.{lent}
use Rattle.graphql_literal_checks.specs.OpenValues.{Owed, all_left}
use Rattle.graphql_literal_checks.proofs.conforming.Judge+S.judge.Given as goal

-- what is asked of what is open is all that is asked of the value
abbrev pub invariant-values : goal.invariant-values
invariant-values g l =
    let scalars = scalars_of g.S.ParseScalarValue g.S.ScalarValue g.S.PartialEq g.S.Check.Check in
    let judge = l.self in
    Owed {S = g.row.S.Denot} {C = g.row.S-Check.Denot} scalars judge.schema.now.types judge.source l.constant l.opened
    ↔ Conforms {S = g.row.S.Denot} {C = g.row.S-Check.Denot} scalars judge.schema.now.types judge.source (lent l.asked) l.value

abbrev pub decreases-values : goal.decreases-values
decreases-values g l = all_left l.opened
