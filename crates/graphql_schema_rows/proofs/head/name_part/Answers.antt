use Rattle.std.proofs.Common.{arith, rules}
use Rattle.graphql_schema_rows.proofs.HeadNames.{behind_split}
use Rattle.graphql_schema_rows.proofs.head.name_part.Goals as goal

pub returns-in-Some : goal.returns-in-Some
returns-in-Some c =
    let split = behind_split 34 c.args.head.now _ c.rsplit_once.ensures.cases (omega arith) in
    rw (← split) (grind rules)

pub returns-in-None : goal.returns-in-None
returns-in-None c =
    let split = behind_split 34 c.args.head.now _ c.rsplit_once.ensures.cases (omega arith) in
    rw (← split) (grind rules)
