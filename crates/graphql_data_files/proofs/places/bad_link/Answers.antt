use Rattle.std.proofs.Common.{subst}
use Rattle.graphql_records.specs.Tables.{IsTableOf}
use Rattle.graphql_data_files.proofs.Placing.{link_nowhere, link_placed}
use Rattle.graphql_data_files.proofs.places.bad_link.Goals as goal

pub returns-in-Some : goal.returns-in-Some
returns-in-Some c = λ same.
    link_placed c.args.types.now c.args.records.now c.args.copies same c.in-Some.table c.dead_link.result (subst (IsTableOf c.args.copies) c.in-Some.is c.in_ok-table.ensures) c.dead_link.ensures

pub returns-in-None : goal.returns-in-None
returns-in-None c = λ same.
    link_nowhere c.args.types.now c.args.records.now c.args.copies same (subst (IsTableOf c.args.copies) c.in-None.is c.in_ok-table.ensures)
