use Rattle.std.proofs.Common.{sym, subst}
use Rattle.graphql_lines.specs.Request.{data_of}
use Rattle.graphql_schema_files.specs.Outlines.{OutlinesData}
use Rattle.graphql_schema_files.proofs.Placing.{outline_refused}
use Rattle.graphql_schema_files.proofs.outlines.outline.Goals as goal

pub returns-in-Ok : goal.returns-in-Ok
returns-in-Ok c = subst (λ o. OutlinesData o c.outline_in.result) (sym c.in-Ok.ensures) c.outline_in.ensures

pub returns-in-Err : goal.returns-in-Err
returns-in-Err c = outline_refused (data_of c.args.bytes.now) c.in-Err.fault c.in-Err.ensures
