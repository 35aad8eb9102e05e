use Rattle.std.proofs.Common.{ap}
use Rattle.serde_json.specs.View.{view}
use Rattle.graphql_text.specs.Memory.{◌>>=◌}
use Rattle.graphql_data_files.specs.DataFiles.{described, read_of}
use Rattle.graphql_data_files.proofs.ReadSteps.{meets_along}
use Rattle.graphql_data_files.proofs.reading.read_records.Goals as goal

pub returns-in-Ok : goal.returns-in-Ok
returns-in-Ok c =
    let types = c.args.types.now in
    let query = c.args.query.now in
    meets_along c.described.result (described types query (view c.in-Ok.json)) (read_of types query c.args.bytes.now) (ap (λ r. r >>= described types query) c.in-Ok.ensures) c.described.ensures

pub returns-in-Err : goal.returns-in-Err
returns-in-Err c = λ u. ap (λ r. r >>= described c.args.types.now c.args.query.now) (c.in-Err.ensures u)
