use Rattle.std.proofs.Common.{sym}
use Rattle.graphql_service_program.proofs.files.serve_files.Goals as goal

pub returns : goal.returns
returns g c =
    rw (sym c.as_slice-schema.ensures.value, sym c.as_slice-records.ensures.value)
    c.run_files.ensures.ran
