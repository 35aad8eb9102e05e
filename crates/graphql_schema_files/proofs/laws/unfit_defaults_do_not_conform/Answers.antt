use Rattle.graphql_schema_files.proofs.ToldPlaces.{unfit_defaults_do_not_conform}
use Rattle.graphql_schema_files.proofs.laws.unfit_defaults_do_not_conform.Goals as goal

pub returns : goal.returns
returns g c = unfit_defaults_do_not_conform _
