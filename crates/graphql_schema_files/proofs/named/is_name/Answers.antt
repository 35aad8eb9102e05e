use Rattle.graphql_schema_files.proofs.NameTests.{name_tested}
use Rattle.graphql_schema_files.proofs.named.is_name.Goals as goal

pub returns : goal.returns
returns c = name_tested c.args.text.now c.is_valid.result c.is_valid.ensures
