use Rattle.std.proofs.Common.{ap, ◌∙◌}
use Rattle.std.specs.List.{list_all}
use Rattle.graphql_schema_files.specs.NamedDrafts.{type_is_named}
use Rattle.graphql_schema_files.proofs.Readings.{same_test}
use Rattle.graphql_schema_files.proofs.reading.is_named.Goals as goal

pub returns : goal.returns
returns c = same_test c.are_named.result (list_all type_is_named c.args.file.now.types) (c.are_named.ensures ∙ ap (list_all type_is_named) c.as_slice.ensures)
