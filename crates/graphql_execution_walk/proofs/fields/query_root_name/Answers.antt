use Rattle.std.proofs.Common.{◌∙◌}
use Rattle.std.proofs.lemmas.Slice.Eq.{bytes_eq-Decides}
use Rattle.graphql_schema.specs.Types.{own_name}
use Rattle.graphql_names.proofs.NameMaps.{found_is_in}
use Rattle.graphql_execution_walk.proofs.fields.query_root_name.Goals as goal

pub returns : goal.returns
returns g c =
    let m = c.concrete_query_type.result.now in
    let parts = found_is_in own_name c.args.schema.now.types c.args.schema.now.query m c.concrete_query_type.ensures.query in
    c.name_of.ensures ∙ (bytes_eq-Decides (own_name m) c.args.schema.now.query).0 parts.0
