use Rattle.std.proofs.Common.{IfOk, subst}
use Rattle.graphql_schema_files.specs.DraftedTypes.{AddsTypes}
use Rattle.graphql_schema_files.proofs.reading.add_declared.Goals as goal

pub returns : goal.returns
returns g c = subst (λ drafts. IfOk c.add_types.result (AddsTypes drafts c.args.types.now c.add_types.new.types)) c.as_slice.ensures c.add_types.ensures
