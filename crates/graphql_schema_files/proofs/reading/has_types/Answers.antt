use Rattle.std.proofs.Common.{◌↔◌, IfOk, IsTrue, subst}
use Rattle.std.specs.List.{All}
use Rattle.graphql_schema_files.specs.DraftedTypes.{TypeHasTypes}
use Rattle.graphql_schema_files.proofs.reading.has_types.Goals as goal

pub returns : goal.returns
returns c = subst (λ types. IfOk c.have_types.result (λ told. IsTrue told ↔ All TypeHasTypes types)) c.as_slice.ensures c.have_types.ensures
