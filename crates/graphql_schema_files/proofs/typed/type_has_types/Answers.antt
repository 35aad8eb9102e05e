use Rattle.std.proofs.Common.{◌↔◌, IfOk, IsTrue, subst}
use Rattle.std.specs.List.{All}
use Rattle.graphql_schema_files.specs.DraftedTypes.{FieldHasTypes}
use Rattle.graphql_schema_files.proofs.typed.type_has_types.Goals as goal

pub returns : goal.returns
returns c = subst (λ fields. IfOk c.fields_have_types.result (λ told. IsTrue told ↔ All FieldHasTypes fields)) c.as_slice.ensures c.fields_have_types.ensures
