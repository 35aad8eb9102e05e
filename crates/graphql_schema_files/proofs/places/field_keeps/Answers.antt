use Rattle.std.proofs.Common.{◌↔◌, IfOk, IsTrue, sym, subst}
use Rattle.graphql_schema_files.specs.DeclarationPlaces.{FieldKeeps}
use Rattle.graphql_schema_files.proofs.places.field_keeps.Goals as goal

pub returns-in-Types : goal.returns-in-Types
returns-in-Types c = subst (λ r. IfOk c.is_type.result (λ told. IsTrue told ↔ FieldKeeps r c.args.draft.now)) (sym c.in-Types.is) c.is_type.ensures
