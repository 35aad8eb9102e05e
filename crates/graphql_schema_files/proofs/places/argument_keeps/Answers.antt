use Rattle.std.proofs.Common.{◌↔◌, IfOk, IsTrue, sym, subst}
use Rattle.graphql_schema_files.specs.DeclarationPlaces.{ArgumentKeeps}
use Rattle.graphql_schema_files.proofs.places.argument_keeps.Goals as goal

pub returns-in-Types : goal.returns-in-Types
returns-in-Types c = subst (λ r. IfOk c.is_type.result (λ told. IsTrue told ↔ ArgumentKeeps r c.args.draft.now)) (sym c.in-Types.is) c.is_type.ensures

pub returns-in-Defaults : goal.returns-in-Defaults
returns-in-Defaults c = subst (λ r. IfOk c.is_default.result (λ told. IsTrue told ↔ ArgumentKeeps r c.args.draft.now)) (sym c.in-Defaults.is) c.is_default.ensures
