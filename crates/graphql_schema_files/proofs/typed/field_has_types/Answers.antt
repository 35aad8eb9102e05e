use Rattle.std.proofs.Common.{◌↔◌, IfOk, IsTrue, subst}
use Rattle.std.specs.List.{All}
use Rattle.graphql_schema_files.specs.DraftedTypes.{ArgumentHasType}
use Rattle.graphql_schema_files.specs.SpelledTexts.{HasType}
use Rattle.graphql_literal_checks.proofs.Decided.{both_told}
use Rattle.graphql_schema_files.proofs.typed.field_has_types.Goals as goal

pub returns : goal.returns
returns c =
    both_told (HasType c.args.field.now.type_text) (All ArgumentHasType c.args.field.now.arguments) c.arguments_have_types.result (c.in_ok-is_type.ensures.0 c.if-not-branch.false)
    (subst (λ arguments. IfOk c.arguments_have_types.result (λ told. IsTrue told ↔ All ArgumentHasType arguments)) c.as_slice.ensures c.arguments_have_types.ensures)
