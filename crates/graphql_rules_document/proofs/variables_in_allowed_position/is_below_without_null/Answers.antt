use Rattle.std.proofs.Common.{◌&&◌, ◌∙◌, ap, sym}
use Rattle.graphql_schema.specs.Subtypes.{is_subtype}
use Rattle.graphql_occurrences.specs.Lent.{literal_of}
use Rattle.graphql_rules_document.specs.VariablesInAllowedPosition.{with_null}
use Rattle.graphql_rules_document.proofs.PositionLemmas.{below_without_null}
use Rattle.graphql_rules_document.proofs.variables_in_allowed_position.is_below_without_null.Goals as goal

pub returns-then-refuses_null : goal.returns-then-refuses_null
returns-then-refuses_null g c =
    let types = c.args.schema.now.types in
    let sub = literal_of c.args.defined in
    let super = literal_of c.args.asked in
    c.is_below.ensures
    ∙ ap (λ t. is_subtype types t (literal_of c.with_null-then-refuses_null.result)) c.with_null.ensures
    ∙ ap (is_subtype types (with_null sub)) c.with_null-then-refuses_null.ensures
    ∙ ap (λ b. b && is_subtype types (with_null sub) (with_null super)) (sym c.if-refuses_null.true ∙ c.refuses_null.ensures)
    ∙ below_without_null types sub super

pub returns-else-refuses_null : goal.returns-else-refuses_null
returns-else-refuses_null g c =
    let types = c.args.schema.now.types in
    let sub = literal_of c.args.defined in
    let super = literal_of c.args.asked in
    c.if-refuses_null.false
    ∙ ap (λ b. b && is_subtype types (with_null sub) (with_null super)) (sym c.if-refuses_null.false ∙ c.refuses_null.ensures)
    ∙ below_without_null types sub super
