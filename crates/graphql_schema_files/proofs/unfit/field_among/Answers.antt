use Rattle.graphql_schema.proofs.MeantScalars.{scalars_of}
use Rattle.std.proofs.Common.{None, subst}
use Rattle.graphql_literal_checks.proofs.Decided.{all_held, all_turn}
use Rattle.graphql_schema_files.specs.UnfitDefaults.{IsUnfitField}
use Rattle.graphql_schema_files.proofs.FirstPlaces.{first_found}
use Rattle.graphql_schema_files.proofs.Unfitting.{field_or_none}
use Rattle.graphql_schema_files.proofs.unfit.field_among.Goals as goal

pub returns-in-Some : goal.returns-in-Some
returns-in-Some g c =
    let scalars = scalars_of g.S.ParseScalarValue g.S.ScalarValue g.S.PartialEq g.S.Check.Check in
    let this = c.field-item.result in
    let at = IsUnfitField scalars c.args.schema.now.types in
    let gives = subst (at this) c.in-Some.is c.in_ok-place.ensures in
    first_found at c.args.fields.now c.fields.field-index this c.in-Some.place c.fields-test.true c.field-item.is c.fields.invariant (field_or_none scalars c.args.schema.now.types this c.in-Some.place gives) gives

pub fields-preserved : goal.fields-preserved
fields-preserved g c =
    let scalars = scalars_of g.S.ParseScalarValue g.S.ScalarValue g.S.PartialEq g.S.Check.Check in
    let this = c.field-item.result in
    let at = IsUnfitField scalars c.args.schema.now.types in
    all_turn (λ x. at x None) c.args.fields.now c.fields.field-index this c.fields-test.true c.field-item.is c.fields.invariant (subst (at this) c.in-None.is c.in_ok-place.ensures)

pub returns : goal.returns
returns g c =
    let scalars = scalars_of g.S.ParseScalarValue g.S.ScalarValue g.S.PartialEq g.S.Check.Check in
    all_held (λ x. IsUnfitField scalars c.args.schema.now.types x None) c.args.fields.now c.fields.field-index c.fields-test.false c.fields.invariant
