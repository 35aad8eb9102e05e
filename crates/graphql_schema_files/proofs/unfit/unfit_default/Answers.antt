use Rattle.graphql_schema.proofs.MeantScalars.{scalars_of}
use Rattle.std.proofs.Common.{None, subst}
use Rattle.graphql_literal_checks.proofs.Decided.{all_held, all_turn}
use Rattle.graphql_schema_files.specs.UnfitDefaults.{IsUnfitType}
use Rattle.graphql_schema_files.proofs.FirstPlaces.{first_found}
use Rattle.graphql_schema_files.proofs.Unfitting.{type_or_none}
use Rattle.graphql_schema_files.proofs.unfit.unfit_default.Goals as goal

pub returns-in-Some : goal.returns-in-Some
returns-in-Some g c =
    let scalars = scalars_of g.S.ParseScalarValue g.S.ScalarValue g.S.PartialEq g.S.Check.Check in
    let this = c.draft-item.result in
    let at = IsUnfitType scalars c.args.schema.now.types in
    let gives = subst (at this) c.in-Some.is c.in_ok-place.ensures in
    first_found at c.args.drafts.now c.drafts.draft-index this c.in-Some.place c.drafts-test.true c.draft-item.is c.drafts.invariant (type_or_none scalars c.args.schema.now.types this c.in-Some.place gives) gives

pub drafts-preserved : goal.drafts-preserved
drafts-preserved g c =
    let scalars = scalars_of g.S.ParseScalarValue g.S.ScalarValue g.S.PartialEq g.S.Check.Check in
    let this = c.draft-item.result in
    let at = IsUnfitType scalars c.args.schema.now.types in
    all_turn (λ x. at x None) c.args.drafts.now c.drafts.draft-index this c.drafts-test.true c.draft-item.is c.drafts.invariant (subst (at this) c.in-None.is c.in_ok-place.ensures)

pub returns : goal.returns
returns g c =
    let scalars = scalars_of g.S.ParseScalarValue g.S.ScalarValue g.S.PartialEq g.S.Check.Check in
    all_held (λ x. IsUnfitType scalars c.args.schema.now.types x None) c.args.drafts.now c.drafts.draft-index c.drafts-test.false c.drafts.invariant
