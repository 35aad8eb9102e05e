use Rattle.std.proofs.Common.{None, subst}
use Rattle.graphql_literal_checks.proofs.Decided.{all_held, all_turn}
use Rattle.graphql_schema_files.specs.DeclarationPlaces.{IsTypePlace}
use Rattle.graphql_schema_files.proofs.FirstPlaces.{first_found}
use Rattle.graphql_schema_files.proofs.Placing.{type_or_none}
use Rattle.graphql_schema_files.proofs.places.place_among.Goals as goal

pub returns-in-Some : goal.returns-in-Some
returns-in-Some c =
    let this = c.draft-item.result in
    let gives = subst (IsTypePlace c.args.rule this) c.in-Some.is c.in_ok-place.ensures in
    first_found (IsTypePlace c.args.rule) c.args.drafts.now c.drafts.draft-index this c.in-Some.place c.drafts-test.true c.draft-item.is c.drafts.invariant (type_or_none c.args.rule this c.in-Some.place gives) gives

pub drafts-preserved : goal.drafts-preserved
drafts-preserved c =
    let this = c.draft-item.result in
    let keeps = subst (IsTypePlace c.args.rule this) c.in-None.is c.in_ok-place.ensures in
    all_turn (λ x. IsTypePlace c.args.rule x None) c.args.drafts.now c.drafts.draft-index this c.drafts-test.true c.draft-item.is c.drafts.invariant keeps

pub returns : goal.returns
returns c = all_held (λ x. IsTypePlace c.args.rule x None) c.args.drafts.now c.drafts.draft-index c.drafts-test.false c.drafts.invariant
