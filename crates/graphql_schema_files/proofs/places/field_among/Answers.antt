use Rattle.std.proofs.Common.{None, subst}
use Rattle.graphql_literal_checks.proofs.Decided.{all_held, all_turn}
use Rattle.graphql_schema_files.specs.DeclarationPlaces.{IsFieldPlace}
use Rattle.graphql_schema_files.proofs.FirstPlaces.{first_found}
use Rattle.graphql_schema_files.proofs.Placing.{field_or_none}
use Rattle.graphql_schema_files.proofs.places.field_among.Goals as goal

pub returns-in-Some : goal.returns-in-Some
returns-in-Some c =
    let this = c.draft-item.result in
    let gives = subst (IsFieldPlace c.args.rule this) c.in-Some.is c.in_ok-place.ensures in
    first_found (IsFieldPlace c.args.rule) c.args.drafts.now c.drafts.draft-index this c.in-Some.place c.drafts-test.true c.draft-item.is c.drafts.invariant (field_or_none c.args.rule this c.in-Some.place gives) gives

pub drafts-preserved : goal.drafts-preserved
drafts-preserved c =
    let this = c.draft-item.result in
    let keeps = subst (IsFieldPlace c.args.rule this) c.in-None.is c.in_ok-place.ensures in
    all_turn (λ x. IsFieldPlace c.args.rule x None) c.args.drafts.now c.drafts.draft-index this c.drafts-test.true c.draft-item.is c.drafts.invariant keeps

pub returns : goal.returns
returns c = all_held (λ x. IsFieldPlace c.args.rule x None) c.args.drafts.now c.drafts.draft-index c.drafts-test.false c.drafts.invariant
