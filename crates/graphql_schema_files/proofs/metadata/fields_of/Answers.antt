use Rattle.std.proofs.Common.{◌≡◌, ◌++◌, ◌∷◌, [], rules, subst}
use Rattle.graphql_schema_files.specs.DraftedTypes.{FieldMeans, FieldIsSound}
use Rattle.graphql_schema_files.specs.SpelledTexts.{FindsMeant}
use Rattle.graphql_literal_checks.proofs.Decided.{all_refuted}
use Rattle.graphql_schema_files.proofs.Described.{described_turn}
use Rattle.graphql_schema_files.proofs.metadata.fields_of.Goals as goal

pub drafts-preserved : goal.drafts-preserved
drafts-preserved c =
    let this = c.draft-item.result in
    let one = c.in-Some.field in
    let means = subst (FindsMeant FieldMeans FieldIsSound this) c.in-Some.is c.in_ok-field.ensures in
    let pushed : c.push.new.self ≡ c.drafts.fields ++ one ∷ [] = search rules in
    described_turn FieldMeans c.args.drafts.now c.drafts.draft-index this c.drafts.fields c.push.new.self one c.drafts-test.true c.draft-item.is pushed c.drafts.invariant means

pub returns-in-None : goal.returns-in-None
returns-in-None c =
    let this = c.draft-item.result in
    all_refuted FieldIsSound c.args.drafts.now c.drafts.draft-index this c.drafts-test.true c.draft-item.is (subst (FindsMeant FieldMeans FieldIsSound this) c.in-None.is c.in_ok-field.ensures)
