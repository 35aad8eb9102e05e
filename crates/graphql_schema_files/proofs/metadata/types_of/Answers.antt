use Rattle.std.proofs.Common.{◌≡◌, ◌++◌, ◌∷◌, [], rules, subst}
use Rattle.graphql_schema_files.specs.DraftedTypes.{TypeMeans, TypeIsSound}
use Rattle.graphql_schema_files.specs.SpelledTexts.{FindsMeant}
use Rattle.graphql_literal_checks.proofs.Decided.{all_refuted}
use Rattle.graphql_schema_files.proofs.Described.{described_turn, described_whole}
use Rattle.graphql_schema_files.proofs.metadata.types_of.Goals as goal

pub drafts-preserved : goal.drafts-preserved
drafts-preserved g c =
    let this = c.draft-item.result in
    let one = c.in-Some.made in
    let means = subst (FindsMeant TypeMeans TypeIsSound this) c.in-Some.is c.in_ok-made.ensures in
    let pushed : c.push.new.self ≡ c.drafts.types ++ one ∷ [] = search rules in
    described_turn TypeMeans c.args.drafts.now c.drafts.draft-index this c.drafts.types c.push.new.self one c.drafts-test.true c.draft-item.is pushed c.drafts.invariant means

pub returns-in-None : goal.returns-in-None
returns-in-None g c =
    let this = c.draft-item.result in
    all_refuted TypeIsSound c.args.drafts.now c.drafts.draft-index this c.drafts-test.true c.draft-item.is (subst (FindsMeant TypeMeans TypeIsSound this) c.in-None.is c.in_ok-made.ensures)

pub returns : goal.returns
returns g c = described_whole TypeMeans c.args.drafts.now c.drafts.draft-index c.drafts.types c.drafts-test.false c.drafts.invariant
