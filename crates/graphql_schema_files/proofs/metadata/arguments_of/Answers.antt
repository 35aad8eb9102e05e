use Rattle.std.proofs.Common.{◌≡◌, ◌++◌, ◌∷◌, [], rules, subst}
use Rattle.graphql_schema_files.specs.DraftedTypes.{ArgumentMeans, ArgumentIsSound}
use Rattle.graphql_schema_files.specs.SpelledTexts.{FindsMeant}
use Rattle.graphql_schema_files.proofs.Described.{described_turn}
use Rattle.graphql_schema_files.proofs.metadata.arguments_of.Goals as goal

pub drafts-preserved : goal.drafts-preserved
drafts-preserved c =
    let this = c.draft-item.result in
    let one = c.in-Some.argument in
    let means = subst (FindsMeant ArgumentMeans ArgumentIsSound this) c.in-Some.is c.in_ok-argument.ensures in
    let pushed : c.push.new.self ≡ c.drafts.arguments ++ one ∷ [] = search rules in
    described_turn ArgumentMeans c.args.drafts.now c.drafts.draft-index this c.drafts.arguments c.push.new.self one c.drafts-test.true c.draft-item.is pushed c.drafts.invariant means
