use Rattle.graphql_resolvers.proofs.TextTurns.{put_turn, put_whole}
use Rattle.graphql_resolvers.proofs.answers.texts_under.Goals as goal

pub pairs-preserved : goal.pairs-preserved
pairs-preserved c =
    put_turn c.args.pairs.now c.pairs.pair-index _ c.pairs.object.fields c.put_text.new.object.fields c.pairs-test.true c.pairs.invariant
    c.in_ok-put_text.ensures

pub returns : goal.returns
returns c = put_whole c.args.pairs.now c.pairs.pair-index c.pairs.object.fields c.pairs-test.false c.pairs.invariant
