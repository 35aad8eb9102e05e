use Rattle.graphql_requests.proofs.KeptTexts.{put-more}
use Rattle.graphql_requests.proofs.valid_texts.put.Goals as goal

pub returns : goal.returns
returns c =
    put-more c.args.texts.now c.insert.new.self c.args.text c.insert.result c.insert.ensures.updates c.insert.ensures.err
