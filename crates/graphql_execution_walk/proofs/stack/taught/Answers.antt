use Rattle.graphql_execution_walk.specs.Frames.{known_of}
use Rattle.graphql_execution_walk.proofs.FrameLemmas.{taught-news, untaught}
use Rattle.graphql_execution_walk.proofs.stack.taught.Goals as goal

pub returns-in_default : goal.returns-in_default
returns-in_default g c = untaught c.args.known (known_of c.args.begun.now)

pub returns : goal.returns
returns g c = taught-news c.args.known c.put.new.self c.in-Some.news (known_of c.args.begun.now) (rw c.in-Some.is at c.in_ok-news.ensures) c.in_ok-put.ensures.ok
