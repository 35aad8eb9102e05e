use Rattle.std.proofs.Common.{sym, ap}
use Rattle.std.specs.Option.{is_some}
use Rattle.graphql_rule_errors.proofs.FoundLemmas.{put_one}
use Rattle.graphql_rule_errors.proofs.repeats.first_mention.Goals as goal

pub returns-in_ok-insert-in-None-clause-seen : goal.returns-in_ok-insert-in-None-clause-seen
returns-in_ok-insert-in-None-clause-seen g c =
    put_one c.args.seen.now c.insert.new.self (g.M.Mentions.mention_of c.args.mention.now).name c.name-name.result.now c.args.mention c.name-name.ensures
    (sym (ap is_some c.in-None.ensures.value)) c.in_ok-insert-in-None.ensures.updates
