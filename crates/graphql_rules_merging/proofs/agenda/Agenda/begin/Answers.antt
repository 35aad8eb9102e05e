use Rattle.std.proofs.Common.{subst}
use Rattle.std.proofs.lemmas.Result.{on_ok_weaker}
use Rattle.graphql_rules_merging.specs.Agenda.{Lists, listed_of}
use Rattle.graphql_rules_merging.proofs.Queues.{lists_apart, lists_together}
use Rattle.graphql_rules_merging.proofs.agenda.Agenda.begin.Goals as goal

pub returns-then-pair : goal.returns-then-pair
returns-then-pair c =
    let old = c.args.self.now in
    let new = c.begin.new.self in
    on_ok_weaker c.begin.result
    (λ h. subst (λ k. Lists k (listed_of old) (listed_of (record { together = old.together; apart = new }))) c.pair_of-pair.ensures
    (lists_apart c.pair_of-pair.result old.together.waiting old.apart.waiting old.together.given old.apart.given new.waiting new.given c.if-pair.true c.begin.ensures.given h))
    c.begin.ensures.begun

pub returns-else-pair : goal.returns-else-pair
returns-else-pair c =
    let old = c.args.self.now in
    let new = c.begin-else-pair.new.self in
    on_ok_weaker c.begin-else-pair.result
    (λ h. subst (λ k. Lists k (listed_of old) (listed_of (record { together = new; apart = old.apart }))) c.pair_of-pair.ensures
    (lists_together c.pair_of-pair.result old.together.waiting old.apart.waiting old.together.given old.apart.given new.waiting new.given c.if-pair.false
    c.begin-else-pair.ensures.given h))
    c.begin-else-pair.ensures.begun
