use Rattle.std.proofs.Common.{rules, ◌≡◌}
use Rattle.graphql_rules_merging.specs.PairTables.{GivesPair, HasNone}
use Rattle.graphql_rules_merging.proofs.Queues.{takes_apart, takes_together}
use Rattle.graphql_rules_merging.proofs.agenda.Agenda.next.Goals as goal

pub returns-in-Some : goal.returns-in-Some
returns-in-Some c =
    let old = c.args.self.now in
    let new = c.next.new.self in
    let given : GivesPair c.in-Some.left c.in-Some.right old.together.given new.given old.together.waiting new.waiting = rw c.in-Some.is at c.in_ok-left.ensures in
    takes_together c.in-Some.left c.in-Some.right old.together.waiting old.apart.waiting old.together.given old.apart.given new.waiting new.given given

pub returns : goal.returns
returns c =
    let old = c.args.self.now in
    let none = c.next.new.self in
    let new = c.next-2.new.self in
    let still : HasNone old.together.waiting none.waiting × (none.given ≡ old.together.given) = search rules in
    let given : GivesPair c.in-Some-2.left c.in-Some-2.right old.apart.given new.given old.apart.waiting new.waiting = rw c.in-Some-2.is at c.in_ok-left-2.ensures in
    takes_apart c.in-Some-2.left c.in-Some-2.right old.together.waiting old.apart.waiting old.together.given old.apart.given none.waiting none.given new.waiting new.given
    still.0 still.1 given
