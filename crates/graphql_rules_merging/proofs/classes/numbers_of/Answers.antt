use Rattle.std.proofs.Common.{sym, subst}
use Rattle.graphql_values.proofs.SameValueLaws.{by_a_third}
use Rattle.graphql_rules_merging.specs.Classes.{AreAllNumbered}
use Rattle.graphql_rules_merging.proofs.Classing.{numbers-tell, no-numbers}
use Rattle.graphql_rules_merging.proofs.classes.numbers_of.Goals as goal

pub returns-then-not-right : goal.returns-then-not-right
returns-then-not-right g c =
    subst (AreAllNumbered g.S.PartialEq.eq c.args.schema.now.types c.args.table.now) (sym c.new.ensures.items)
    (no-numbers g.S.PartialEq.eq c.args.schema.now.types c.args.table.now)

pub returns : goal.returns
returns g c =
    numbers-tell g.S.PartialEq.eq c.args.schema.now.types (by_a_third g.S.PartialEq.eq g.met.S.Eq.laws) c.args.table.now c.in_ok-draft.draft
    (c.in_ok-right.ensures c.if-not-right.false)
