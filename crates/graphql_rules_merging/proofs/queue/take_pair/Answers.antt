use Rattle.std.proofs.Common.{sym, subst, ◌∙◌}
use Rattle.graphql_rules_merging.specs.PairTables.{AreListed}
use Rattle.graphql_rules_merging.proofs.Bits.{popped, no_last}
use Rattle.graphql_rules_merging.proofs.Tables.{listed_less, none_listed, same_emptied}
use Rattle.graphql_rules_merging.proofs.queue.take_pair.Goals as goal

pub rows-preserved : goal.rows-preserved
rows-preserved c =
    let old = c.rows.table in
    let new = c.take_of_row.new.table in
    let right = c.in-Some.right in
    let h = c.in_default-take_of_row.ensures.taken in
    let dropped = popped c.pop.result c.rows.rows c.pop.new.self right c.pop.ensures (c.in-Some.ensures ∙ c.last.ensures) in
    record {
      listed = listed_less old new c.pop.new.self right (subst (AreListed old) dropped c.rows.invariant.listed) h.0 c.take_of_row.ensures.others;
      same = (λ p q. same_emptied old new right h.1 h.0 c.take_of_row.ensures.others p q ∙ c.rows.invariant.same p q);
    }

pub returns-clause-taken : goal.returns-clause-taken
returns-clause-taken c = λ p q.
    let none = none_listed c.rows.table (subst (AreListed c.rows.table) (no_last c.rows.rows (c.in_default.ensures ∙ c.last.ensures)) c.rows.invariant.listed) in
    (sym (c.rows.invariant.same p q) ∙ none p q, none p q)
