use Rattle.std.proofs.Common.{ap, option_map, string_bytes, subst, sym, ◌∙◌}
use Rattle.graphql_stores.specs.Stores.{TakesLine}
use Rattle.graphql_stores.proofs.TakenLines.{empty-taken, text-taken}
use Rattle.graphql_stores.proofs.allowed_queries.AllowedQueries.take_line.Goals.{in-Err, in-Ok}
use Rattle.graphql_stores.proofs.allowed_queries.AllowedQueries.take_line.Goals as goal

pub returns-then-is_empty : goal.returns-then-is_empty
returns-then-is_empty c = empty-taken c.args.self.now c.args.line.now c.if-is_empty.ensures

pub returns-after-insert : goal.returns-after-insert
returns-after-insert c =
    let told = sym (ap (option_map (λ text. string_bytes text)) c.in-Some.is) ∙ c.in_ok-plain.ensures in
    elim c.match-insert.branch as (λ w. TakesLine c.args.self.now c.args.line.now c.args.before (record { texts = c.insert.new.self }) c.match-insert.result) [
      | in-Ok w ↦
          subst (TakesLine c.args.self.now c.args.line.now c.args.before (record { texts = c.insert.new.self })) (sym w.result-is)
          (text-taken c.args.self.now (record { texts = c.insert.new.self }) c.args.line.now c.in-Some.plain c.if-is_empty.ensures told w.in-Ok.ensures.updates)
      | in-Err w ↦
          subst (TakesLine c.args.self.now c.args.line.now c.args.before (record { texts = c.insert.new.self })) (sym w.result-is) tt
    ]
