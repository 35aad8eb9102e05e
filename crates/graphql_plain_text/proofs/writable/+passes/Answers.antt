use Rattle.std.proofs.Common.{arith}
use Rattle.std.proofs.lemmas.Grind.{common_steps}
use Rattle.graphql_plain_text.proofs.WritableLemmas.{list_tested, object_tested}
use Rattle.graphql_plain_text.proofs.writable.+passes.Goals as goal

pub returns-then-not-passes : goal.returns-then-not-passes
returns-then-not-passes t c = let s = list_tested c.args.is_const c.in-List.items in grind (arith, common_steps)

pub returns-then-not-is_name : goal.returns-then-not-is_name
returns-then-not-is_name t c = let s = object_tested c.args.is_const c.in-Object.pairs in grind (arith, common_steps)

pub returns-then-not-passes-2 : goal.returns-then-not-passes-2
returns-then-not-passes-2 t c = let s = object_tested c.args.is_const c.in-Object.pairs in grind (arith, common_steps)

pub returns-after-loop-item : goal.returns-after-loop-item
returns-after-loop-item t c = let s = list_tested c.args.is_const c.in-List.items in grind (arith, common_steps)

pub returns-after-loop-pair : goal.returns-after-loop-pair
returns-after-loop-pair t c = let s = object_tested c.args.is_const c.in-Object.pairs in grind (arith, common_steps)
