use Rattle.std.proofs.Common.{◌≡◌, ℕ, List, map, take}
use Rattle.graphql_names.specs.Names.{named}
use Rattle.graphql_rule_errors.specs.Found.{item_named}
use Rattle.graphql_rule_errors.specs.Places.{Reports}
use Rattle.graphql_rule_errors.specs.Repeats.{repeats}
use Rattle.graphql_rule_errors.proofs.repeats.report_repeats.Given as goal

-- the map has the first of each name so far, and those behind a first one are reported
abbrev pub invariant-mentions : goal.invariant-mentions
invariant-mentions g l = record {
  first : (name : List ℕ) → item_named l.seen name ≡ named (λ (m : g.row.M.Denot). (g.M.Mentions.mention_of m).name) (take l.mention-index l.mentions) name;
  reported : Reports (repeats (map g.M.Mentions.mention_of (take l.mention-index l.mentions))) l.initial.errors l.errors;
}
