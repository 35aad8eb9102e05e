use Rattle.std.proofs.Common.{◌≡◌, Some, None, map, take, cond, sym, subst, ap, ◌∙◌, arith}
use Rattle.std.proofs.lemmas.List.{take_all}
use Rattle.std.specs.Option.{option_copied, option_map, option_or}
use Rattle.std.specs.Str.{bytes_eq}
use Rattle.graphql_rule_errors.specs.Places.{Reports}
use Rattle.graphql_rule_errors.specs.Repeats.{behind_first, repeats}
use Rattle.graphql_rule_errors.proofs.FoundLemmas.{one_more_named}
use Rattle.graphql_rule_errors.proofs.RepeatLemmas.{repeats_few, repeats_next}
use Rattle.graphql_rule_errors.proofs.ReportLemmas.{reports_as, reports_more, reports_none}
use Rattle.graphql_rule_errors.proofs.repeats.report_repeats.Goals as goal

pub returns-then-mentions-lt2 : goal.returns-then-mentions-lt2
returns-then-mentions-lt2 g c =
    reports_as _ _ c.args.errors.now c.args.errors.now (sym (repeats_few g.M.Mentions.mention_of c.args.mentions.now (omega arith))) (reports_none c.args.errors.now)

pub mentions-preserved : goal.mentions-preserved
mentions-preserved g c =
    let mention_of = g.M.Mentions.mention_of in
    let name_of = λ (m : g.row.M.Denot). (mention_of m).name in
    let xs = c.args.mentions.now in
    let i = c.mentions.mention-index in
    let x = c.mention-item.result in
    let found_first = option_copied c.in_ok-first.first in
    record {
      first = λ q.
          c.in_ok-first.ensures.seen q
          ∙ ap (λ o. option_or o (cond (bytes_eq (name_of x) q) (Some x) None)) (c.mentions.invariant.first q)
          ∙ sym (one_more_named name_of xs i x q c.mentions-test.true c.mention-item.is);
      reported =
          reports_as _ _ c.args.errors.now c.report_behind.new.errors
          (repeats_next mention_of xs i x c.mentions-test.true c.mention-item.is found_first (c.in_ok-first.ensures.first ∙ c.mentions.invariant.first (name_of x)))
          (reports_more (repeats (map mention_of (take i xs))) (behind_first (option_map mention_of found_first) (mention_of x)) c.args.errors.now c.mentions.errors c.report_behind.new.errors c.mentions.invariant.reported c.in_ok-report_behind.ensures);
    }

pub returns : goal.returns
returns g c =
    let whole : take c.mentions.mention-index c.args.mentions.now ≡ c.args.mentions.now = take_all c.mentions.mention-index c.args.mentions.now (omega arith) in
    subst (λ xs. Reports (repeats (map g.M.Mentions.mention_of xs)) c.args.errors.now c.mentions.errors) whole c.mentions.invariant.reported
