use Rattle.std.proofs.Common.{rules, ◌≡◌, ◌&&◌, not, true, sym, ap, subst, ◌∙◌}
use Rattle.graphql_stores.specs.Keeping.{KeepsAtMost}
use Rattle.graphql_stores.specs.AnswerEnds.{begins_with_data, ends_with_list}
use Rattle.graphql_stores.proofs.CachedAnswers.{behind-is, counted-within, query-kept, query-left}
use Rattle.graphql_stores.proofs.answer_cache.AnswerCache+S+R+R+Context.answer_first.Goals as goal

pub behind-text-requires : goal.behind-text-requires
behind-text-requires g c =
    let h = c.in-Ok.ensures.answers c.args.line.now c.requires.reads.executes in
    counted-within c.args.out.now.items c.as_slice.result.now h.0 c.len-length.result (c.len-length.ensures ∙ c.args.out.now.ok.0)
    (c.as_slice.ensures.value ∙ h.1)

pub returns-in-Err : goal.returns-in-Err
returns-in-Err g c = record {
  answers = tt;
  breaks = c.in-Err.ensures.broken c.args.line.now c.requires.reads.executes;
  parts = c.in-Err.ensures.parts;
  kept = c.in-Err.ensures.kept;
}

pub returns-then-not-is_whole : goal.returns-then-not-is_whole
returns-then-not-is_whole g c =
    let h = c.in-Ok.ensures.answers c.args.line.now c.requires.reads.executes in
    record {
      answers = (
        h.0,
        h.1,
        query-left _ c.args.self.now c.args.line.now h.0 c.args.key.now c.requires.shares c.answers_are_shared.ensures
            c.queries_leave_the_context.ensures c.ask.new.self.service h.2.1 h.2.0 c.ask.new.self.kept c.in-Ok.ensures.same,
      );
      breaks = tt;
      parts = h.2.1;
      kept = tt;
    }

pub returns : goal.returns
returns g c =
    let h = c.in-Ok.ensures.answers c.args.line.now c.requires.reads.executes in
    let kept = c.ask.new.self.kept in
    let mid = c.keep_plain.new.self in
    let new = c.keep_line.new.self in
    let counted = c.len-length.ensures ∙ c.args.out.now.ok.0 in
    let here : c.behind-text.result.now ≡ h.0 =
    behind-is c.args.out.now.items c.as_slice.result.now h.0 c.behind-text.result.now c.len-length.result counted
    (c.as_slice.ensures.value ∙ h.1) c.behind-text.ensures in
    let told : c.is_whole.result ≡ true = search rules in
    let whole : begins_with_data h.0 && not (ends_with_list h.0) ≡ true =
    ap (λ t. begins_with_data t && not (ends_with_list t)) (sym here) ∙ sym c.is_whole.ensures ∙ told in
    let plains : KeepsAtMost kept.by_plain mid.by_plain c.args.key.now h.0 =
    subst (λ t. KeepsAtMost kept.by_plain mid.by_plain c.args.key.now t) here c.keep_plain.ensures.by_plain in
    let lines : KeepsAtMost mid.by_line new.by_line c.args.line.now h.0 =
    subst (λ t. KeepsAtMost mid.by_line new.by_line c.args.line.now t) here c.keep_line.ensures.by_line in
    record {
      answers = (
        h.0,
        h.1,
        query-kept _ c.args.self.now c.args.line.now h.0 c.args.key.now c.requires.shares c.answers_are_shared.ensures
            c.queries_leave_the_context.ensures c.ask.new.self.service h.2.1 h.2.0 c.answers_show_errors.ensures whole kept mid new
            c.in-Ok.ensures.same plains c.keep_plain.ensures.by_line lines c.keep_line.ensures.by_plain,
      );
      breaks = tt;
      parts = h.2.1;
      kept = tt;
    }

pub ask-requires : goal.ask-requires
ask-requires g c = c.requires.reads.settled
