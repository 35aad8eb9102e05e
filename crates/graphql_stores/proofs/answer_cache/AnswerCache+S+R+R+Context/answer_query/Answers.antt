use Rattle.std.proofs.Common.{◌≡◌, refl, subst, ◌∙◌}
use Rattle.graphql_stores.specs.Keeping.{KeepsAtMost}
use Rattle.graphql_stores.proofs.CachedAnswers.{behind-is, counted-within, kept-plain, not-broken, own-parts}
use Rattle.graphql_stores.proofs.answer_cache.AnswerCache+S+R+R+Context.answer_query.Goals as goal

pub behind-requires : goal.behind-requires
behind-requires g c =
    counted-within c.args.out.now.items c.as_slice.result.now c.in-Some.kept.now c.len-length.result
    (c.len-length.ensures ∙ c.args.out.now.ok.0) (c.as_slice.ensures.value ∙ c.in-Ok.ensures.written)

pub returns-in-Ok : goal.returns-in-Ok
returns-in-Ok g c =
    let old = c.args.self.now in
    let found = c.in-Some.kept.now in
    let new = c.keep_line.new.self in
    let written = c.in-Ok.ensures.written in
    let here : c.behind.result.now ≡ found =
    behind-is c.args.out.now.items c.as_slice.result.now found c.behind.result.now c.len-length.result
    (c.len-length.ensures ∙ c.args.out.now.ok.0) (c.as_slice.ensures.value ∙ written) c.behind.ensures in
    let most : KeepsAtMost old.kept.by_line new.by_line c.args.line.now found =
    subst (λ t. KeepsAtMost old.kept.by_line new.by_line c.args.line.now t) here c.keep_line.ensures.by_line in
    record {
      answers = (
        found,
        written,
        kept-plain _ old c.args.line.now found c.args.key.now c.requires.shares c.answers_are_shared.ensures
            c.values_are_lines.ensures
            (λ t o n. c.answer_lines_have_distinct_keys.ensures old.service c.args.line.now t o n)
            found c.in-Some.ensures refl new most c.keep_line.ensures.by_plain,
      );
      breaks = tt;
      parts = own-parts old.service;
      kept = tt;
    }

pub returns-in-Err : goal.returns-in-Err
returns-in-Err g c = record {
  answers = tt;
  breaks = not-broken _ c.args.self.now c.args.line.now;
  parts = own-parts c.args.self.now.service;
  kept = c.in-Err.ensures.kept;
}
