use Rattle.graphql_service.proofs.WrittenAnswers.{on_err, on_ok}
use Rattle.graphql_stores.proofs.CachedAnswers.{kept-line, not-broken, own-parts}
use Rattle.graphql_stores.proofs.answer_cache.AnswerCache+S+R+R+Context.append_line.Goals as goal

pub returns-in-Some : goal.returns-in-Some
returns-in-Some g c =
    let old = c.args.self.now in
    record {
      answers =
          on_ok c.push_text.result _ _
          (λ written. (
            c.in-Some.kept.now,
            written,
            kept-line _ old c.args.line.now c.in-Some.kept.now c.values_are_lines.ensures
                (λ t o n. c.answer_lines_have_distinct_keys.ensures old.service c.args.line.now t o n) c.in-Some.ensures,
          ))
          c.push_text.ensures.written;
      breaks = on_err c.push_text.result _ (not-broken _ old c.args.line.now);
      parts = own-parts old.service;
      kept = c.push_text.ensures.kept;
    }
