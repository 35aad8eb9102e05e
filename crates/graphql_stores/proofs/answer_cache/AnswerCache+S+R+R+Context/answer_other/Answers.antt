use Rattle.std.proofs.Common.{rules, ◌≡◌, false, sym, subst, ap, ◌∙◌}
use Rattle.graphql_json.specs.Writing.{KeepsFront}
use Rattle.graphql_stores.specs.AnswerEnds.{begins_with_data}
use Rattle.graphql_stores.proofs.CachedAnswers.{answered-cleared, behind-is, front-within, refused-left}
use Rattle.graphql_stores.proofs.answer_cache.AnswerCache+S+R+R+Context.answer_other.Goals as goal

pub behind-requires : goal.behind-requires
behind-requires g c =
    front-within c.args.out.now.items c.as_slice.result.now c.len-length.result
    (c.len-length.ensures ∙ c.args.out.now.ok.0)
    (subst (λ xs. KeepsFront c.args.out.now.items xs) (sym c.as_slice.ensures.value) c.ask.ensures.front)

pub returns-in-Err : goal.returns-in-Err
returns-in-Err g c = λ line x. record {
  answers = tt;
  breaks = c.in-Err.ensures.broken line x;
  parts = c.in-Err.ensures.parts;
  kept = c.in-Err.ensures.kept;
}

pub returns-then-not-is_executed : goal.returns-then-not-is_executed
returns-then-not-is_executed g c = λ line x.
    let h = c.in-Ok.ensures.answers line x in
    let counted = c.len-length.ensures ∙ c.args.out.now.ok.0 in
    let here : c.behind.result.now ≡ h.0 =
    behind-is c.args.out.now.items c.as_slice.result.now h.0 c.behind.result.now c.len-length.result counted
    (c.as_slice.ensures.value ∙ h.1) c.behind.ensures in
    let refused : c.is_executed.result ≡ false = search rules in
    let told : begins_with_data h.0 ≡ false = ap begins_with_data (sym here) ∙ sym c.is_executed.ensures ∙ refused in
    record {
      answers = (
        h.0,
        h.1,
        refused-left _ c.args.self.now line h.0 c.answers_show_errors.ensures c.ask.new.self.service
            c.ask.new.self.kept h.2.1 h.2.0 told c.in-Ok.ensures.same,
      );
      breaks = tt;
      parts = h.2.1;
      kept = tt;
    }

pub returns : goal.returns
returns g c = λ line x.
    let h = c.in-Ok.ensures.answers line x in
    record {
      answers = (
        h.0,
        h.1,
        answered-cleared _ c.args.self.now line h.0 c.ask.new.self.service c.clear.new.self h.2.1 h.2.0
            c.clear.ensures.by_line c.clear.ensures.by_plain,
      );
      breaks = tt;
      parts = h.2.1;
      kept = tt;
    }
