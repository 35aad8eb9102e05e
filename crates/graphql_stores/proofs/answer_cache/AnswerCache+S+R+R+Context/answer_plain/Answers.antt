use Rattle.std.proofs.Common.{rules, ◌≡◌, true, sym, ap, subst, ◌∙◌, string_bytes, codes, nat_eq}
use Rattle.std.specs.List.{starts_with}
use Rattle.graphql_lines.specs.Request.{request_of}
use Rattle.graphql_stores.specs.PlainLines.{AsksPlain}
use Rattle.graphql_stores.proofs.CachedAnswers.{shares-query}
use Rattle.graphql_stores.proofs.answer_cache.AnswerCache+S+R+R+Context.answer_plain.Goals as goal

pub answer_query-requires-clause-shares : goal.answer_query-requires-clause-shares
answer_query-requires-clause-shares g c =
    let plain = string_bytes c.args.printed.text in
    let names = c.args.printed.used.keys in
    let service = c.args.self.now.service in
    let told : c.is_query.result ≡ true = search rules in
    let begins : starts_with nat_eq plain (codes "query") ≡ true =
    ap (λ b. starts_with nat_eq b (codes "query")) (sym c.as_bytes.ensures.value) ∙ sym c.is_query.ensures ∙ told in
    let asks : AsksPlain (request_of c.args.line.now) plain names c.as_str.result.now =
    subst (λ key. AsksPlain (request_of c.args.line.now) plain names key) (sym c.as_str.ensures.value) c.in-Some.ensures in
    shares-query _ service c.args.line.now plain c.as_str.result.now names c.requires.has begins asks

pub returns-then-not-is_query : goal.returns-then-not-is_query
returns-then-not-is_query g c = c.answer_other.ensures c.args.line.now c.requires.reads.executes

pub returns-in-None : goal.returns-in-None
returns-in-None g c = c.answer_other-in-None.ensures c.args.line.now c.requires.reads.executes

pub answer_other-requires : goal.answer_other-requires
answer_other-requires g c = c.requires.reads.settled

pub answer_other-requires-in-None : goal.answer_other-requires-in-None
answer_other-requires-in-None g c = c.requires.reads.settled
