-- What is answered from answers that are kept, and that answers are kept then.
use Rattle.std.proofs.Common.{◌≡◌, ◌≤◌, ◌⊎◌, inl, inr, refl, sym, ◌∙◌, ap, subst, arith, ℕ, Bool, true, false, not, ◌&&◌, [], ◌++◌, length, drop, codes, nat_eq, List, Result, Ok, Err, OnErr, OnOk}
use Rattle.std.proofs.Math.Seq.{drop-append_seam}
use Rattle.std.proofs.lemmas.List.{length-append}
use Rattle.std.specs.List.{starts_with}
use Rattle.graphql_names.specs.Names.{Bytes}
use Rattle.graphql_output_values.specs.declared.value.Value.{Value}
use Rattle.graphql_schema.specs.declared.root_node.RootNode.{RootNode}
use Rattle.graphql_executor.specs.Answered.{IsAnswered}
use Rattle.graphql_executor.specs.Requests.{GraphQLError}
use Rattle.graphql_executor.specs.Requests as error
use Rattle.graphql_stores.specs.Keeping.{IsKept, KeepsAtMost, KeepsNothing}
use Rattle.graphql_stores.specs.declared.kept_texts.KeptTexts.{KeptTexts}
use Rattle.graphql_json.specs.Writing.{KeepsFront}
use Rattle.graphql_lines.specs.Request.{Request, request_of}
use Rattle.graphql_lines.specs.Variables.{IsDue}
use Rattle.graphql_lines.specs.declared.refusal.LineRefusal.{LineRefusal}
use Rattle.graphql_lines.specs.declared.refusal.LineRefusal.TheVariants as refusal
use Rattle.graphql_answers.specs.Lines.{ValuesAreLines, line_of}
use Rattle.graphql_answers.specs.Responses.{response_of}
use Rattle.graphql_service.specs.AnsweredBy.{AnsweredBy}
use Rattle.graphql_service.specs.Answers.{Answerer, Appends, IsAnswer, IsExecuted, IsNoRequest, IsNotExecuted, LeavesBroken, answerer_of, asked_by}
use Rattle.graphql_service.specs.Laws.{IsLineOfDistinctKeys}
use Rattle.graphql_service.specs.PlainRequests.{TakesStandIn}
use Rattle.graphql_service.specs.Serving.{AnswersLine, HasPartsOf}
use Rattle.graphql_service.specs.declared.service.Service.{Service}
use Rattle.graphql_service.proofs.WrittenAnswers.{answer_is_line, due}
use Rattle.graphql_stores.specs.AnswerEnds.{begins_with_data, ends_with_list}
use Rattle.graphql_stores.specs.Caching.{AnswersBehind, CacheAnswers, CacheBreaks, KeepsAnswers}
use Rattle.graphql_stores.specs.Laws.{AnswersAreShared, AnswersShowErrors, HasPlainUsing, QueriesLeaveTheContext, SharesQuery}
use Rattle.graphql_stores.specs.PlainLines.{AsksPlain}
use Rattle.graphql_stores.specs.StoredAnswers.{AreAnswers, AreWholeAnswers, IsWholeAnswer}
use Rattle.graphql_stores.specs.declared.answer_cache.AnswerCache.{AnswerCache}
use Rattle.graphql_stores.specs.declared.kept_answers.KeptAnswers.{KeptAnswers}

-- what is kept after a text is kept was kept before, or has what that text has
added : (P : Bytes → Bytes → Type 0) (old new : KeptTexts) (key text : Bytes) → KeepsAtMost old new key text → P key text
    → (k t : Bytes) → IsKept new k t → IsKept old k t ⊎ P k t
added P old new key text most h k t kept = elim (most k t kept) [
  | inl before ↦ inl before
  | inr same ↦ inr (subst (λ l. P l t) same.0 (subst (λ x. P key x) same.1 h))
]

both-parts : (a b : Bool) → a && not b ≡ true → (a ≡ true) × (b ≡ false)
both-parts true true e = absurd (cc)
both-parts true false e = (refl, refl)
both-parts false b e = absurd (cc)

-- what stands behind so many bytes is what was written
pub behind-is : (old new text rest : Bytes) (n : ℕ) → n ≡ length old → new ≡ old ++ text → rest ≡ drop n new → rest ≡ text
behind-is old new text rest n counted written is =
    is ∙ ap (λ m. drop m new) counted ∙ ap (drop (length old)) written ∙ drop-append_seam old text

pub counted-within : (old new text : Bytes) (n : ℕ) → n ≡ length old → new ≡ old ++ text → n ≤ length new
counted-within old new text n counted written =
    subst (λ m. m ≤ length new) (sym counted)
    (subst (λ xs. length old ≤ length xs) (sym written) (omega (arith, length-append old text)))

pub front-within : (old new : Bytes) (n : ℕ) → n ≡ length old → KeepsFront old new → n ≤ length new
front-within old new n counted front = counted-within old new front.behind n counted front.is

-- two facts on `Err`
pub both-on-err : {A E : Type 0} (r : Result A E) (P Q : Type 0) → OnErr r P → OnErr r Q → OnErr r (P × Q)
both-on-err (Ok x) P Q h k = tt
both-on-err (Err e) P Q h k = (h, k)

pub own-parts : {S R X C : Type 0} (service : Service S R X C) → HasPartsOf service service
own-parts service = record { root_node = refl; resolver = refl; context = refl; line_limit = refl; selection_limit = refl }

module _ {S C N X R : Type 0} (answering : AnsweredBy S C N X R) where
  abbrev pub its_answerer : Service S R X C → Answerer S C N X
  its_answerer service = answerer_of answering service

  abbrev pub answerer_with : RootNode S C → R → ℕ → Answerer S C N X
  answerer_with root_node by limit = record {
    scalars = answering.scalars;
    by_rules = answering.by_rules;
    by_fields = answering.by_fields;
    schema = root_node.schema;
    introspection_disabled = root_node.introspection_disabled;
    limit = limit;
    resolver = answering.resolving by;
  }

  abbrev Keeps : AnswerCache S R X C → Type 0
  Keeps cache = KeepsAnswers answering cache

  abbrev Gives : AnswerCache S R X C → Bytes → Bytes → AnswerCache S R X C → Type 0
  Gives old line text new = CacheAnswers answering old line text new

  abbrev Breaks : AnswerCache S R X C → Bytes → AnswerCache S R X C → Type 0
  Breaks old line new = CacheBreaks answering old line new

  -- what holds by a service and on its context holds by one of the same parts on the same context
  moved : (P : Answerer S C N X → X → Type 0) (old new : Service S R X C) → HasPartsOf old new → new.context ≡ old.context
      → P (its_answerer old) old.context → P (its_answerer new) new.context
  moved P old new same left h =
      subst (λ n. P (answerer_with n new.resolver new.line_limit) new.context) (sym same.root_node)
      (subst (λ r. P (answerer_with old.root_node r new.line_limit) new.context) (sym same.resolver)
      (subst (λ l. P (answerer_with old.root_node old.resolver l) new.context) (sym same.line_limit)
      (subst (λ c. P (answerer_with old.root_node old.resolver old.line_limit) c) (sym left) h)))

  takes-still : (old new : Service S R X C) → HasPartsOf old new → TakesStandIn answering.scalars old.root_node.schema
      → TakesStandIn answering.scalars new.root_node.schema
  takes-still old new same h = subst (λ n. TakesStandIn answering.scalars n.schema) (sym same.root_node) h

  -- a cache of which nothing is kept
  pub none-kept : (service : Service S R X C) (kept : KeptAnswers) → KeepsNothing kept.by_line → KeepsNothing kept.by_plain
      → TakesStandIn answering.scalars service.root_node.schema → Keeps (record { service = service; kept = kept })
  none-kept service kept no_line no_plain takes = record {
    takes = takes;
    by_line = λ line text h. absurd (no_line line text h);
    by_plain = λ line text h. absurd (no_plain line text h);
  }

  -- a cache that keeps what was kept, on the same context, and answers
  still-kept : (old : AnswerCache S R X C) (service : Service S R X C) (kept : KeptAnswers) → HasPartsOf old.service service
      → service.context ≡ old.service.context
      → ((k t : Bytes) → IsKept kept.by_line k t → IsKept old.kept.by_line k t ⊎ IsAnswer (its_answerer old.service) k old.service.context t old.service.context)
      → ((k t : Bytes) → IsKept kept.by_plain k t → IsKept old.kept.by_plain k t ⊎ IsWholeAnswer (its_answerer old.service) old.service.context k t)
      → Keeps old → Keeps (record { service = service; kept = kept })
  still-kept old service kept same left lines plains keeps = record {
    takes = takes-still old.service service same keeps.takes;
    by_line =
        moved (λ a c. AreAnswers a c kept.by_line) old.service service same left
        (λ k t h. elim (lines k t h) [ inl before ↦ keeps.by_line k t before | inr answer ↦ answer ]);
    by_plain =
        moved (λ a c. AreWholeAnswers a c kept.by_plain) old.service service same left
        (λ k t h. elim (plains k t h) [ inl before ↦ keeps.by_plain k t before | inr answer ↦ answer ]);
  }

  -- where memory runs out in the service
  pub let-go : (old : AnswerCache S R X C) (service : Service S R X C) (kept : KeptAnswers) (line : Bytes) → HasPartsOf old.service service
      → LeavesBroken (its_answerer old.service) line old.service.context service.context
      → KeepsNothing kept.by_line → KeepsNothing kept.by_plain → Breaks old line (record { service = service; kept = kept })
  let-go old service kept line same broken no_line no_plain keeps =
      ((broken, same), none-kept service kept no_line no_plain (takes-still old.service service same keeps.takes))

  -- an answer that changes nothing
  pub unchanged-answer : (cache : AnswerCache S R X C) (line text : Bytes)
      → AnswersLine (its_answerer cache.service) cache.service.context line text cache.service.context
      → Gives cache line text cache
  unchanged-answer cache line text answer keeps = ((answer, own-parts cache.service), keeps)

  -- where memory runs out and nothing has changed
  pub not-broken : (cache : AnswerCache S R X C) (line : Bytes) → Breaks cache line cache
  not-broken cache line keeps = ((inl refl, own-parts cache.service), keeps)

  module _ (cache : AnswerCache S R X C) (line before after : Bytes) where
    abbrev Refusal : Bytes → Type 0
    Refusal l =
        Appends (λ text. AnswersLine (its_answerer cache.service) cache.service.context l text
        cache.service.context) before after

    -- the refusal of a line, or want of memory for it, changes nothing
    pub refuses-line : {A E : Type 0} (result : Result A E) (why : LineRefusal)
        → OnOk result ((l : Bytes) → IsNoRequest (its_answerer cache.service) l why → Refusal l)
        → OnOk result (why ≡ refusal.Memory → ⊥) → OnErr result (after ≡ before)
        → ((why ≡ refusal.Memory → ⊥) → IsNoRequest (its_answerer cache.service) line why)
        → AnswersBehind answering result cache line before after cache
    refuses-line (Ok x) why told is kept stands =
        let written : Refusal line = told line (stands is) in
        record {
          answers = (written.0, written.1, unchanged-answer cache line written.0 written.2);
          breaks = tt;
          parts = own-parts cache.service;
          kept = tt;
        }
    refuses-line (Err e) why told is kept stands = record {
      answers = tt;
      breaks = not-broken cache line;
      parts = own-parts cache.service;
      kept = kept;
    }

    -- the same of a line that is read, and is no request
    pub refuses-due : {A E : Type 0} (result : Result A E) (why : LineRefusal)
        → OnOk result ((l : Bytes) → IsNoRequest (its_answerer cache.service) l why → Refusal l)
        → OnOk result (why ≡ refusal.Memory → ⊥) → OnErr result (after ≡ before)
        → length line ≤ cache.service.line_limit
        → ((why ≡ refusal.Memory → ⊥)
        → IsDue answering.scalars.of_bool answering.scalars.of_int answering.scalars.of_text (λ (q : Request). q.variables)
        (request_of line) why)
        → AnswersBehind answering result cache line before after cache
    refuses-due result why told is kept within stands =
        refuses-line result why told is kept
        (λ whole. due (its_answerer cache.service) line why within (stands whole))

    -- the same of a request
    pub refuses-request : {A E : Type 0} (result : Result A E) (why : GraphQLError)
        → OnOk result ((l : Bytes) → IsNotExecuted (its_answerer cache.service) l why → Refusal l)
        → OnOk result (why ≡ error.Memory → ⊥) → OnErr result (after ≡ before)
        → ((why ≡ error.Memory → ⊥) → IsNotExecuted (its_answerer cache.service) line why)
        → AnswersBehind answering result cache line before after cache
    refuses-request (Ok x) why told is kept stands =
        let written : Refusal line = told line (stands is) in
        record {
          answers = (written.0, written.1, unchanged-answer cache line written.0 written.2);
          breaks = tt;
          parts = own-parts cache.service;
          kept = tt;
        }
    refuses-request (Err e) why told is kept stands = record {
      answers = tt;
      breaks = not-broken cache line;
      parts = own-parts cache.service;
      kept = kept;
    }

  module _ (old : AnswerCache S R X C) (line text : Bytes) where
    abbrev a : Answerer S C N X
    a = its_answerer old.service

    -- the service's answer, after which nothing is kept
    pub answered-cleared : (service : Service S R X C) (kept : KeptAnswers) → HasPartsOf old.service service
        → AnswersLine a old.service.context line text service.context
        → KeepsNothing kept.by_line → KeepsNothing kept.by_plain → Gives old line text (record { service = service; kept = kept })
    answered-cleared service kept same answer no_line no_plain keeps =
        ((answer, same), none-kept service kept no_line no_plain (takes-still old.service service same keeps.takes))

    -- the service's answer where the context is left
    pub answered-left : (service : Service S R X C) (kept : KeptAnswers) → HasPartsOf old.service service
        → AnswersLine a old.service.context line text service.context
        → service.context ≡ old.service.context → kept ≡ old.kept → Gives old line text (record { service = service; kept = kept })
    answered-left service kept same answer left unchanged keeps = (
      (answer, same),
      still-kept old service kept same left (λ k t h. inl (subst (λ (m : KeptAnswers). IsKept m.by_line k t) unchanged h))
          (λ k t h. inl (subst (λ (m : KeptAnswers). IsKept m.by_plain k t) unchanged h)) keeps,
    )

    pub refused-left : AnswersShowErrors a → (service : Service S R X C) (kept : KeptAnswers) → HasPartsOf old.service service
        → AnswersLine a old.service.context line text service.context
        → begins_with_data text ≡ false → kept ≡ old.kept → Gives old line text (record { service = service; kept = kept })
    refused-left shows service kept same answer refused unchanged =
        answered-left service kept same answer ((shows line text old.service.context service.context answer.answer).0 refused) unchanged

    -- an answer that is kept is a line
    as-line : ValuesAreLines → ((t : Bytes) (o n : X) → IsAnswer a line o t n → IsLineOfDistinctKeys t)
        → IsAnswer a line old.service.context text old.service.context
        → AnswersLine a old.service.context line text old.service.context
    as-line lines distinct answer = record {
      answer = answer;
      one_line = answer_is_line a line lines old.service.context old.service.context text answer;
      distinct = distinct text old.service.context old.service.context answer;
    }

    -- what is kept for the line
    pub kept-line : ValuesAreLines → ((t : Bytes) (o n : X) → IsAnswer a line o t n → IsLineOfDistinctKeys t)
        → IsKept old.kept.by_line line text → Gives old line text old
    kept-line lines distinct kept keeps =
        ((as-line lines distinct (keeps.by_line line text kept), own-parts old.service), keeps)

    module _ (key : Bytes) (shares : SharesQuery answering old.service line key)
        (law : AnswersAreShared answering old.service) where
      -- what is kept for the plain text, and then for the line
      pub kept-plain : ValuesAreLines → ((t : Bytes) (o n : X) → IsAnswer a line o t n → IsLineOfDistinctKeys t)
          → (found : Bytes) → IsKept old.kept.by_plain key found → text ≡ found
          → (kept : KeptAnswers) → KeepsAtMost old.kept.by_line kept.by_line line text → kept.by_plain ≡ old.kept.by_plain
          → Gives old line text (record { service = old.service; kept = kept })
      kept-plain lines distinct found stored same kept most unchanged keeps =
          let whole : IsWholeAnswer a old.service.context key text =
          subst (λ t. IsWholeAnswer a old.service.context key t) (sym same) (keeps.by_plain key found stored) in
          let answer : IsAnswer a line old.service.context text old.service.context =
          (law keeps.takes line key shares.plain text old.service.context shares.shared).0 whole in (
            (as-line lines distinct answer, own-parts old.service),
            still-kept old old.service kept (own-parts old.service) refl
                (added (λ k t. IsAnswer a k old.service.context t old.service.context) old.kept.by_line kept.by_line line text most answer)
                (λ k t h. inl (subst (λ m. IsKept m k t) unchanged h)) keeps,
          )

      module _ (leaves : QueriesLeaveTheContext a) (service : Service S R X C) (same : HasPartsOf old.service service)
          (answer : AnswersLine a old.service.context line text service.context) where
        left : service.context ≡ old.service.context
        left =
            leaves old.service.selection_limit line shares.plain text old.service.context service.context shares.shared.has.has
            shares.begins answer.answer

        -- the service's answer to a query, which is not kept
        pub query-left : (kept : KeptAnswers) → kept ≡ old.kept → Gives old line text (record { service = service; kept = kept })
        query-left kept unchanged = answered-left service kept same answer left unchanged

        whole-answer : (found : Value S) → IsExecuted a line old.service.context found [] service.context
            → text ≡ line_of (response_of a.scalars.answer found []) → IsWholeAnswer a old.service.context line text
        whole-answer found executed is = record {
          request = executed.request;
          asked = executed.asks.asked;
          found = found;
          answers =
              subst (λ c. IsAnswered a.scalars (asked_by a line executed.request) a.resolver a.by_fields old.service.context found [] c)
              left executed.answers;
          is = is;
        }

        -- the service's answer to a query, without errors, which is kept for the plain text and then for the line
        pub query-kept : AnswersShowErrors a → begins_with_data text && not (ends_with_list text) ≡ true
            → (kept mid new : KeptAnswers) → kept ≡ old.kept
            → KeepsAtMost kept.by_plain mid.by_plain key text → mid.by_line ≡ kept.by_line
            → KeepsAtMost mid.by_line new.by_line line text → new.by_plain ≡ mid.by_plain
            → Gives old line text (record { service = service; kept = new })
        query-kept shows is_whole kept mid new unchanged plains same_lines lines same_plains keeps =
            let c = old.service.context in
            let parts = both-parts (begins_with_data text) (ends_with_list text) is_whole in
            let shown = (shows line text c service.context answer.answer).1 parts.0 parts.1 in
            let here : IsWholeAnswer a c line text = whole-answer shown.0 shown.1 shown.2 in
            let whole : IsWholeAnswer a c key text = (law keeps.takes line key shares.plain text c shares.shared).1 here in
            let given : IsAnswer a line c text c = subst (λ n. IsAnswer a line c text n) left answer.answer in
            let before : mid.by_line ≡ old.kept.by_line = same_lines ∙ ap (λ (m : KeptAnswers). m.by_line) unchanged in
            let plain_before : kept.by_plain ≡ old.kept.by_plain = ap (λ (m : KeptAnswers). m.by_plain) unchanged in (
              (answer, same),
              still-kept old service new same left
                  (added (λ k t. IsAnswer a k c t c) old.kept.by_line new.by_line line text
                  (subst (λ m. KeepsAtMost m new.by_line line text) before lines) given)
                  (λ k t h. added (λ k t. IsWholeAnswer a c k t) old.kept.by_plain mid.by_plain key text
                  (subst (λ m. KeepsAtMost m mid.by_plain key text) plain_before plains) whole k t
                  (subst (λ m. IsKept m k t) same_plains h)) keeps,
            )

  -- a line that has a plain text which begins with `query` shares its answer with the line of that text
  pub shares-query : (service : Service S R X C) (line plain key : Bytes) (names : List Bytes)
      → HasPlainUsing (its_answerer service) service.selection_limit line plain names
      → starts_with nat_eq plain (codes "query") ≡ true → AsksPlain (request_of line) plain names key
      → SharesQuery answering service line key
  shares-query service line plain key names h begins asks =
      let both = asks h.has.request h.has.asks.asked in
      record {
        plain = plain;
        begins = begins;
        shared = record { names = names; has = h; utf8 = both.0; asked = both.1 };
      }
