-- What a service answers lines, as its context shows it, and answers that are written behind others.
use Rattle.std.proofs.Common.{◌≡◌, ℕ, List, ◌++◌, Option, Result, Ok, Err, OnOk, OnErr, refl, subst, ◌∙◌}
use Rattle.std.specs.Prelude.{IfErr}
use Rattle.graphql_names.specs.Names.{Bytes}
use Rattle.graphql_schema.specs.declared.root_node.RootNode.{RootNode}
use Rattle.graphql_streams.specs.Served.{Ends, ServedAll}
use Rattle.graphql_streams.specs.declared.serve_error.ServeError.{ServeError}
use Rattle.graphql_streams.proofs.ShownRuns.{all-shown_if, ends-shown_if, stays_if}
use Rattle.graphql_service.specs.AnsweredBy.{AnsweredBy}
use Rattle.graphql_service.specs.Answers.{Answerer, Appends, answerer_of}
use Rattle.graphql_service.specs.Serving.{AnswersLine, BreaksAtLine, HasPartsOf, ServiceAnswers, ServiceBreaks}
use Rattle.graphql_service.specs.declared.service.Service.{Service}

pub own-parts : {S R X C : Type 0} (service : Service S R X C) → HasPartsOf service service
own-parts service = record { root_node = refl; resolver = refl; context = refl; line_limit = refl; selection_limit = refl }

parts-more : {S R X C : Type 0} (old between new : Service S R X C) → HasPartsOf old between → HasPartsOf between new → HasPartsOf old new
parts-more old between new a b = record {
  root_node = b.root_node ∙ a.root_node;
  resolver = b.resolver ∙ a.resolver;
  context = refl;
  line_limit = b.line_limit ∙ a.line_limit;
  selection_limit = b.selection_limit ∙ a.selection_limit;
}

module _ {S C N X R : Type 0} (answering : AnsweredBy S C N X R) where
  abbrev its_answerer : Service S R X C → Answerer S C N X
  its_answerer service = answerer_of answering service

  abbrev answerer_with : RootNode S C → R → ℕ → Answerer S C N X
  answerer_with root_node by limit = record {
    scalars = answering.scalars;
    by_rules = answering.by_rules;
    by_fields = answering.by_fields;
    schema = root_node.schema;
    introspection_disabled = root_node.introspection_disabled;
    limit = limit;
    resolver = answering.resolving by;
  }

  -- services of the same parts answer by the same
  same-answerer : (P : Answerer S C N X → Type 0) (old between : Service S R X C) → HasPartsOf old between → P (its_answerer between)
      → P (its_answerer old)
  same-answerer P old between same h =
      subst (λ n. P (answerer_with n old.resolver old.line_limit)) same.root_node
      (subst (λ r. P (answerer_with between.root_node r old.line_limit)) same.resolver
      (subst (λ l. P (answerer_with between.root_node between.resolver l)) same.line_limit h))

  pub context-answers : (old between : Service S R X C) (line text : Bytes) (new : Service S R X C) → HasPartsOf old between
      → ServiceAnswers answering between line text new
      → AnswersLine (its_answerer old) between.context line text new.context × HasPartsOf old new
  context-answers old between line text new same h = (
    same-answerer (λ a. AnswersLine a between.context line text new.context) old between same h.0,
    parts-more old between new same h.1,
  )

  pub context-breaks : (old between : Service S R X C) (line : Bytes) (new : Service S R X C) → HasPartsOf old between
      → ServiceBreaks answering between line new
      → BreaksAtLine (its_answerer old) between.context line new.context × HasPartsOf old new
  context-breaks old between line new same h = (
    same-answerer (λ a. BreaksAtLine a between.context line new.context) old between same h.0,
    parts-more old between new same h.1,
  )

  module _ {A : Type 0} (result : Result A ServeError) (old new : Service S R X C) (left rest had has : Option Bytes) where
    pub serves-contexts : OnOk result (ServedAll (ServiceAnswers answering) old left rest had has new)
        → OnOk result (ServedAll (AnswersLine (its_answerer old)) old.context left rest had has new.context)
    serves-contexts =
        all-shown_if (λ (service : Service S R X C). service.context) (HasPartsOf old)
        (ServiceAnswers answering) (AnswersLine (its_answerer old)) (context-answers old) result
        old new left rest had has (own-parts old)

    pub ends-contexts : (failed : Type 0) → IfErr result (λ e. Ends (ServiceAnswers answering) (ServiceBreaks answering) failed e old left rest had has new)
        → IfErr result (λ e. Ends (AnswersLine (its_answerer old)) (BreaksAtLine (its_answerer old)) failed e old.context left rest had has new.context)
    ends-contexts failed =
        ends-shown_if (λ (service : Service S R X C). service.context) (HasPartsOf old)
        (ServiceAnswers answering) (AnswersLine (its_answerer old)) (context-answers old)
        (ServiceBreaks answering) (BreaksAtLine (its_answerer old)) (context-breaks old) failed result
        old new left rest had has (own-parts old)

    pub parts-stay : (failed : Type 0) → OnOk result (ServedAll (ServiceAnswers answering) old left rest had has new)
        → IfErr result (λ e. Ends (ServiceAnswers answering) (ServiceBreaks answering) failed e old left rest had has new)
        → HasPartsOf old new
    parts-stay failed =
        stays_if (λ (service : Service S R X C). service.context) (HasPartsOf old)
        (ServiceAnswers answering) (AnswersLine (its_answerer old)) (context-answers old)
        (ServiceBreaks answering) (BreaksAtLine (its_answerer old)) (context-breaks old) failed result
        old new left rest had has (own-parts old)

-- what is appended, or is not, with a fact that holds in either case
pub appended : {A E : Type 0} (result : Result A E) (P : Bytes → Type 0) (Q : Type 0) (old new : Bytes) → Q → OnOk result (Appends P old new)
    → OnOk result ((text : List ℕ) × (new ≡ old ++ text) × (P text × Q))
appended (Ok x) P Q old new q h = (h.0, h.1, (h.2, q))
appended (Err e) P Q old new q h = tt

pub not-appended : {A E : Type 0} (result : Result A E) (P Q : Type 0) (old new : Bytes) → Q → OnErr result P → OnErr result (new ≡ old)
    → OnErr result ((new ≡ old) × (P × Q))
not-appended (Ok x) P Q old new q h is = tt
not-appended (Err e) P Q old new q h is = (is, (h, q))
