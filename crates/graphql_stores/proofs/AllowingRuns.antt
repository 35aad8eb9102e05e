-- What is answered to lines where a store decides what is allowed, as the service's context shows it.
use Rattle.std.proofs.Common.{◌≡◌, ℕ, List, ◌++◌, Option, Result, Ok, Err, OnOk, OnErr, refl, subst, ◌∙◌}
use Rattle.std.specs.Prelude.{IfErr}
use Rattle.graphql_names.specs.Names.{Bytes}
use Rattle.graphql_stores.specs.declared.allowed_queries.AllowedQueries.{AllowedQueries}
use Rattle.graphql_schema.specs.declared.root_node.RootNode.{RootNode}
use Rattle.graphql_streams.specs.Served.{Ends, ServedAll}
use Rattle.graphql_streams.specs.declared.serve_error.ServeError.{ServeError}
use Rattle.graphql_streams.proofs.ShownRuns.{all-shown_if, ends-shown_if, stays_if}
use Rattle.graphql_service.specs.AnsweredBy.{AnsweredBy}
use Rattle.graphql_service.specs.Answers.{Answerer, Appends, answerer_of}
use Rattle.graphql_stores.specs.Allowing.{AnswersIfAllowed, BreaksIfAllowed}
use Rattle.graphql_stores.specs.AllowingLines.{AllowingAnswers, AllowingBreaks, KeepsParts}
use Rattle.graphql_stores.specs.declared.allowing_service.AllowingService.{AllowingService}

pub own-parts : {S R X C : Type 0} (allowing : AllowingService S R X C) → KeepsParts allowing allowing
own-parts allowing = record {
  service = record { root_node = refl; resolver = refl; context = refl; line_limit = refl; selection_limit = refl };
  allowed = refl;
}

parts-more : {S R X C : Type 0} (old between new : AllowingService S R X C) → KeepsParts old between → KeepsParts between new
    → KeepsParts old new
parts-more old between new a b = record {
  service = record {
    root_node = b.service.root_node ∙ a.service.root_node;
    resolver = b.service.resolver ∙ a.service.resolver;
    context = refl;
    line_limit = b.service.line_limit ∙ a.service.line_limit;
    selection_limit = b.service.selection_limit ∙ a.service.selection_limit;
  };
  allowed = b.allowed ∙ a.allowed;
}

module _ {S C N X R : Type 0} (answering : AnsweredBy S C N X R) where
  abbrev its_answerer : AllowingService S R X C → Answerer S C N X
  its_answerer allowing = answerer_of answering allowing.service

  abbrev answerer_with : RootNode S C → R → ℕ → Answerer S C N X
  answerer_with root_node by limit = record {
    scalars = answering.scalars;
    by_rules = answering.by_rules;
    by_fields = answering.by_fields;
    schema = root_node.schema;
    introspection_disabled = root_node.introspection_disabled;
    limit = limit;
    resolver = answering.resolving by;
  }

  -- services of the same parts answer by the same
  by-same : (P : Answerer S C N X → ℕ → AllowedQueries → Type 0) (old between : AllowingService S R X C) → KeepsParts old between
      → P (its_answerer between) between.service.selection_limit between.allowed
      → P (its_answerer old) old.service.selection_limit old.allowed
  by-same P old between same h =
      let service = old.service in
      let other = between.service in
      subst (λ n. P (answerer_with n service.resolver service.line_limit) service.selection_limit old.allowed) same.service.root_node
      (subst (λ r. P (answerer_with other.root_node r service.line_limit) service.selection_limit old.allowed) same.service.resolver
      (subst (λ l. P (answerer_with other.root_node other.resolver l) service.selection_limit old.allowed) same.service.line_limit
      (subst (λ z. P (answerer_with other.root_node other.resolver other.line_limit) z old.allowed) same.service.selection_limit
      (subst (λ q. P (answerer_with other.root_node other.resolver other.line_limit) other.selection_limit q) same.allowed h))))

  abbrev Answers : AllowingService S R X C → X → Bytes → Bytes → X → Type 0
  Answers old = AnswersIfAllowed (its_answerer old) old.service.selection_limit old.allowed

  abbrev Breaks : AllowingService S R X C → X → Bytes → X → Type 0
  Breaks old = BreaksIfAllowed (its_answerer old) old.service.selection_limit old.allowed

  context-answers : (old between : AllowingService S R X C) (line text : Bytes) (new : AllowingService S R X C) → KeepsParts old between
      → AllowingAnswers answering between line text new
      → Answers old between.service.context line text new.service.context × KeepsParts old new
  context-answers old between line text new same h = (
    by-same (λ a size_limit store. AnswersIfAllowed a size_limit store between.service.context line text new.service.context)
        old between same h.0,
    parts-more old between new same h.1,
  )

  context-breaks : (old between : AllowingService S R X C) (line : Bytes) (new : AllowingService S R X C) → KeepsParts old between
      → AllowingBreaks answering between line new
      → Breaks old between.service.context line new.service.context × KeepsParts old new
  context-breaks old between line new same h = (
    by-same (λ a size_limit store. BreaksIfAllowed a size_limit store between.service.context line new.service.context)
        old between same h.0,
    parts-more old between new same h.1,
  )

  module _ {A : Type 0} (result : Result A ServeError) (old new : AllowingService S R X C) (left rest had has : Option Bytes) where
    pub serves-allowed : OnOk result (ServedAll (AllowingAnswers answering) old left rest had has new)
        → OnOk result (ServedAll (Answers old) old.service.context left rest had has new.service.context)
    serves-allowed =
        all-shown_if (λ (allowing : AllowingService S R X C). allowing.service.context) (KeepsParts old)
        (AllowingAnswers answering) (Answers old) (context-answers old) result
        old new left rest had has (own-parts old)

    pub ends-allowed : (failed : Type 0)
        → IfErr result (λ e. Ends (AllowingAnswers answering) (AllowingBreaks answering) failed e old left rest had has new)
        → IfErr result (λ e. Ends (Answers old) (Breaks old) failed e old.service.context left rest had has new.service.context)
    ends-allowed failed =
        ends-shown_if (λ (allowing : AllowingService S R X C). allowing.service.context) (KeepsParts old)
        (AllowingAnswers answering) (Answers old) (context-answers old)
        (AllowingBreaks answering) (Breaks old) (context-breaks old) failed result
        old new left rest had has (own-parts old)

    pub parts-stay : (failed : Type 0) → OnOk result (ServedAll (AllowingAnswers answering) old left rest had has new)
        → IfErr result (λ e. Ends (AllowingAnswers answering) (AllowingBreaks answering) failed e old left rest had has new)
        → KeepsParts old new
    parts-stay failed =
        stays_if (λ (allowing : AllowingService S R X C). allowing.service.context) (KeepsParts old)
        (AllowingAnswers answering) (Answers old) (context-answers old)
        (AllowingBreaks answering) (Breaks old) (context-breaks old) failed result
        old new left rest had has (own-parts old)

-- what is appended, or is not, with a fact that holds in either case
pub appended : {A E : Type 0} (result : Result A E) (P : Bytes → Type 0) (Q : Type 0) (old new : Bytes) → Q → OnOk result (Appends P old new)
    → OnOk result ((text : List ℕ) × (new ≡ old ++ text) × (P text × Q))
appended (Ok x) P Q old new q h = (h.0, h.1, (h.2, q))
appended (Err e) P Q old new q h = tt

pub not-appended : {A E : Type 0} (result : Result A E) (P Q : Type 0) (old new : Bytes) → Q → OnErr result P → OnErr result (new ≡ old)
    → OnErr result ((new ≡ old) × (P × Q))
not-appended (Ok x) P Q old new q h is = tt
not-appended (Err e) P Q old new q h is = (is, (h, q))
