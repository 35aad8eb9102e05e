-- What a cache answers to three lines.
use Rattle.std.proofs.Common.{◌≡◌, subst, sym, ℕ}
use Rattle.graphql_names.specs.Names.{Bytes}
use Rattle.graphql_schema.specs.declared.root_node.RootNode.{RootNode}
use Rattle.graphql_service.specs.AnsweredBy.{AnsweredBy}
use Rattle.graphql_service.specs.Made.{IsOf}
use Rattle.graphql_service.specs.PlainRequests.{TakesStandIn}
use Rattle.graphql_service.specs.declared.service.Service.{Service}
use Rattle.graphql_stores.specs.Caching.{CacheAnswers, KeepsAnswers}
use Rattle.graphql_stores.specs.declared.answer_cache.AnswerCache.{AnswerCache}
use Rattle.graphql_stores_tests.specs.Cached.{AnswersAround, IsAnsweredAround}

module _ {S C N X R : Type 0} (answering : AnsweredBy S C N X R) where
  abbrev Answers : AnswerCache S R X C → Bytes → Bytes → AnswerCache S R X C → Type 0
  Answers = CacheAnswers answering

  abbrev Keeps : AnswerCache S R X C → Type 0
  Keeps = KeepsAnswers answering

  pub around : (old between after new : AnswerCache S R X C) (line other first second third : Bytes)
      → Answers old line first between → Answers between other second after → Answers after line third new → Keeps old
      → AnswersAround answering old.service line other first second third new.service × Keeps new
  around old between after new line other first second third of_line of_other of_again keeps =
      let one = of_line keeps in
      let two = of_other one.1 in
      let three = of_again two.1 in (
        record {
          between = between.service;
          after = after.service;
          of_line = one.0;
          of_other = two.0;
          of_line_again = three.0;
        },
        three.1,
      )

  -- a new cache over a service that is made of these parts
  pub around-made : (root : RootNode S C) (resolver : R) (context : X) (line_bytes selections : ℕ) (service : Service S R X C)
      → IsOf root resolver context line_bytes selections service → TakesStandIn answering.scalars root.schema
      → (made new : AnswerCache S R X C) → made.service ≡ service
      → (TakesStandIn answering.scalars service.root_node.schema → Keeps made) → (line other first second third : Bytes)
      → (Keeps made → AnswersAround answering made.service line other first second third new.service × Keeps new)
      → IsAnsweredAround answering root resolver context line_bytes selections line other first second third
  around-made root resolver context line_bytes selections service is takes made new of_service keeps line other first second third answers =
      let takes_it : TakesStandIn answering.scalars service.root_node.schema =
      subst (λ (n : RootNode S C). TakesStandIn answering.scalars n.schema) (sym is.root_node) takes in
      record {
        service = service;
        made = is;
        new = new.service;
        answers =
            subst (λ (v : Service S R X C). AnswersAround answering v line other first second third new.service)
            of_service (answers (keeps takes_it)).0;
      }
