-- Lines that a service is given one after another (GraphQL October 2021, 6.1 Executing Requests).
use Rattle.std.specs.Prelude.{ℕ}
use Rattle.graphql_names.specs.Names.{Bytes}
use Rattle.graphql_schema.specs.declared.root_node.RootNode.{RootNode}
use Rattle.graphql_service.specs.AnsweredBy.{AnsweredBy}
use Rattle.graphql_service.specs.Made.{IsOf}
use Rattle.graphql_service.specs.Serving.{ServiceAnswers}
use Rattle.graphql_service.specs.declared.service.Service.{Service}

module _ {S C N X R : Type 0} (answering : AnsweredBy S C N X R) where
  -- a service answers a line, then another one, and then the first again, each on the context that
  -- the line before has left
  pub record AnswersAround (old : Service S R X C) (line other : Bytes)
      (first second third : Bytes) (new : Service S R X C) : Type 0 where
    pub between : Service S R X C
    pub after : Service S R X C
    pub of_line : ServiceAnswers answering old line first between
    pub of_other : ServiceAnswers answering between other second after
    pub of_line_again : ServiceAnswers answering after line third new

  -- the same of a service of these parts
  pub record IsAnsweredAround (root : RootNode S C) (resolver : R) (context : X)
      (line_bytes selections : ℕ) (line other : Bytes) (first second third : Bytes)
      : Type 0 where
    pub service : Service S R X C
    pub made : IsOf root resolver context line_bytes selections service
    pub new : Service S R X C
    pub answers : AnswersAround service line other first second third new
