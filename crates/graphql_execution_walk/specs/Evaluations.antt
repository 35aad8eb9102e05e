-- What evaluation asks where an executor stands (GraphQL October 2021, 6.4 Executing Fields).
use Rattle.std.specs.Prelude.{Bool, List, Result}
use Rattle.graphql_scalars.specs.ScalarAnswers.{ScalarAnswer}
use Rattle.graphql_names.specs.Names.{Bytes}
use Rattle.graphql_tree.specs.declared.document.Fragment.{Fragment}
use Rattle.graphql_collected.specs.declared.request.Request.{Request}
use Rattle.graphql_collected.specs.Requests.{fragments_in}
use Rattle.graphql_field_results.specs.declared.field_error.FieldError.{FieldError}
use Rattle.graphql_field_results.specs.declared.resolved.Resolved.{Resolved}
use Rattle.graphql_semantics.specs.Engines.{Engine}
use Rattle.graphql_written_out.specs.Trees.{Head}
use Rattle.graphql_execution_walk.specs.Asked.{asked_type}
use Rattle.graphql_execution_walk.specs.Engines.{Resolves, engine_of}
use Rattle.graphql_execution_walk.specs.declared.asked.Asked.{Asked}
use Rattle.graphql_execution_walk.specs.declared.asked.Asked.TheVariants as asked
use Rattle.graphql_execution_walk.specs.declared.executor.Executor.{Executor}

-- of nodes `N`
pub record Evaluation (S N : Type 0) : Type 0 where
  -- what is asked of types and nodes
  pub engine : Engine S N
  -- the fragments of the document
  pub fragments : List (Fragment S)
  -- the object type and the node from which queries start (6.2.1 Query)
  pub query : Bytes
  pub root : N
  -- the object type of a node
  pub type_of : N → Bytes

-- what is answered for a field of a node of an object type, by the values of its arguments
abbrev pub answer_for : {S N : Type 0} → Evaluation S N → N → Bytes → Head S
    → Result (Resolved S N) (FieldError S)
answer_for here node object head =
    here.engine.answer node object head.name (here.engine.arguments object head)

-- `of_text`, `of_bool`, `answer`: of the scalars
module _ {S C N : Type 0} (of_text : Bytes → S) (of_bool : Bool → S) (answer : S → ScalarAnswer)
  where
    -- `root`, `type_of`, `resolves`: of the resolver, over its context
    abbrev pub evaluation_of : Request S C → N → (N → Bytes) → Resolves S N
        → Evaluation S (Asked S N C)
    evaluation_of request root type_of resolves = record {
      engine = engine_of of_text of_bool answer request type_of resolves;
      fragments = fragments_in request;
      query = request.schema.now.query;
      root = asked.Own root;
      type_of = asked_type type_of;
    }

    -- the same, where the request and the context are the executor's
    abbrev pub evaluation_at : {X : Type 0} → N → (X → N → Bytes) → (X → Resolves S N)
        → Executor X S C → Evaluation S (Asked S N C)
    evaluation_at root type_of resolves executor = evaluation_of executor.request.now root
        (type_of executor.context.now) (resolves executor.context.now)
