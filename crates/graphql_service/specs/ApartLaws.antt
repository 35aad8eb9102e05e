-- Lines that are answered apart (GraphQL October 2021, 6.2.1 Query, 6.2.2 Mutation).
use Rattle.std.specs.Prelude.{◌≡◌, ◌↔◌, List, ◌∷◌, ◌++◌}
use Rattle.std.specs.List.{AllByRecursion as Each}
use Rattle.graphql_names.specs.Names.{Bytes}
use Rattle.graphql_values.specs.InputValues.{Placed}
use Rattle.graphql_tree.specs.declared.document.Definition.{Definition}
use Rattle.graphql_tree.specs.declared.document.Operation.{Operation}
use Rattle.graphql_tree.specs.declared.document.OperationType.TheVariants as kind
use Rattle.graphql_streams.specs.Lines.{lines}
use Rattle.graphql_streams.specs.Runs.{Run}
use Rattle.graphql_executor.specs.Answered.{IsExecutable}
use Rattle.graphql_lines.specs.Request.{Request}
use Rattle.graphql_service.specs.Answers.{Answerer, Asks, asked_by}
use Rattle.graphql_service.specs.Serving.{AnswersLine}

-- by what a service answers
module _ {S C N X : Type 0} (a : Answerer S C N X) where
  -- the line asks for a mutation that is executed
  pub record AsksMutation (line : Bytes) : Type 0 where
    pub request : Request
    pub asks : Asks a line request
    pub document : List (Definition S)
    pub operation : Placed (Operation S)
    pub executable : IsExecutable a.scalars (asked_by a line request) document operation
    pub changes : operation.item.operation_type ≡ kind.Mutation

  -- what lines are answered, one after another, from a context, and the context after
  abbrev pub AreAnswered : X → List Bytes → Bytes → X → Type 0
  AreAnswered = Run (AnswersLine a)

  -- some lines are answered, and others on the context that they left
  pub record AreAnsweredApart (old : X) (ls others : List Bytes) (text : Bytes)
      (new : X) : Type 0 where
    pub between : X
    pub first : Bytes
    pub second : Bytes
    pub is : text ≡ first ++ second
    pub front : AreAnswered old ls first between
    pub behind : AreAnswered between others second new

  -- the lines of two texts with a line feed between them are answered as those of the one, and then
  -- those of the other
  abbrev pub LinesAreAnsweredApart : Type 0
  LinesAreAnsweredApart =
      (front behind : Bytes) (old new : X) (text : Bytes)
      → AreAnswered old (lines (front ++ 10 ∷ behind)) text new
      ↔ AreAnsweredApart old (lines front) (lines behind) text new

  -- lines none of which asks for a mutation leave the context
  abbrev pub QueriesLeaveTheContext : Type 0
  QueriesLeaveTheContext =
      (ls : List Bytes) → Each (λ line. AsksMutation line → ⊥) ls → (old new : X) (text : Bytes)
      → AreAnswered old ls text new → new ≡ old
