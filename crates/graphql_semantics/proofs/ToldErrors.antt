-- What is told beside errors has distinct keys, where that of each answer has.
use Rattle.std.proofs.Common.{ℕ, zero, suc, List, [], ◌∷◌, ◌++◌, reverse, Option, Some, None, Result}
use Rattle.std.specs.List.{All}
use Rattle.std.proofs.lemmas.List.Elements.{All-nil}
use Rattle.graphql_names.specs.Names.{Bytes}
use Rattle.graphql_text.specs.declared.position.SourcePosition.{SourcePosition}
use Rattle.graphql_schema.specs.Types.{TypeOf}
use Rattle.graphql_output_values.proofs.DistinctKeyLaws.{by_forms}
use Rattle.graphql_written_out.specs.Trees.{Head, Tree}
use Rattle.graphql_written_out.specs.Groups.{groups}
use Rattle.graphql_field_results.specs.Answered.{TellsInDistinctKeys}
use Rattle.graphql_field_results.specs.declared.field_error.FieldError.{FieldError}
use Rattle.graphql_field_results.specs.declared.resolved.Resolved.{Resolved}
use Rattle.graphql_semantics.specs.Engines.{Engine}
use Rattle.graphql_semantics.specs.Outcomes.{Outcome}
use Rattle.graphql_semantics.specs.Completion.{Members, blame_at}
use Rattle.graphql_semantics.specs.Evaluation.{Group, at_declared, at_type, found_in, highest, keyed, run, sets_below}
use Rattle.graphql_semantics.specs.Laws.{AnswersTellDistinctKeys, FailuresTellDistinctKeys, TellsDistinctKeys}
use Rattle.graphql_semantics.proofs.Failures.{all-together, of-result}

module _ {S N : Type 0} (e : Engine S N) where
  -- of an answer, at a type
  pub type-tells : (run_on : N → Outcome S (Members S)) → ((m : N) → All TellsDistinctKeys (run_on m).failures)
      → (path : List Bytes) (place : SourcePosition) (type : TypeOf) (answer : Result (Resolved S N) (FieldError S))
      → TellsInDistinctKeys answer
      → All TellsDistinctKeys (at_type e run_on (blame_at path place) type answer).failures
  type-tells run_on runs path place type answer tells =
      of-result TellsDistinctKeys run_on runs (blame_at path place) type.name (e.is_leaf type.name)
      (λ m. e.is_possible type.name (e.concrete m)) (λ wraps. (by_forms {S = S}).0) (by_forms {S = S}).0
      (reverse type.modifiers) answer tells.beside

  module _ (answers : AnswersTellDistinctKeys e) where
    abbrev RunsTell : ℕ → Type 0
    RunsTell n = (path : List Bytes) (of : Bytes) (node : N) (sets : List (Tree S))
        → All TellsDistinctKeys (run e n path of node sets).failures

    module _ (n : ℕ) (tell : RunsTell n) (path : List Bytes) (of : Bytes) (node : N) where
      declared-tells : (type : Option TypeOf) (here : List Bytes) (sets : List (Tree S)) (head : Head S)
          → All TellsDistinctKeys (at_declared e type (λ m. run e n here (e.concrete m) m sets)
          (blame_at here head.place) (e.answer node of head.name (e.arguments of head))).failures
      declared-tells None here sets head = All-nil TellsDistinctKeys
      declared-tells (Some type) here sets head =
          type-tells (λ m. run e n here (e.concrete m) m sets) (λ m. tell here (e.concrete m) m sets) here head.place
          type (e.answer node of head.name (e.arguments of head)) (answers node of head.name (e.arguments of head))

      group-tells : (g : Group S) → All TellsDistinctKeys (keyed e (run e n) path of node g).failures
      group-tells (key, []) = All-nil TellsDistinctKeys
      group-tells (key, x ∷ xs) =
          declared-tells (e.declared of x.head.name) (path ++ key ∷ []) (sets_below (x ∷ xs)) x.head

    runs-tell : (n : ℕ) → RunsTell n
    runs-tell zero path of node sets = All-nil TellsDistinctKeys
    runs-tell (suc n) path of node sets =
        all-together TellsDistinctKeys (keyed e (run e n) path of node) (group-tells n (runs-tell n) path of node)
        (groups (found_in e of sets))

pub failures-tell : (S N : Type 0) → FailuresTellDistinctKeys S N
failures-tell S N e answers path object node sets = runs-tell e answers (highest sets) path object node sets
