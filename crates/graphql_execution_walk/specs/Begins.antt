-- What an answer comes to where it is completed (GraphQL October 2021, 6.4.3 Value Completion,
-- 6.4.4 Handling Field Errors).
use Rattle.std.specs.Prelude.{◌≡◌, IfSome, ℕ, ◌++◌, [], ◌∷◌, List, Option, None, Some, Result, Ok}
use Rattle.std.specs.Prelude.{Err}
use Rattle.graphql_names.specs.Names.{Bytes}
use Rattle.graphql_text.specs.declared.position.SourcePosition.{SourcePosition}
use Rattle.graphql_names.specs.declared.type_modifier.TypeModifier.{TypeModifier}
use Rattle.graphql_output_values.specs.declared.value.Value.{Value}
use Rattle.graphql_written_out.specs.Trees.{Tree}
use Rattle.graphql_field_results.specs.declared.execution_error.ExecutionError.{ExecutionError}
use Rattle.graphql_field_results.specs.declared.field_error.FieldError.{FieldError}
use Rattle.graphql_field_results.specs.declared.field_fault.FieldFault.{FieldFault}
use Rattle.graphql_field_results.specs.declared.field_fault.FieldFault.TheVariants as fault
use Rattle.graphql_field_results.specs.declared.resolved.Resolved.{Resolved}
use Rattle.graphql_semantics.specs.Completion.{blame_at, complete_result}
use Rattle.graphql_semantics.specs.Engines.{Engine}
use Rattle.graphql_semantics.specs.Evaluation.{evaluate}
use Rattle.graphql_semantics.specs.Outcomes.{Outcome}
use Rattle.graphql_semantics.specs.Turns.{all_turns, turns_of_result}
use Rattle.graphql_execution_walk.specs.declared.frames.Begun.{Begun}
use Rattle.graphql_execution_walk.specs.declared.frames.Begun.TheVariants as begun
use Rattle.graphql_execution_walk.specs.declared.report.Report.{Report}
use Rattle.graphql_execution_walk.specs.Evaluations.{Evaluation}
use Rattle.graphql_execution_walk.specs.Frames.{FineBegun, comes_to, known_of}
use Rattle.graphql_execution_walk.specs.FrameTurns.{begun_turns}
use Rattle.graphql_execution_walk.specs.OwnErrors.{own_error_of}
use Rattle.graphql_execution_walk.specs.KnownTypes.{IsKnown}

-- at a type of this name; wraps have the outermost first
module _ {S N : Type 0} (e : Engine S N) (name : Bytes) where
  -- the error of the place itself
  abbrev pub own_error_at : List TypeModifier → Result (Resolved S N) (FieldError S)
      → Option (FieldError S)
  own_error_at wraps answer =
      own_error_of name (e.is_leaf name) (λ m. e.is_possible name (e.concrete m)) wraps answer

-- the same, with these sets selected from its objects
module _ {S N : Type 0} (e : Engine S N) (sets : List (Tree S)) (name : Bytes) where
  -- what an answer, or an error, comes to, of a field that starts there, at a path
  abbrev pub outcome_at : SourcePosition → List TypeModifier → Result (Resolved S N) (FieldError S)
      → List Bytes → Outcome S (Value S)
  outcome_at location wraps answer path =
      complete_result (λ m. evaluate e path (e.concrete m) m sets) (blame_at path location) name
      (e.is_leaf name) (λ m. e.is_possible name (e.concrete m)) wraps answer

  abbrev pub turns_of_answer : List TypeModifier → Result (Resolved S N) (FieldError S) → ℕ
  turns_of_answer wraps answer = turns_of_result (λ m. all_turns e (e.concrete m) m sets)
      (λ m. e.is_possible name (e.concrete m)) wraps answer

module _ {S N : Type 0} (here : Evaluation S N) (sets : List (Tree S)) (name : Bytes)
    (location : SourcePosition) (wraps : List TypeModifier)
    (answer : Result (Resolved S N) (FieldError S)) where
  -- the place itself does not fail, and comes to what has begun
  pub record HasBegun (b : Begun S N) : Type 0 where
    pub own : own_error_at here.engine name wraps answer ≡ None
    pub gives : (path : List Bytes)
        → outcome_at here.engine sets name location wraps answer path ≡ comes_to here b path
    pub turns : begun_turns here b ≡ turns_of_answer here.engine sets name wraps answer
    pub fine : FineBegun here b
    pub known : IfSome (known_of b) (λ k. IsKnown here name sets k.object k)

  -- what has begun, or the error of the place itself, unless memory runs out
  abbrev pub BeginsOrErrs : Result (Begun S N) (FieldFault S) → Type 0
  BeginsOrErrs (Ok b) = HasBegun b
  BeginsOrErrs (Err (fault.Error x)) = own_error_at here.engine name wraps answer ≡ Some x
  BeginsOrErrs (Err fault.Memory) = Unit {0}

-- what has begun at a place, or nothing where the place itself fails, which is told
abbrev pub BeginsOrTells : {S N : Type 0} → SourcePosition → Result (Begun S N) (FieldFault S)
    → Report S
    → Begun S N → Report S → Type 0
BeginsOrTells location (Ok b) old now new = (now ≡ b) × (new.path ≡ old.path)
    × (new.errors ≡ old.errors)
BeginsOrTells location (Err (fault.Error x)) old now new = (now ≡ begun.Value None)
    × (new.path ≡ old.path)
    × (new.errors ≡ old.errors ++ blame_at old.path location x ∷ [])
BeginsOrTells location (Err fault.Memory) old now new = ⊥

-- the value of an outcome, if it has one, with its failures told; the error of the place itself, if
-- there is one, in place of both; want of memory tells nothing
abbrev pub Completes : {S : Type 0} → Option (FieldError S) → Outcome S (Value S)
    → List (ExecutionError S) → Result (Option (Value S)) (FieldFault S) → List (ExecutionError S)
    → Type 0
Completes own o old (Ok v) new = (own ≡ None) × (v ≡ o.value) × (new ≡ old ++ o.failures)
Completes own o old (Err (fault.Error e)) new = (own ≡ Some e) × (new ≡ old)
Completes own o old (Err fault.Memory) new = new ≡ old
