-- What has begun at a place, with what is told of the place itself.
use Rattle.std.proofs.Common.{◌≡◌, refl, sym, ◌∙◌, subst, ℕ, Bool, true, false, List, [], ◌∷◌, ◌++◌, Option, Some, None, Result, Ok, Err}
use Rattle.std.specs.Prelude.{IfSome}
use Rattle.graphql_names.specs.Names.{Bytes}
use Rattle.graphql_text.specs.declared.position.SourcePosition.{SourcePosition}
use Rattle.graphql_names.specs.declared.type_modifier.TypeModifier.{TypeModifier}
use Rattle.graphql_names.specs.declared.type_modifier.TypeModifier.TheVariants as modifier
use Rattle.graphql_output_values.specs.declared.value.Value.{Value}
use Rattle.graphql_written_out.specs.Trees.{Tree}
use Rattle.graphql_field_results.specs.declared.execution_error.ExecutionError.{ExecutionError}
use Rattle.graphql_field_results.specs.declared.field_error.FieldError.{FieldError}
use Rattle.graphql_field_results.specs.declared.field_fault.FieldFault.{FieldFault}
use Rattle.graphql_field_results.specs.declared.field_fault.FieldFault.TheVariants as fault
use Rattle.graphql_field_results.specs.declared.resolved.Resolved.{Resolved, out-Resolved}
use Rattle.graphql_field_results.specs.declared.resolved.Resolved.TheOpen.{Resolved-F}
use Rattle.graphql_semantics.specs.Completion.{Members, at_required, blame_at}
use Rattle.graphql_semantics.specs.Evaluation.{evaluate}
use Rattle.graphql_semantics.specs.Outcomes.{Outcome, fails}
use Rattle.graphql_semantics.specs.Turns.{all_turns, turns_at_required}
use Rattle.graphql_execution_walk.specs.declared.frames.Begun.{Begun}
use Rattle.graphql_execution_walk.specs.declared.frames.Begun.TheVariants as begun
use Rattle.graphql_execution_walk.specs.declared.report.Report.{Report}
use Rattle.graphql_execution_walk.specs.Begins.{BeginsOrErrs, HasBegun, BeginsOrTells, outcome_at, own_error_at, turns_of_answer}
use Rattle.graphql_execution_walk.specs.Evaluations.{Evaluation}
use Rattle.graphql_execution_walk.specs.Frames.{FineBegun, TellsFirst, comes_to, known_of}
use Rattle.graphql_execution_walk.specs.FrameTurns.{begun_turns}
use Rattle.graphql_execution_walk.specs.OwnErrors.{own_at_required}
use Rattle.graphql_execution_walk.specs.Parts.{null_at, null_here}
use Rattle.graphql_execution_walk.specs.KnownTypes.{IsKnown}
use Rattle.graphql_execution_walk.proofs.FrameLemmas.{leads-same}
use Rattle.graphql_execution_walk.proofs.OwnErrorLaws.{own-fails, own-turns}

module _ {S N : Type 0} (here : Evaluation S N) (sets : List (Tree S)) (name : Bytes) (location : SourcePosition) (wraps : List TypeModifier) (answer : Result (Resolved S N) (FieldError S)) where
  -- a report that stands at a place gets what the place itself tells
  pub record BegunAt (old : Report S) (now : Begun S N) (new : Report S) : Type 0 where
    pub leads : TellsFirst (outcome_at here.engine sets name location wraps answer old.path) old (comes_to here now old.path) new
    pub path : new.path ≡ old.path
    pub turns : begun_turns here now ≡ turns_of_answer here.engine sets name wraps answer
    pub fine : FineBegun here now
    pub known : IfSome (known_of now) (λ k. IsKnown here name sets k.object k)

  abbrev can_stand : N → Bool
  can_stand m = here.engine.is_possible name (here.engine.concrete m)

  -- where the place itself fails nothing else does
  pub own-outcome : (x : FieldError S) (path : List Bytes) → own_error_at here.engine name wraps answer ≡ Some x → outcome_at here.engine sets name location wraps answer path ≡ fails (blame_at path location x)
  own-outcome x path own = own-fails name (here.engine.is_leaf name) can_stand (λ m. evaluate here.engine path (here.engine.concrete m) m sets) (blame_at path location) wraps answer x own

  begun-well : (b : Begun S N) (old new : Report S) → HasBegun here sets name location wraps answer b → new.path ≡ old.path → new.errors ≡ old.errors → BegunAt old b new
  begun-well b old new h path errors = record {
    leads = leads-same (outcome_at here.engine sets name location wraps answer old.path) (comes_to here b old.path) old new (h.gives old.path) errors;
    path = path;
    turns = h.turns;
    fine = h.fine;
    known = h.known;
  }

  begun-ill : (x : FieldError S) (old new : Report S) → own_error_at here.engine name wraps answer ≡ Some x → new.path ≡ old.path → new.errors ≡ old.errors ++ blame_at old.path location x ∷ [] → BegunAt old (begun.Value None) new
  begun-ill x old new own path errors = record {
    leads = record {
      told = blame_at old.path location x ∷ [];
      is = own-outcome x old.path own;
      errors = errors;
    };
    path = path;
    turns = sym (own-turns name (here.engine.is_leaf name) can_stand (λ m. all_turns here.engine (here.engine.concrete m) m sets) wraps answer x own);
    fine = tt;
    known = tt;
  }

  pub told-begins : (r : Result (Begun S N) (FieldFault S)) (old : Report S) (now : Begun S N) (new : Report S) → BeginsOrErrs here sets name location wraps answer r → BeginsOrTells location r old now new → BegunAt old now new
  told-begins (Ok b) old now new h t = subst (λ n. BegunAt old n new) (sym t.0) (begun-well b old new h t.1 t.2)
  told-begins (Err (fault.Error x)) old now new h t = subst (λ n. BegunAt old n new) (sym t.0) (begun-ill x old new h t.1 t.2)
  told-begins (Err fault.Memory) old now new h t = absurd t

-- an answer that is not null comes to the same where null is kept out
module _ {S N : Type 0} where
  own-required : (name : Bytes) (is_leaf : Bool) (is_possible : N → Bool) (own : Option (FieldError S)) (r : Resolved-F S N (Resolved S N)) → null_at r ≡ false → own_at_required name is_leaf is_possible own r ≡ own
  own-required name is_leaf is_possible own Resolved-F.Null p = (let q : true ≡ false = p in cc)
  own-required name is_leaf is_possible own (Resolved-F.Scalar scalar) p = refl
  own-required name is_leaf is_possible own (Resolved-F.List items) p = refl
  own-required name is_leaf is_possible own (Resolved-F.Node node) p = refl

  outcome-required : (run : N → Outcome S (Members S)) (blame : FieldError S → ExecutionError S) (name : Bytes) (is_leaf : Bool) (is_possible : N → Bool) (o : Outcome S (Value S)) (r : Resolved-F S N (Resolved S N))
      → null_at r ≡ false → at_required run blame name is_leaf is_possible o r ≡ o
  outcome-required run blame name is_leaf is_possible o Resolved-F.Null p = (let q : true ≡ false = p in cc)
  outcome-required run blame name is_leaf is_possible o (Resolved-F.Scalar scalar) p = refl
  outcome-required run blame name is_leaf is_possible o (Resolved-F.List items) p = refl
  outcome-required run blame name is_leaf is_possible o (Resolved-F.Node node) p = refl

  turns-required : (some : ℕ) (r : Resolved-F S N (Resolved S N)) → null_at r ≡ false → turns_at_required some r ≡ some
  turns-required some Resolved-F.Null p = (let q : true ≡ false = p in cc)
  turns-required some (Resolved-F.Scalar scalar) p = refl
  turns-required some (Resolved-F.List items) p = refl
  turns-required some (Resolved-F.Node node) p = refl

module _ {S N : Type 0} (here : Evaluation S N) (sets : List (Tree S)) (name : Bytes) (location : SourcePosition) (wraps : List TypeModifier) (r : Resolved S N) (some : null_here r ≡ false) where
  abbrev may_stand : N → Bool
  may_stand m = here.engine.is_possible name (here.engine.concrete m)

  abbrev within : List Bytes → Outcome S (Value S)
  within path = outcome_at here.engine sets name location wraps (Ok r) path

  own-within : own_error_at here.engine name (modifier.NonNull ∷ wraps) (Ok r) ≡ own_error_at here.engine name wraps (Ok r)
  own-within = own-required name (here.engine.is_leaf name) may_stand (own_error_at here.engine name wraps (Ok r)) (out-Resolved S N r) some

  pub required-begins : (begins : Result (Begun S N) (FieldFault S)) → BeginsOrErrs here sets name location wraps (Ok r) begins → BeginsOrErrs here sets name location (modifier.NonNull ∷ wraps) (Ok r) begins
  required-begins (Ok b) h = record {
    own = own-within ∙ h.own;
    gives = λ path. outcome-required (λ m. evaluate here.engine path (here.engine.concrete m) m sets) (blame_at path location) name (here.engine.is_leaf name) may_stand (within path) (out-Resolved S N r) some ∙ h.gives path;
    turns = h.turns ∙ sym (turns-required (turns_of_answer here.engine sets name wraps (Ok r)) (out-Resolved S N r) some);
    fine = h.fine;
    known = h.known;
  }
  required-begins (Err (fault.Error x)) h = own-within ∙ h
  required-begins (Err fault.Memory) h = tt
