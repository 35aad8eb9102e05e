-- Where failures stand, and what fails (GraphQL October 2021, 6.4.3 Value Completion, 6.4.4
-- Handling Field Errors, 7.1.2 Errors).
use Rattle.std.specs.Prelude.{◌≡◌, ◌⊎◌, Bool, true, false, List, [], ◌∷◌, ◌++◌, Option, Some, None}
use Rattle.std.specs.Prelude.{ℕ, reverse, Ok, Err}
use Rattle.std.specs.List.{All, Contains}
use Rattle.graphql_names.specs.Names.{Bytes}
use Rattle.graphql_names.specs.declared.type_modifier.TypeModifier.{TypeModifier}
use Rattle.graphql_names.specs.declared.type_modifier.TypeModifier.TheVariants as modifier
use Rattle.graphql_schema.specs.Types.{TypeOf}
use Rattle.graphql_written_out.specs.Trees.{Tree}
use Rattle.graphql_written_out.specs.Fields.{Found}
use Rattle.graphql_written_out.specs.Groups.{groups}
use Rattle.graphql_field_results.specs.declared.execution_error.ExecutionError.{ExecutionError}
use Rattle.graphql_field_results.specs.declared.field_error.FieldError.{FieldError}
use Rattle.graphql_field_results.specs.declared.resolved.Resolved.{Resolved, out-Resolved}
use Rattle.graphql_field_results.specs.declared.resolved.Resolved.TheOpen.{Resolved-F}
use Rattle.graphql_semantics.specs.Engines.{Engine}
use Rattle.graphql_semantics.specs.Outcomes.{Outcome}
use Rattle.graphql_semantics.specs.Completion.{blame_at, misfit_error, own_null}
use Rattle.graphql_semantics.specs.Evaluation.{found_in, sets_below}

-- at a path or below it
abbrev pub IsAt : {S : Type 0} → List Bytes → ExecutionError S → Type 0
IsAt path failure = (rest : List Bytes) × (failure.path ≡ path ++ rest)

abbrev pub AreAt : {S : Type 0} → List Bytes → List (ExecutionError S) → Type 0
AreAt path failures = All (IsAt path) failures

-- there is a value, or something failed
abbrev pub IsAccounted : {S A : Type 0} → Outcome S A → Type 0
IsAccounted o = o.value ≡ None → o.failures ≡ [] → ⊥

-- what an answer is
module _ {S N : Type 0} where
  abbrev pub IsNull : Resolved S N → Type 0
  IsNull r = out-Resolved S N r ≡ Resolved-F.Null

  abbrev pub IsScalar : Resolved S N → S → Type 0
  IsScalar r scalar = out-Resolved S N r ≡ Resolved-F.Scalar scalar

  abbrev pub IsList : Resolved S N → List (Resolved S N) → Type 0
  IsList r items = out-Resolved S N r ≡ Resolved-F.List items

  abbrev pub IsNode : Resolved S N → N → Type 0
  IsNode r node = out-Resolved S N r ≡ Resolved-F.Node node

-- of a type's name, whether it is a leaf and which nodes can stand there; wraps have the outermost
-- first
module _ {S N : Type 0} (name : Bytes) (is_leaf : Bool) (is_possible : N → Bool) where
  -- a value of another kind than the type's
  abbrev pub IsMisfit : List TypeModifier → Resolved S N → Type 0
  IsMisfit [] r = ((scalar : S) × IsScalar r scalar × (is_leaf ≡ false))
      ⊎ (((items : List (Resolved S N)) × IsList r items)
      ⊎ ((node : N) × IsNode r node × (is_possible node ≡ false)))
  IsMisfit (modifier.NonNull ∷ wraps) r = ⊥
  IsMisfit (modifier.List size ∷ wraps) r =
      ((scalar : S) × IsScalar r scalar) ⊎ ((node : N) × IsNode r node)

  -- why an answer fails at a type, itself or an item of it
  pub data FailsAt : List TypeModifier → Resolved S N → FieldError S → Type 0 where
    misfit : (wraps : List TypeModifier) (r : Resolved S N) → IsMisfit wraps r
        → FailsAt wraps r (misfit_error name wraps)
    required_null : (wraps : List TypeModifier) (r : Resolved S N) → IsNull r
        → FailsAt (modifier.NonNull ∷ wraps) r own_null
    required : (wraps : List TypeModifier) (r : Resolved S N) (error : FieldError S)
        → (IsNull r → ⊥) → FailsAt wraps r error → FailsAt (modifier.NonNull ∷ wraps) r error
    item : (size : Option ℕ) (wraps : List TypeModifier) (r x : Resolved S N)
        (items : List (Resolved S N)) (error : FieldError S) → IsList r items → Contains items x
        → FailsAt wraps x error
        → FailsAt (modifier.List size ∷ wraps) r error

  -- a node that is answered at a type, itself or an item, and can stand there
  pub data AnswersNode : List TypeModifier → Resolved S N → N → Type 0 where
    node : (r : Resolved S N) (m : N) → IsNode r m → is_possible m ≡ true → AnswersNode [] r m
    required_node : (wraps : List TypeModifier) (r : Resolved S N) (m : N) → (IsNull r → ⊥)
        → AnswersNode wraps r m → AnswersNode (modifier.NonNull ∷ wraps) r m
    item_node : (size : Option ℕ) (wraps : List TypeModifier) (r x : Resolved S N)
        (items : List (Resolved S N)) (m : N) → IsList r items → Contains items x
        → AnswersNode wraps x m
        → AnswersNode (modifier.List size ∷ wraps) r m

module _ {S N : Type 0} (e : Engine S N) where
  abbrev pub ReasonAt : TypeOf → Resolved S N → FieldError S → Type 0
  ReasonAt type = FailsAt type.name (e.is_leaf type.name)
      (λ m. e.is_possible type.name (e.concrete m)) (reverse type.modifiers)

  abbrev pub NodeAt : TypeOf → Resolved S N → N → Type 0
  NodeAt type = AnswersNode type.name (e.is_leaf type.name)
      (λ m. e.is_possible type.name (e.concrete m)) (reverse type.modifiers)

  -- something fails of what sets of selections ask of a node of an object type, at a path: always
  -- told at the first field of a group
  pub data Fails : List Bytes → Bytes → N → List (Tree S) → ExecutionError S → Type 0 where
    -- the resolver's error
    resolver : (path : List Bytes) (of : Bytes) (on : N) (sets : List (Tree S)) (key : Bytes)
        (x : Found S) (xs : List (Found S)) (type : TypeOf) (error : FieldError S)
        → Contains (groups (found_in e of sets)) (key, x ∷ xs)
        → e.declared of x.head.name ≡ Some type
        → e.answer on of x.head.name (e.arguments of x.head) ≡ Err error
        → Fails path of on sets (blame_at (path ++ key ∷ []) x.head.place error)
    -- an answer that fails at the type of the field
    answer : (path : List Bytes) (of : Bytes) (on : N) (sets : List (Tree S)) (key : Bytes)
        (x : Found S) (xs : List (Found S)) (type : TypeOf) (r : Resolved S N)
        (error : FieldError S)
        → Contains (groups (found_in e of sets)) (key, x ∷ xs)
        → e.declared of x.head.name ≡ Some type
        → e.answer on of x.head.name (e.arguments of x.head) ≡ Ok r → ReasonAt type r error
        → Fails path of on sets (blame_at (path ++ key ∷ []) x.head.place error)
    -- below a node that is answered
    below : (path : List Bytes) (of : Bytes) (on : N) (sets : List (Tree S)) (key : Bytes)
        (x : Found S) (xs : List (Found S)) (type : TypeOf) (r : Resolved S N) (m : N)
        (f : ExecutionError S)
        → Contains (groups (found_in e of sets)) (key, x ∷ xs)
        → e.declared of x.head.name ≡ Some type
        → e.answer on of x.head.name (e.arguments of x.head) ≡ Ok r → NodeAt type r m
        → Fails (path ++ key ∷ []) (e.concrete m) m (sets_below (x ∷ xs)) f
        → Fails path of on sets f
