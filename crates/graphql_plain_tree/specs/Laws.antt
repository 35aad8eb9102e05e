-- Laws of plain selection sets.
use Rattle.std.specs.Prelude.{◌≡◌, ◌↔◌, ◌≤◌, Bool, true, false, List, [], map, Option}
use Rattle.std.specs.List.{Contains}
use Rattle.graphql_names.specs.Names.{Bytes}
use Rattle.graphql_scalars.specs.ScalarAnswers.{ScalarAnswer}
use Rattle.graphql_values.specs.declared.input_value.InputValue.{InputValue}
use Rattle.graphql_tree.specs.declared.document.Fragment.{Fragment}
use Rattle.graphql_tree.specs.declared.document.Operation.{Operation}
use Rattle.graphql_written_out.specs.Conditions.{left_out}
use Rattle.graphql_written_out.specs.Fields.{Found, fields}
use Rattle.graphql_written_out.specs.Trees.{Directives, Tree, height, is_empty, IsFilled}
use Rattle.graphql_written_out.specs.Written.{written}
use Rattle.graphql_plain_tree.specs.DocumentTrees.{unplaced_fields}
use Rattle.graphql_plain_tree.specs.Plain.{plain, size}
use Rattle.graphql_plain_tree.specs.PlainDocuments.{operation_as}
use Rattle.graphql_plain_tree.specs.PlainOperations.{PlainOperation, plain_operation}
use Rattle.graphql_plain_tree.specs.PlainOperations.{variables_used}
use Rattle.graphql_plain_tree.specs.PlainRelation.{IsPlainOf}
use Rattle.graphql_plain_tree.specs.PlainShape.{IsPlain}
use Rattle.graphql_plain_tree.specs.StandIns.{skip_true}

-- the directives of a stand-in leave out, and no directives do not
abbrev pub Fit : {S : Type 0} → (Directives S → Bool) → Directives S → Type 0
Fit drops stand_in = (drops stand_in ≡ true) × (drops [] ≡ false)

-- a field with its own set plain
abbrev pub plain_found : {S : Type 0} → (Directives S → Bool) → Directives S → Found S → Found S
plain_found drops stand_in x = record { head = x.head; below = plain drops stand_in x.below }

module _ (S : Type 0) where
  -- the relation holds of each set and its plain set, and of no other
  abbrev pub OnePlain : Type 0
  OnePlain = (drops : Directives S → Bool) (stand_in : Directives S) (set p : Tree S)
      → IsPlainOf drops stand_in set p ↔ (plain drops stand_in set ≡ p)

  -- for each object type the fields are the same, in the same order, each with its set plain
  abbrev pub FieldsOfPlain : Type 0
  FieldsOfPlain = (drops : Directives S → Bool) (stand_in : Directives S) → Fit drops stand_in
      → (is_above : Bytes → Bool) (set : Tree S)
      → fields drops is_above (plain drops stand_in set)
      ≡ map (plain_found drops stand_in) (fields drops is_above set)

  -- the only directives are those of stand-ins, each alone in its set
  abbrev pub IsPlainThroughout : Type 0
  IsPlainThroughout = (drops : Directives S → Bool) (stand_in : Directives S) (set : Tree S)
      → IsPlain stand_in (plain drops stand_in set)

  -- such a set is its own plain set
  abbrev pub PlainStays : Type 0
  PlainStays =
      (drops : Directives S → Bool) (stand_in : Directives S) → Fit drops stand_in → (set : Tree S)
      → IsPlain stand_in set → plain drops stand_in set ≡ set

  -- and so is a plain set, also where other directives leave out
  abbrev pub PlainAgain : Type 0
  PlainAgain = (drops other : Directives S → Bool) (stand_in : Directives S) → Fit other stand_in
      → (set : Tree S)
      → plain other stand_in (plain drops stand_in set) ≡ plain drops stand_in set

  -- a plain set is no higher, and has no more fields and inline fragments
  abbrev pub NotHigher : Type 0
  NotHigher = (drops : Directives S → Bool) (stand_in : Directives S) (set : Tree S)
      → (height (plain drops stand_in set) ≤ height set)
      × (size (plain drops stand_in set) ≤ size set)

  -- a plain set is empty where the set is, and its sets stand where those of the set do
  abbrev pub StaysFilled : Type 0
  StaysFilled = (drops : Directives S → Bool) (stand_in : Directives S) (set : Tree S)
      → (is_empty (plain drops stand_in set) ≡ is_empty set)
      × (IsFilled set → IsFilled (plain drops stand_in set))

  -- a plain set uses no variable that the set does not use
  abbrev pub UsesNoMore : Type 0
  UsesNoMore = (drops : Directives S → Bool) (stand_in : Directives S) (set : Tree S) (name : Bytes)
      → Contains (variables_used (plain drops stand_in set)) name
      → Contains (variables_used set) name

-- `skip(if: true)` leaves out, and no directives do not, whatever values variables have
abbrev pub StandInLeavesOut : {S : Type 0} → (S → ScalarAnswer) → (Bool → S) → Type 0
StandInLeavesOut {S} answer of_bool =
    (given : Bytes → Option (InputValue S)) → Fit (left_out answer given) (skip_true of_bool)

-- the selection set of a plain operation's document, written out, is the operation's set, each
-- field at no place
abbrev pub DocumentIsItsTree : {S : Type 0} → (S → ScalarAnswer) → (Bool → S) → Type 0
DocumentIsItsTree {S} answer of_bool =
    (given : Bytes → Option (InputValue S)) (fragments : List (Fragment S)) (o : Operation S)
    → IsFilled (written fragments o.selection_set)
    → written [] (operation_as (plain_operation answer of_bool given fragments o)).selection_set
    ≡ unplaced_fields (plain_operation answer of_bool given fragments o).set

-- the same operation, each field of its set at no place
abbrev pub unplaced_operation : {S : Type 0} → PlainOperation S → PlainOperation S
unplaced_operation p = record {
  operation_type = p.operation_type;
  name = p.name;
  variables = p.variables;
  set = unplaced_fields p.set;
}

-- the operation of a plain document is its own plain operation, by other values of variables too
abbrev pub OperationAgain : {S : Type 0} → (S → ScalarAnswer) → (Bool → S) → Type 0
OperationAgain {S} answer of_bool =
    (given other : Bytes → Option (InputValue S)) (fragments : List (Fragment S)) (o : Operation S)
    → IsFilled (written fragments o.selection_set)
    → plain_operation answer of_bool other []
    (operation_as (plain_operation answer of_bool given fragments o))
    ≡ unplaced_operation (plain_operation answer of_bool given fragments o)
