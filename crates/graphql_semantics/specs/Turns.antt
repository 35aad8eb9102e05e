-- How many turns a walk takes to answer selections (GraphQL October 2021, 6.3 Executing Selection
-- Sets, 6.4 Executing Fields): one for a value, one to begin and one to end an object and a list,
-- and one to set out for each member and each item.
use Rattle.std.specs.Prelude.{ℕ, zero, suc, ◌+◌, Bool, true, false, List, [], ◌∷◌, map, reverse}
use Rattle.std.specs.Prelude.{Option, Some, None, Result, Ok, Err}
use Rattle.std.specs.List.{sum}
use Rattle.graphql_names.specs.Names.{Bytes}
use Rattle.graphql_names.specs.declared.type_modifier.TypeModifier.{TypeModifier}
use Rattle.graphql_names.specs.declared.type_modifier.TypeModifier.TheVariants as modifier
use Rattle.graphql_schema.specs.Types.{TypeOf}
use Rattle.graphql_written_out.specs.Trees.{Tree}
use Rattle.graphql_written_out.specs.Fields.{Found}
use Rattle.graphql_written_out.specs.Groups.{groups}
use Rattle.graphql_field_results.specs.declared.field_error.FieldError.{FieldError}
use Rattle.graphql_field_results.specs.declared.resolved.Resolved.{Resolved, out-Resolved}
use Rattle.graphql_field_results.specs.declared.resolved.Resolved.TheOpen.{Resolved-F}
use Rattle.graphql_semantics.specs.Engines.{Engine}
use Rattle.graphql_semantics.specs.Evaluation.{Group, found_in, highest, sets_below}

-- at a node, by whether it can stand there; `run`: the turns of the field's own selections on it
abbrev pub turns_if : {N : Type 0} → (N → ℕ) → Bool → N → ℕ
turns_if run true node = 2 + run node
turns_if run false node = 1

module _ {S N : Type 0} where
  -- `item`: the turns of an item
  abbrev pub turns_at_list : (Resolved S N → ℕ) → Resolved-F S N (Resolved S N) → ℕ
  turns_at_list item Resolved-F.Null = 1
  turns_at_list item (Resolved-F.Scalar scalar) = 1
  turns_at_list item (Resolved-F.List items) = 2 + sum (map (λ x. 1 + item x) items)
  turns_at_list item (Resolved-F.Node node) = 1

  -- `some`: the turns of an answer that is not null
  abbrev pub turns_at_required : ℕ → Resolved-F S N (Resolved S N) → ℕ
  turns_at_required some Resolved-F.Null = 1
  turns_at_required some (Resolved-F.Scalar scalar) = some
  turns_at_required some (Resolved-F.List items) = some
  turns_at_required some (Resolved-F.Node node) = some

-- `run`: the turns of the field's own selections on a node; which nodes can stand at the type
module _ {S N : Type 0} (run : N → ℕ) (is_possible : N → Bool) where
  abbrev pub turns_at_name : Resolved-F S N (Resolved S N) → ℕ
  turns_at_name Resolved-F.Null = 1
  turns_at_name (Resolved-F.Scalar scalar) = 1
  turns_at_name (Resolved-F.List items) = 1
  turns_at_name (Resolved-F.Node node) = turns_if run (is_possible node) node

  -- over an answer at a type, by its wraps, the outermost first
  abbrev pub turns_at : List TypeModifier → Resolved S N → ℕ
  turns_at [] r = turns_at_name (out-Resolved S N r)
  turns_at (modifier.NonNull ∷ wraps) r = turns_at_required (turns_at wraps r) (out-Resolved S N r)
  turns_at (modifier.List size ∷ wraps) r = turns_at_list (turns_at wraps) (out-Resolved S N r)

  abbrev pub turns_of_result : List TypeModifier → Result (Resolved S N) (FieldError S) → ℕ
  turns_of_result wraps (Ok r) = turns_at wraps r
  turns_of_result wraps (Err e) = 1

module _ {S N : Type 0} (e : Engine S N) where
  -- over what is answered for a field, at the type that is declared; `run`: the turns of the
  -- field's own selections
  abbrev pub turns_at_declared : Option TypeOf → (N → ℕ) → Result (Resolved S N) (FieldError S) → ℕ
  turns_at_declared None run answer = 1
  turns_at_declared (Some type) run answer = turns_of_result run
      (λ m. e.is_possible type.name (e.concrete m)) (reverse type.modifiers) answer

  -- over the one answer of a group
  abbrev pub turns_of_group : (Bytes → N → List (Tree S) → ℕ) → Bytes → N → List (Found S) → ℕ
  turns_of_group run object node [] = 1
  turns_of_group run object node (x ∷ xs) =
      turns_at_declared (e.declared object x.head.name) (λ m. run (e.concrete m) m
      (sets_below (x ∷ xs))) (e.answer node object x.head.name (e.arguments object x.head))

  -- to a depth of selection sets
  abbrev pub turns : ℕ → Bytes → N → List (Tree S) → ℕ
  turns zero object node sets = 0
  turns (suc n) object node sets =
      sum (map (λ (g : Group S). 1 + turns_of_group (turns n) object node g.1)
      (groups (found_in e object sets)))

  -- over what sets of selections give: any depth that suffices has the same
  abbrev pub all_turns : Bytes → N → List (Tree S) → ℕ
  all_turns object node sets = turns (highest sets) object node sets
