-- Selection sets in which each spread has become an inline fragment (GraphQL October 2021, 2.4
-- Selection Sets, 2.8 Fragments).
use Rattle.std.specs.Prelude.{◌≡◌, ℕ, Bool, true, false, not, List, Option, max, ◌+◌}
use Rattle.graphql_names.specs.Names.{Bytes}
use Rattle.graphql_text.specs.declared.position.SourcePosition.{SourcePosition}
use Rattle.graphql_values.specs.InputValues.{Placed}
use Rattle.graphql_tree.specs.Arguments.{Argument}
use Rattle.graphql_tree.specs.declared.directive.Directive.{Directive}

-- directives at their places
abbrev pub Directives : Type 0 → Type 0
Directives S = List (Placed (Directive S))

-- what is written of a field, its directives and its selection set aside (2.5 Fields)
pub record Head (S : Type 0) : Type 0 where
  pub key : Bytes
  pub name : Bytes
  -- whether the key is an alias, which may be the name again
  pub is_aliased : Bool
  pub arguments : List (Argument S)
  -- whether there is a selection set
  pub has_set : Bool
  pub place : SourcePosition

-- a selection set: each selection before those that follow it; an inline fragment with its
-- condition, if it has one
pub data Tree (S : Type 0) : Type 0 where
  none : Tree S
  field : Head S → Directives S → Tree S → Tree S → Tree S
  inline : Option Bytes → Directives S → Tree S → Tree S → Tree S

-- how deep the set is nested
abbrev pub height : {S : Type 0} → Tree S → ℕ
height none = 0
height (field head directives below rest) = max (height below + 1) (height rest)
height (inline on directives below rest) = max (height below + 1) (height rest)

-- nothing is selected
abbrev pub is_empty : {S : Type 0} → Tree S → Bool
is_empty none = true
is_empty (field head directives below rest) = false
is_empty (inline on directives below rest) = false

-- sets stand where there are some: no inline fragment has an empty one, and a field has one exactly
-- where its head says so
abbrev pub IsFilled : {S : Type 0} → Tree S → Type 0
IsFilled none = Unit {0}
IsFilled (field head directives below rest) =
    (head.has_set ≡ not (is_empty below)) × IsFilled below × IsFilled rest
IsFilled (inline on directives below rest) =
    (is_empty below ≡ false) × IsFilled below × IsFilled rest
