-- The fields of a selection set for an object type (GraphQL October 2021, 6.3.2 Field Collection,
-- CollectFields).
use Rattle.std.specs.Prelude.{Bool, true, not, ◌||◌, List, [], ◌∷◌, ◌++◌, Option, Some, None}
use Rattle.std.specs.Prelude.{if◌then◌else◌}
use Rattle.graphql_names.specs.Names.{Bytes}
use Rattle.graphql_written_out.specs.Trees.{Directives, Head, Tree, none, field, inline}

-- a field that applies, and its own selection set
pub record Found (S : Type 0) : Type 0 where
  pub head : Head S
  pub below : Tree S

-- a type condition applies, or there is none (6.3.2 CollectFields, DoesFragmentTypeApply)
abbrev pub applies : (Bytes → Bool) → Option Bytes → Bool
applies is_above None = true
applies is_above (Some on) = is_above on

-- `drops`: which directives leave a selection out; `is_above`: which types the object type is a
-- subtype of
abbrev pub fields : {S : Type 0} → (Directives S → Bool) → (Bytes → Bool) → Tree S → List (Found S)
fields drops is_above none = []
fields drops is_above (field head directives below rest) =
    if drops directives then fields drops is_above rest
    else record { head = head; below = below } ∷ fields drops is_above rest
fields drops is_above (inline on directives below rest) =
    if drops directives
    || not (applies is_above on) then fields drops is_above rest
    else fields drops is_above below ++ fields drops is_above rest
