-- Words of the parts of an execution.
use Rattle.std.specs.Prelude.{◌≡◌, ℕ, Bool, true, false, List, [], ◌∷◌, ◌++◌, Option}
use Rattle.graphql_names.specs.declared.type_modifier.TypeModifier.{TypeModifier}
use Rattle.graphql_names.specs.declared.type_modifier.TypeModifier.TheVariants as modifier
use Rattle.graphql_execution_walk.specs.declared.parts.Outer.{Outer}
use Rattle.graphql_execution_walk.specs.declared.parts.Outer.TheVariants as outer
use Rattle.graphql_field_results.specs.declared.resolved.Resolved.{Resolved, out-Resolved}
use Rattle.graphql_field_results.specs.declared.resolved.Resolved.TheOpen.{Resolved-F}

-- the outermost of these wraps is a list, around others; the innermost stands first
abbrev pub IsListAround : List TypeModifier → List TypeModifier → Type 0
IsListAround wraps within = (size : Option ℕ) × (wraps ≡ within ++ modifier.List size ∷ [])

-- of wraps that have the innermost first
abbrev pub IsOuter : List TypeModifier → Outer → Type 0
IsOuter wraps outer.Named = wraps ≡ []
IsOuter wraps (outer.NonNull within) = wraps ≡ within.now ++ modifier.NonNull ∷ []
IsOuter wraps (outer.List within) = IsListAround wraps within.now

abbrev pub null_at : {S N X : Type 0} → Resolved-F S N X → Bool
null_at Resolved-F.Null = true
null_at (Resolved-F.Scalar scalar) = false
null_at (Resolved-F.List items) = false
null_at (Resolved-F.Node node) = false

abbrev pub null_here : {S N : Type 0} → Resolved S N → Bool
null_here {S} {N} r = null_at (out-Resolved S N r)
