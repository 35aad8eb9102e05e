-- References to types: a name, and the wraps around it, the innermost first (GraphQL October 2021,
-- 2.11 Type References).
use Rattle.std.specs.Prelude.{◌++◌, ◌-◌, ◌||◌, ℕ, Bool, true, false, Option, Some, None}
use Rattle.std.specs.Prelude.{if◌then◌else◌, List, [], ◌∷◌, length, take, slice_get, codes}
use Rattle.graphql_names.specs.declared.type_modifier.TypeModifier.{TypeModifier}
use Rattle.graphql_names.specs.declared.type_modifier.TypeModifier.TheVariants as modifier

abbrev pub wraps_in_list : TypeModifier → Bool
wraps_in_list modifier.NonNull = false
wraps_in_list (modifier.List size) = true

-- whether one of the wraps makes a list
abbrev pub has_list : List TypeModifier → Bool
has_list [] = false
has_list (m ∷ ms) = wraps_in_list m || has_list ms

-- the last wrap, which is the outermost
abbrev pub outermost : List TypeModifier → Option TypeModifier
outermost ms = slice_get ms (length ms - 1)

-- whether the outermost wrap keeps null out
abbrev pub is_non_null : Option TypeModifier → Bool
is_non_null (Some modifier.NonNull) = true
is_non_null (Some (modifier.List size)) = false
is_non_null None = false

-- the wraps of the same type with null
abbrev pub nullable : List TypeModifier → List TypeModifier
nullable ms = if is_non_null (outermost ms) then take (length ms - 1) ms else ms

-- what a wrap writes around a type
abbrev pub wrapped_type : List ℕ → TypeModifier → List ℕ
wrapped_type inner modifier.NonNull = inner ++ codes "!"
wrapped_type inner (modifier.List size) = codes "[" ++ inner ++ codes "]"

-- a type as it is written, from the innermost wrap to the outermost
abbrev pub written_type : List ℕ → List TypeModifier → List ℕ
written_type inner [] = inner
written_type inner (m ∷ ms) = written_type (wrapped_type inner m) ms

-- the part of it before the type within, and the part behind that
abbrev pub opening : TypeModifier → List ℕ
opening modifier.NonNull = []
opening (modifier.List size) = codes "["

abbrev pub closing : TypeModifier → List ℕ
closing modifier.NonNull = codes "!"
closing (modifier.List size) = codes "]"
