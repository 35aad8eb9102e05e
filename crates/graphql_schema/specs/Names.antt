-- Names that are not free (GraphQL October 2021, 4 Introspection, Reserved Names; 3.5 Scalars,
-- Built-in Scalars).
use Rattle.std.specs.Prelude.{◌||◌, ◌==◌, ℕ, List, Bool, false, Option, Some, None, codes}
use Rattle.std.specs.List.{starts_with}
use Rattle.std.specs.Str.{bytes_eq}

-- it begins with two underscores
abbrev pub is_reserved : List ℕ → Bool
is_reserved name = starts_with (λ a b. a == b) name (codes "__")

-- a type of introspection, a scalar of the standard, or the object of a schema without mutations or
-- subscriptions
abbrev pub is_builtin_type : List ℕ → Bool
is_builtin_type name =
    is_reserved name || bytes_eq name (codes "Int") || bytes_eq name (codes "Float")
    || bytes_eq name (codes "String") || bytes_eq name (codes "Boolean")
    || bytes_eq name (codes "ID")
    || bytes_eq name (codes "_EmptyMutation") || bytes_eq name (codes "_EmptySubscription")

abbrev pub names_builtin_type : Option (List ℕ) → Bool
names_builtin_type (Some name) = is_builtin_type name
names_builtin_type None = false
