-- Values that may be null, where it is told apart whether null was given (GraphQL October 2021,
-- 2.9.5 Null Value: "two semantically different ways to represent the lack of a value").
use Rattle.std.specs.Prelude.{◌≡◌, ◌≢◌, Bool, true, false, Option, Some, None, IsSomeAnd}
use Rattle.std.specs.declared.cmp.Ordering.{Ordering}
use Rattle.std.specs.declared.cmp.Ordering.TheVariants.{Less, Equal, Greater}
use Rattle.std.specs.Borrow.{Bor, MutBor}
use Rattle.graphql_values.specs.Conversions.{Apart}
use Rattle.graphql_values.specs.declared.input_value.InputValue.{InputValue}
use Rattle.graphql_values.specs.declared.input_value.InputValue.TheVariants as value
use Rattle.graphql_input_types.specs.declared.nullable.Nullable.{Nullable}
use Rattle.graphql_input_types.specs.declared.nullable.Nullable.TheVariants as nullable

-- the value, if there is one, however its lack is told
abbrev pub some : {T : Type 0} → Nullable T → Option T
some nullable.ImplicitNull = None
some nullable.ExplicitNull = None
some (nullable.Some x) = Some x

-- null was given
abbrev pub is_explicit_null : {T : Type 0} → Nullable T → Bool
is_explicit_null nullable.ImplicitNull = false
is_explicit_null nullable.ExplicitNull = true
is_explicit_null (nullable.Some x) = false

-- nothing was given
abbrev pub is_implicit_null : {T : Type 0} → Nullable T → Bool
is_implicit_null nullable.ImplicitNull = true
is_implicit_null nullable.ExplicitNull = false
is_implicit_null (nullable.Some x) = false

-- null where it was given, nothing where nothing was
abbrev pub explicit : {T : Type 0} → Nullable T → Option (Option T)
explicit nullable.ImplicitNull = None
explicit nullable.ExplicitNull = Some None
explicit (nullable.Some x) = Some (Some x)

-- P where nothing was given, Q where null was, and R of the value
abbrev pub MatchNullable : {T : Type 0} → Nullable T → Type 0 → Type 0 → (T → Type 0) → Type 0
MatchNullable nullable.ImplicitNull P Q R = P
MatchNullable nullable.ExplicitNull P Q R = Q
MatchNullable (nullable.Some x) P Q R = R x

-- both are the same null, or both have a value and R ties them
abbrev pub IsSameBy : {T U : Type 0} → (T → U → Type 0) → Nullable T → Nullable U → Type 0
IsSameBy R x y = MatchNullable x (y ≡ nullable.ImplicitNull) (y ≡ nullable.ExplicitNull)
    (λ value. IsSomeAnd (some y) (R value))

-- the same null, or what the value becomes
abbrev pub mapped : {T U : Type 0} → (T → U) → Nullable T → Nullable U
mapped f nullable.ImplicitNull = nullable.ImplicitNull
mapped f nullable.ExplicitNull = nullable.ExplicitNull
mapped f (nullable.Some x) = nullable.Some (f x)

-- with the value that is lent
abbrev pub copied : {T : Type 0} → Nullable (Bor T) → Nullable T
copied x = mapped (λ lent. lent.now) x

-- with the value that is lent to be written to
abbrev pub copied_mut : {T : Type 0} → Nullable (MutBor T) → Nullable T
copied_mut x = mapped (λ lent. lent.now) x

-- the one, or where it is null the other
abbrev pub or : {T : Type 0} → Nullable T → Nullable T → Nullable T
or nullable.ImplicitNull other = other
or nullable.ExplicitNull other = other
or (nullable.Some x) other = nullable.Some x

-- what was not given stands first, then null, then values by their own order
abbrev pub order : {T : Type 0} → (T → T → Ordering) → Nullable T → Nullable T → Ordering
order cmp nullable.ImplicitNull nullable.ImplicitNull = Equal
order cmp nullable.ImplicitNull nullable.ExplicitNull = Less
order cmp nullable.ImplicitNull (nullable.Some y) = Less
order cmp nullable.ExplicitNull nullable.ImplicitNull = Greater
order cmp nullable.ExplicitNull nullable.ExplicitNull = Equal
order cmp nullable.ExplicitNull (nullable.Some y) = Less
order cmp (nullable.Some x) nullable.ImplicitNull = Greater
order cmp (nullable.Some x) nullable.ExplicitNull = Greater
order cmp (nullable.Some x) (nullable.Some y) = cmp x y

-- a null that is given is one, and any other value is what it means where it may not be null (3.12
-- Non-Null)
abbrev pub MeansNullable : {S T : Type 0} → (InputValue S → T → Type 0) → InputValue S → Nullable T
    → Type 0
MeansNullable means v nullable.ImplicitNull = ⊥
MeansNullable means v nullable.ExplicitNull = v ≡ value.Null
MeansNullable means v (nullable.Some x) = (v ≢ value.Null) × means v x

-- a value that is not null may be refused
abbrev pub RefusesNullable : {S E : Type 0} → (InputValue S → E → Type 0) → InputValue S → E
    → Type 0
RefusesNullable refuses v e = (v ≢ value.Null) × refuses v e

pub nullable_apart :
    {S T E : Type 0} (means : InputValue S → T → Type 0) (refuses : InputValue S → E → Type 0)
    → Apart means refuses → (v : InputValue S) (x : Nullable T) (e : E) → MeansNullable means v x
    → RefusesNullable refuses v e → ⊥
nullable_apart means refuses apart v nullable.ImplicitNull e meant refused = meant
nullable_apart means refuses apart v nullable.ExplicitNull e is refused = refused.0 is
nullable_apart means refuses apart v (nullable.Some x) e meant refused =
    apart v x e meant.1 refused.1

-- null stands for both nulls
abbrev pub nullable_of : {S T : Type 0} → (T → InputValue S) → Nullable T → InputValue S
nullable_of of nullable.ImplicitNull = value.Null
nullable_of of nullable.ExplicitNull = value.Null
nullable_of of (nullable.Some x) = of x
