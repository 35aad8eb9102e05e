-- What a resolver asks of what is given: a value of one kind under a name, or the refusal that
-- names what is wrong (GraphQL October 2021, 3.5 Scalars, 3.9 Enums, 3.10 Input Objects, 3.11
-- List).
use Rattle.std.specs.Prelude.{◌++◌, ℕ, ℤ, pos, int_lt, unsigned_abs, if◌then◌else◌, Bool, List, []}
use Rattle.std.specs.Prelude.{◌∷◌, map, Option, Some, None, Result, Ok, Err, codes}
use Rattle.std.specs.Option.{option_and_then, option_map}
use Rattle.std.specs.Fmt.{signed_decimal}
use Rattle.std.specs.List.{list_any}
use Rattle.std.specs.Str.{bytes_eq}
use Rattle.graphql_names.specs.Names.{Bytes}
use Rattle.graphql_scalars.specs.declared.default_scalar.DefaultScalarValue.{DefaultScalarValue}
use Rattle.graphql_scalars.specs.declared.default_scalar.DefaultScalarValue.TheVariants as scalar
use Rattle.graphql_resolvers.specs.Inputs.{Input, Inputs, null, leaf, items, fields, variable}
use Rattle.graphql_resolvers.specs.Refusals.{Refusal, because}

-- ---- kinds of leaves

abbrev pub Leaf : Type 0
Leaf = DefaultScalarValue

-- a text, or the name of an enum value
abbrev pub as_word : Leaf → Option Bytes
as_word (scalar.String t) = Some t
as_word (scalar.Int n) = None
as_word (scalar.Boolean b) = None

abbrev pub as_int : Leaf → Option ℤ
as_int (scalar.String t) = None
as_int (scalar.Int n) = Some n
as_int (scalar.Boolean b) = None

abbrev pub as_boolean : Leaf → Option Bool
as_boolean (scalar.String t) = None
as_boolean (scalar.Int n) = None
as_boolean (scalar.Boolean b) = Some b

-- a text, or an integer as its digits (3.5.5 ID)
abbrev pub as_id : Leaf → Option Bytes
as_id (scalar.String t) = Some t
as_id (scalar.Int n) = Some (signed_decimal n)
as_id (scalar.Boolean b) = None

abbrev pub not_negative : ℤ → Option ℕ
not_negative n = if int_lt n (pos 0) then None else Some (unsigned_abs n)

-- how many: an integer that is not negative
abbrev pub as_count : Leaf → Option ℕ
as_count s = option_and_then not_negative (as_int s)

-- ---- kinds of input

-- each has a value
abbrev pub all_some : {A : Type 0} → List (Option A) → Option (List A)
all_some [] = Some []
all_some (x ∷ xs) = option_and_then (λ y. option_map (λ ys. y ∷ ys) (all_some xs)) x

module _ {A : Type 0} (kind : Leaf → Option A) where
  abbrev pub one_scalar : Input → Option A
  one_scalar null = None
  one_scalar (leaf s) = kind s
  one_scalar (items xs) = None
  one_scalar fields = None
  one_scalar variable = None

  -- a leaf that is no list stands for the list of it alone (3.11 List, Input Coercion)
  abbrev pub many : Input → Option (List A)
  many null = None
  many (leaf s) = option_map (λ x. x ∷ []) (kind s)
  many (items xs) = all_some (map (option_and_then kind) xs)
  many fields = None
  many variable = None

abbrev pub is_among : Bytes → List Bytes → Bool
is_among word words = list_any (λ other. bytes_eq word other) words

-- ---- asking

abbrev pub refused : Bytes → Bytes → Refusal
refused name what = because (codes "Argument \"" ++ (name ++ (codes "\" is " ++ what)))

abbrev pub or_refused : {A : Type 0} → Option A → Refusal → Result (Option A) Refusal
or_refused (Some x) r = Ok (Some x)
or_refused None r = Err r

-- what is read of what stands there; nothing of `null`, and where nothing is given
abbrev pub read_of : {A : Type 0} → (Input → Option A) → Refusal → Option Input
    → Result (Option A) Refusal
read_of reads r None = Ok None
read_of reads r (Some null) = Ok None
read_of reads r (Some (leaf s)) = or_refused (reads (leaf s)) r
read_of reads r (Some (items xs)) = or_refused (reads (items xs)) r
read_of reads r (Some fields) = or_refused (reads fields) r
read_of reads r (Some variable) = or_refused (reads variable) r

-- it has to be there
abbrev pub needed_of : {A : Type 0} → Refusal → Result (Option A) Refusal → Result A Refusal
needed_of r (Ok (Some x)) = Ok x
needed_of r (Ok None) = Err r
needed_of r (Err e) = Err e

abbrev pub needed : {A : Type 0} → Bytes → Result (Option A) Refusal → Result A Refusal
needed name found = needed_of (refused name (codes "not given")) found

module _ (given : Inputs) (name : Bytes) where
  abbrev pub asked : {A : Type 0} → (Input → Option A) → Bytes → Result (Option A) Refusal
  asked reads what = read_of reads (refused name what) (given (name ∷ []))

  abbrev pub word_or_null : Result (Option Bytes) Refusal
  word_or_null = asked (one_scalar as_word) (codes "no text")

  abbrev pub int_or_null : Result (Option ℤ) Refusal
  int_or_null = asked (one_scalar as_int) (codes "no integer")

  abbrev pub boolean_or_null : Result (Option Bool) Refusal
  boolean_or_null = asked (one_scalar as_boolean) (codes "no truth value")

  abbrev pub id_or_null : Result (Option Bytes) Refusal
  id_or_null = asked (one_scalar as_id) (codes "no id")

  abbrev pub count_or_null : Result (Option ℕ) Refusal
  count_or_null = asked (one_scalar as_count) (codes "no count")

  abbrev pub words_or_null : Result (Option (List Bytes)) Refusal
  words_or_null = asked (many as_word) (codes "no list of texts")

  abbrev pub integers_or_null : Result (Option (List ℤ)) Refusal
  integers_or_null = asked (many as_int) (codes "no list of integers")

  abbrev pub ids_or_null : Result (Option (List Bytes)) Refusal
  ids_or_null = asked (many as_id) (codes "no list of ids")

  -- what stands below a name
  abbrev pub below : Inputs
  below path = given (name ∷ path)

  abbrev pub part_of : Input → Option Inputs
  part_of null = None
  part_of (leaf s) = None
  part_of (items xs) = None
  part_of fields = Some below
  part_of variable = None

  -- the fields of an input object
  abbrev pub part_or_null : Result (Option Inputs) Refusal
  part_or_null = asked part_of (codes "no input object")

  abbrev pub word : Result Bytes Refusal
  word = needed name word_or_null

  abbrev pub int : Result ℤ Refusal
  int = needed name int_or_null

  abbrev pub boolean : Result Bool Refusal
  boolean = needed name boolean_or_null

  abbrev pub id : Result Bytes Refusal
  id = needed name id_or_null

  abbrev pub count : Result ℕ Refusal
  count = needed name count_or_null

  abbrev pub words : Result (List Bytes) Refusal
  words = needed name words_or_null

  abbrev pub integers : Result (List ℤ) Refusal
  integers = needed name integers_or_null

  abbrev pub ids : Result (List Bytes) Refusal
  ids = needed name ids_or_null

  abbrev pub part : Result Inputs Refusal
  part = needed name part_or_null
