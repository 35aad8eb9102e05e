-- Texts and lists under the keys of a JSON object (RFC 8259).
use Rattle.std.specs.Prelude.{Bool, not, List, [], ◌∷◌, Option, Some, None}
use Rattle.std.specs.Bool.{then_some}
use Rattle.std.specs.Option.{option_and_then, option_or}
use Rattle.serde_json.specs.Data.{Data, Items, no_items, item}
use Rattle.serde_json.specs.Find.{get, as_str, as_array}
use Rattle.graphql_names.specs.Names.{Bytes}

-- a step that may find nothing, and then one that needs what it found
infixl 10 ◌>>=◌
abbrev pub ◌>>=◌ : {A B : Type 0} → Option A → (A → Option B) → Option B
found >>= next = option_and_then next found

-- the first of two steps that finds something
infixr 10 ◌or_else◌
abbrev pub ◌or_else◌ : {A : Type 0} → Option A → Option A → Option A
first or_else second = option_or first second

-- the fault, where what it is told of is not right
abbrev pub unless : {A : Type 0} → Bool → A → Option A
unless right fault = then_some (not right) fault

abbrev pub text_of : Data → Option Bytes
text_of = as_str

-- what each item of a list is; none where one of them is not
abbrev pub each_read : {A : Type 0} → (Data → Option A) → Items → Option (List A)
each_read read no_items = Some []
each_read read (item d ds) = do
  x ← read d
  xs ← each_read read ds
  Some (x ∷ xs)

-- a text that must stand under a key
abbrev pub text_at : Bytes → Data → Option Bytes
text_at key d = get key d >>= text_of

abbrev pub present : {A : Type 0} → (Data → Option A) → Option Data → Option (Option A)
present read None = Some None
present read (Some d) = do
  x ← read d
  Some (Some x)

-- one that may be missing
abbrev pub text_if : Bytes → Data → Option (Option Bytes)
text_if key d = present text_of (get key d)

-- a list that must stand under a key
abbrev pub array_at : Bytes → Data → Option Items
array_at key d = get key d >>= as_array

-- what each item of JSON is that must be a list
abbrev pub list_read : {A : Type 0} → (Data → Option A) → Data → Option (List A)
list_read read d = as_array d >>= each_read read

-- the same of what must stand under a key
abbrev pub list_at : {A : Type 0} → (Data → Option A) → Bytes → Data → Option (List A)
list_at read key d = get key d >>= list_read read

abbrev pub or_none : {A : Type 0} → (Data → Option A) → Option Data → Option (List A)
or_none read None = Some []
or_none read (Some d) = list_read read d

-- the same where it may be missing, which is the same as an empty list
abbrev pub list_if : {A : Type 0} → (Data → Option A) → Bytes → Data → Option (List A)
list_if read key d = or_none read (get key d)
