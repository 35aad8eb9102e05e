-- The records of the sample, and what its resolver answers from records (GraphQL October 2021,
-- 6.4.2 Value Resolution) and changes in them (6.2.2 Mutation).
use Rattle.std.specs.Prelude.{◌∷◌, ◌+◌, ◌-◌, ◌^◌, ◌||◌, min, ℕ, Bool, false, [], List, Option, Some}
use Rattle.std.specs.Prelude.{None, Ok, codes, position, slice_get, slice_set, if◌then◌else◌}
use Rattle.std.specs.List.{find}
use Rattle.std.specs.Option.{option_and_then, option_map_or}
use Rattle.std.specs.Str.{bytes_eq}
use Rattle.graphql_names.specs.Names.{Bytes}
use Rattle.graphql_scalars.specs.declared.default_scalar.DefaultScalarValue.{DefaultScalarValue}
use Rattle.graphql_scalars.specs.declared.default_scalar.DefaultScalarValue.TheVariants as scalar
use Rattle.graphql_values.specs.declared.input_value.InputValue.{InputValue, out-InputValue}
use Rattle.graphql_values.specs.declared.input_value.InputValue.TheOpen.{InputValue-F}
use Rattle.graphql_arguments.specs.ArgumentValues.{Given, value_named}
use Rattle.graphql_field_results.specs.declared.resolved.Resolved.{Resolved}
use Rattle.graphql_field_results.specs.declared.resolved.Resolved.TheVariants as resolved
use Rattle.graphql_mutation.specs.Mutations.{Changes}
use Rattle.graphql_sample.specs.declared.records.SampleRecord.{SampleRecord}
use Rattle.graphql_sample.specs.declared.records.SampleRecords.{SampleRecords}
use Rattle.graphql_sample.specs.declared.resolver.SampleNode.{SampleNode}
use Rattle.graphql_sample.specs.declared.resolver.SampleNode.TheVariants as node

-- Ann, whose friend is Bob
abbrev pub ann : SampleRecord
ann = record { id = codes "h1"; name = Some (codes "Ann"); friend = Some (codes "h2") }

-- Bob, who has no friend
abbrev pub bob : SampleRecord
bob = record { id = codes "h2"; name = Some (codes "Bob"); friend = None }

abbrev pub sample_records : SampleRecords
sample_records = record { records = ann ∷ bob ∷ []; root_calls = 0 }

abbrev pub Answer : Type 0
Answer = Resolved DefaultScalarValue SampleNode

abbrev pub text_answer : Bytes → Answer
text_answer text = resolved.Scalar (scalar.String text)

-- the place of the first human of an id
abbrev pub record_index : List SampleRecord → Bytes → Option ℕ
record_index records id = position (λ r. bytes_eq id r.id) records

-- the first human of an id, null where there is none
abbrev pub human_of : List SampleRecord → Bytes → Answer
human_of records id =
    option_map_or (λ place. resolved.Node (node.Human place))
    (record_index records id) resolved.Null

abbrev pub type_name : SampleNode → Bytes
type_name node.Root = codes "Query"
type_name (node.Human place) = codes "Human"

abbrev pub of_human : List SampleRecord → SampleRecord → Bytes → Answer
of_human records r field =
    if bytes_eq field (codes "id") then text_answer r.id else
    if bytes_eq field (codes "name") then option_map_or text_answer r.name resolved.Null else
    if bytes_eq field (codes "friend") then option_map_or (human_of records) r.friend resolved.Null
    else resolved.Null

-- the text that a scalar is, if it is one
abbrev pub text_of_scalar : DefaultScalarValue → Option Bytes
text_of_scalar (scalar.String text) = Some text
text_of_scalar (scalar.Int n) = None
text_of_scalar (scalar.Boolean b) = None

abbrev pub text_layer : {A : Type 0} → InputValue-F DefaultScalarValue A → Option Bytes
text_layer (InputValue-F.Scalar s) = text_of_scalar s
text_layer InputValue-F.Null = None
text_layer (InputValue-F.Enum name) = None
text_layer (InputValue-F.Variable name) = None
text_layer (InputValue-F.List items) = None
text_layer (InputValue-F.Object pairs) = None

-- the text that a value is, if it is one
abbrev pub text_of : InputValue DefaultScalarValue → Option Bytes
text_of v = text_layer (out-InputValue DefaultScalarValue v)

-- the text that the argument of a name is: none where it is absent, or is no text
abbrev pub text_given : Given DefaultScalarValue → Bytes → Option Bytes
text_given given name = option_and_then text_of (value_named given name)

abbrev pub field_layer : Bytes → InputValue-F DefaultScalarValue (InputValue DefaultScalarValue)
    → Option Bytes
field_layer name (InputValue-F.Object pairs) =
    option_and_then (λ p. text_of p.1.item) (find (λ p. bytes_eq p.0.item name) pairs)
field_layer name _ = None

-- the text that the field of a name of an object is, the first where several have it: none where it
-- is absent, or is no text
abbrev pub text_within : Bytes → InputValue DefaultScalarValue → Option Bytes
text_within name v = field_layer name (out-InputValue DefaultScalarValue v)

-- the same of the object that an argument is
abbrev pub text_given_in : Given DefaultScalarValue → Bytes → Bytes → Option Bytes
text_given_in given argument name = option_and_then (text_within name) (value_named given argument)

-- both are known, and the same
abbrev pub are_same : Option Bytes → Option Bytes → Bool
are_same (Some a) (Some b) = bytes_eq a b
are_same _ _ = false

-- the human has this id, or this name
abbrev pub fits : Option Bytes → Option Bytes → SampleRecord → Bool
fits id name r = are_same id (Some r.id) || are_same name r.name

abbrev pub place_found : List SampleRecord → Option Bytes → Option Bytes → Option ℕ
place_found records id name = position (fits id name) records

-- `find`: the first human who has the id or the name that the argument `by` is of, null where there
-- is none
abbrev pub found_by : List SampleRecord → Option Bytes → Option Bytes → Answer
found_by records id name = option_map_or (λ place. resolved.Node (node.Human place))
    (place_found records id name) resolved.Null

abbrev pub human_found : List SampleRecord → Given DefaultScalarValue → Answer
human_found records given = found_by records (text_given_in given (codes "by") (codes "id"))
    (text_given_in given (codes "by") (codes "name"))

abbrev pub of_root : List SampleRecord → Bytes → Given DefaultScalarValue → Answer
of_root records field given =
    if bytes_eq field (codes "hero") then human_of records (codes "h1") else
    if bytes_eq field (codes "find") then human_found records given else resolved.Null

-- what a node answers for a field: null for a field that it lacks, and at a place beyond the
-- records
abbrev pub answer : List SampleRecord → SampleNode → Bytes → Given DefaultScalarValue → Answer
answer records node.Root field given = of_root records field given
answer records (node.Human place) field given =
    option_map_or (λ r. of_human records r field) (slice_get records place) resolved.Null

-- the same human, of this name
abbrev pub human_named : Option Bytes → SampleRecord → SampleRecord
human_named name r = record { id = r.id; name = name; friend = r.friend }

-- the human at a place has this name
abbrev pub named_at : List SampleRecord → Option Bytes → ℕ → List SampleRecord
named_at records name place =
    option_map_or (λ r. slice_set records place (human_named name r))
    (slice_get records place) records

-- the first human of an id has this name; none where there is no id
abbrev pub named_of : List SampleRecord → Option Bytes → Option Bytes → List SampleRecord
named_of records id name =
    option_map_or (named_at records name) (option_and_then (record_index records) id) records

-- `rename`: the human of the argument `id`, null where there is none
abbrev pub renamed_answer : List SampleRecord → Given DefaultScalarValue → Answer
renamed_answer records given =
    option_map_or (human_of records) (text_given given (codes "id")) resolved.Null

-- its name is the argument `name` then, which is none where that is no text
abbrev pub renamed : List SampleRecord → Given DefaultScalarValue → List SampleRecord
renamed records given =
    named_of records (text_given given (codes "id")) (text_given given (codes "name"))

-- one call more, up to the greatest number of 32 bits
abbrev pub one_more : ℕ → ℕ
one_more calls = min (calls + 1) (2 ^ 32 - 1)

-- what a field of a mutation is answered: null for each but `rename`
abbrev pub root_answer : SampleRecords → Bytes → Given DefaultScalarValue → Answer
root_answer c field given =
    if bytes_eq field (codes "rename") then renamed_answer c.records given else resolved.Null

-- each field of a mutation counts as a call, and `rename` changes a name
abbrev pub root_after : SampleRecords → Bytes → Given DefaultScalarValue → SampleRecords
root_after c field given = record {
  records = if bytes_eq field (codes "rename") then renamed c.records given else c.records;
  root_calls = one_more c.root_calls;
}

abbrev pub changes : Changes DefaultScalarValue SampleNode SampleRecords
changes = record { answer = λ c field given. Ok (root_answer c field given); after = root_after }
