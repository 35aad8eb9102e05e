-- The line that a target's query asks (GraphQL over HTTP, GET).
use Rattle.std.specs.Prelude.{◌≡◌, ◌≢◌, ◌≤◌, ◌==◌, ◌&&◌, ⊤, Bool, false, not, length, List, [], ◌∷◌, codes, bytes_eq, if◌then◌else◌, Option, Some, None}
use Rattle.std.specs.Str.Lossy.{utf8_lossy}
use Rattle.form_urlencoded.specs.Form.{decode, raw_pairs}
use Rattle.serde_json.specs.Data.{Data, string, object, Members, no_members, put, depth}
use Rattle.serde_json.specs.Read.{read, max_depth}
use Rattle.serde_json.specs.Written.{compact_text, has_float}
use Rattle.graphql_http.specs.Pieces.{Bytes}
use Rattle.graphql_http.specs.declared.query_line.LineFault.{LineFault}
use Rattle.graphql_http.specs.declared.query_line.LineFault.TheVariants.{Refused, Memory}
use Rattle.graphql_http.specs.declared.refusal.HttpRefusal.{HttpRefusal}
use Rattle.graphql_http.specs.declared.refusal.HttpRefusal.TheVariants.{
  UnknownPath,
  OnlyRead,
  UnknownMethod,
  MutationByGet,
  NotAcceptable,
  NotJson,
  NoQuery,
  BadVariables,
  BadExtensions,
}

-- a pair is of this name, and its value is not empty
abbrev pub is_told : Bytes → Bytes → Bytes → Bool
is_told wanted name value = bytes_eq name wanted && not (length value == 0)

-- the value of the first such pair, still encoded
abbrev pub value_among : Bytes → List (Bytes × Bytes) → Option Bytes
value_among name [] = None
value_among name (pair ∷ pairs) =
    if is_told name pair.0 pair.1 then Some pair.1 else value_among name pairs

abbrev pub parameter : Bytes → Bytes → Option Bytes
parameter query name = value_among name (raw_pairs query)

-- the text that an encoded one stands for; what is no UTF-8 in it is replaced (URL Standard, 5.1)
abbrev pub decoded : Bytes → Bytes
decoded raw = utf8_lossy (decode raw)

abbrev pub json_of : Bytes → Option Data
json_of raw = read (decoded raw)

-- the members, and one more where there is such a parameter: its text
abbrev pub with_text : Bytes → Option Bytes → Members → Members
with_text name None members = members
with_text name (Some raw) members = put name (string (decoded raw)) members

-- or the JSON that it is
abbrev pub AddsJson : Bytes → Option Bytes → Members → Members → Type 0
AddsJson name None old new = new ≡ old
AddsJson name (Some raw) old new = (value : Data) × (json_of raw ≡ Some value) × (new ≡ put name value old)

-- the text is that of a value: what is read from it, unless it nests deeper than is read; and where
-- the value has no float, the shortest such text
pub record IsTextOf (value : Data) (text : Bytes) : Type 0 where
  pub reads : depth value ≤ max_depth → read text ≡ Some value
  pub is : has_float value ≡ false → text ≡ compact_text value

-- the line is the JSON of an object of these members alone
pub record IsLineOf (query line : Bytes) : Type 0 where
  pub asked : parameter query (codes "query") ≢ None
  pub with_variables : Members
  pub variables : AddsJson (codes "variables") (parameter query (codes "variables"))
      (with_text (codes "operationName") (parameter query (codes "operationName"))
      (with_text (codes "query") (parameter query (codes "query")) no_members))
      with_variables
  pub members : Members
  pub extensions : AddsJson (codes "extensions") (parameter query (codes "extensions")) with_variables members
  pub is_text : IsTextOf (object members) line

-- an encoded text is told to be no JSON where it is none
abbrev pub IsNoJson : HttpRefusal → Bytes → LineFault → Type 0
IsNoJson refusal raw (Refused told) = (told ≡ refusal) × (json_of raw ≡ None)
IsNoJson refusal raw Memory = ⊤

abbrev pub IsBadJson : HttpRefusal → Option Bytes → LineFault → Type 0
IsBadJson refusal None (Refused told) = ⊥
IsBadJson refusal None Memory = ⊤
IsBadJson refusal (Some raw) (Refused told) = (told ≡ refusal) × (json_of raw ≡ None)
IsBadJson refusal (Some raw) Memory = ⊤

-- there is such a parameter, and it is no JSON
abbrev pub IsNotJson : Option Bytes → Type 0
IsNotJson None = ⊥
IsNotJson (Some raw) = json_of raw ≡ None

-- why a query asks for no line
abbrev pub AsksNothing : Bytes → HttpRefusal → Type 0
AsksNothing query UnknownPath = ⊥
AsksNothing query OnlyRead = ⊥
AsksNothing query UnknownMethod = ⊥
AsksNothing query MutationByGet = ⊥
AsksNothing query NotAcceptable = ⊥
AsksNothing query NotJson = ⊥
AsksNothing query NoQuery = parameter query (codes "query") ≡ None
AsksNothing query BadVariables = IsNotJson (parameter query (codes "variables"))
AsksNothing query BadExtensions = IsNotJson (parameter query (codes "extensions"))

abbrev pub IsFaultOf : Bytes → LineFault → Type 0
IsFaultOf query (Refused refusal) = AsksNothing query refusal
IsFaultOf query Memory = ⊤
