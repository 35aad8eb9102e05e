-- Values over a small schema, and whether they conform.
use Rattle.std.specs.Prelude.{◌≡◌, refl, ℕ, true, false, List, [], ◌∷◌, Some, None, Ok, nat_eq, codes}
use Rattle.std.proofs.Common.{sym}
use Rattle.std.proofs.lemmas.Bool.{false≢true}
use Rattle.graphql_scalars.specs.ScalarAnswers.{text}
use Rattle.graphql_values.specs.declared.input_value.InputValue.{InputValue}
use Rattle.graphql_values.specs.declared.input_value.InputValue.TheVariants as value
use Rattle.graphql_values.specs.InputValues.{unplaced, unplaced_pair}
use Rattle.graphql_names.specs.declared.type_modifier.TypeModifier.{TypeModifier}
use Rattle.graphql_names.specs.declared.type_modifier.TypeModifier.TheVariants as modifier
use Rattle.graphql_schema.specs.Scalars.{Scalars}
use Rattle.graphql_schema.specs.declared.meta.argument.Argument.{Argument}
use Rattle.graphql_schema.specs.declared.meta.deprecation.DeprecationStatus.TheVariants as status
use Rattle.graphql_schema.specs.declared.meta.enumeration.EnumMeta.{EnumMeta}
use Rattle.graphql_schema.specs.declared.meta.input_object.InputObjectMeta.{InputObjectMeta}
use Rattle.graphql_schema.specs.declared.meta.scalar.ScalarMeta.{ScalarMeta}
use Rattle.graphql_schema.specs.declared.meta.MetaType.{MetaType}
use Rattle.graphql_schema.specs.declared.meta.MetaType.TheVariants as meta
use Rattle.graphql_schema.specs.Types.{TypeOf}
use Rattle.graphql_names.specs.Names.{Bytes}
use Rattle.graphql_literal_checks.specs.declared.source.Source.{Source}
use Rattle.graphql_literal_checks.specs.declared.source.Source.TheVariants.{Literal, Sent}
use Rattle.graphql_literal_checks.specs.Conforms.{Conforms, null, variable, scalar, enum, sent_enum, list, object, no_items, more_items, no_fields, more_fields}
use Rattle.graphql_literal_checks.specs.InputTypes.{is_complete}
use Rattle.graphql_literal_checks.proofs.ConformsLemmas.{null_of}

-- every scalar is the text RED, and each check accepts every value
abbrev scalars : Scalars ℕ ℕ
scalars = record {
  reads = λ token. Ok 0;
  of_bool = λ b. 0;
  of_int = λ n. 0;
  of_text = λ t. 0;
  eq = nat_eq;
  answer = λ s. text (codes "RED");
  accepts = λ check v. Unit {0};
}

-- `scalar Int`, `enum Color { RED }`, `input Point { x: Int! }`
abbrev int : ScalarMeta ℕ
int = record { name = codes "Int"; description = None; specified_by_url = None; check = 0 }

abbrev color : EnumMeta ℕ
color = record { name = codes "Color"; description = None; values = record { name = codes "RED"; description = None; deprecation_status = status.Current } ∷ []; check = 0 }

abbrev x : Argument ℕ
x = record { name = codes "x"; description = None; arg_type = record { name = codes "Int"; modifiers = modifier.NonNull ∷ [] }; default_value = None }

abbrev point : InputObjectMeta ℕ ℕ
point = record { name = codes "Point"; description = None; input_fields = x ∷ []; check = 0; exactly_one = false }

-- `input By @oneOf { y: Int }`
abbrev y : Argument ℕ
y = record { name = codes "y"; description = None; arg_type = record { name = codes "Int"; modifiers = [] }; default_value = None }

abbrev by : InputObjectMeta ℕ ℕ
by = record { name = codes "By"; description = None; input_fields = y ∷ []; check = 0; exactly_one = true }

abbrev types : List (MetaType ℕ ℕ)
types = meta.Scalar int ∷ meta.Enum color ∷ meta.InputObject point ∷ meta.InputObject by ∷ []

abbrev asked : Bytes → List TypeModifier → TypeOf
asked name modifiers = record { name = name; modifiers = modifiers }

abbrev Fits : Source → TypeOf → InputValue ℕ → Type 0
Fits = Conforms scalars types

-- an integer at `Int`, at `[Int]` as its one item, and at no list of two
pub at_int : Fits Literal (asked (codes "Int") []) (value.Scalar 1)
at_int = scalar (asked (codes "Int") []) int 1 refl refl tt

pub as_one_item : Fits Literal (asked (codes "Int") (modifier.List None ∷ [])) (value.Scalar 1)
as_one_item = scalar (asked (codes "Int") (modifier.List None ∷ [])) int 1 refl refl tt

-- `null` at `Int`, and not at `Int!`
pub null_at_int : Fits Literal (asked (codes "Int") []) value.Null
null_at_int = null (asked (codes "Int") []) refl

pub no_null : Fits Literal (asked (codes "Int") (modifier.NonNull ∷ [])) value.Null → ⊥
no_null h = false≢true (sym (null_of scalars types Literal (asked (codes "Int") (modifier.NonNull ∷ [])) value.Null refl h))

-- a variable anywhere
pub variable_at_int : Fits Literal (asked (codes "Int") (modifier.NonNull ∷ [])) (value.Variable (codes "v"))
variable_at_int = variable (asked (codes "Int") (modifier.NonNull ∷ [])) (codes "v")

-- `[1, null]` at `[Int]`, of two items or of any number
pub two_items : Fits Literal (asked (codes "Int") (modifier.List (Some 2) ∷ [])) (value.List (unplaced (value.Scalar 1) ∷ unplaced value.Null ∷ []))
two_items =
    list (asked (codes "Int") (modifier.List (Some 2) ∷ [])) (Some 2) [] (unplaced (value.Scalar 1) ∷ unplaced value.Null ∷ []) refl refl
    (more_items (asked (codes "Int") []) (unplaced (value.Scalar 1)) (unplaced value.Null ∷ []) at_int (more_items (asked (codes "Int") []) (unplaced value.Null) [] null_at_int (no_items (asked (codes "Int") []))))

-- `RED` at `Color`, and as a text where it was sent
pub red : Fits Literal (asked (codes "Color") []) (value.Enum (codes "RED"))
red = enum (asked (codes "Color") []) color (codes "RED") refl refl refl tt

pub red_sent : Fits Sent (asked (codes "Color") []) (value.Scalar 1)
red_sent = sent_enum (asked (codes "Color") []) color 1 (codes "RED") refl refl refl refl refl tt

-- `{ x: 1 }` at `Point`
pub one_point : Fits Literal (asked (codes "Point") []) (value.Object (unplaced_pair (codes "x", value.Scalar 1) ∷ []))
one_point =
    object (asked (codes "Point") []) point (unplaced_pair (codes "x", value.Scalar 1) ∷ []) refl refl
    (more_fields (x ∷ []) x (unplaced_pair (codes "x", value.Scalar 1)) [] refl (scalar (asked (codes "Int") (modifier.NonNull ∷ [])) int 1 refl refl tt) (no_fields (x ∷ [])))
    (refl, λ constant. tt)

-- `{ y: 1 }` at `By`; no field, two and `null` are not one
pub one_field : Fits Literal (asked (codes "By") []) (value.Object (unplaced_pair (codes "y", value.Scalar 1) ∷ []))
one_field =
    object (asked (codes "By") []) by (unplaced_pair (codes "y", value.Scalar 1) ∷ []) refl refl
    (more_fields (y ∷ []) y (unplaced_pair (codes "y", value.Scalar 1)) [] refl (scalar (asked (codes "Int") []) int 1 refl refl tt) (no_fields (y ∷ [])))
    (refl, λ constant. tt)

pub none_is_not_one : is_complete by [] ≡ false
none_is_not_one = refl

pub two_are_not_one : is_complete by (unplaced_pair (codes "y", value.Scalar 1) ∷ unplaced_pair (codes "y", value.Scalar 1) ∷ []) ≡ false
two_are_not_one = refl

pub null_is_not_one : is_complete by (unplaced_pair (codes "y", value.Null) ∷ []) ≡ false
null_is_not_one = refl
