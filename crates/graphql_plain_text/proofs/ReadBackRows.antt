-- A value and a type: their texts spell them, and are read back.
use Rattle.std.proofs.Common.{◌≡◌, refl, sym, ap, ◌∙◌, subst, ℕ, false, List, [], ◌∷◌, None, Ok, Err, inl, inr}
use Rattle.std.specs.Prelude.{codes, nat_eq, pos}
use Rattle.std.specs.Cmp.{nat_eq_equiv}
use Rattle.std.specs.Fmt.{digits}
use Rattle.std.specs.Str.{chars}
use Rattle.graphql_text.specs.Grammar.{IsName, Ends}
use Rattle.graphql_text.specs.Position.{origin, position_of}
use Rattle.graphql_text.specs.declared.token.Token.TheVariants as t
use Rattle.graphql_scalars.specs.declared.default_scalar.DefaultScalarValue.{DefaultScalarValue}
use Rattle.graphql_scalars.specs.declared.default_scalar.DefaultScalarValue.TheVariants as scalar
use Rattle.graphql_scalars.specs.DefaultScalar.{reads}
use Rattle.graphql_names.specs.declared.type_modifier.TypeModifier.TheVariants as m
use Rattle.graphql_names.specs.TypeReference.{written_type}
use Rattle.graphql_values.specs.declared.input_value.InputValue.{InputValue}
use Rattle.graphql_values.specs.declared.input_value.InputValue.TheVariants as v
use Rattle.graphql_values.specs.InputValues.{Placed, unlocated, unlocated_layer, unplaced, unplaced_pair}
use Rattle.graphql_values.specs.SameValue.{SameValue}
use Rattle.graphql_values.proofs.InputValueEquations.{fold_scalar, unlocated_list}
use Rattle.graphql_grammar.specs.Input.{At, Input, Outcome}
use Rattle.graphql_grammar.specs.Cursor.{IsStart}
use Rattle.graphql_grammar.specs.Faults.{SoughtAlone, Sought}
use Rattle.graphql_grammar.proofs.Cursors.{starts}
use Rattle.graphql_language.specs.Literals.{Types, LiteralOf, NextType, NextValue}
use Rattle.graphql_language.proofs.LiteralLaws.{type_or_refused, value_or_refused}
use Rattle.graphql_language.specs.Texts.{IsCut}
use Rattle.graphql_value_syntax.specs.ReadTypes.{TypeRef}
use Rattle.graphql_value_syntax.specs.Types.{no_scalar}
use Rattle.graphql_plain_text.specs.ReadBackLaws.{SpellsType, SpellsValue, IsReadBack, IsTypeFound, GivesBack, GivesTypeBack}
use Rattle.graphql_plain_text.specs.Parts.{TextPart, AllFit, tokens_of, end_of}
use Rattle.graphql_plain_text.specs.Writable.{Value, value_text, IsWritable}
use Rattle.graphql_plain_text.specs.WritableTypes.{IsWritableType}
use Rattle.graphql_plain_text.proofs.Parts.{closed_tokens_end, parts_are_tokens}
use Rattle.graphql_plain_text.proofs.PrintedWords.{name_word}
use Rattle.graphql_plain_text.proofs.ReadBack.{shown_is_found, shown_is_read_back, shown_spells}
use Rattle.graphql_values.proofs.SamePlaces.{same_without_places}
use Rattle.graphql_plain_text.proofs.Types.{written_is_found, written_is_read_back, written_spells}
use Rattle.graphql_plain_text.proofs.ValueTextEquations.{value_text-enum, value_text-list, value_text-object, value_text-scalar, value_text-variable}
use Rattle.graphql_plain_text.proofs.WritableLemmas.{name_decides, tests_by_form, writable_from}

-- ---- parts

-- ` id !`: the name ends at the blank behind it, the mark where it stands
abbrev name_part : TextPart
name_part = record { blanks = codes " "; token = t.Name (codes "id"); own = codes "id" }

abbrev mark_part : TextPart
mark_part = record { blanks = codes " "; token = t.ExclamationMark; own = codes "!" }

-- `id` is a name, which ends where a blank and a mark follow
pub id_is_a_name : IsName (codes "id")
id_is_a_name = (name_decides (codes "id")).0 refl

pub id_ends : Ends (t.Name (codes "id")) (codes "id") (codes " !")
id_ends = closed_tokens_end (t.Name (codes "id")) (codes "id") (codes " !") refl refl

-- each part is its token in front of what follows
pub parts_fit : AllFit (name_part ∷ mark_part ∷ []) []
parts_fit = (
  record { blank = (refl, tt); spells = (name_word (codes "id") id_is_a_name).spells; ends = id_ends; goes_on = refl },
  (record { blank = (refl, tt); spells = refl; ends = tt; goes_on = refl }, tt),
)

-- so the text is cut into the two
pub id_is_cut : IsCut (codes " id !") (tokens_of [] (name_part ∷ mark_part ∷ [])) (end_of (codes " id !"))
id_is_cut = parts_are_tokens (name_part ∷ mark_part ∷ []) [] tt parts_fit

-- ---- a value

-- `[1, $size]`
abbrev sizes : List (Placed Value)
sizes = unplaced (v.Scalar (scalar.Int (pos 1))) ∷ unplaced (v.Variable (codes "size")) ∷ []

-- `{color: RED, sizes: [1, $size]}`
abbrev some_value : Value
some_value = v.Object (
    unplaced_pair (codes "color", v.Enum (codes "RED"))
    ∷ unplaced_pair (codes "sizes", v.List sizes) ∷ []
    )

-- its names are names, and its integer has 32 bits
pub it_is_writable : IsWritable false some_value
it_is_writable = writable_from false some_value (simp tests_by_form refl)

-- its text, of which each byte is a character
pub its_text : value_text some_value ≡ codes "{color: RED, sizes: [1, $size]}"
unfolding digits
its_text = simp (value_text-enum, value_text-list, value_text-object, value_text-scalar, value_text-variable) refl

pub its_characters : chars (codes "{color: RED, sizes: [1, $size]}") ≡ codes "{color: RED, sizes: [1, $size]}"
unfolding chars
its_characters = refl

-- its text spells it, and no other value
pub it_is_spelled : SpellsValue false (codes "{color: RED, sizes: [1, $size]}") some_value
it_is_spelled =
    subst (λ text. SpellsValue false text some_value) (ap chars its_text ∙ its_characters)
    (shown_spells false some_value it_is_writable)

-- the start of its text
abbrev value_start : Input
value_start = record { ahead = it_is_spelled.tokens; finish = it_is_spelled.finish; end = origin }

-- the tokens of its text are ahead there
pub value_starts : IsStart (chars (value_text some_value)) value_start
value_starts =
    subst (λ text. IsStart text value_start) (sym (ap chars its_text ∙ its_characters))
    (starts (codes "{color: RED, sizes: [1, $size]}") _ it_is_spelled.tokens
    (record { item = t.EndOfFile; span = it_is_spelled.finish }) it_is_spelled.cut refl)

-- this value is read there, and this is left
abbrev Next : Input → At Value → Input → Type 0
Next i x j = NextValue DefaultScalarValue reads scalar.Boolean false i (Ok x) j

-- whatever is found there is the value, with nothing left behind it
pub whatever_is_found :
    (found : Outcome (At Value)) → SoughtAlone reads (LiteralOf scalar.Boolean false) value_start found
    → IsReadBack false some_value found
whatever_is_found = shown_is_found false some_value it_is_writable value_start value_starts

-- and a value is found there
pub it_is_found :
    (x : At Value) × (j : Input) × Next value_start x j × (unlocated x.item ≡ unlocated some_value) × (j.ahead ≡ [])
it_is_found = elim (value_or_refused reads scalar.Boolean false value_start) [
  | inl (x, j, found) ↦ (let is = whatever_is_found (Ok (x, j)) found in (x, j, found, is.0, is.1))
  | inr (e, j, missing) ↦ absurd (whatever_is_found (Err e) missing.0)
]

-- so a parser that stands there and answers it gives the value back
pub it_is_given_back : GivesBack false some_value (Ok it_is_found.0) (record { input = it_is_found.1; refused = None })
it_is_given_back =
    shown_is_read_back false some_value it_is_writable (record { input = value_start; refused = None })
    (record { input = it_is_found.1; refused = None }) (Ok it_is_found.0) value_starts refl (it_is_found.2, refl)

-- `[1]` at one place of a text and in none is the same value
abbrev one_item : Placed (InputValue ℕ)
one_item = record {
  item = v.Scalar 1;
  span = record { start = position_of (codes "["); end = position_of (codes "[1") };
}

pub same_elsewhere : SameValue ℕ nat_eq (v.List (one_item ∷ [])) (v.List (unplaced (v.Scalar 1) ∷ []))
same_elsewhere =
    same_without_places nat_eq nat_eq_equiv (v.List (one_item ∷ [])) (v.List (unplaced (v.Scalar 1) ∷ []))
    (simp (unlocated_list, fold_scalar {S = ℕ} unlocated_layer) refl)

-- ---- a type

-- `[Int!]`
abbrev some_type : TypeRef
some_type = record { name = codes "Int"; modifiers = m.NonNull ∷ m.List None ∷ [] }

-- it has a name, and wraps that can be read
pub it_is_a_writable_type : IsWritableType some_type
it_is_a_writable_type = record { name = (name_decides (codes "Int")).0 refl; wraps = tt }

-- the characters of what it is displayed as
pub type_characters : chars (written_type some_type.name some_type.modifiers) ≡ codes "[Int!]"
unfolding chars
type_characters = refl

-- what it is displayed as spells it, and no other type
pub type_is_spelled : SpellsType (codes "[Int!]") some_type
type_is_spelled =
    subst (λ text. SpellsType text some_type) type_characters (written_spells some_type it_is_a_writable_type)

-- the start of its text
abbrev type_start : Input
type_start = record { ahead = type_is_spelled.tokens; finish = type_is_spelled.finish; end = origin }

-- the tokens of its text are ahead there
pub type_starts : IsStart (chars (written_type some_type.name some_type.modifiers)) type_start
type_starts =
    subst (λ text. IsStart text type_start) (sym type_characters)
    (starts (codes "[Int!]") _ type_is_spelled.tokens
    (record { item = t.EndOfFile; span = type_is_spelled.finish }) type_is_spelled.cut refl)

-- the longest type that is found there is the type, with nothing left behind it
pub whatever_type_is_found :
    (found : Outcome (At TypeRef)) → Sought no_scalar Types type_start found → IsTypeFound some_type found
whatever_type_is_found = written_is_found some_type it_is_a_writable_type type_start type_starts

-- and a type is found there
pub type_is_found :
    (x : At TypeRef) × (j : Input) × NextType type_start (Ok x) j × (x.item ≡ some_type) × (j.ahead ≡ [])
type_is_found = elim (type_or_refused type_start) [
  | inl (x, j, found) ↦ (let is = whatever_type_is_found (Ok (x, j)) found in (x, j, found, is.0, is.1))
  | inr (e, j, missing) ↦ absurd (whatever_type_is_found (Err e) missing.0)
]

-- so a parser that stands there and answers it gives the type back
pub type_is_given_back :
    GivesTypeBack some_type (Ok type_is_found.0) (record { input = type_is_found.1; refused = None })
type_is_given_back =
    written_is_read_back some_type it_is_a_writable_type (record { input = type_start; refused = None })
    (record { input = type_is_found.1; refused = None }) (Ok type_is_found.0) type_starts refl (type_is_found.2, refl)
