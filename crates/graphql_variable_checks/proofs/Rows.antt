-- The variables of an operation over a small schema: what is given for them, what is told, and which values they have.
use Rattle.std.proofs.Common.{◌≡◌, refl, sym, lit<, ℕ, List, [], ◌∷◌, map, Option, Some, None, inl, inr}
use Rattle.std.specs.Prelude.{Ok, codes, if◌then◌else◌, nat_eq}
use Rattle.std.specs.List.{IsDistinct}
use Rattle.std.specs.Option.{IsSome}
use Rattle.std.specs.Str.{bytes_eq}
use Rattle.std.proofs.lemmas.Bool.{false≢true}
use Rattle.graphql_written_out.specs.FinalValues.{definition_named, final_value, variable_name}
use Rattle.graphql_literal_checks.specs.Conforms.{Conforms, scalar, list, null, no_items, more_items}
use Rattle.graphql_literal_checks.specs.declared.source.Source.TheVariants.{Sent}
use Rattle.graphql_literal_checks.proofs.ConformsLemmas.{null_of}
use Rattle.graphql_schema.specs.Scalars.{Scalars}
use Rattle.graphql_schema.specs.Types.{TypeOf, reference_to}
use Rattle.graphql_names.specs.Names.{Bytes}
use Rattle.graphql_rule_errors.specs.Places.{Places}
use Rattle.graphql_scalars.specs.ScalarAnswers.{text}
use Rattle.graphql_schema.proofs.Rows.{beings, list_of, string_scalar, type_of}
use Rattle.graphql_text.specs.declared.position.SourcePosition.{SourcePosition}
use Rattle.graphql_tree.specs.Variables.{Variable}
use Rattle.graphql_values.specs.declared.input_value.InputValue.{InputValue}
use Rattle.graphql_values.specs.declared.input_value.InputValue.TheVariants as value
use Rattle.graphql_values.specs.InputValues.{Placed, unplaced}
use Rattle.graphql_variable_checks.specs.Accepted.{AreAccepted, Refusals}
use Rattle.graphql_variable_checks.proofs.LawLemmas.{distinct_found, given_conform, given_or_default, non_null_valued}
use Rattle.graphql_variable_checks.proofs.RefusalLemmas.{told_none, told_one}

-- every scalar is a text, and each check accepts every value
abbrev scalars : Scalars ℕ ℕ
scalars = record {
  reads = λ token. Ok 0;
  of_bool = λ b. 0;
  of_int = λ n. 0;
  of_text = λ t. 0;
  eq = nat_eq;
  answer = λ s. text (codes "a");
  accepts = λ check v. Unit {0};
}

abbrev at : ℕ → SourcePosition
at n = record { index = n; line = 0; column = n }

abbrev put : {A : Type 0} → ℕ → A → Placed A
put n x = record { item = x; span = record { start = at n; end = at n } }

abbrev variable_of : ℕ → Bytes → TypeOf → Option (Placed (InputValue ℕ)) → Variable ℕ
variable_of n name type default =
    (put n name, record { var_type = put n type; default_value = default; directives = None })

-- `String!`, `String` and `[String]`
abbrev text_type : TypeOf
text_type = reference_to (codes "String")

abbrev optional_text : TypeOf
optional_text = type_of (codes "String") []

abbrev texts : TypeOf
texts = list_of (codes "String")

-- `$form: String!`, `$many: [String]`, `$nick: String! = 1` and `$odd: Odd`, a type that the schema has not
abbrev form : Variable ℕ
form = variable_of 1 (codes "form") text_type None

abbrev many : Variable ℕ
many = variable_of 2 (codes "many") texts None

abbrev nick : Variable ℕ
nick = variable_of 3 (codes "nick") text_type (Some (unplaced (value.Scalar 1)))

abbrev odd : Variable ℕ
odd = variable_of 4 (codes "odd") (type_of (codes "Odd") []) None

abbrev variables : List (Variable ℕ)
variables = form ∷ many ∷ nick ∷ odd ∷ []

-- `[7, null]`
abbrev some_values : InputValue ℕ
some_values = value.List (unplaced (value.Scalar 7) ∷ unplaced value.Null ∷ [])

-- 5 for `form`, a list for `many`, nothing else
abbrev given : Bytes → Option (InputValue ℕ)
given name =
    if bytes_eq name (codes "form") then Some (value.Scalar 5)
    else if bytes_eq name (codes "many") then Some some_values else None

-- null for each name
abbrev all_null : Bytes → Option (InputValue ℕ)
all_null name = Some value.Null

-- ---- accepted

-- `[7, null]` is a list of texts
pub many_conforms : Conforms scalars beings Sent texts some_values
many_conforms =
    list texts None [] (unplaced (value.Scalar 7) ∷ unplaced value.Null ∷ []) refl refl
    (more_items optional_text (unplaced (value.Scalar 7)) (unplaced value.Null ∷ [])
    (scalar optional_text string_scalar 7 refl refl tt)
    (more_items optional_text (unplaced value.Null) [] (null optional_text refl) (no_items optional_text)))

-- each accepts what is given: a value, a list with a null, nothing where there is a default, all at an unknown type
pub none_is_told : Refusals scalars beings given variables []
none_is_told =
    inl (
      λ known. scalar text_type string_scalar 5 refl refl tt,
      inl (λ known. many_conforms, inl (λ known. refl, inl (λ known. absurd (false≢true known), refl))),
    )

-- so each definition accepts what is given
pub all_are_accepted : AreAccepted scalars beings given variables
all_are_accepted = (told_none scalars beings given variables).0 none_is_told

-- the value that is given for `$form` is its final value, and a `String!`
pub value_of_form :
    (final_value given variables (codes "form") ≡ Some (value.Scalar 5))
    × Conforms scalars beings Sent text_type (value.Scalar 5)
value_of_form =
    given_conform scalars beings given variables none_is_told form (0, lit< tt, refl) refl (value.Scalar 5) refl

-- `$nick`, for which nothing is given, has a final value, since it is a `String!`
pub nick_has_a_value : IsSome (final_value given variables (codes "nick"))
nick_has_a_value = non_null_valued scalars beings given variables none_is_told (codes "nick") nick refl refl refl

-- ---- told

-- null for each is refused at `$form` and at `$nick`, whose type keeps null out
null_is_refused : Conforms scalars beings Sent text_type value.Null → ⊥
null_is_refused h = false≢true (sym (null_of scalars beings Sent text_type value.Null refl h))

-- at `$nick` and behind it
nick_is_refused : Refusals scalars beings all_null (nick ∷ odd ∷ []) ((at 3 ∷ []) ∷ [])
nick_is_refused = inr (λ accepted. null_is_refused (accepted refl), ([], refl, inl (λ known. absurd (false≢true known), refl)))

pub two_are_told : Refusals scalars beings all_null variables ((at 1 ∷ []) ∷ (at 3 ∷ []) ∷ [])
two_are_told =
    let rest = inl (λ known. null texts refl, nick_is_refused) in
    inr (λ accepted. null_is_refused (accepted refl), ((at 3 ∷ []) ∷ [], refl, rest))

-- so whatever is told of them is told at these two places
pub just_two_are_told :
    (told : Places) → Refusals scalars beings all_null variables told → told ≡ (at 1 ∷ []) ∷ (at 3 ∷ []) ∷ []
just_two_are_told told h =
    told_one scalars beings all_null variables told ((at 1 ∷ []) ∷ (at 3 ∷ []) ∷ []) h two_are_told

-- ---- final values

-- a null that is given stays, a default stands where nothing is given, and a name without a definition has no value
pub nick_as_given : final_value all_null variables (codes "nick") ≡ Some value.Null
nick_as_given = (given_or_default all_null variables (codes "nick")).0 value.Null refl

pub nick_by_default : final_value given variables (codes "nick") ≡ Some (value.Scalar 1)
nick_by_default = (given_or_default given variables (codes "nick")).1 nick refl refl

pub nobody_has_no_value : final_value given variables (codes "nobody") ≡ None
nobody_has_no_value = (given_or_default given variables (codes "nobody")).2 refl refl

-- the four names are distinct, so the third is found by its name
pub names_are_distinct : IsDistinct bytes_eq (map variable_name variables)
unfolding IsDistinct
names_are_distinct = search

pub nick_is_found : definition_named variables (codes "nick") ≡ Some nick
nick_is_found = distinct_found variables names_are_distinct nick (2, lit< tt, refl)
