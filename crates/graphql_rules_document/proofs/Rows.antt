-- Small cases of the rules, each computed.
use Rattle.std.proofs.Common.{◌≡◌, ℕ, Bool, true, false, List, [], ◌∷◌, Option, Some, None, refl, sym, ◌∙◌, arith}
use Rattle.std.specs.List.{All}
use Rattle.std.specs.Prelude.{codes}
use Rattle.std.specs.Str.{bytes_eq}
use Rattle.std.proofs.lemmas.Bool.{false≢true}
use Rattle.std.proofs.lemmas.List.Elements.{All-from_recursion}
use Rattle.std.proofs.lemmas.Slice.Eq.{bytes_eq-Decides}
use Rattle.graphql_names.specs.Names.{Bytes}
use Rattle.graphql_text.specs.declared.position.SourcePosition.{SourcePosition}
use Rattle.graphql_values.specs.InputValues.{Placed}
use Rattle.graphql_values.specs.declared.input_value.InputValue.{InputValue}
use Rattle.graphql_values.specs.declared.input_value.InputValue.TheVariants as value
use Rattle.graphql_names.specs.declared.type_modifier.TypeModifier.{TypeModifier}
use Rattle.graphql_names.specs.declared.type_modifier.TypeModifier.TheVariants as modifier
use Rattle.graphql_occurrences.specs.Parts.{Use, VariablePart}
use Rattle.graphql_rules_document.specs.Reached.{reached}
use Rattle.graphql_rules_document.specs.Scopes.{FragmentScope, OperationScope, Spread}
use Rattle.graphql_rules_document.specs.Ends.{EndsWithin}
use Rattle.graphql_rules_document.specs.LoneAnonymousOperation.{lone_anonymous_operation_faults}
use Rattle.graphql_rules_document.specs.NoFragmentCycles.{no_fragment_cycles_faults}
use Rattle.graphql_rules_document.specs.NoUndefinedVariables.{no_undefined_variables_faults}
use Rattle.graphql_rules_document.specs.NoUnusedFragments.{no_unused_fragments_faults}
use Rattle.graphql_rules_document.specs.NoUnusedVariables.{no_unused_variables_faults}
use Rattle.graphql_rule_errors.specs.Repeats.{Mention, repeats}
use Rattle.graphql_rules_document.specs.VariablesInAllowedPosition.{variables_in_allowed_position_faults}
use Rattle.graphql_rule_errors.specs.Places.{Places}

abbrev pub at : ℕ → SourcePosition
at n = record { index = n; line = 0; column = n }

abbrev pub put : {A : Type 0} → ℕ → A → Placed A
put n x = record { item = x; span = record { start = at n; end = at n } }

abbrev pub mention : Bytes → ℕ → Mention
mention name n = record { name = name; place = at n }

-- each later one with the first, not with the one before it
pub three_of_a_name : repeats (mention (codes "a") 0 ∷ mention (codes "b") 1 ∷ mention (codes "a") 2 ∷ mention (codes "a") 3 ∷ []) ≡ (at 0 ∷ at 2 ∷ []) ∷ (at 0 ∷ at 3 ∷ []) ∷ []
three_of_a_name = refl

abbrev pub spread : Bytes → ℕ → Spread
spread name n = record { name = name; place = at n }

abbrev pub use_of : Bytes → ℕ → Use
use_of name n = record { name = name; place = at n; at = None }

abbrev pub fragment : Bytes → ℕ → List Use → List Spread → FragmentScope
fragment name n uses spreads = record { name = name; place = at n; uses = uses; spreads = spreads }

-- A spreads B, B spreads C and A, C spreads nothing and uses `$y`, and E spreads A
abbrev pub some_fragments : List FragmentScope
some_fragments =
    fragment (codes "A") 100 [] (spread (codes "B") 10 ∷ []) ∷ fragment (codes "B") 200 [] (spread (codes "C") 20 ∷ spread (codes "A") 30 ∷ [])
    ∷ fragment (codes "C") 300 (use_of (codes "y") 310 ∷ []) [] ∷ fragment (codes "E") 400 [] (spread (codes "A") 50 ∷ []) ∷ []

-- `C` and `E` are in no cycle, though `E` leads to one
pub cycles : no_fragment_cycles_faults some_fragments ≡ (at 10 ∷ []) ∷ (at 30 ∷ []) ∷ []
unfolding reached
cycles = refl

-- `query ($x) { .. $x .. ...B }`
abbrev pub query : OperationScope ℕ
query = record {
  name = None;
  place = at 1;
  defined = record { name = put 7 (codes "x"); type_of = put 9 (record { name = codes "Int"; modifiers = [] }); default = None } ∷ [];
  uses = use_of (codes "x") 15 ∷ [];
  spreads = spread (codes "B") 17 ∷ [];
}

pub e_is_unused : no_unused_fragments_faults (query ∷ []) some_fragments ≡ (at 400 ∷ []) ∷ []
unfolding reached
e_is_unused = refl

-- `$y` is used in a fragment that a fragment spreads
pub y_is_undefined : no_undefined_variables_faults (query ∷ []) some_fragments ≡ (at 310 ∷ at 1 ∷ []) ∷ []
unfolding reached
y_is_undefined = refl

pub x_is_used : no_unused_variables_faults (query ∷ []) some_fragments ≡ []
unfolding reached
x_is_used = refl

pub x_is_unused : no_unused_variables_faults (record query { uses = [] } ∷ []) some_fragments ≡ (at 7 ∷ []) ∷ []
unfolding reached
x_is_unused = refl

pub both_anonymous : lone_anonymous_operation_faults (query ∷ query ∷ []) ≡ (at 1 ∷ []) ∷ (at 1 ∷ []) ∷ []
both_anonymous = refl

pub one_anonymous : lone_anonymous_operation_faults (query ∷ []) ≡ []
one_anonymous = refl

-- `$x` of `Int` in these wraps, with this default
abbrev pub int_variable : ℕ → List TypeModifier → Option (InputValue ℕ) → VariablePart ℕ
int_variable n wraps None = record { name = put n (codes "x"); type_of = put 9 (record { name = codes "Int"; modifiers = wraps }); default = None }
int_variable n wraps (Some v) = record { name = put n (codes "x"); type_of = put 9 (record { name = codes "Int"; modifiers = wraps }); default = Some (put 11 v) }

-- the errors where these variables are defined, and `$x` is used where `Int` in these wraps is asked for
abbrev pub disallowed_among : List (VariablePart ℕ) → List TypeModifier → Bool → Places
disallowed_among defined wraps has_default =
    variables_in_allowed_position_faults {C = ℕ} []
    (record query {
      defined = defined;
      uses = record { name = codes "x"; place = at 15; at = Some (record { asked = record { name = codes "Int"; modifiers = wraps }; has_default = has_default; is_only_field = false }) } ∷ [];
      spreads = [];
    } ∷ [])
    []

pub nullable_is_disallowed : disallowed_among (int_variable 7 [] None ∷ []) (modifier.NonNull ∷ []) false ≡ (at 7 ∷ at 15 ∷ []) ∷ []
unfolding reached
nullable_is_disallowed = refl

pub null_default_helps_not : disallowed_among (int_variable 7 [] (Some value.Null) ∷ []) (modifier.NonNull ∷ []) false ≡ (at 7 ∷ at 15 ∷ []) ∷ []
unfolding reached
null_default_helps_not = refl

pub default_helps : disallowed_among (int_variable 7 [] (Some (value.Scalar 1)) ∷ []) (modifier.NonNull ∷ []) false ≡ []
unfolding reached
default_helps = refl

pub default_of_the_place_helps : disallowed_among (int_variable 7 [] None ∷ []) (modifier.NonNull ∷ []) true ≡ []
unfolding reached
default_of_the_place_helps = refl

-- no default helps with what is within a list
pub items_may_be_null : disallowed_among (int_variable 7 (modifier.List None ∷ []) (Some (value.Scalar 1)) ∷ []) (modifier.NonNull ∷ modifier.List None ∷ []) true ≡ (at 7 ∷ at 15 ∷ []) ∷ []
unfolding reached
items_may_be_null = refl

pub non_null_is_allowed : disallowed_among (int_variable 7 (modifier.NonNull ∷ []) None ∷ []) [] false ≡ []
unfolding reached
non_null_is_allowed = refl

-- of two definitions of one name the first
pub first_counts : disallowed_among (int_variable 7 [] None ∷ int_variable 8 (modifier.NonNull ∷ []) None ∷ []) (modifier.NonNull ∷ []) false ≡ (at 7 ∷ at 15 ∷ []) ∷ []
unfolding reached
first_counts = refl

-- the errors where `$x` is the one field, of `Int`, that is given of an input object
abbrev pub disallowed_as_one_field : VariablePart ℕ → Places
disallowed_as_one_field v =
    variables_in_allowed_position_faults {C = ℕ} []
    (record query {
      defined = v ∷ [];
      uses = record { name = codes "x"; place = at 15; at = Some (record { asked = record { name = codes "Int"; modifiers = [] }; has_default = false; is_only_field = true }) } ∷ [];
      spreads = [];
    } ∷ [])
    []

pub no_default_helps_the_one_field : disallowed_as_one_field (int_variable 7 [] (Some (value.Scalar 1))) ≡ (at 7 ∷ at 15 ∷ []) ∷ []
unfolding reached
no_default_helps_the_one_field = refl

pub non_null_is_the_one_field : disallowed_as_one_field (int_variable 7 (modifier.NonNull ∷ []) None) ≡ []
unfolding reached
non_null_is_the_one_field = refl

-- A spreads B, and B nothing
abbrev pub two_fragments : List FragmentScope
two_fragments = fragment (codes "A") 100 [] (spread (codes "B") 10 ∷ []) ∷ fragment (codes "B") 200 [] [] ∷ []

other_name : (a b : Bytes) → bytes_eq a b ≡ false → a ≡ b → ⊥
other_name a b differ e = false≢true (sym differ ∙ (bytes_eq-Decides a b).1 e)

b_ends : EndsWithin two_fragments 1 (codes "B")
b_ends = All-from_recursion (λ f. f.name ≡ codes "B" → All (λ s. EndsWithin two_fragments 0 s.name) f.spreads) two_fragments
    (λ e. absurd (other_name (codes "A") (codes "B") refl e), (λ _. All-from_recursion (λ s. EndsWithin two_fragments 0 s.name) [] tt, tt))

-- a level for A, and one for B
pub two_levels : EndsWithin two_fragments 2 (codes "A")
two_levels = All-from_recursion (λ f. f.name ≡ codes "A" → All (λ s. EndsWithin two_fragments 1 s.name) f.spreads) two_fragments
    (λ _. All-from_recursion (λ s. EndsWithin two_fragments 1 s.name) (spread (codes "B") 10 ∷ []) (b_ends, tt), (λ e. absurd (other_name (codes "B") (codes "A") refl e), tt))

pub no_single_level : EndsWithin two_fragments 1 (codes "A") → ⊥
no_single_level ends =
    let b_is_none : EndsWithin two_fragments 0 (codes "B") = ends 0 (fragment (codes "A") 0 [] []) (omega arith) refl 0 (spread (codes "B") 0) (omega arith) in
    b_is_none 1 (fragment (codes "B") 0 [] []) (omega arith) refl
