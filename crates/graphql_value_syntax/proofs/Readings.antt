-- By two readings of scalars productions are read alike, up to the first scalar that one of them refuses.
use Rattle.std.proofs.Common.{ℕ, zero, suc, Bool, true, false, [], ◌∷◌}
use Rattle.graphql_values.specs.declared.input_value.InputValue.{InputValue}
use Rattle.graphql_values.specs.declared.input_value.InputValue.TheVariants as v
use Rattle.graphql_names.specs.declared.type_modifier.TypeModifier.TheVariants as m
use Rattle.graphql_grammar.specs.declared.kind.Kind.TheVariants as k
use Rattle.graphql_grammar.specs.Kinds.{only, names}
use Rattle.graphql_grammar.specs.Input.{At, Parser}
use Rattle.graphql_grammar.specs.Steps.{name, name_of, located}
use Rattle.graphql_grammar.specs.Faults.{Reading}
use Rattle.graphql_grammar.proofs.Readings.{Twins, twins_pure, twins_refuse, twins_bind, twins_made, twins_located, twins_when, twins_token, twins_expect, twins_optional, twins_scalar, twins_all, twins_between, twins_some_between, twins_levels}
use Rattle.graphql_value_syntax.specs.ReadValues.{name_and, word_of, word_or_scalar, variable_or, value_level, value_from, value}
use Rattle.graphql_value_syntax.specs.ReadTypes.{TypeRef, plain, with_wrap, list_type, nullable_type, bare_type, type_from, type_ref}
use Rattle.graphql_value_syntax.specs.ReadDirectives.{some_of, arguments, directive, directives, variable_definition, variable_definitions}

module _ {S : Type 0} (q r : Reading S) (of_bool : Bool → S) where
  pub twins_name : Twins q r (located name) (located name)
  twins_name = twins_located q r (twins_token q r names name_of)

  twins_named : {A : Type 0} {p w : Parser A} → Twins q r p w → Twins q r (name_and p) (name_and w)
  twins_named one = twins_bind q r twins_name (λ n o. twins_bind q r (twins_expect q r k.Colon) (λ u z. twins_made q r (λ x. (n, x)) (λ x. (o, x)) one))

  -- ---- values

  twins_word : Twins q r (word_or_scalar q of_bool) (word_or_scalar r of_bool)
  twins_word = twins_when q r (only k.Scalar) (twins_made q r v.Scalar v.Scalar (twins_scalar q r)) (twins_token q r names (word_of q of_bool))

  twins_variable : (is_const : Bool) → Twins q r (variable_or q of_bool is_const) (variable_or r of_bool is_const)
  twins_variable true = twins_word
  twins_variable false = twins_when q r (only k.Dollar) (twins_bind q r (twins_expect q r k.Dollar) (λ u z. twins_made q r v.Variable v.Variable (twins_token q r names name_of))) twins_word

  twins_bare : (is_const : Bool) (p w : Parser (At (InputValue S))) → Twins q r p w → Twins q r (value_level q of_bool is_const p) (value_level r of_bool is_const w)
  unfolding value_level
  twins_bare is_const p w one =
      twins_when q r (only k.BracketOpen) (twins_made q r v.List v.List (twins_between q r one k.BracketClose k.BracketOpen))
      (twins_when q r (only k.CurlyOpen) (twins_made q r v.Object v.Object (twins_between q r (twins_named one) k.CurlyClose k.CurlyOpen)) (twins_variable is_const))

  twins_value_from : (is_const : Bool) (n : ℕ) → Twins q r (value_from q of_bool is_const n) (value_from r of_bool is_const n)
  unfolding value_from
  twins_value_from is_const zero = twins_refuse q r
  twins_value_from is_const (suc n) = twins_located q r (twins_bare is_const (value_from q of_bool is_const n) (value_from r of_bool is_const n) (twins_value_from is_const n))

  pub twins_value : (is_const : Bool) → Twins q r (value q of_bool is_const) (value r of_bool is_const)
  unfolding value
  twins_value is_const = twins_levels q r (value_from q of_bool is_const) (value_from r of_bool is_const) (twins_value_from is_const)

  -- ---- type references

  twins_nullable : (p : Parser (At TypeRef)) → Twins q r p p → Twins q r (nullable_type p) (nullable_type p)
  twins_nullable p one = twins_when q r (only k.BracketOpen)
      (twins_bind q r (twins_expect q r k.BracketOpen) (λ u z. twins_bind q r one (λ t o. twins_made q r (λ w. list_type t) (λ w. list_type o) (twins_expect q r k.BracketClose))))
      (twins_made q r plain plain (twins_token q r names name_of))

  twins_bare_type : (p : Parser (At TypeRef)) → Twins q r p p → Twins q r (bare_type p) (bare_type p)
  unfolding bare_type
  twins_bare_type p one = twins_bind q r (twins_nullable p one) (λ t o. twins_when q r (only k.ExclamationMark)
      (twins_made q r (λ u. with_wrap m.NonNull t) (λ u. with_wrap m.NonNull o) (twins_expect q r k.ExclamationMark)) (twins_pure q r t o))

  twins_type_from : (n : ℕ) → Twins q r (type_from n) (type_from n)
  unfolding type_from
  twins_type_from zero = twins_refuse q r
  twins_type_from (suc n) = twins_located q r (twins_bare_type (type_from n) (twins_type_from n))

  pub twins_type : Twins q r type_ref type_ref
  unfolding type_ref
  twins_type = twins_levels q r type_from type_from twins_type_from

  -- ---- arguments, directives and variables

  pub twins_arguments : (is_const : Bool) → Twins q r (arguments q of_bool is_const) (arguments r of_bool is_const)
  unfolding arguments
  twins_arguments is_const = twins_located q r (twins_made q r (λ ps. record { items = ps }) (λ ps. record { items = ps }) (twins_some_between q r (twins_named (twins_value is_const)) k.ParenClose k.ParenOpen))

  twins_directive : (is_const : Bool) → Twins q r (directive q of_bool is_const) (directive r of_bool is_const)
  unfolding directive
  twins_directive is_const = twins_located q r (twins_bind q r (twins_expect q r k.At) (λ u z. twins_bind q r twins_name (λ n o.
      twins_made q r (λ args. record { name = n; arguments = args }) (λ args. record { name = o; arguments = args }) (twins_optional q r (only k.ParenOpen) (twins_arguments is_const)))))

  pub twins_directives : (is_const : Bool) → Twins q r (directives q of_bool is_const) (directives r of_bool is_const)
  unfolding directives
  twins_directives is_const = twins_made q r some_of some_of (twins_all q r (twins_directive is_const) (only k.At) [] [])

  twins_variable_definition : Twins q r (variable_definition q of_bool) (variable_definition r of_bool)
  unfolding variable_definition
  twins_variable_definition = twins_bind q r (twins_located q r (twins_bind q r (twins_expect q r k.Dollar) (λ u z. twins_token q r names name_of))) (λ n o. twins_bind q r (twins_expect q r k.Colon) (λ u z.
      twins_bind q r twins_type (λ t s. twins_bind q r (twins_optional q r (only k.Equals) (twins_bind q r (twins_expect q r k.Equals) (λ a b. twins_value true))) (λ d f.
      twins_made q r (λ ds. (n, record { var_type = t; default_value = d; directives = ds })) (λ ds. (o, record { var_type = s; default_value = f; directives = ds })) (twins_directives true)))))

  pub twins_variables : Twins q r (variable_definitions q of_bool) (variable_definitions r of_bool)
  unfolding variable_definitions
  twins_variables = twins_located q r (twins_made q r (λ ds. record { items = ds }) (λ ds. record { items = ds }) (twins_some_between q r twins_variable_definition k.ParenClose k.ParenOpen))
