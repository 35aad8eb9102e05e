-- Productions do not see places: the trees that are read of the same tokens differ in places alone.
use Rattle.std.proofs.Common.{◌≡◌, ℕ, zero, suc, Bool, true, false, List, [], ◌∷◌, map, Result, ap, ap₂, ◌∙◌, sym, refl}
use Rattle.std.specs.Option.{option_map}
use Rattle.graphql_text.specs.declared.token.ScalarToken.{ScalarToken}
use Rattle.graphql_text.specs.declared.parse_error.ParseError.{ParseError}
use Rattle.graphql_values.specs.declared.input_value.InputValue.{InputValue}
use Rattle.graphql_values.specs.declared.input_value.InputValue.TheVariants as v
use Rattle.graphql_names.specs.declared.type_modifier.TypeModifier.TheVariants as m
use Rattle.graphql_values.specs.InputValues.{unplaced, unlocated}
use Rattle.graphql_values.proofs.InputValueEquations.{unlocated_list, unlocated_object}
use Rattle.graphql_grammar.specs.declared.kind.Kind.{Kind}
use Rattle.graphql_grammar.specs.declared.kind.Kind.TheVariants as k
use Rattle.graphql_grammar.specs.Kinds.{only, names}
use Rattle.graphql_grammar.specs.Input.{At, Parser}
use Rattle.graphql_grammar.specs.Steps.{name, name_of, expect, located}
use Rattle.graphql_grammar.proofs.Alike.{Even, even_weaker, even_pure, even_refuse, even_bind, even_made, even_located, even_when, even_token, even_optional, even_scalar, even_all, even_between, even_some_between, even_levels}
use Rattle.graphql_value_syntax.specs.ReadValues.{name_and, word_of, word_or_scalar, variable_or, value_level, value_from, value}
use Rattle.graphql_value_syntax.specs.ReadTypes.{TypeRef, plain, with_wrap, list_type, nullable_type, bare_type, type_from, type_ref}
use Rattle.graphql_value_syntax.specs.ReadDirectives.{some_of, arguments, directive, directives, variable_definition, variable_definitions}
use Rattle.graphql_tree.specs.Unlocated.{without_place, unlocated_name, unlocated_argument, unlocated_arguments, unlocated_directive, unlocated_directives, unlocated_variable, unlocated_variables}

-- ---- what stands at a place

pub even_placed : {A B : Type 0} {see : A → B} {p q : Parser A} → Even see p q → Even (without_place see) (located p) (located q)
even_placed one = even_weaker (λ x y h. ap unplaced h) (even_located one)

pub even_expect : (w : Kind) → Even (λ u. u) (expect w) (expect w)
even_expect w = even_token (only w) (λ x. tt {0})

pub even_name : Even unlocated_name (located name) (located name)
even_name = even_placed {see = λ n. n} (even_token names name_of)

-- a name, and what stands behind it as see sees it
abbrev with_name : {A B : Type 0} → (A → B) → At (List ℕ) × A → At (List ℕ) × B
with_name see x = (unlocated_name x.0, see x.1)

even_named : {A B : Type 0} {see : A → B} {p q : Parser A} → Even see p q → Even (with_name see) (name_and p) (name_and q)
even_named one = even_bind even_name (λ n o h. even_bind (even_expect k.Colon) (λ u w e. even_made (λ x. (n, x)) (λ x. (o, x)) (λ x y l. ap₂ (λ a b. (a, b)) h l) one))

-- ---- values

module _ {S : Type 0} (reads : ScalarToken → Result S ParseError) (of_bool : Bool → S) where
  even_word : Even unlocated (word_or_scalar reads of_bool) (word_or_scalar reads of_bool)
  even_word = even_when (only k.Scalar) (even_made v.Scalar v.Scalar (λ x y h. ap (λ s. unlocated (v.Scalar s)) h) (even_scalar reads {see = λ s. s})) (even_token names (word_of reads of_bool))

  even_variable : (is_const : Bool) → Even unlocated (variable_or reads of_bool is_const) (variable_or reads of_bool is_const)
  even_variable true = even_word
  even_variable false = even_when (only k.Dollar)
      (even_bind (even_expect k.Dollar) (λ u w e. even_made v.Variable v.Variable (λ x y h. ap (λ n. unlocated (v.Variable n)) h) (even_token {see = λ n. n} names name_of))) even_word

  even_bare : (is_const : Bool) (p : Parser (At (InputValue S))) → Even (without_place unlocated) p p → Even unlocated (value_level reads of_bool is_const p) (value_level reads of_bool is_const p)
  unfolding value_level
  even_bare is_const p one =
      even_when (only k.BracketOpen) (even_made v.List v.List (λ xs ys h. unlocated_list xs ∙ ap v.List h ∙ sym (unlocated_list ys)) (even_between one k.BracketClose k.BracketOpen))
      (even_when (only k.CurlyOpen) (even_made v.Object v.Object (λ ps qs h. unlocated_object ps ∙ ap v.Object h ∙ sym (unlocated_object qs)) (even_between (even_named one) k.CurlyClose k.CurlyOpen))
      (even_variable is_const))

  even_value_from : (is_const : Bool) (n : ℕ) → Even (without_place unlocated) (value_from reads of_bool is_const n) (value_from reads of_bool is_const n)
  unfolding value_from
  even_value_from is_const zero = even_refuse
  even_value_from is_const (suc n) = even_placed (even_bare is_const (value_from reads of_bool is_const n) (even_value_from is_const n))

  pub even_value : (is_const : Bool) → Even (without_place unlocated) (value reads of_bool is_const) (value reads of_bool is_const)
  unfolding value
  even_value is_const = even_levels (value_from reads of_bool is_const) (even_value_from is_const)

-- ---- type references

-- a type has no place inside it
abbrev as_it_is : TypeRef → TypeRef
as_it_is t = t

even_nullable : (p : Parser (At TypeRef)) → Even (without_place as_it_is) p p → Even as_it_is (nullable_type p) (nullable_type p)
even_nullable p one = even_when (only k.BracketOpen)
    (even_bind (even_expect k.BracketOpen) (λ u w e. even_bind one (λ t o h. even_made (λ w. list_type t) (λ w. list_type o) (λ x y l. ap (λ (z : At TypeRef). list_type z) h) (even_expect k.BracketClose))))
    (even_made plain plain (λ x y h. ap plain h) (even_token {see = λ n. n} names name_of))

even_bare_type : (p : Parser (At TypeRef)) → Even (without_place as_it_is) p p → Even as_it_is (bare_type p) (bare_type p)
unfolding bare_type
even_bare_type p one = even_bind (even_nullable p one) (λ t o h. even_when (only k.ExclamationMark)
    (even_made (λ u. with_wrap m.NonNull t) (λ u. with_wrap m.NonNull o) (λ x y l. ap (with_wrap m.NonNull) h) (even_expect k.ExclamationMark)) (even_pure h))

even_type_from : (n : ℕ) → Even (without_place as_it_is) (type_from n) (type_from n)
unfolding type_from
even_type_from zero = even_refuse
even_type_from (suc n) = even_placed (even_bare_type (type_from n) (even_type_from n))

pub even_type : Even (without_place as_it_is) type_ref type_ref
unfolding type_ref
even_type = even_levels type_from even_type_from

-- ---- arguments, directives and variables

some_without : {A B : Type 0} (see : A → B) (xs : List A) → option_map (map see) (some_of xs) ≡ some_of (map see xs)
some_without see [] = refl
some_without see (x ∷ xs) = refl

module _ {S : Type 0} (reads : ScalarToken → Result S ParseError) (of_bool : Bool → S) where
  pub even_arguments : (is_const : Bool) → Even (without_place unlocated_arguments) (arguments reads of_bool is_const) (arguments reads of_bool is_const)
  unfolding arguments
  even_arguments is_const = even_placed (even_made (λ ps. record { items = ps }) (λ ps. record { items = ps }) (λ ps qs h. ap (λ z. record { items = z }) h)
      (even_some_between {see = unlocated_argument} (even_named (even_value reads of_bool is_const)) k.ParenClose k.ParenOpen))

  even_directive : (is_const : Bool) → Even (without_place unlocated_directive) (directive reads of_bool is_const) (directive reads of_bool is_const)
  unfolding directive
  even_directive is_const = even_placed (even_bind (even_expect k.At) (λ u w e. even_bind even_name (λ n o h.
      even_made (λ args. record { name = n; arguments = args }) (λ args. record { name = o; arguments = args }) (λ x y l. ap₂ (λ a b. record { name = a; arguments = b }) h l)
      (even_optional (only k.ParenOpen) (even_arguments is_const)))))

  pub even_directives : (is_const : Bool) → Even unlocated_directives (directives reads of_bool is_const) (directives reads of_bool is_const)
  unfolding directives
  even_directives is_const = even_made some_of some_of (λ xs ys h. let see = without_place unlocated_directive in some_without see xs ∙ ap some_of h ∙ sym (some_without see ys))
      (even_all (even_directive is_const) (only k.At) [] [] refl)

  even_variable_definition : Even (with_name unlocated_variable) (variable_definition reads of_bool) (variable_definition reads of_bool)
  unfolding variable_definition
  even_variable_definition = even_bind {see = unlocated_name} (even_placed {see = λ n. n} (even_bind (even_expect k.Dollar) (λ u w e. even_token names name_of))) (λ n o h. even_bind (even_expect k.Colon) (λ u w e.
      even_bind even_type (λ t s l. even_bind (even_optional (only k.Equals) (even_bind (even_expect k.Equals) (λ a b c. even_value reads of_bool true))) (λ d f q.
      even_made (λ ds. (n, record { var_type = t; default_value = d; directives = ds })) (λ ds. (o, record { var_type = s; default_value = f; directives = ds })) (λ x y r. cc) (even_directives true)))))

  pub even_variables : Even (without_place unlocated_variables) (variable_definitions reads of_bool) (variable_definitions reads of_bool)
  unfolding variable_definitions
  even_variables = even_placed (even_made (λ ds. record { items = ds }) (λ ds. record { items = ds }) (λ xs ys h. ap (λ z. record { items = z }) h)
      (even_some_between even_variable_definition k.ParenClose k.ParenOpen))
