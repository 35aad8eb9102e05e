-- The parser of values calls itself, and the count of levels decides nothing.
use Rattle.std.proofs.Common.{◌≡◌, ℕ, suc, Bool, true, false, Result, codes, refl, arith}
use Rattle.graphql_text.specs.declared.token.Token.TheVariants as t
use Rattle.graphql_text.specs.declared.token.ScalarToken.{ScalarToken}
use Rattle.graphql_text.specs.declared.parse_error.ParseError.{ParseError}
use Rattle.graphql_values.specs.declared.input_value.InputValue.TheVariants as v
use Rattle.graphql_grammar.specs.declared.kind.Kind.TheVariants as k
use Rattle.graphql_grammar.specs.Kinds.{only, names}
use Rattle.graphql_grammar.specs.Input.{Input, Parser}
use Rattle.graphql_grammar.specs.Steps.{name_of, located}
use Rattle.graphql_grammar.specs.Faults.{BadScalar, GoodScalar}
use Rattle.graphql_grammar.proofs.Choices.{law_token, law_scalar_or}
use Rattle.graphql_grammar.proofs.Recursion.{Uses, Agree, agree_self, agree_fewer, agree_bind, agree_made, agree_located, agree_when, agree_token, agree_between, uses_law, unfolds, uses_fix}
use Rattle.graphql_value_syntax.specs.ReadValues.{name_and, word_of, word_or_scalar, variable_or, value_level, value_from, value}

pub agree_named : {A : Type 0} {n : ℕ} {p q : Parser A} → Agree true n p q → Agree true n (name_and p) (name_and q)
agree_named {n = n} one =
    agree_bind (agree_located (agree_token names name_of refl))
    (λ key. agree_bind (agree_token (only k.Colon) (λ w. tt {0}) refl) (λ u. agree_made (λ x. (key, x)) (agree_fewer (omega arith) one)))

module _ {S : Type 0} (reads : ScalarToken → Result S ParseError) (of_bool : Bool → S) where
  uses_word : Uses true (word_or_scalar reads of_bool)
  uses_word = uses_law (BadScalar reads) (GoodScalar reads)
      (λ n. law_scalar_or reads v.Scalar refl (law_token names (word_of reads of_bool) (BadScalar reads) (GoodScalar reads) (t.Name (codes "a")) refl refl))

  agree_variable_or : (n : ℕ) (is_const : Bool) → Agree true n (variable_or reads of_bool is_const) (variable_or reads of_bool is_const)
  agree_variable_or n true = agree_self uses_word
  agree_variable_or n false =
      agree_when (only k.Dollar) (agree_bind (agree_token (only k.Dollar) (λ w. tt {0}) refl) (λ u. agree_made v.Variable (agree_token names name_of refl))) (agree_self uses_word)

  -- a value that holds no other takes a token
  pub single_uses : (is_const : Bool) → Uses true (variable_or reads of_bool is_const)
  single_uses is_const = (agree_variable_or 0 is_const).uses

  agree_bare : (is_const : Bool) (n : ℕ) (p q : Parser _) → Agree true n p q → Agree true (suc n) (value_level reads of_bool is_const p) (value_level reads of_bool is_const q)
  unfolding value_level
  agree_bare is_const n p q one =
      agree_when (only k.BracketOpen) (agree_made v.List (agree_between one k.BracketOpen k.BracketClose refl refl))
      (agree_when (only k.CurlyOpen) (agree_made v.Object (agree_between (agree_named one) k.CurlyOpen k.CurlyClose refl refl)) (agree_variable_or (suc n) is_const))

  deeper : (is_const : Bool) (n : ℕ) (p q : Parser _) → Agree true n p q → Agree true (suc n) (located (value_level reads of_bool is_const p)) (located (value_level reads of_bool is_const q))
  deeper is_const n p q one = agree_located (agree_bare is_const n p q one)

  pub value_unfolds : (is_const : Bool) (i : Input) → value reads of_bool is_const i ≡ located (value_level reads of_bool is_const (value reads of_bool is_const)) i
  unfolding value value_from
  value_unfolds is_const i = unfolds (λ p. located (value_level reads of_bool is_const p)) (value_from reads of_bool is_const) (λ j. refl) (λ n j. refl) (deeper is_const) i

  pub value_uses : (is_const : Bool) → Uses true (value reads of_bool is_const)
  unfolding value value_from
  value_uses is_const = uses_fix (λ p. located (value_level reads of_bool is_const p)) (value_from reads of_bool is_const) (λ j. refl) (λ n j. refl) (deeper is_const)
