-- Type references, production by production (GraphQL October 2021, 2.11 Type References).
use Rattle.std.specs.Prelude.{◌≡◌, ℕ, List, [], ◌∷◌, ◌++◌, Result, Err}
use Rattle.graphql_text.specs.declared.token.Token.TheVariants as t
use Rattle.graphql_text.specs.declared.token.ScalarToken.{ScalarToken}
use Rattle.graphql_text.specs.declared.parse_error.ParseError.{ParseError}
use Rattle.graphql_text.specs.declared.parse_error.ParseError.TheVariants.{UnexpectedEndOfFile}
use Rattle.graphql_names.specs.declared.type_modifier.TypeModifier.TheVariants as m
use Rattle.graphql_grammar.specs.declared.kind.Kind.TheVariants as k
use Rattle.graphql_grammar.specs.Input.{At, Located}
use Rattle.graphql_grammar.specs.Relations.{span_of}
use Rattle.graphql_value_syntax.specs.ReadTypes.{TypeRef, plain, with_wrap, list_type}
use Rattle.graphql_value_syntax.specs.Values.{Is, spanned}

-- no token of a type reference is a scalar's
abbrev pub no_scalar : ScalarToken → Result (Unit {0}) ParseError
no_scalar token = Err UnexpectedEndOfFile

mutual
  -- NamedType, ListType
  pub data NullableOf : List Located → TypeRef → Type 0 where
    of_name : (a : Located) (n : List ℕ) → a.item ≡ t.Name n → NullableOf (a ∷ []) (plain n)
    of_list : (a b : Located) (ts : List Located) (x : At TypeRef) → Is k.BracketOpen a
        → TypeOf ts x → Is k.BracketClose b → NullableOf (a ∷ (ts ++ b ∷ [])) (list_type x)

  -- and NonNullType
  pub data TypeOf : List Located → At TypeRef → Type 0 where
    of_nullable : (a : Located) (ts : List Located) (x : TypeRef) → NullableOf (a ∷ ts) x
        → TypeOf (a ∷ ts) (record { item = x; span = span_of a ts })
    of_non_null : (a b : Located) (ts : List Located) (x : TypeRef) → NullableOf (a ∷ ts) x
        → Is k.ExclamationMark b → TypeOf (a ∷ (ts ++ b ∷ [])) (spanned a (with_wrap m.NonNull x) b)
