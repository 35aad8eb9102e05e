-- The parser of type references calls itself, and the count of levels decides nothing.
use Rattle.std.proofs.Common.{◌≡◌, ℕ, suc, true, refl, arith}
use Rattle.graphql_names.specs.declared.type_modifier.TypeModifier.TheVariants as m
use Rattle.graphql_grammar.specs.declared.kind.Kind.TheVariants as k
use Rattle.graphql_grammar.specs.Kinds.{only, names}
use Rattle.graphql_grammar.specs.Input.{At, Input, Parser}
use Rattle.graphql_grammar.specs.Steps.{name_of, located}
use Rattle.graphql_grammar.proofs.Recursion.{Uses, Agree, agree_fewer, agree_pure, agree_bind, agree_made, agree_located, agree_when, agree_token, unfolds, uses_fix}
use Rattle.graphql_value_syntax.specs.ReadTypes.{TypeRef, plain, with_wrap, list_type, nullable_type, bare_type, type_from, type_ref}

agree_nullable : (n : ℕ) (p q : Parser (At TypeRef)) → Agree true n p q → Agree true (suc n) (nullable_type p) (nullable_type q)
agree_nullable n p q one =
    agree_when (only k.BracketOpen)
    (agree_bind (agree_token (only k.BracketOpen) (λ w. tt {0}) refl) (λ u. agree_bind (agree_fewer (omega arith) one) (λ t. agree_made (λ w. list_type t) (agree_token (only k.BracketClose) (λ w. tt {0}) refl))))
    (agree_made plain (agree_token names name_of refl))

agree_bare_type : (n : ℕ) (p q : Parser (At TypeRef)) → Agree true n p q → Agree true (suc n) (bare_type p) (bare_type q)
unfolding bare_type
agree_bare_type n p q one =
    agree_bind (agree_nullable n p q one)
    (λ t. agree_when (only k.ExclamationMark) (agree_made (λ u. with_wrap m.NonNull t) (agree_token (only k.ExclamationMark) (λ w. tt {0}) refl)) (agree_pure t))

deeper : (n : ℕ) (p q : Parser (At TypeRef)) → Agree true n p q → Agree true (suc n) (located (bare_type p)) (located (bare_type q))
deeper n p q one = agree_located (agree_bare_type n p q one)

pub type_unfolds : (i : Input) → type_ref i ≡ located (bare_type type_ref) i
unfolding type_ref type_from
type_unfolds i = unfolds (λ p. located (bare_type p)) type_from (λ j. refl) (λ n j. refl) deeper i

pub type_uses : Uses true type_ref
unfolding type_ref type_from
type_uses = uses_fix (λ p. located (bare_type p)) type_from (λ j. refl) (λ n j. refl) deeper
