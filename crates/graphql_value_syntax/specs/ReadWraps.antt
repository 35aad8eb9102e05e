-- A type reference, as it is read without going down: opening brackets, a name, and what wraps it
-- (GraphQL October 2021, 2.11 Type References).
use Rattle.std.specs.Prelude.{ℕ, zero, suc, List, None}
use Rattle.graphql_names.specs.declared.type_modifier.TypeModifier.{TypeModifier}
use Rattle.graphql_names.specs.declared.type_modifier.TypeModifier.TheVariants as m
use Rattle.graphql_grammar.specs.declared.kind.Kind.TheVariants as k
use Rattle.graphql_grammar.specs.Kinds.{only}
use Rattle.graphql_grammar.specs.Input.{Parser, ◌>>=◌, ◌>>◌, pure}
use Rattle.graphql_grammar.specs.Steps.{when, expect, name}
use Rattle.graphql_value_syntax.specs.ReadTypes.{TypeRef, plain, with_wrap}

-- a `!`, if it stands next
abbrev pub marked : TypeRef → Parser TypeRef
marked t =
    when (only k.ExclamationMark) (do expect k.ExclamationMark; pure (with_wrap m.NonNull t))
    (pure t)

-- as many closing brackets as were opened, and what marks each list
unfoldable pub closing_brackets : ℕ → TypeRef → Parser TypeRef
closing_brackets zero t = pure t
closing_brackets (suc n) t = do
  expect k.BracketClose
  marked (with_wrap (m.List None) t) >>= closing_brackets n

-- what stands behind the name that as many opening brackets stand before
abbrev pub behind : ℕ → List ℕ → Parser TypeRef
behind depth n = marked (plain n) >>= closing_brackets depth

-- what stands behind as many opening brackets
abbrev pub inside : ℕ → Parser TypeRef
inside depth = name >>= behind depth

-- a name with what wraps it
abbrev pub of : List ℕ → List TypeModifier → TypeRef
of n ms = record { name = n; modifiers = ms }
