-- Scalars of the default type that are the same answer the same.
use Rattle.std.proofs.Common.{◌≡◌, sym, ap, true, true≢false, rules}
use Rattle.std.specs.Cmp.Lexicographic.{bytes_decides}
use Rattle.graphql_scalars.specs.ScalarAnswers.{ScalarAnswer}
use Rattle.graphql_scalars.specs.contracts.default_scalar.DefaultScalarValuePartialEq.TheImpl.{ghosts}
use Rattle.graphql_scalars.specs.declared.default_scalar.DefaultScalarValue.{DefaultScalarValue}
use Rattle.graphql_scalars.specs.declared.default_scalar.DefaultScalarValue.TheVariants as scalar
use Rattle.graphql_joins.specs.RequestLaws.{EqualsAnswerAlike}

-- equal scalars are one
exact : (a b : DefaultScalarValue) → ghosts.eq a b ≡ true → a ≡ b
exact (scalar.Int a) (scalar.Int b) h = search rules
exact (scalar.Int a) (scalar.String b) h = absurd (true≢false (sym h))
exact (scalar.Int a) (scalar.Boolean b) h = absurd (true≢false (sym h))
exact (scalar.String a) (scalar.Int b) h = absurd (true≢false (sym h))
exact (scalar.String a) (scalar.String b) h = search (rules, bytes_decides)
exact (scalar.String a) (scalar.Boolean b) h = absurd (true≢false (sym h))
exact (scalar.Boolean a) (scalar.Int b) h = absurd (true≢false (sym h))
exact (scalar.Boolean a) (scalar.String b) h = absurd (true≢false (sym h))
exact (scalar.Boolean a) (scalar.Boolean b) h = search rules

pub default-scalars-answer-alike : (answer : DefaultScalarValue → ScalarAnswer) → EqualsAnswerAlike ghosts.eq answer
default-scalars-answer-alike answer a b h = ap answer (exact a b h)
