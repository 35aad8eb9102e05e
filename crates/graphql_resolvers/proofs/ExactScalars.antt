-- Scalars of the default type that are equal are one.
use Rattle.std.proofs.Common.{◌≡◌, true, sym, true≢false, rules}
use Rattle.std.specs.Cmp.Lexicographic.{bytes_decides}
use Rattle.graphql_scalars.specs.contracts.default_scalar.DefaultScalarValuePartialEq.TheImpl.{ghosts}
use Rattle.graphql_scalars.specs.declared.default_scalar.DefaultScalarValue.{DefaultScalarValue}
use Rattle.graphql_scalars.specs.declared.default_scalar.DefaultScalarValue.TheVariants as scalar

pub exact : (a b : DefaultScalarValue) → ghosts.eq a b ≡ true → a ≡ b
exact (scalar.Int a) (scalar.Int b) h = search rules
exact (scalar.Int a) (scalar.String b) h = absurd (true≢false (sym h))
exact (scalar.Int a) (scalar.Boolean b) h = absurd (true≢false (sym h))
exact (scalar.String a) (scalar.Int b) h = absurd (true≢false (sym h))
exact (scalar.String a) (scalar.String b) h = search (rules, bytes_decides)
exact (scalar.String a) (scalar.Boolean b) h = absurd (true≢false (sym h))
exact (scalar.Boolean a) (scalar.Int b) h = absurd (true≢false (sym h))
exact (scalar.Boolean a) (scalar.String b) h = absurd (true≢false (sym h))
exact (scalar.Boolean a) (scalar.Boolean b) h = search rules
