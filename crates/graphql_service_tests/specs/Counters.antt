-- What the counter of the tests answers, and counts.
use Rattle.std.specs.Prelude.{◌+ℤ◌, ℤ, pos, Ok, codes, if◌then◌else◌}
use Rattle.std.specs.Int.{saturate_signed, w32}
use Rattle.std.specs.Str.{bytes_eq}
use Rattle.graphql_names.specs.Names.{Bytes}
use Rattle.graphql_scalars.specs.declared.default_scalar.DefaultScalarValue.{DefaultScalarValue}
use Rattle.graphql_scalars.specs.declared.default_scalar.DefaultScalarValue.TheVariants as scalar
use Rattle.graphql_field_results.specs.declared.resolved.Resolved.{Resolved}
use Rattle.graphql_field_results.specs.declared.resolved.Resolved.TheVariants as resolved
use Rattle.graphql_mutation.specs.Mutations.{Changes}

abbrev pub number : ℤ → Resolved DefaultScalarValue Unit
number count = resolved.Scalar (scalar.Int count)

-- `lose` answers null, each other field the count
abbrev pub count_answer : ℤ → Bytes → Resolved DefaultScalarValue Unit
count_answer count field = if bytes_eq field (codes "lose") then resolved.Null else number count

-- up to the greatest integer of 32 bits
abbrev pub one_more : ℤ → ℤ
one_more count = saturate_signed w32 (count +ℤ pos 1)

-- each field of a mutation counts one up, and tells the new count
abbrev pub changes : Changes DefaultScalarValue Unit ℤ
changes = record {
  answer = λ count field given. Ok (count_answer (one_more count) field);
  after = λ count field given. one_more count;
}
