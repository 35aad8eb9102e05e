-- What scalars mean, by the ghost members of their traits: the record that `Meaning` has of them.
use Rattle.std.specs.declared.cmp.PartialEq as equality
use Rattle.graphql_scalars.specs.declared.scalar.ParseScalarValue as reading
use Rattle.graphql_scalars.specs.declared.scalar.ScalarValue as scalar
use Rattle.graphql_schema.specs.declared.check.Check as check
use Rattle.graphql_schema.specs.Scalars.{Scalars}

abbrev pub scalars_of : {S C : Type 0} → reading.Ghosts S S → scalar.Ghosts S → equality.Ghosts S
    → check.Ghosts C S → Scalars S C
scalars_of reads scalars equals checks = record {
  reads = reads.reads;
  of_bool = scalars.of_bool;
  of_int = scalars.of_int;
  of_text = scalars.of_text;
  eq = equals.eq;
  answer = scalars.answer;
  accepts = checks.accepts;
}
