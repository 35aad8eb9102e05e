-- What the resolver of the tests answers.
use Rattle.std.specs.Prelude.{Result, Ok, codes, if◌then◌else◌}
use Rattle.std.specs.Str.{bytes_eq}
use Rattle.graphql_names.specs.Names.{Bytes}
use Rattle.graphql_scalars.specs.declared.default_scalar.DefaultScalarValue.{DefaultScalarValue}
use Rattle.graphql_scalars.specs.declared.default_scalar.DefaultScalarValue.TheVariants as scalar
use Rattle.graphql_field_results.specs.declared.field_error.FieldError.{FieldError}
use Rattle.graphql_field_results.specs.declared.resolved.Resolved.{Resolved}
use Rattle.graphql_field_results.specs.declared.resolved.Resolved.TheVariants as resolved
use Rattle.graphql_service_tests.specs.declared.executor.look_ahead.watcher.Person.{Person}
use Rattle.graphql_service_tests.specs.declared.executor.look_ahead.watcher.Person.TheVariants as
    person

abbrev pub Answer : Type 0
Answer = Result (Resolved DefaultScalarValue Person) (FieldError DefaultScalarValue)

abbrev pub type_name : Person → Bytes
type_name person.Root = codes "Query"
type_name person.Luke = codes "Human"

abbrev pub text_answer : Bytes → Answer
text_answer text = Ok (resolved.Scalar (scalar.String text))

abbrev pub of_root : Bytes → Answer
of_root field =
    if bytes_eq field (codes "hero") then Ok (resolved.Node person.Luke) else Ok resolved.Null

abbrev pub of_luke : Bytes → Answer
of_luke field =
    if bytes_eq field (codes "id") then text_answer (codes "1000") else
    if bytes_eq field (codes "name") then text_answer (codes "Luke") else Ok resolved.Null

abbrev pub answer : Person → Bytes → Answer
answer person.Root field = of_root field
answer person.Luke field = of_luke field
