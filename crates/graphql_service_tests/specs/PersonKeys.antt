-- What the resolver of the tests tells beside its errors has distinct keys: it answers no error.
use Rattle.std.specs.Prelude.{Bool, true, false, Ok, codes, if◌then◌else◌}
use Rattle.std.specs.Str.{bytes_eq}
use Rattle.graphql_names.specs.Names.{Bytes}
use Rattle.graphql_scalars.specs.declared.default_scalar.DefaultScalarValue.{DefaultScalarValue}
use Rattle.graphql_scalars.specs.declared.default_scalar.DefaultScalarValue.TheVariants as scalar
use Rattle.graphql_field_results.specs.Answered.{TellsInDistinctKeys}
use Rattle.graphql_field_results.specs.declared.resolved.Resolved.{Resolved}
use Rattle.graphql_field_results.specs.declared.resolved.Resolved.TheVariants as resolved
use Rattle.graphql_service_tests.specs.Persons.{Answer, answer}
use Rattle.graphql_service_tests.specs.declared.executor.look_ahead.watcher.Person.{Person}
use Rattle.graphql_service_tests.specs.declared.executor.look_ahead.watcher.Person.TheVariants as
    person

abbrev pub given : Resolved DefaultScalarValue Person → Answer
given x = Ok x

-- no error
pub fine : (x : Resolved DefaultScalarValue Person) → TellsInDistinctKeys (given x)
fine x = record { beside = tt }

pub either : (b : Bool) (x y : Answer) → TellsInDistinctKeys x → TellsInDistinctKeys y
    → TellsInDistinctKeys (if b then x else y)
either true x y h k = h
either false x y h k = k

pub answers-tell : (node : Person) (field : Bytes) → TellsInDistinctKeys (answer node field)
answers-tell person.Root field = either (bytes_eq field (codes "hero"))
    _ _ (fine (resolved.Node person.Luke)) (fine resolved.Null)
answers-tell person.Luke field =
    either (bytes_eq field (codes "id")) _ _ (fine (resolved.Scalar (scalar.String (codes "1000"))))
    (either (bytes_eq field (codes "name"))
    _ _ (fine (resolved.Scalar (scalar.String (codes "Luke")))) (fine resolved.Null))
