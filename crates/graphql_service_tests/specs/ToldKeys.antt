-- What the resolvers of the tests tell beside their errors has distinct keys: it is nothing.
use Rattle.std.specs.Prelude.{Bool, true, false, [], ◌∷◌, Ok, codes, if◌then◌else◌}
use Rattle.std.specs.Str.{bytes_eq}
use Rattle.graphql_names.specs.Names.{Bytes}
use Rattle.graphql_scalars.specs.declared.default_scalar.DefaultScalarValue.{DefaultScalarValue}
use Rattle.graphql_scalars.specs.declared.default_scalar.DefaultScalarValue.TheVariants as scalar
use Rattle.graphql_arguments.specs.ArgumentValues.{Given}
use Rattle.graphql_field_results.specs.Answered.{TellsInDistinctKeys}
use Rattle.graphql_field_results.specs.Reasons.{reason_alone}
use Rattle.graphql_field_results.specs.declared.resolved.Resolved.{Resolved}
use Rattle.graphql_field_results.specs.declared.resolved.Resolved.TheVariants as resolved
use Rattle.graphql_service_tests.specs.Beings.{Answer, answer, two_beings, flag, flags, given_kind}
use Rattle.graphql_service_tests.specs.Beings.{of_being, of_root_by, own_name, packs}
use Rattle.graphql_service_tests.specs.declared.executor.beings.Being.{Being}
use Rattle.graphql_service_tests.specs.declared.executor.beings.Being.TheVariants as being

abbrev pub given : Resolved DefaultScalarValue Being → Answer
given x = Ok x

-- no error
pub fine : (x : Resolved DefaultScalarValue Being) → TellsInDistinctKeys (given x)
fine x = record { beside = tt }

pub either : (b : Bool) (x y : Answer) → TellsInDistinctKeys x → TellsInDistinctKeys y
    → TellsInDistinctKeys (if b then x else y)
either true x y h k = h
either false x y h k = k

pub being-tells : (own field : Bytes) → TellsInDistinctKeys (of_being own field)
being-tells own field =
    either (bytes_eq field (codes "name")) _ _ (fine (resolved.Scalar (scalar.String own)))
    (either (bytes_eq field (codes "owner")) _ _ (fine (resolved.Node being.Ann))
    (either (bytes_eq field (codes "lives")) _ _ (reason_alone (codes "Nobody counts"))
    (fine resolved.Null)))

pub root-tells : (shown field : Bytes) → TellsInDistinctKeys (of_root_by shown field)
root-tells shown field =
    either (bytes_eq field (codes "human")) _ _ (fine (resolved.Node being.Ann))
    (either (bytes_eq field (codes "dog")) _ _ (fine (resolved.Node being.Rex))
    (either (bytes_eq field (codes "pet")) _ _ (fine (resolved.Node being.Tom))
    (either (bytes_eq field (codes "pets")) _ _ (fine (two_beings being.Rex being.Tom))
    (either (bytes_eq field (codes "packs")) _ _ (fine packs)
    (either (bytes_eq field (codes "self")) _ _ (fine (resolved.Node being.Root))
    (either (bytes_eq field (codes "impossible")) _ _ (fine (resolved.Node being.Ann))
    (either (bytes_eq field (codes "broken")) _ _ (reason_alone (codes "No such flag"))
    (either (bytes_eq field (codes "flags")) _ _ (fine flags)
    (either (bytes_eq field (codes "grid")) _ _ (fine (resolved.List (flags ∷ resolved.Null ∷ [])))
    (either (bytes_eq field (codes "one")) _ _ (fine flag)
    (either (bytes_eq field (codes "given")) _ _ (fine (resolved.Scalar (scalar.String shown)))
    (either (bytes_eq field (codes "many")) _ _ (fine (resolved.Scalar (scalar.String shown)))
    (either (bytes_eq field (codes "shape")) _ _ (fine (resolved.Scalar (scalar.String shown)))
    (fine resolved.Null))))))))))))))

pub answers-tell : (node : Being) (field : Bytes) (values : Given DefaultScalarValue)
    → TellsInDistinctKeys (answer node field values)
answers-tell being.Root field values = root-tells (given_kind values (codes "value")) field
answers-tell being.Ann field values = being-tells (own_name being.Ann) field
answers-tell being.Rex field values = being-tells (own_name being.Rex) field
answers-tell being.Tom field values = being-tells (own_name being.Tom) field
