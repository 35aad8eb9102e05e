-- What the resolver of the tests answers.
use Rattle.std.specs.Prelude.{◌∷◌, [], true, Option, Some, None, Result, Ok, Err, codes}
use Rattle.std.specs.Prelude.{if◌then◌else◌}
use Rattle.std.specs.Str.{bytes_eq}
use Rattle.graphql_names.specs.Names.{Bytes}
use Rattle.graphql_scalars.specs.declared.default_scalar.DefaultScalarValue.{DefaultScalarValue}
use Rattle.graphql_scalars.specs.declared.default_scalar.DefaultScalarValue.TheVariants as scalar
use Rattle.graphql_values.specs.declared.input_value.InputValue.{InputValue}
use Rattle.graphql_arguments.specs.ArgumentValues.{Given, value_named}
use Rattle.graphql_semantics.specs.Completion.{reason}
use Rattle.graphql_field_results.specs.declared.field_error.FieldError.{FieldError}
use Rattle.graphql_field_results.specs.declared.resolved.Resolved.{Resolved}
use Rattle.graphql_field_results.specs.declared.resolved.Resolved.TheVariants as resolved
use Rattle.graphql_service_tests.specs.Kinds.{kind}
use Rattle.graphql_service_tests.specs.declared.executor.beings.Being.{Being}
use Rattle.graphql_service_tests.specs.declared.executor.beings.Being.TheVariants as being

abbrev pub Answer : Type 0
Answer = Result (Resolved DefaultScalarValue Being) (FieldError DefaultScalarValue)

abbrev pub type_name : Being → Bytes
type_name being.Root = codes "Query"
type_name being.Ann = codes "Human"
type_name being.Rex = codes "Dog"
type_name being.Tom = codes "Cat"

abbrev pub own_name : Being → Bytes
own_name being.Root = codes "Root"
own_name being.Ann = codes "Ann"
own_name being.Rex = codes "Rex"
own_name being.Tom = codes "Tom"

abbrev pub being_answer : Being → Answer
being_answer b = Ok (resolved.Node b)

abbrev pub text_answer : Bytes → Answer
text_answer text = Ok (resolved.Scalar (scalar.String text))

abbrev pub flag : Resolved DefaultScalarValue Being
flag = resolved.Scalar (scalar.Boolean true)

abbrev pub two_beings : Being → Being → Resolved DefaultScalarValue Being
two_beings a b = resolved.List (resolved.Node a ∷ resolved.Node b ∷ [])

-- a dog twice, and a cat and the dog
abbrev pub packs : Resolved DefaultScalarValue Being
packs = resolved.List (two_beings being.Rex being.Rex ∷ two_beings being.Tom being.Rex ∷ [])

-- a flag, and none
abbrev pub flags : Resolved DefaultScalarValue Being
flags = resolved.List (flag ∷ resolved.Null ∷ [])

abbrev pub kind_or_absent : Option (InputValue DefaultScalarValue) → Bytes
kind_or_absent (Some v) = kind v
kind_or_absent None = codes "absent"

-- of which kind the argument of a name is
abbrev pub given_kind : Given DefaultScalarValue → Bytes → Bytes
given_kind given name = kind_or_absent (value_named given name)

-- `shown`: of which kind the argument `value` is
abbrev pub of_root_by : Bytes → Bytes → Answer
of_root_by shown field =
    if bytes_eq field (codes "human") then being_answer being.Ann else
    if bytes_eq field (codes "dog") then being_answer being.Rex else
    if bytes_eq field (codes "pet") then being_answer being.Tom else
    if bytes_eq field (codes "pets") then Ok (two_beings being.Rex being.Tom) else
    if bytes_eq field (codes "packs") then Ok packs else
    if bytes_eq field (codes "self") then being_answer being.Root else
    if bytes_eq field (codes "impossible") then being_answer being.Ann else
    if bytes_eq field (codes "broken") then Err (reason (codes "No such flag")) else
    if bytes_eq field (codes "flags") then Ok flags else
    if bytes_eq field (codes "grid") then Ok (resolved.List (flags ∷ resolved.Null ∷ [])) else
    if bytes_eq field (codes "one") then Ok flag else
    if bytes_eq field (codes "given") then text_answer shown else
    if bytes_eq field (codes "many") then text_answer shown else
    if bytes_eq field (codes "shape") then text_answer shown else Ok resolved.Null

abbrev pub of_root : Bytes → Given DefaultScalarValue → Answer
of_root field given = of_root_by (given_kind given (codes "value")) field

abbrev pub of_being : Bytes → Bytes → Answer
of_being own field =
    if bytes_eq field (codes "name") then text_answer own else
    if bytes_eq field (codes "owner") then being_answer being.Ann else
    if bytes_eq field (codes "lives") then Err (reason (codes "Nobody counts"))
    else Ok resolved.Null

abbrev pub answer : Being → Bytes → Given DefaultScalarValue → Answer
answer being.Root field given = of_root field given
answer being.Ann field given = of_being (own_name being.Ann) field
answer being.Rex field given = of_being (own_name being.Rex) field
answer being.Tom field given = of_being (own_name being.Tom) field
