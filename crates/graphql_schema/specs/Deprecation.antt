-- What is deprecated (GraphQL October 2021, 3.13.3 @deprecated).
use Rattle.std.specs.Prelude.{ℕ, List, Option, None}
use Rattle.graphql_schema.specs.declared.meta.deprecation.DeprecationStatus.{DeprecationStatus}
use Rattle.graphql_schema.specs.declared.meta.deprecation.DeprecationStatus.TheVariants as status

abbrev pub reason_of : DeprecationStatus → Option (List ℕ)
reason_of (status.Deprecated reason) = reason
reason_of status.Current = None
