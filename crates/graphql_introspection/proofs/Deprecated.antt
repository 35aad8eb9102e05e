-- What is deprecated is what is not current.
use Rattle.std.proofs.Common.{◌≢◌, refl, sym, ap, true≢false}
use Rattle.std.specs.Bool.{Decides}
use Rattle.graphql_schema.specs.declared.meta.deprecation.DeprecationStatus.{DeprecationStatus}
use Rattle.graphql_schema.specs.declared.meta.deprecation.DeprecationStatus.TheVariants as status
use Rattle.graphql_introspection.specs.Told.{is_deprecated}

pub deprecated_decides : (s : DeprecationStatus) → Decides (is_deprecated s) (s ≢ status.Current)
deprecated_decides (status.Deprecated reason) = (λ _ e. true≢false (ap is_deprecated e), λ _. refl)
deprecated_decides status.Current = (λ e. absurd (true≢false (sym e)), λ differs. absurd (differs refl))
