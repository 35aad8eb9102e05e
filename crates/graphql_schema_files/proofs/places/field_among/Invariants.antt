use Rattle.std.proofs.Common.{None, take}
use Rattle.std.specs.List.{All}
use Rattle.graphql_schema_files.specs.DeclarationPlaces.{IsFieldPlace}
use Rattle.graphql_schema_files.proofs.places.field_among.Given as goal

-- those passed so far keep the rule
abbrev pub invariant-drafts : goal.invariant-drafts
invariant-drafts l = All (λ x. IsFieldPlace l.rule x None) (take l.draft-index l.drafts)
