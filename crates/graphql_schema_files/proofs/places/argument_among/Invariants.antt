use Rattle.std.proofs.Common.{None, take}
use Rattle.std.specs.List.{All}
use Rattle.graphql_schema_files.specs.DeclarationPlaces.{IsArgumentPlace}
use Rattle.graphql_schema_files.proofs.places.argument_among.Given as goal

-- those passed so far keep the rule
abbrev pub invariant-drafts : goal.invariant-drafts
invariant-drafts l = All (λ x. IsArgumentPlace l.rule x None) (take l.draft-index l.drafts)
