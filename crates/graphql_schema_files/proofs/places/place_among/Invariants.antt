use Rattle.std.proofs.Common.{None, take}
use Rattle.std.specs.List.{All}
use Rattle.graphql_schema_files.specs.DeclarationPlaces.{IsTypePlace}
use Rattle.graphql_schema_files.proofs.places.place_among.Given as goal

-- those passed so far keep the rule
abbrev pub invariant-drafts : goal.invariant-drafts
invariant-drafts l = All (λ x. IsTypePlace l.rule x None) (take l.draft-index l.drafts)
