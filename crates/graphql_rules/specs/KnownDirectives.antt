-- A directive that is unknown, or may not stand where it does (GraphQL October 2021, 5.7.1
-- Directives Are Defined, 5.7.2 Directives Are In Valid Locations).
use Rattle.std.specs.Prelude.{[], ◌∷◌, not}
use Rattle.graphql_names.specs.Names.{passes}
use Rattle.graphql_occurrences.specs.Parts.{ADirective, DirectivePart}
use Rattle.graphql_rule_errors.specs.Places.{Places, error_if}
use Rattle.graphql_schema.specs.Directives.{is_place}
use Rattle.graphql_visitors.specs.Rules.{Rule}

abbrev pub misplaced : {S : Type 0} → DirectivePart S → Places
misplaced d =
    error_if (not (passes (λ k. is_place k.locations d.location) d.declared)) (d.place ∷ [])

-- each directive that is unknown, or stands at a location that is not its own
abbrev pub known_directives_faults : {S C : Type 0} → Rule S C
known_directives_faults subject (ADirective d) = misplaced d
known_directives_faults subject _ = []
