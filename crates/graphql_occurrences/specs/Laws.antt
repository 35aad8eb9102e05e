-- Laws of the definitions.
use Rattle.std.specs.Prelude.{◌≡◌, List, map}
use Rattle.graphql_tree.specs.Unlocated.{unlocated_document}
use Rattle.graphql_tree.specs.declared.document.Definition.{Definition}
use Rattle.graphql_occurrences.specs.DeclaredLookups.{Declarations}
use Rattle.graphql_occurrences.specs.Occurrences.{occurrences}
use Rattle.graphql_occurrences.specs.Unlocated.{unlocated_part}

-- the occurrences of a document without its places are those of the document, each without its
-- places
abbrev pub OccurrencesAreUnlocated : Type 0 → Type 0 → Type 0
OccurrencesAreUnlocated S C =
    (schema : Declarations S C) (document : List (Definition S))
    → occurrences schema (unlocated_document document)
    ≡ map unlocated_part (occurrences schema document)
