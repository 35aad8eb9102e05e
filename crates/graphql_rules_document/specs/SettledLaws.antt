-- Fragments of a document are written out by as many levels as there are fragments (GraphQL October
-- 2021, 5.5.2.2 Fragment Spreads Must Not Form Cycles).
use Rattle.std.specs.Prelude.{List, length, map}
use Rattle.graphql_names.specs.Names.{Bytes}
use Rattle.graphql_tree.specs.declared.document.Definition.{Definition}
use Rattle.graphql_tree.specs.Definitions.{fragments_of}
use Rattle.graphql_schema.specs.Declarations.{Declarations}
use Rattle.graphql_occurrences.specs.Occurrences.{occurrences}
use Rattle.graphql_rules_document.specs.AllRules.{fragment_scopes}
use Rattle.graphql_rules_document.specs.Ends.{EndsWithin}
use Rattle.graphql_written_out.specs.Written.{Settled}
use Rattle.graphql_rules_document.specs.Counted.{AreKnown}

-- where fields are declared, conditions known, and what is spread ends
abbrev pub EndingFragmentsAreSettled : {S C : Type 0} → Declarations S C → Type 0
EndingFragmentsAreSettled {S} schema =
    (document : List (Definition S)) → AreKnown schema (occurrences schema document)
    → ((name : Bytes)
    → EndsWithin (fragment_scopes schema document)
    (length (fragment_scopes schema document)) name)
    → Settled (map (λ f. f.item) (fragments_of document))
