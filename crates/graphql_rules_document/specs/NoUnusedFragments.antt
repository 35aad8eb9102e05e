-- A fragment that no operation reaches (GraphQL October 2021, 5.5.1.4 Fragments Must Be Used).
use Rattle.std.specs.Prelude.{List, [], ◌∷◌, not}
use Rattle.std.specs.List.{flat_map}
use Rattle.graphql_names.specs.Names.{Bytes, is_one_of}
use Rattle.graphql_rules_document.specs.Reached.{reached}
use Rattle.graphql_rules_document.specs.Scopes.{FragmentScope, OperationScope}
use Rattle.graphql_rule_errors.specs.Places.{Places, error_if}

-- the place of a fragment that is none of these names
abbrev pub unused_fragment : List Bytes → FragmentScope → Places
unused_fragment names f = error_if (not (is_one_of names f.name)) (f.place ∷ [])

-- each fragment that no operation reaches
abbrev pub no_unused_fragments_faults : {S : Type 0} → List (OperationScope S) → List FragmentScope
    → Places
no_unused_fragments_faults operations fragments =
    flat_map (unused_fragment (reached fragments (flat_map (λ o. o.spreads) operations))) fragments
