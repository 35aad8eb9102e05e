-- A spread in a fragment that its target reaches or is (GraphQL October 2021, 5.5.2.2 Fragment
-- Spreads Must Not Form Cycles).
use Rattle.std.specs.Prelude.{List, [], ◌∷◌}
use Rattle.std.specs.List.{flat_map}
use Rattle.graphql_names.specs.Names.{is_one_of}
use Rattle.graphql_rules_document.specs.Reached.{reached}
use Rattle.graphql_rules_document.specs.Scopes.{FragmentScope, Spread}
use Rattle.graphql_rule_errors.specs.Places.{Places, error_if}

abbrev pub cycle_at : List FragmentScope → FragmentScope → Spread → Places
cycle_at fragments f s = error_if (is_one_of (reached fragments (s ∷ [])) f.name) (s.place ∷ [])

abbrev pub cycles_in : List FragmentScope → FragmentScope → Places
cycles_in fragments f = flat_map (cycle_at fragments f) f.spreads

-- each spread by which a fragment reaches itself
abbrev pub no_fragment_cycles_faults : List FragmentScope → Places
no_fragment_cycles_faults fragments = flat_map (cycles_in fragments) fragments
