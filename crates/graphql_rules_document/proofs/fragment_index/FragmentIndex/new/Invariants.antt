use Rattle.std.proofs.Common.{◌≡◌, ℕ, List, take}
use Rattle.std.specs.HashMap.{get_by}
use Rattle.std.specs.Str.{bytes_eq}
use Rattle.graphql_rules_document.specs.Named.{earlier_places, fragment_names, last_place}
use Rattle.graphql_rules_document.proofs.fragment_index.FragmentIndex.new.Given as goal

-- the index of the fragments so far
abbrev pub invariant-fragments : goal.invariant-fragments
invariant-fragments l = record {
  lasts : (name : List ℕ) → get_by (λ k. bytes_eq name k.now) l.last ≡ last_place (fragment_names (take l.place l.fragments)) name;
  earliers : l.earlier ≡ earlier_places (fragment_names (take l.place l.fragments));
}
