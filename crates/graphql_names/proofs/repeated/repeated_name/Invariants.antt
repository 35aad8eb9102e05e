use Rattle.std.proofs.Common.{◌≡◌, ℕ, List, false, map, take}
use Rattle.std.specs.List.{list_any}
use Rattle.std.specs.Str.{bytes_eq}
use Rattle.graphql_names.specs.Names.{is_one_of, stands_twice}
use Rattle.graphql_names.proofs.repeated.repeated_name.Given as goal

-- the set has the names so far, and none of them stands twice
abbrev pub invariant-items : goal.invariant-items
invariant-items g l = record {
  once_each : (q : List ℕ) → stands_twice (map g.T.Named.name_of (take l.item-index l.items)) q ≡ false;
  seen : (q : List ℕ) → list_any (λ n. bytes_eq q n.now) l.seen.keys ≡ is_one_of (map g.T.Named.name_of (take l.item-index l.items)) q;
}
