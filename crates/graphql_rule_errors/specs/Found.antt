-- Items in maps, found by their names.
use Rattle.std.specs.Prelude.{Option}
use Rattle.std.specs.Borrow.{Bor}
use Rattle.std.specs.HashMap.{HashMap, get_by}
use Rattle.std.specs.Option.{option_map}
use Rattle.std.specs.Str.{bytes_eq}
use Rattle.graphql_names.specs.Names.{Bytes}

-- the item at a name
abbrev pub item_named : {A S : Type 0} → HashMap (Bor Bytes) (Bor A) S → Bytes → Option A
item_named map name = option_map (λ a. a.now) (get_by (λ k. bytes_eq name k.now) map)
