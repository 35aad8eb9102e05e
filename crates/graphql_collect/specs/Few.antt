-- Lists that nearly always have one item.
use Rattle.std.specs.Prelude.{List, []}
use Rattle.graphql_collect.specs.declared.few.Held.{Held}
use Rattle.graphql_collect.specs.declared.few.Held.TheVariants.{Empty, One, More}

-- the items of a list, wherever they stand
abbrev pub held_items : {T : Type 0} → Held T → List T
held_items Empty = []
held_items (One one) = one
held_items (More more) = more
