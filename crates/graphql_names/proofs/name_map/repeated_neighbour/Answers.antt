use Rattle.std.proofs.Common.{◌∙◌, ap₂, sym, arith}
use Rattle.std.specs.Str.{bytes_eq}
use Rattle.graphql_names.proofs.NameMaps.{neighbours_repeat}
use Rattle.graphql_names.proofs.name_map.repeated_neighbour.Goals as goal

pub returns-then-eq : goal.returns-then-eq
returns-then-eq g c =
    let same = ap₂ bytes_eq (sym c.name.ensures) (sym c.name-name.ensures) ∙ sym c.eq.ensures ∙ c.if-eq.true in
    rw c.name-name.ensures
    (neighbours_repeat g.T.Named.name_of c.args.items.now c.loop-place.place c.index-items-place-in-loop-place.result c.index-items-place.result
    (omega arith) (omega arith) c.index-items-place-in-loop-place.is c.index-items-place.is same)
