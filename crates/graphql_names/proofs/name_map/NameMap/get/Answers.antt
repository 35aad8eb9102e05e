use Rattle.std.proofs.Common.{subst, sym}
use Rattle.graphql_names.specs.Names.{IsByName}
use Rattle.graphql_names.proofs.NameMaps.{found_at, absent_at}
use Rattle.graphql_names.proofs.name_map.NameMap.get.Goals as goal

pub returns-in-Ok : goal.returns-in-Ok
returns-in-Ok g c =
    let ordered = subst (IsByName g.T.Named.name_of) c.self.view_is c.self.invariant in
    rw (c.get.ensures.value, c.self.view_is) (found_at g.T.Named.name_of c.args.self.now c.args.name.now c.in-Ok.place ordered c.in-Ok.ensures.bound c.in-Ok.ensures.place)

pub returns-in-Err : goal.returns-in-Err
returns-in-Err g c =
    let ordered = subst (IsByName g.T.Named.name_of) c.self.view_is c.self.invariant in
    sym (absent_at g.T.Named.name_of c.args.self.now c.args.name.now c.in-Err.field-0 ordered c.in-Err.ensures.place)
