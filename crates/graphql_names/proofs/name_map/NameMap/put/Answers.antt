use Rattle.std.proofs.Common.{rules}
use Rattle.graphql_names.proofs.NameMaps.{put_over, put_between, new_name}
use Rattle.graphql_names.proofs.name_map.NameMap.put.Goals as goal

pub invariant_of-self : goal.invariant_of-self
invariant_of-self g c =
    (put_over g.T.Named.name_of c.self.inside.items c.args.self.now c.self.view_is c.name.result.now c.args.item c.name.ensures c.in-Ok.place c.self.invariant
    c.in-Ok.ensures.bound c.in-Ok.ensures.place).0

pub returns-in-Ok-clause-ok : goal.returns-in-Ok-clause-ok
returns-in-Ok-clause-ok g c =
    (put_over g.T.Named.name_of c.self.inside.items c.args.self.now c.self.view_is c.name.result.now c.args.item c.name.ensures c.in-Ok.place c.self.invariant
    c.in-Ok.ensures.bound c.in-Ok.ensures.place).1

pub invariant_of-self-in-Err : goal.invariant_of-self-in-Err
invariant_of-self-in-Err g c =
    (put_between g.T.Named.name_of c.self.inside.items c.args.self.now c.self.view_is c.name.result.now c.args.item c.name.ensures c.in-Err.place c.self.invariant
    c.insert.new.self c.in_ok-insert-in-Err.ensures.ok c.in-Err.ensures.bound c.in-Err.ensures.place).0

pub returns-in_ok-insert-in-Err-clause-ok : goal.returns-in_ok-insert-in-Err-clause-ok
returns-in_ok-insert-in-Err-clause-ok g c =
    (put_between g.T.Named.name_of c.self.inside.items c.args.self.now c.self.view_is c.name.result.now c.args.item c.name.ensures c.in-Err.place c.self.invariant
    c.insert.new.self c.in_ok-insert-in-Err.ensures.ok c.in-Err.ensures.bound c.in-Err.ensures.place).1

pub returns-in_err-insert-in-Err-clause-err_new : goal.returns-in_err-insert-in-Err-clause-err_new
returns-in_err-insert-in-Err-clause-err_new g c =
    let new = new_name g.T.Named.name_of c.self.inside.items c.args.self.now c.self.view_is c.name.result.now c.args.item c.name.ensures c.in-Err.place c.self.invariant c.in-Err.ensures.place in
    search rules
