use Rattle.std.proofs.Common.{◌≡◌, sym, Some, None}
use Rattle.graphql_execution_walk.specs.FieldPaths.{own_key}
use Rattle.graphql_execution_walk.proofs.AheadLemmas.{ahead-found, ahead-none, ahead-told}
use Rattle.graphql_execution_walk.proofs.executor.Executor.look_ahead.Goals as goal

pub returns-in_default-clause-told : goal.returns-in_default-clause-told
returns-in_default-clause-told g c =
    let none : None ≡ own_key c.args.self.now.path = rw c.in_default.is at c.key.ensures in
    ahead-none c.args.self.now (sym none)

pub returns-in_default-clause-found : goal.returns-in_default-clause-found
returns-in_default-clause-found g c =
    let none : None ≡ own_key c.args.self.now.path = rw c.in_default.is at c.key.ensures in
    ahead-found c.args.self.now None (ahead-none c.args.self.now (sym none))

pub returns-clause-told : goal.returns-clause-told
returns-clause-told g c =
    let key : Some c.in-Some.key.now ≡ own_key c.args.self.now.path = rw c.in-Some.is at c.key.ensures in
    let found = c.of_key-found in
    ahead-told c.args.self.now c.in-Some.key.now found.result (sym key) found.ensures.document_field found.ensures.request

pub returns-clause-found : goal.returns-clause-found
returns-clause-found g c =
    let key : Some c.in-Some.key.now ≡ own_key c.args.self.now.path = rw c.in-Some.is at c.key.ensures in
    let found = c.of_key-found in
    ahead-found c.args.self.now (Some found.result)
    (ahead-told c.args.self.now c.in-Some.key.now found.result (sym key) found.ensures.document_field found.ensures.request)
