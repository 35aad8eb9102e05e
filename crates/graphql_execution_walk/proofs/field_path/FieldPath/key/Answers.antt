use Rattle.std.proofs.Common.{◌≡◌, sym, Some}
use Rattle.graphql_execution_walk.specs.FieldPaths.{own_key}
use Rattle.graphql_execution_walk.proofs.AheadLemmas.{own-Field}
use Rattle.graphql_execution_walk.proofs.field_path.FieldPath.key.Goals as goal

pub returns-in-Field : goal.returns-in-Field
returns-in-Field c =
    let own : own_key c.args.self.now ≡ Some c.in-Field.key.now =
    own-Field c.args.self.now c.in-Field.key c.in-Field.field-1 c.in-Field.field-2 c.in-Field.is in
    sym own
