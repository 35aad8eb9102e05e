use Rattle.std.proofs.Common.{None}
use Rattle.graphql_collected.specs.Requests.{drops_in, fragments_in}
use Rattle.graphql_look_ahead.specs.Told.{selected, document_field}
use Rattle.graphql_look_ahead.proofs.ChildrenLemmas.{children-exist}
use Rattle.graphql_look_ahead.proofs.selection.LookAheadSelection+S.child.Goals as goal

pub returns-clause-children : goal.returns-clause-children
returns-clause-children g c =
    let request = c.args.self.now.request.now in
    children-exist (drops_in g.S.ScalarValue.answer request) (fragments_in request) c.requires None (selected (document_field c.args.self.now))
