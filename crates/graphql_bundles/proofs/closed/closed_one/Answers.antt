use Rattle.graphql_merging.specs.Tables.{pieces_of}
use Rattle.graphql_bundles.proofs.ClosedLemmas.{closed-alone}
use Rattle.graphql_bundles.proofs.closed.closed_one.Goals as goal

pub returns : goal.returns
returns g c = λ fragments.
    closed-alone (pieces_of fragments c.args.table.now) c.args.number c.in_ok-closed.closed.items (c.is_without_fragments.ensures c.if-not-is_without_fragments.false fragments)
    (c.in_ok-closed.ensures fragments)
