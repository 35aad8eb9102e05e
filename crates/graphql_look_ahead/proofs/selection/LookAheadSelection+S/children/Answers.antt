use Rattle.std.proofs.Common.{◌∙◌, ◌++◌, ap, map}
use Rattle.graphql_look_ahead.specs.Told.{looked_at, with_request}
use Rattle.graphql_look_ahead.proofs.SelectionLemmas.{all-of}
use Rattle.graphql_look_ahead.proofs.selection.LookAheadSelection+S.children.Goals as goal

pub returns-clause-request : goal.returns-clause-request
returns-clause-request g c =
    let request = c.args.self.now.request.now in
    let gathered = c.in_ok-gather_selected.ensures in
    all-of request c.gather_selected.new.found gathered.0
    (gathered.2 ∙ ap (λ found. map looked_at found ++ map (with_request request) gathered.0) c.new-found.ensures)
