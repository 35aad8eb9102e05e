use Rattle.graphql_collect.specs.Grouped.{all_found}
use Rattle.graphql_collected.specs.Requests.{fragments_in}
use Rattle.graphql_mutation.proofs.groups.groups_of_root.Goals as goal

pub returns : goal.returns
returns g c =
    let fr = fragments_in c.args.root.now.request.now in
    record {
      found = all_found fr c.in_ok-found.found;
      groups = (rw c.as_slice.ensures at c.in_ok-groups.ensures) fr;
      repeats = c.in_ok-found.ensures;
    }
