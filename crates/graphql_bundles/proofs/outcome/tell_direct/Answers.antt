use Rattle.std.proofs.Common.{◌+◌, ◌*◌, ◌≤◌, subst}
use Rattle.std.proofs.lemmas.Result.{on_ok_weaker}
use Rattle.graphql_bundles.specs.Conflicts.{places}
use Rattle.graphql_merging.specs.Tables.{pieces_of}
use Rattle.graphql_bundles.specs.Counted.{fields_of_sets}
use Rattle.graphql_bundles.specs.Direct.{TellsDirects}
use Rattle.graphql_bundles.proofs.Counts.{direct-within}
use Rattle.graphql_bundles.proofs.EndLemmas.{visited-told}
use Rattle.graphql_bundles.proofs.outcome.tell_direct.Goals as goal

pub returns-clause-told : goal.returns-clause-told
returns-clause-told g c =
    on_ok_weaker c.direct_sets.result
    (λ told fragments.
    let eq = g.S.PartialEq.eq in
    let types = c.args.schema.now.types in
    let t = pieces_of {C = g.row.C.Denot} fragments c.args.table.now in
    visited-told eq types t c.args.definitions c.in_ok-sets.sets.keys (places c.args.told.now) (places c.direct_sets.new.told) (c.in_ok-sets.ensures fragments)
    (subst (λ ns. TellsDirects eq types t ns (places c.args.told.now) (places c.direct_sets.new.told)) c.as_slice.ensures.keys (told fragments)))
    c.direct_sets.ensures.told

pub returns-clause-counted : goal.returns-clause-counted
returns-clause-counted g c =
    on_ok_weaker c.direct_sets.result
    (λ counted.
    direct-within c.args.table.now c.in_ok-sets.sets.keys c.args.comparisons.now c.direct_sets.new.comparisons c.as_slice.ensures.unique
    (subst (λ ns. c.direct_sets.new.comparisons ≤ c.args.comparisons.now + fields_of_sets c.args.table.now ns * fields_of_sets c.args.table.now ns)
    c.as_slice.ensures.keys counted))
    c.direct_sets.ensures.counted
