use Rattle.std.proofs.Common.{arith}
use Rattle.std.proofs.lemmas.Option.{slice_get_within}
use Rattle.std.proofs.lemmas.Result.{on_ok_weaker}
use Rattle.graphql_bundles.specs.Conflicts.{places}
use Rattle.graphql_bundles.proofs.CompareLemmas.{names-none, names-some}
use Rattle.graphql_bundles.proofs.Counts.{repeats-within}
use Rattle.graphql_bundles.proofs.ListLemmas.{found-at}
use Rattle.graphql_bundles.proofs.heads.compare_names.Goals as goal

pub compare_with-requires : goal.compare_with-requires
compare_with-requires g c = let h = c.in-Some.ensures in slice_get_within c.args.group.now c.in-Some.place h.0 h.1

pub returns-in-Some-clause-told : goal.returns-in-Some-clause-told
returns-in-Some-clause-told g c =
    let h = c.in-Some.ensures in
    on_ok_weaker c.compare_with.result
    (λ told fragments. names-some g.S.PartialEq.eq c.args.schema.now.types fragments c.args.group.now c.args.names.now h.0 (places c.args.told.now)
    (places c.compare_with.new.told) (found-at c.args.group.now c.in-Some.place h.0 h.1) h.2 (told fragments h.0 h.1))
    c.compare_with.ensures.told

pub returns-in-None-clause-told : goal.returns-in-None-clause-told
returns-in-None-clause-told g c =
    on_ok_weaker c.compare_parts.result
    (λ told fragments. names-none g.S.PartialEq.eq c.args.schema.now.types fragments c.args.group.now c.args.names.now (places c.args.told.now)
    (places c.compare_parts.new.told) c.requires c.in-None.ensures (told fragments))
    c.compare_parts.ensures.told

pub returns-in-None-clause-counted : goal.returns-in-None-clause-counted
returns-in-None-clause-counted g c =
    let few = repeats-within c.args.group.now c.args.names.now c.requires c.in-None.ensures in
    on_ok_weaker c.compare_parts.result (λ counted. omega (arith, counted, few)) c.compare_parts.ensures.counted
