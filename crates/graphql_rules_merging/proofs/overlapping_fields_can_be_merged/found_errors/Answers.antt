use Rattle.std.proofs.Common.{subst, inl, inr, ap}
use Rattle.graphql_merging.specs.Tables.{pieces_of}
use Rattle.std.proofs.lemmas.Result.{IfOk-weaker}
use Rattle.graphql_bundles.specs.Conflicts.{places}
use Rattle.graphql_bundles.specs.Ends.{AllGoneThrough}
use Rattle.graphql_rules_merging.proofs.StandingAlone.{table-alone}
use Rattle.graphql_rules_merging.proofs.overlapping_fields_can_be_merged.found_errors.Goals as goal

pub returns-in-Told-clause-found : goal.returns-in-Told-clause-found
returns-in-Told-clause-found g c = λ fragments.
    let t = pieces_of {C = g.row.C.Denot} fragments c.args.table.now in
    inl (subst (AllGoneThrough t g.S.PartialEq.eq c.args.schema.now.types c.args.definitions) c.in-Told.is (c.in_ok-told.ensures.ends fragments))

pub returns-then-all_stand_alone-clause-found : goal.returns-then-all_stand_alone-clause-found
returns-then-all_stand_alone-clause-found g c = λ fragments.
    inr (inr (table-alone fragments c.args.table.now (c.all_stand_alone.ensures c.if-all_stand_alone.true), ap places c.new.ensures))

pub returns-in-Undecided-clause-found : goal.returns-in-Undecided-clause-found
returns-in-Undecided-clause-found g c =
    IfOk-weaker c.merge_errors.result _ _ (λ found pairs fragments. inr (inl (pairs fragments))) c.merge_errors.ensures.finished
