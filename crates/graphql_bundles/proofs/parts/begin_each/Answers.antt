use Rattle.std.proofs.Common.{subst, take_all}
use Rattle.graphql_merging.specs.Tables.{pieces_of}
use Rattle.graphql_bundles.specs.Bundles.{of_object}
use Rattle.graphql_bundles.specs.Going.{HoldsPart, stage_of}
use Rattle.graphql_bundles.specs.Steps.{Goes}
use Rattle.graphql_bundles.specs.Groups.{group_of}
use Rattle.graphql_bundles.proofs.GoesLemmas.{EachBegun, MayEach, PartBegun, each-none, each-more}
use Rattle.graphql_bundles.proofs.parts.begin_each.Goals as goal

pub loop-name-init : goal.loop-name-init
loop-name-init g c = λ fragments. each-none (pieces_of fragments c.args.table.now) fragments c.args.group.now c.args.names.now (stage_of c.args.progress.now)

pub loop-name-preserved : goal.loop-name-preserved
loop-name-preserved g c = λ fragments.
    let t = pieces_of fragments c.args.table.now in
    each-more t fragments c.args.group.now c.args.names.now c.loop-name.name-index c.name-item.result (stage_of c.args.progress.now) (stage_of c.loop-name.progress)
    (stage_of c.begin_part.new.progress) c.loop-name-test.true c.name-item.is (c.loop-name.invariant fragments)
    (subst (λ n. Goes (λ e. ⊥) (HoldsPart t (group_of fragments c.args.group.now) (of_object n)) (PartBegun t fragments c.args.group.now (of_object n)) (stage_of c.loop-name.progress)
    (stage_of c.begin_part.new.progress)) c.as_str.ensures (c.in_ok-begin_part.ensures fragments))

pub returns : goal.returns
returns g c = λ fragments.
    let t = pieces_of fragments c.args.table.now in
    subst (λ ns. Goes (λ e. ⊥) (MayEach t fragments c.args.group.now c.args.names.now) (EachBegun t fragments c.args.group.now ns) (stage_of c.args.progress.now)
    (stage_of c.loop-name.progress)) (take_all c.loop-name.name-index c.args.names.now c.loop-name-test.false) (c.loop-name.invariant fragments)
