use Rattle.std.proofs.lemmas.Result.{on_ok_weaker}
use Rattle.graphql_values.proofs.SameValueLaws.{same_as_itself}
use Rattle.graphql_merging.specs.Tables.{pieces_of}
use Rattle.graphql_bundles.specs.Going.{stage_of}
use Rattle.graphql_bundles.proofs.LoneLemmas.{lone-passed}
use Rattle.graphql_bundles.proofs.parts.pass_lone.Goals as goal

pub returns : goal.returns
returns g c =
    on_ok_weaker c.begin_sets.result
    (λ goes fragments types.
    lone-passed g.S.PartialEq.eq types fragments c.args.field.now (pieces_of fragments c.args.table.now) c.args.around
    (same_as_itself g.S.PartialEq.eq g.met.S.Eq.laws) (stage_of c.args.progress.now) (stage_of c.begin_sets.new.progress) (goes fragments))
    c.begin_sets.ensures
