use Rattle.std.proofs.Common.{refl, sym, subst, ◌∙◌, ap, ◌≡◌, ◌+◌, [], Some, false}
use Rattle.graphql_semantics.specs.Completion.{object_members}
use Rattle.graphql_semantics.specs.Evaluation.{evaluate}
use Rattle.graphql_semantics.specs.Outcomes.{outcome_map}
use Rattle.graphql_semantics.specs.Turns.{all_turns}
use Rattle.graphql_field_results.specs.declared.resolved.Resolved.TheVariants as resolved
use Rattle.graphql_execution_walk.specs.Engines.{engine_of}
use Rattle.graphql_execution_walk.specs.Evaluations.{evaluation_at}
use Rattle.graphql_execution_walk.specs.Frames.{groups_left, more}
use Rattle.graphql_execution_walk.specs.KnownTypes.{IsKnown}
use Rattle.graphql_execution_walk.specs.Sets.{sets_in}
use Rattle.graphql_execution_walk.specs.Spots.{MayStand}
use Rattle.graphql_execution_walk.proofs.FrameLemmas.{distinct-begins, object-begins}
use Rattle.graphql_execution_walk.proofs.KeyLemmas.{groups-keyed}
use Rattle.graphql_execution_walk.proofs.TurnLemmas.{groups-begin}
use Rattle.graphql_execution_walk.proofs.beginning.begin_node.Goals as goal

pub returns-in_default : goal.returns-in_default
returns-in_default g c =
    let rq = c.args.executor.now.request.now in
    let ty = g.R.GraphQLValue.type_of c.args.resolver.now c.args.executor.now.context.now in
    let an = g.R.GraphQLValue.answer c.args.resolver.now c.args.executor.now.context.now in
    let e = engine_of g.S.ScalarValue.of_text g.S.ScalarValue.of_bool g.S.ScalarValue.answer rq ty an in
    let name = c.args.spot.now.name.now in
    let never : e.is_possible name (e.concrete c.args.node) ≡ false = rw c.in_default.is at c.in_ok-known.ensures in
    rw (resolved.outs-Node, never) (ap Some (sym (rw c.as_str.ensures at c.in_ok-misfit.ensures)))

pub returns : goal.returns
returns g c =
    let rq = c.args.executor.now.request.now in
    let here = evaluation_at g.S.ScalarValue.of_text g.S.ScalarValue.of_bool g.S.ScalarValue.answer (g.R.GraphQLValue.root_node c.args.resolver.now) (g.R.GraphQLValue.type_of c.args.resolver.now) (g.R.GraphQLValue.answer c.args.resolver.now) c.args.executor.now in
    let ts = sets_in rq c.args.spot.now.selected in
    let name = c.args.spot.now.name.now in
    let node = c.args.node in
    let k = c.in-Some.known in
    let stands : MayStand here c.args.spot.now (here.engine.concrete node) (Some k) = rw c.in-Some.is at c.in_ok-known.ensures in
    let same : here.engine.concrete node ≡ k.object = sym stands.0 in
    let is : IsKnown here name ts k.object k = subst (λ o. IsKnown here name ts o k) same stands.1 in
    let are = is.groups in
    record {
      own = rw (resolved.outs-Node, stands.1.possible) refl;
      gives = λ path.
          let made : more object_members (Some []) (groups_left here path k.object node k.groups) ≡ more object_members (Some c.new.result) (groups_left here path k.object node k.groups) =
          λ i. more object_members (Some (sym c.new.ensures i)) (groups_left here path k.object node k.groups) in
          rw (resolved.outs-Node, stands.1.possible)
          (ap (λ o. outcome_map object_members (evaluate here.engine path o node ts)) same ∙ object-begins here path k.object node ts are.found k.groups are.groups are.repeats ∙ made);
      turns = rw (resolved.outs-Node, stands.1.possible)
          (ap (λ n. 2 + n) (groups-begin here k.object node ts are.found k.groups are.groups are.repeats ∙ ap (λ o. all_turns here.engine o node ts) (sym same)));
      fine = rw c.new.ensures (sym same, groups-keyed here.fragments are.found k.groups are.groups, distinct-begins here.fragments are.found k.groups are.groups, is.prepared);
      known = record { possible = is.possible; groups = is.groups; prepared = is.prepared };
    }
