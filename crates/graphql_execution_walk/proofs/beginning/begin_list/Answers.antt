use Rattle.std.proofs.Common.{refl, sym, ◌∙◌, ap, ◌≡◌, ◌+◌, [], map, reverse, Some}
use Rattle.std.specs.List.{sum}
use Rattle.graphql_names.specs.declared.type_modifier.TypeModifier.TheVariants as modifier
use Rattle.graphql_output_values.specs.declared.value.Value.TheVariants as value
use Rattle.graphql_field_results.specs.declared.resolved.Resolved.TheVariants as resolved
use Rattle.graphql_semantics.specs.Completion.{blame_at}
use Rattle.graphql_semantics.specs.Evaluation.{evaluate}
use Rattle.graphql_semantics.specs.Outcomes.{together}
use Rattle.graphql_execution_walk.specs.Completed.{completed_item}
use Rattle.graphql_execution_walk.specs.Evaluations.{evaluation_at}
use Rattle.graphql_execution_walk.specs.Frames.{more}
use Rattle.graphql_execution_walk.specs.FrameTurns.{answer_turns}
use Rattle.graphql_execution_walk.specs.Sets.{kept_sets, sets_in}
use Rattle.graphql_execution_walk.proofs.FrameLemmas.{more-begins, outer-wraps}
use Rattle.graphql_execution_walk.proofs.beginning.begin_list.Goals as goal

pub returns-in_ok-selected-in-List : goal.returns-in_ok-selected-in-List
returns-in_ok-selected-in-List g c =
    let rq = c.args.executor.now.request.now in
    let here = evaluation_at g.S.ScalarValue.of_text g.S.ScalarValue.of_bool g.S.ScalarValue.answer (g.R.GraphQLValue.root_node c.args.resolver.now) (g.R.GraphQLValue.type_of c.args.resolver.now) (g.R.GraphQLValue.answer c.args.resolver.now) c.args.executor.now in
    let ts = sets_in rq c.args.spot.now.selected in
    let name = c.args.spot.now.name.now in
    let wraps = reverse c.args.wraps.now in
    let items = c.in-List.items in
    let kept = c.in_ok-selected-in-List.selected in
    let same : kept_sets here.fragments kept ≡ ts = c.in_ok-selected-in-List.ensures here.fragments in
    let around = outer-wraps c.args.whole.now c.args.wraps.now (modifier.List c.requires.0) c.requires.1 in
    let counted : sum (map (λ x. 1 + answer_turns here.engine (kept_sets here.fragments kept) c.copied.result wraps x) (reverse c.in_ok-items-in-List.items))
    ≡ sum (map (λ x. 1 + answer_turns here.engine ts name wraps x) items) =
    λ i. sum (map (λ x. 1 + answer_turns here.engine (same i) (c.copied.ensures i) wraps x) (c.in_ok-items-in-List.ensures i)) in
    record {
      own = rw (around, c.in-List.is, resolved.outs-List) refl;
      gives = λ path.
          let blame = blame_at path c.args.spot.now.location in
          let f = completed_item here.engine (λ m. evaluate here.engine path (here.engine.concrete m) m ts) blame name wraps in
          let made : more value.List (Some []) (map f items)
          ≡ more value.List (Some c.new-in-List.result) (map (completed_item here.engine (λ m. evaluate here.engine path (here.engine.concrete m) m (kept_sets here.fragments kept)) blame c.copied.result wraps) (reverse c.in_ok-items-in-List.items)) =
          λ i. more value.List (Some (sym c.new-in-List.ensures i))
          (map (completed_item here.engine (λ m. evaluate here.engine path (here.engine.concrete m) m (sym same i)) blame (sym c.copied.ensures i) wraps) (sym c.in_ok-items-in-List.ensures i)) in
          rw (around, c.in-List.is, resolved.outs-List) (more-begins value.List (together (map f items)) (map f items) refl ∙ made);
      turns = rw (around, c.in-List.is, resolved.outs-List) (ap (λ n. 2 + n) counted);
      fine = rw c.new-in-List-2.ensures (λ object. tt);
      known = tt;
    }
