use Rattle.std.proofs.Common.{◌≡◌, sym, ◌∙◌, ap, subst, Some, true, is_some}
use Rattle.graphql_execution_walk.specs.Evaluations.{evaluation_at}
use Rattle.graphql_execution_walk.specs.FieldDeclarations.{is_possible_named}
use Rattle.graphql_execution_walk.specs.Spots.{MayStand, known_in_list}
use Rattle.graphql_execution_walk.proofs.EngineParts.{engine-concrete, engine-is_possible}
use Rattle.graphql_execution_walk.proofs.SpotLemmas.{collected-stands, listed-stands}
use Rattle.graphql_execution_walk.proofs.beginning.selected_there.Goals as goal

-- the list knows the node's object type
pub returns-in-Some : goal.returns-in-Some
returns-in-Some g c =
    let rq = c.args.executor.now.request.now in
    let ty = g.R.GraphQLValue.type_of c.args.resolver.now c.args.executor.now.context.now in
    let an = g.R.GraphQLValue.answer c.args.resolver.now c.args.executor.now.context.now in
    let here = evaluation_at g.S.ScalarValue.of_text g.S.ScalarValue.of_bool g.S.ScalarValue.answer (g.R.GraphQLValue.root_node c.args.resolver.now) (g.R.GraphQLValue.type_of c.args.resolver.now) (g.R.GraphQLValue.answer c.args.resolver.now) c.args.executor.now in
    let spot = c.args.spot.now in
    let k = c.in-Some.known.now in
    let object = c.asked_type_name-object.result.now in
    let found : known_in_list spot.known object ≡ Some k = sym (rw c.in-Some.is at c.known_by.ensures) in
    let same : object ≡ here.engine.concrete c.args.node.now = c.asked_type_name-object.ensures ∙ sym (ap (λ h. h c.args.node.now) (engine-concrete g.S.ScalarValue.of_text g.S.ScalarValue.of_bool g.S.ScalarValue.answer rq ty an)) in
    rw c.in_ok-known_again.ensures
    (subst (λ o. MayStand here spot o (Some k)) same (listed-stands here rq spot object k c.requires.spot found))

-- it is collected
pub returns-in_ok-collected_there-in-Some-possible_name : goal.returns-in_ok-collected_there-in-Some-possible_name
returns-in_ok-collected_there-in-Some-possible_name g c =
    let rq = c.args.executor.now.request.now in
    let ty = g.R.GraphQLValue.type_of c.args.resolver.now c.args.executor.now.context.now in
    let an = g.R.GraphQLValue.answer c.args.resolver.now c.args.executor.now.context.now in
    let here = evaluation_at g.S.ScalarValue.of_text g.S.ScalarValue.of_bool g.S.ScalarValue.answer (g.R.GraphQLValue.root_node c.args.resolver.now) (g.R.GraphQLValue.type_of c.args.resolver.now) (g.R.GraphQLValue.answer c.args.resolver.now) c.args.executor.now in
    let spot = c.args.spot.now in
    let name = spot.name.now in
    let node = c.args.node.now in
    let object = c.in-Some-possible_name.object.now in
    let named : object ≡ c.asked_type_name-object.result.now = rw c.in-Some-possible_name.is at c.possible_name.ensures.name in
    let same : object ≡ here.engine.concrete node = named ∙ c.asked_type_name-object.ensures ∙ sym (ap (λ h. h node) (engine-concrete g.S.ScalarValue.of_text g.S.ScalarValue.of_bool g.S.ScalarValue.answer rq ty an)) in
    let possible : here.engine.is_possible name object ≡ true =
    (λ i. engine-is_possible g.S.ScalarValue.of_text g.S.ScalarValue.of_bool g.S.ScalarValue.answer rq ty an i name object)
    ∙ (λ i. is_possible_named rq.schema.now.types (sym c.as_str.ensures i) (named i)) ∙ sym c.possible_name.ensures.possible ∙ ap is_some c.in-Some-possible_name.is in
    subst (λ o. MayStand here spot o (Some c.in_ok-collected_there-in-Some-possible_name.field-0)) same
    (collected-stands g.S.ScalarValue.of_text g.S.ScalarValue.of_bool g.S.ScalarValue.answer rq (g.R.GraphQLValue.root_node c.args.resolver.now) ty an spot object c.in_ok-collected_there-in-Some-possible_name.field-0 possible c.in_ok-collected_there-in-Some-possible_name.ensures)

-- the node cannot stand there
pub returns-in-None : goal.returns-in-None
returns-in-None g c =
    let rq = c.args.executor.now.request.now in
    let ty = g.R.GraphQLValue.type_of c.args.resolver.now c.args.executor.now.context.now in
    let an = g.R.GraphQLValue.answer c.args.resolver.now c.args.executor.now.context.now in
    let node = c.args.node.now in
    (λ i. engine-is_possible g.S.ScalarValue.of_text g.S.ScalarValue.of_bool g.S.ScalarValue.answer rq ty an i c.args.spot.now.name.now (engine-concrete g.S.ScalarValue.of_text g.S.ScalarValue.of_bool g.S.ScalarValue.answer rq ty an i node))
    ∙ (λ i. is_possible_named rq.schema.now.types (sym c.as_str.ensures i) (sym c.asked_type_name-object.ensures i)) ∙ sym c.possible_name.ensures.possible ∙ ap is_some c.in-None.is
