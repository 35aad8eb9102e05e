use Rattle.std.proofs.Common.{refl, sym, ◌∙◌, ap, ◌≡◌, Some, true, false}
use Rattle.graphql_field_results.specs.declared.resolved.Resolved.TheVariants as resolved
use Rattle.graphql_execution_walk.specs.Engines.{engine_of}
use Rattle.graphql_execution_walk.proofs.EngineParts.{engine-is_leaf}
use Rattle.graphql_execution_walk.proofs.beginning.begin_named.Goals as goal

pub returns-then-is_leaf_there : goal.returns-then-is_leaf_there
returns-then-is_leaf_there g c =
    let rq = c.args.executor.now.request.now in
    let ty = g.R.GraphQLValue.type_of c.args.resolver.now c.args.executor.now.context.now in
    let an = g.R.GraphQLValue.answer c.args.resolver.now c.args.executor.now.context.now in
    let e = engine_of g.S.ScalarValue.of_text g.S.ScalarValue.of_bool g.S.ScalarValue.answer rq ty an in
    let name = c.args.spot.now.name.now in
    let leaf : e.is_leaf name ≡ true = ap (λ f. f name) (engine-is_leaf g.S.ScalarValue.of_text g.S.ScalarValue.of_bool g.S.ScalarValue.answer rq ty an) ∙ sym c.is_leaf_there.ensures ∙ c.if-is_leaf_there.true in
    record {
      own = rw (c.in-Scalar.is, resolved.outs-Scalar, leaf) refl;
      gives = λ path. rw (c.in-Scalar.is, resolved.outs-Scalar, leaf) refl;
      turns = rw (c.in-Scalar.is, resolved.outs-Scalar) refl;
      fine = tt;
      known = tt;
    }

pub returns-in_ok-misfit-in-Scalar : goal.returns-in_ok-misfit-in-Scalar
returns-in_ok-misfit-in-Scalar g c =
    let rq = c.args.executor.now.request.now in
    let ty = g.R.GraphQLValue.type_of c.args.resolver.now c.args.executor.now.context.now in
    let an = g.R.GraphQLValue.answer c.args.resolver.now c.args.executor.now.context.now in
    let e = engine_of g.S.ScalarValue.of_text g.S.ScalarValue.of_bool g.S.ScalarValue.answer rq ty an in
    let name = c.args.spot.now.name.now in
    let leaf : e.is_leaf name ≡ false = ap (λ f. f name) (engine-is_leaf g.S.ScalarValue.of_text g.S.ScalarValue.of_bool g.S.ScalarValue.answer rq ty an) ∙ sym c.is_leaf_there.ensures ∙ c.if-is_leaf_there.false in
    rw (c.in-Scalar.is, resolved.outs-Scalar, leaf) (ap Some (sym (rw c.as_str-name.ensures at c.in_ok-misfit-in-Scalar.ensures)))
