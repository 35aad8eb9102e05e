use Rattle.std.proofs.Common.{◌∙◌, sym, ap, ◌++◌, ◌∷◌, [], Ok, reverse, unwrap_or}
use Rattle.graphql_output_values.specs.declared.value.Value.TheVariants as value
use Rattle.graphql_semantics.specs.Outcomes.{Outcome}
use Rattle.graphql_execution_walk.specs.Asked.{map_nodes}
use Rattle.graphql_execution_walk.specs.declared.asked.Asked.TheVariants as asked
use Rattle.graphql_execution_walk.specs.Evaluations.{evaluation_at}
use Rattle.graphql_execution_walk.specs.FieldPaths.{error_at, keys_of, start_of_path}
use Rattle.graphql_execution_walk.specs.Sets.{sets_in}
use Rattle.graphql_execution_walk.proofs.BeginLemmas.{own-outcome}
use Rattle.graphql_execution_walk.proofs.completing.Executor+Context+S.resolve_into_value.Goals as goal

pub returns-in_ok-push_error-in-Err-Error-clause-value : goal.returns-in_ok-push_error-in-Err-Error-clause-value
returns-in_ok-push_error-in-Err-Error-clause-value g c =
    let place = c.args.self.now in
    let rq = place.request.now in
    let here = evaluation_at g.S.ScalarValue.of_text g.S.ScalarValue.of_bool g.S.ScalarValue.answer (g.R.GraphQLValue.root_node c.args.resolver.now) (g.R.GraphQLValue.type_of c.args.resolver.now) (g.R.GraphQLValue.answer c.args.resolver.now) c.args.self.now in
    sym (ap (λ (o : Outcome _ _). unwrap_or o.value value.Null)
    (own-outcome here (sets_in rq place.selected) place.current_type.name.now (start_of_path place.path) (reverse place.current_type.modifiers.now) (Ok (map_nodes asked.Own c.args.answer)) c.in-Err-Error.error (keys_of place.path) (rw c.in-Err-Error.field-0-is at c.in-Err-Error.ensures).0))

pub returns-in_ok-push_error-in-Err-Error-clause-told : goal.returns-in_ok-push_error-in-Err-Error-clause-told
returns-in_ok-push_error-in-Err-Error-clause-told g c =
    let place = c.args.self.now in
    let rq = place.request.now in
    let here = evaluation_at g.S.ScalarValue.of_text g.S.ScalarValue.of_bool g.S.ScalarValue.answer (g.R.GraphQLValue.root_node c.args.resolver.now) (g.R.GraphQLValue.type_of c.args.resolver.now) (g.R.GraphQLValue.answer c.args.resolver.now) c.args.self.now in
    c.in_ok-push_error-in-Err-Error.ensures.told
    ∙ ap (λ es. es ++ error_at (start_of_path place.path) place.path c.in-Err-Error.error ∷ []) (rw c.in-Err-Error.field-0-is at c.in-Err-Error.ensures).1
    ∙ sym (ap (λ (o : Outcome _ _). c.args.errors.now ++ o.failures)
    (own-outcome here (sets_in rq place.selected) place.current_type.name.now (start_of_path place.path) (reverse place.current_type.modifiers.now) (Ok (map_nodes asked.Own c.args.answer)) c.in-Err-Error.error (keys_of place.path) (rw c.in-Err-Error.field-0-is at c.in-Err-Error.ensures).0))
