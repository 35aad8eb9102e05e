use Rattle.std.proofs.Common.{rules, refl, sym, ap, ◌∙◌, ◌≡◌, Some, Ok, option_map, option_and_then, string_bytes, subst}
use Rattle.serde_json.specs.Find.{as_object, as_str}
use Rattle.serde_json.specs.View.{view, members_view}
use Rattle.graphql_lines.specs.Request.{name_in, variables_in}
use Rattle.graphql_lines.specs.Variables.{IsDue, AnswersVariables}
use Rattle.graphql_lines.proofs.Members.{taken_apart}
use Rattle.graphql_lines.proofs.Requests.{refused, described}
use Rattle.graphql_lines.proofs.request.request_in.Goals as goal

pub returns-in-Ok : goal.returns-in-Ok
returns-in-Ok g c =
    let scalars = g.S.ScalarValue in
    let d = view c.args.value in
    let is_object : as_object d ≡ Some (members_view c.in-Some.members.entries) = search rules in
    let (at_query, at_name, at_variables) = taken_apart d _ _ _ _ _ _ is_object c.taken.ensures.value c.taken.ensures.others c.taken-2.ensures.value c.taken-2.ensures.others c.taken-3.ensures.value in
    let asked_query : option_and_then as_str (option_map view c.taken.result) ≡ Some (string_bytes c.in-Some-query_in.query) = search rules in
    let asked_name : name_in (option_map view c.taken-2.result) ≡ Some (option_map (λ text. string_bytes text) c.in_ok-operation_name.operation_name) = search rules in
    let told = subst (λ o. AnswersVariables scalars.of_bool scalars.of_int scalars.of_text (Ok c.in-Ok.variables) (variables_in o)) (sym at_variables) c.in-Ok.ensures in
    described scalars.of_bool scalars.of_int scalars.of_text d _ _ (ap (option_and_then as_str) at_query ∙ asked_query) (ap name_in at_name ∙ asked_name) _ refl refl told

pub returns : goal.returns
returns g c = λ known.
    let scalars = g.S.ScalarValue in
    let d = view c.args.value in
    let is_object : as_object d ≡ Some (members_view c.in-Some.members.entries) = search rules in
    let (at_query, at_name, at_variables) = taken_apart d _ _ _ _ _ _ is_object c.taken.ensures.value c.taken.ensures.others c.taken-2.ensures.value c.taken-2.ensures.others c.taken-3.ensures.value in
    let asked_query : option_and_then as_str (option_map view c.taken.result) ≡ Some (string_bytes c.in-Some-query_in.query) = search rules in
    let asked_name : name_in (option_map view c.taken-2.result) ≡ Some (option_map (λ text. string_bytes text) c.in_ok-operation_name.operation_name) = search rules in
    refused scalars.of_bool scalars.of_int scalars.of_text d _ _ (ap (option_and_then as_str) at_query ∙ asked_query) (ap name_in at_name ∙ asked_name) c.in-Err.refusal
    (subst (λ o. IsDue scalars.of_bool scalars.of_int scalars.of_text (λ ms. ms) (variables_in o) c.in-Err.refusal) (sym at_variables) (c.in-Err.ensures known))
