use Rattle.std.proofs.Common.{◌≡◌, ◌≤◌, Some, option_map, sym, ap, subst, ◌∙◌}
use Rattle.std.proofs.lemmas.Option.{same_Some}
use Rattle.serde_json.specs.Data.{depth, object}
use Rattle.serde_json.specs.View.{members_view, view}
use Rattle.graphql_lines.specs.Variables.{members_of_variables}
use Rattle.graphql_stores.specs.PlainLines.{depth_of}
use Rattle.graphql_stores.specs.Stored.{members_named}
use Rattle.graphql_stores.proofs.LineOfPlain.{no-object, of-object}
use Rattle.graphql_stores.proofs.plain_lines.used_of.Goals as goal

pub returns-in-Some-clause-values : goal.returns-in-Some-clause-values
returns-in-Some-clause-values c = λ given e.
    let ms = members_view c.in-Some.members.entries in
    let is : view c.args.value ≡ object ms = of-object (view c.args.value) ms (sym c.in-Some.ensures) in
    let same : ms ≡ given = same_Some ms given (sym (ap members_of_variables is) ∙ e) in
    c.used_members.ensures.values ∙ ap (λ m. Some (members_named c.args.printed.now.used.keys m)) same

pub returns-in-Some-clause-nests : goal.returns-in-Some-clause-nests
returns-in-Some-clause-nests c =
    let ms = members_view c.in-Some.members.entries in
    let is : view c.args.value ≡ object ms = of-object (view c.args.value) ms (sym c.in-Some.ensures) in
    subst (λ d. depth_of (option_map view c.used_members.result) ≤ depth d) (sym is)
    c.used_members.ensures.nests

pub returns-in-None-clause-values : goal.returns-in-None-clause-values
returns-in-None-clause-values c = λ given e.
    no-object c.args.printed.now.used.keys (view c.args.value) given (sym c.in-None.ensures) e
