use Rattle.std.proofs.Common.{rules, ◌≡◌, ◌∙◌, ◌++◌, Some, None, refl, ap}
use Rattle.serde_json.specs.View.{view, members_view}
use Rattle.serde_json.proofs.Views.{Entry}
use Rattle.graphql_lines.specs.Variables.{input_of, fields_of}
use Rattle.graphql_lines.proofs.Named.{one_more, fails}
use Rattle.graphql_lines.proofs.variables.values_by_name.Goals as goal

pub members-preserved : goal.members-preserved
members-preserved g c =
    let scalars = g.S.ScalarValue in
    let value = c.in-Some-2.value in
    let e : Entry = (c.in-Some.key, c.in-Some.member) in
    let means : input_of scalars.of_bool scalars.of_int scalars.of_text (view c.in-Some.member) ≡ Some value = search rules in
    one_more scalars.of_bool scalars.of_int scalars.of_text c.args.members.entries c.members.key-iterator c.next.new.self e c.in-Some.key value c.members.variables c.set.new.variables
    c.into_iter-key-iterator.ensures.into_iter_gives.5 c.in-Some.ensures.steps means refl c.in_ok-set-in-Some-2.ensures c.members.invariant

pub returns-in-None-2 : goal.returns-in-None-2
returns-in-None-2 g c = λ told.
    let scalars = g.S.ScalarValue in
    let e : Entry = (c.in-Some.key, c.in-Some.member) in
    let fails_here : input_of scalars.of_bool scalars.of_int scalars.of_text (view c.in-Some.member) ≡ None = search rules in
    let split = c.members.invariant.is ∙ ap (λ es. c.members.invariant.done ++ es) c.in-Some.ensures.steps in
    (refl, ap (λ es. fields_of scalars.of_bool scalars.of_int scalars.of_text (members_view es)) split ∙ fails scalars.of_bool scalars.of_int scalars.of_text c.members.invariant.done e c.next.new.self fails_here)
