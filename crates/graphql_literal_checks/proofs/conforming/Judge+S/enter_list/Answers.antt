use Rattle.std.proofs.Common.{◌≡◌, true, Ok, length, ap, sym, refl}
use Rattle.graphql_schema.proofs.MeantScalars.{scalars_of}
use Rattle.graphql_schema.specs.Types.{TypeOf}
use Rattle.graphql_literal_checks.specs.InputTypes.{allows}
use Rattle.graphql_literal_checks.specs.Judged.{ListFits, lent, are_constant}
use Rattle.graphql_literal_checks.proofs.ConformsLemmas.{Each, list_with, within_list}
use Rattle.graphql_literal_checks.proofs.OpenLemmas.{left_push, opens_one, opens_same}
use Rattle.graphql_literal_checks.proofs.conforming.Judge+S.enter_list.Goals as goal

pub returns-in_ok-add-in-Some-clause-fits : goal.returns-in_ok-add-in-Some-clause-fits
returns-in_ok-add-in-Some-clause-fits g c =
    let scalars = scalars_of g.S.ParseScalarValue g.S.ScalarValue g.S.PartialEq g.S.Check.Check in
    let types = c.args.self.now.schema.now.types in
    let source = c.args.self.now.source in
    let t = lent c.args.asked.now in
    let xs = c.args.items.now in
    let asked : TypeOf = record { name = c.copied.result; modifiers = c.in-Some.modifiers.now } in
    let same : asked ≡ record { name = t.name; modifiers = c.in-Some.modifiers.now } = ap (λ n. record { name = n; modifiers = c.in-Some.modifiers.now }) c.copied.ensures in
    opens_same scalars types source (Each scalars types source asked xs) (ListFits scalars types source t xs) (are_constant xs) (are_constant xs) (Ok true) c.args.opened.now c.add.new.opened
    (list_with scalars types source t asked c.in-Some.size c.in-Some.modifiers.now xs c.in-Some.ensures (sym {b = allows c.in-Some.size (length xs)} c.if-not-allows.ensures) same)
    (within_list scalars types source t asked c.in-Some.size c.in-Some.modifiers.now xs c.in-Some.ensures same) refl
    (opens_one scalars types source _ _ _ c.in_ok-add-in-Some.ensures)

pub returns-in_ok-add-in-Some-clause-ends : goal.returns-in_ok-add-in-Some-clause-ends
returns-in_ok-add-in-Some-clause-ends g c = left_push _ _ _ c.in_ok-add-in-Some.ensures
