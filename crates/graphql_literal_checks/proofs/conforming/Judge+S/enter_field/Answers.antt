use Rattle.graphql_schema.proofs.MeantScalars.{scalars_of}
use Rattle.std.proofs.Common.{◌≡◌, ◌+◌, ◌*◌, ◌<◌, ap, sym, ◌∙◌, arith}
use Rattle.graphql_values.specs.Counts.{value_count}
use Rattle.graphql_literal_checks.specs.InputTypes.{argument_named}
use Rattle.graphql_literal_checks.specs.Judged.{is_constant}
use Rattle.graphql_literal_checks.specs.OpenValues.{all_left, fields_left}
use Rattle.graphql_literal_checks.proofs.ConformsLemmas.{lent_is, no_field}
use Rattle.graphql_literal_checks.proofs.OpenLemmas.{left_push, then_ok}
use Rattle.graphql_literal_checks.proofs.OpenParts.{field_opens}
use Rattle.graphql_literal_checks.proofs.conforming.Judge+S.enter_field.Goals as goal

pub returns-in-None-clause-fits : goal.returns-in-None-clause-fits
returns-in-None-clause-fits g c = λ not_memory w.
    let scalars = scalars_of g.S.ParseScalarValue g.S.ScalarValue g.S.PartialEq g.S.Check.Check in
    let types = c.args.self.now.schema.now.types in
    let source = c.args.self.now.source in
    let declared = c.args.object.meta.now.input_fields in
    no_field scalars types source declared c.args.field.now.0.item c.args.field.now.1.item (ap (argument_named declared) (sym c.as_str-name.ensures) ∙ sym c.in-None.ensures) w.0

pub returns-in_ok-add-in-Some-clause-fits : goal.returns-in_ok-add-in-Some-clause-fits
returns-in_ok-add-in-Some-clause-fits g c =
    let scalars = scalars_of g.S.ParseScalarValue g.S.ScalarValue g.S.PartialEq g.S.Check.Check in
    let types = c.args.self.now.schema.now.types in
    let source = c.args.self.now.source in
    let declared = c.args.object.meta.now.input_fields in
    let v = c.args.field.now.1.item in
    let a = c.in-Some.declared.now in
    field_opens scalars types source c.args.object (is_constant v) c.args.field.now.0.item v a (ap (argument_named declared) (sym c.as_str-name.ensures) ∙ sym c.in-Some.ensures)
    c.borrowed.result (lent_is c.borrowed.result a.arg_type c.borrowed.ensures.name c.borrowed.ensures.modifiers) c.enter.result c.args.opened.now c.add.new.opened c.enter.new.opened c.in_ok-add-in-Some.ensures c.enter.ensures.fits

pub returns-in_ok-add-in-Some-clause-ends : goal.returns-in_ok-add-in-Some-clause-ends
returns-in_ok-add-in-Some-clause-ends g c =
    let before = all_left c.args.opened.now in
    let middle = all_left c.add.new.opened in
    let after = all_left c.enter.new.opened in
    let more = fields_left c.args.object.rest.now in
    let part = 2 * value_count c.args.field.now.1.item in
    let pushed : middle ≡ before + more = left_push _ _ _ c.in_ok-add-in-Some.ensures in
    then_ok (after < middle + part) (after < before + more + part) c.enter.result (λ less. omega (arith, less, pushed)) c.enter.ensures.ends
