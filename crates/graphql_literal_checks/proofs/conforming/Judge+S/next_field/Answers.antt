use Rattle.graphql_schema.proofs.MeantScalars.{scalars_of}
use Rattle.std.proofs.Common.{◌+◌, ◌*◌, ◌<◌, arith}
use Rattle.graphql_values.specs.Counts.{value_count}
use Rattle.graphql_literal_checks.specs.OpenValues.{all_left, fields_left}
use Rattle.graphql_literal_checks.proofs.OpenLemmas.{at_ok, field_left, then_ok}
use Rattle.graphql_literal_checks.proofs.OpenParts.{object_ends, pair_opens}
use Rattle.graphql_literal_checks.proofs.conforming.Judge+S.next_field.Goals as goal

pub returns-in-None-clause-fits : goal.returns-in-None-clause-fits
returns-in-None-clause-fits g c =
    let scalars = scalars_of g.S.ParseScalarValue g.S.ScalarValue g.S.PartialEq g.S.Check.Check in
    let types = c.args.self.now.schema.now.types in
    let source = c.args.self.now.source in
    object_ends scalars types source c.args.object c.args.constant c.judge_whole.result c.args.opened.now c.in-None.ensures.cases c.judge_whole.ensures

pub returns-in-None-clause-ends : goal.returns-in-None-clause-ends
returns-in-None-clause-ends g c =
    at_ok (all_left c.args.opened.now < all_left c.args.opened.now + fields_left c.args.object.rest.now) c.judge_whole.result (omega arith)

pub returns-in-Some-clause-fits : goal.returns-in-Some-clause-fits
returns-in-Some-clause-fits g c =
    let scalars = scalars_of g.S.ParseScalarValue g.S.ScalarValue g.S.PartialEq g.S.Check.Check in
    let types = c.args.self.now.schema.now.types in
    let source = c.args.self.now.source in
    pair_opens scalars types source c.args.object c.args.constant c.in-Some.rest c.in-Some.field.now c.in-Some.ensures.cases.0 c.enter_field.result c.args.opened.now c.enter_field.new.opened c.enter_field.ensures.fits

pub returns-in-Some-clause-ends : goal.returns-in-Some-clause-ends
returns-in-Some-clause-ends g c =
    let before = all_left c.args.opened.now in
    let after = all_left c.enter_field.new.opened in
    let p = c.in-Some.field.now in
    then_ok (after < before + fields_left c.in-Some.rest.now + 2 * value_count p.1.item) (after < before + fields_left c.args.object.rest.now) c.enter_field.result
    (field_left before after p c.args.object.rest.now c.in-Some.rest.now c.in-Some.ensures.cases.0) c.enter_field.ensures.ends
