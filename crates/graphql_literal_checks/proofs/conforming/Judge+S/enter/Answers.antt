use Rattle.graphql_schema.proofs.MeantScalars.{scalars_of}
use Rattle.std.proofs.Common.{◌+◌, ◌*◌, ◌<◌, ◌≡◌, true, false, Ok, ap, sym, refl, ◌∙◌}
use Rattle.graphql_values.specs.Counts.{value_count}
use Rattle.graphql_values.specs.declared.input_value.InputValue.TheVariants as value
use Rattle.graphql_literal_checks.specs.Conforms.{Conforms}
use Rattle.graphql_literal_checks.specs.Judged.{AloneFits, ListFits, lent, is_constant, are_constant}
use Rattle.graphql_literal_checks.specs.OpenValues.{all_left, items_left}
use Rattle.graphql_literal_checks.proofs.ConformsLemmas.{alone_fits, alone_of, constant_list, fits_list, judged_null, judged_variable, list_fits}
use Rattle.graphql_literal_checks.proofs.OpenLemmas.{list_left, opens_none, opens_same, some_left, then_ok}
use Rattle.graphql_literal_checks.proofs.conforming.Judge+S.enter.Goals as goal

pub returns-else-is_non_null-clause-fits : goal.returns-else-is_non_null-clause-fits
returns-else-is_non_null-clause-fits g c =
    let scalars = scalars_of g.S.ParseScalarValue g.S.ScalarValue g.S.PartialEq g.S.Check.Check in
    let types = c.args.self.now.schema.now.types in
    let source = c.args.self.now.source in
    let t = lent c.args.asked.now in
    let v = c.args.value.now in
    opens_none scalars types source (Conforms scalars types source t v) (is_constant v) (Ok true) c.args.opened.now (judged_null scalars types source t v c.in-Null.is (sym c.is_non_null.ensures ∙ c.if-is_non_null.false))

pub returns-else-is_non_null-clause-ends : goal.returns-else-is_non_null-clause-ends
returns-else-is_non_null-clause-ends g c = some_left (all_left c.args.opened.now) c.args.value.now

pub returns-in-Variable-clause-fits : goal.returns-in-Variable-clause-fits
returns-in-Variable-clause-fits g c =
    let scalars = scalars_of g.S.ParseScalarValue g.S.ScalarValue g.S.PartialEq g.S.Check.Check in
    let types = c.args.self.now.schema.now.types in
    let source = c.args.self.now.source in
    let t = lent c.args.asked.now in
    let v = c.args.value.now in
    opens_none scalars types source (Conforms scalars types source t v) (is_constant v) (Ok false) c.args.opened.now (judged_variable scalars types source t v c.in-Variable.field-0 c.in-Variable.is)

pub returns-in-Variable-clause-ends : goal.returns-in-Variable-clause-ends
returns-in-Variable-clause-ends g c = some_left (all_left c.args.opened.now) c.args.value.now

pub returns-in-List-clause-fits : goal.returns-in-List-clause-fits
returns-in-List-clause-fits g c =
    let scalars = scalars_of g.S.ParseScalarValue g.S.ScalarValue g.S.PartialEq g.S.Check.Check in
    let types = c.args.self.now.schema.now.types in
    let source = c.args.self.now.source in
    let t = lent c.args.asked.now in
    let v = c.args.value.now in
    let xs = c.as_slice.result.now in
    let is : v ≡ value.List xs = c.in-List.is ∙ ap value.List (sym c.as_slice.ensures) in
    opens_same scalars types source (ListFits scalars types source t xs) (Conforms scalars types source t v) (are_constant xs) (is_constant v) c.enter_list.result c.args.opened.now c.enter_list.new.opened
    (list_fits scalars types source t v xs xs is refl) (fits_list scalars types source t v xs xs is refl) (constant_list xs ∙ ap is_constant (sym is)) c.enter_list.ensures.fits

pub returns-in-List-clause-ends : goal.returns-in-List-clause-ends
returns-in-List-clause-ends g c =
    let before = all_left c.args.opened.now in
    let after = all_left c.enter_list.new.opened in
    then_ok (after ≡ before + items_left c.as_slice.result.now) (after < before + 2 * value_count c.args.value.now) c.enter_list.result
    (list_left before after c.args.value.now c.in-List.items c.as_slice.result.now c.in-List.is c.as_slice.ensures) c.enter_list.ensures.ends

pub returns-in_default-clause-fits : goal.returns-in_default-clause-fits
returns-in_default-clause-fits g c =
    let scalars = scalars_of g.S.ParseScalarValue g.S.ScalarValue g.S.PartialEq g.S.Check.Check in
    let types = c.args.self.now.schema.now.types in
    let source = c.args.self.now.source in
    let t = lent c.args.asked.now in
    let v = c.args.value.now in
    opens_same scalars types source (AloneFits scalars types source t v) (Conforms scalars types source t v) (is_constant v) (is_constant v) c.enter_alone.result c.args.opened.now c.enter_alone.new.opened
    (alone_fits scalars types source t v) (λ fits. alone_of scalars types source t v fits c.in_default.not-Null c.in_default.not-Variable c.in_default.not-List) refl c.enter_alone.ensures.fits
