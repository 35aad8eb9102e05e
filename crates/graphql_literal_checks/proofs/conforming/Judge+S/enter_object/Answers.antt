use Rattle.graphql_schema.proofs.MeantScalars.{scalars_of}
use Rattle.std.proofs.Common.{◌≡◌, Bool, true, false, cond, Ok, ap, sym, refl, ◌∙◌}
use Rattle.graphql_values.specs.declared.input_value.InputValue.TheVariants as value
use Rattle.graphql_literal_checks.specs.InputTypes.{is_one_given}
use Rattle.graphql_literal_checks.specs.Judged.{IsObject, ObjectFits, is_constant, have_constants}
use Rattle.graphql_literal_checks.proofs.ConformsLemmas.{Whole, constant_object, fits_object, object_fits}
use Rattle.graphql_literal_checks.proofs.OpenLemmas.{left_push, object_left, opens_one, opens_same}
use Rattle.graphql_literal_checks.proofs.conforming.Judge+S.enter_object.Goals as goal

-- one of two tests, by what is asked for: the first is passed where it is asked for
one_asked : (asked one other : Bool) → cond asked one other ≡ true → cond asked one true ≡ true
one_asked true one other h = h
one_asked false one other h = refl

pub returns-in-Err-clause-fits : goal.returns-in-Err-clause-fits
returns-in-Err-clause-fits g c = λ not_memory fits.
    let scalars = scalars_of g.S.ParseScalarValue g.S.ScalarValue g.S.PartialEq g.S.Check.Check in
    let types = c.args.self.now.schema.now.types in
    let source = c.args.self.now.source in
    let m = c.args.meta.now in
    let v = c.args.value.now in
    let ps = c.as_slice-pairs.result.now in
    let is : v ≡ value.Object ps = c.in-Object.is ∙ ap value.Object (sym c.as_slice-pairs.ensures) in
    c.in-Err.ensures not_memory (one_asked m.exactly_one (is_one_given ps) _ (fits_object scalars types source m v ps is fits).1.0)

pub returns-in_ok-add-in-Object-clause-fits : goal.returns-in_ok-add-in-Object-clause-fits
returns-in_ok-add-in-Object-clause-fits g c =
    let scalars = scalars_of g.S.ParseScalarValue g.S.ScalarValue g.S.PartialEq g.S.Check.Check in
    let types = c.args.self.now.schema.now.types in
    let source = c.args.self.now.source in
    let v = c.args.value.now in
    let ps = c.as_slice-pairs.result.now in
    let is : v ≡ value.Object ps = c.in-Object.is ∙ ap value.Object (sym c.as_slice-pairs.ensures) in
    opens_same scalars types source (Whole scalars types source c.args.meta.now v ps) (IsObject (ObjectFits scalars types source c.args.meta.now) v) (have_constants ps) (is_constant v) (Ok true) c.args.opened.now c.add.new.opened
    (object_fits scalars types source c.args.meta.now v ps is) (fits_object scalars types source c.args.meta.now v ps is) (constant_object ps ∙ ap is_constant (sym is))
    (opens_one scalars types source _ _ _ c.in_ok-add-in-Object.ensures)

pub returns-in_ok-add-in-Object-clause-ends : goal.returns-in_ok-add-in-Object-clause-ends
returns-in_ok-add-in-Object-clause-ends g c =
    object_left _ _ c.args.value.now c.in-Object.fields c.as_slice-pairs.result.now c.in-Object.is c.as_slice-pairs.ensures (left_push _ _ _ c.in_ok-add-in-Object.ensures)
