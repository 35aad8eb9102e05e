use Rattle.std.proofs.Common.{◌≡◌, ◌&&◌, ◌+◌, ◌*◌, ◌<◌, List, Ok, Bor, ap}
use Rattle.graphql_values.specs.Counts.{value_count}
use Rattle.graphql_names.specs.declared.type_modifier.TypeModifier.{TypeModifier}
use Rattle.graphql_names.specs.declared.type_reference.«Type».{«Type»}
use Rattle.graphql_schema.proofs.MeantScalars.{scalars_of}
use Rattle.graphql_schema.specs.Types.{TypeOf}
use Rattle.graphql_names.specs.Names.{Bytes}
use Rattle.graphql_literal_checks.specs.Judged.{lent}
use Rattle.graphql_literal_checks.specs.OpenValues.{ListOwes, all_left, items_left, list_constant}
use Rattle.graphql_literal_checks.proofs.OpenLemmas.{item_left, left_push, opens_none, then_ok}
use Rattle.graphql_literal_checks.proofs.OpenParts.{item_opens, list_ends}
use Rattle.graphql_literal_checks.proofs.conforming.Judge+S.next_item.Goals as goal

pub returns-in-None-clause-fits : goal.returns-in-None-clause-fits
returns-in-None-clause-fits g c =
    let scalars = scalars_of g.S.ParseScalarValue g.S.ScalarValue g.S.PartialEq g.S.Check.Check in
    let types = c.args.self.now.schema.now.types in
    let source = c.args.self.now.source in
    let l = c.args.list in
    opens_none scalars types source (ListOwes scalars types source l) (list_constant c.args.constant l) (Ok (l.constant && c.args.constant)) c.args.opened.now (list_ends scalars types source l c.args.constant c.in-None.ensures.cases)

pub returns-in_ok-add-in-Some-clause-fits : goal.returns-in_ok-add-in-Some-clause-fits
returns-in_ok-add-in-Some-clause-fits g c =
    let scalars = scalars_of g.S.ParseScalarValue g.S.ScalarValue g.S.PartialEq g.S.Check.Check in
    let types = c.args.self.now.schema.now.types in
    let source = c.args.self.now.source in
    let l = c.args.list in
    let asked : «Type» Bytes (Bor (List TypeModifier)) = record { name = c.copied.result; modifiers = l.asked.modifiers } in
    let same : lent asked ≡ lent l.asked = ap (λ (n : Bytes). let t : TypeOf = record { name = n; modifiers = l.asked.modifiers.now } in t) c.copied.ensures in
    item_opens scalars types source l c.args.constant c.in-Some.rest c.in-Some.item.now c.in-Some.ensures.cases.0 asked same c.enter.result c.args.opened.now c.add.new.opened c.enter.new.opened c.in_ok-add-in-Some.ensures c.enter.ensures.fits

pub returns-in_ok-add-in-Some-clause-ends : goal.returns-in_ok-add-in-Some-clause-ends
returns-in_ok-add-in-Some-clause-ends g c =
    let before = all_left c.args.opened.now in
    let middle = all_left c.add.new.opened in
    let after = all_left c.enter.new.opened in
    let x = c.in-Some.item.now in
    then_ok (after < middle + 2 * value_count x.item) (after < before + items_left c.args.list.rest.now) c.enter.result
    (item_left before middle after x c.args.list.rest.now c.in-Some.rest.now c.in-Some.ensures.cases.0 (left_push _ _ _ c.in_ok-add-in-Some.ensures)) c.enter.ensures.ends
