use Rattle.std.proofs.Common.{arith, refl, ap, ◌≡◌, ◌∙◌, ◌+◌, ◌≤◌, List, ◌++◌, ◌∷◌, [], length, length-append}
use Rattle.graphql_names.specs.Names.{Bytes}
use Rattle.graphql_written_out.specs.Written.{written_selection}
use Rattle.graphql_collected.specs.Requests.{fragments_in, written_in}
use Rattle.graphql_collect.specs.Collecting.{Enters, trees_in}
use Rattle.graphql_collect.specs.Sizes.{left_by, left_in, size, turns}
use Rattle.graphql_collect.proofs.SizeLaws.{inserted, open-push, some-turns}
use Rattle.graphql_collect.proofs.CollectingLaws.{enters-nothing, enters-field, enters-set, enters-fragment}
use Rattle.graphql_collect.proofs.collecting.enter.Goals as goal

pub returns-in-Nothing-clause-steps : goal.returns-in-Nothing-clause-steps
returns-in-Nothing-clause-steps g c =
    enters-nothing g.S.ScalarValue.answer c.args.request.now c.args.object.now (written_selection (fragments_in c.args.request.now) c.args.selection.now)
    (trees_in c.args.request.now c.args.sets.now) c.args.visited.now.keys c.args.found.now c.in-Nothing.ensures.brings

pub returns-in-Nothing-clause-sized : goal.returns-in-Nothing-clause-sized
returns-in-Nothing-clause-sized g c = omega arith

pub returns-in-Nothing-clause-turns : goal.returns-in-Nothing-clause-turns
returns-in-Nothing-clause-turns g c = omega (arith, some-turns c.args.selection.now)

pub returns-in_ok-push-in-Field-clause-steps : goal.returns-in_ok-push-in-Field-clause-steps
returns-in_ok-push-in-Field-clause-steps g c =
    enters-field g.S.ScalarValue.answer c.args.request.now c.args.object.now (written_selection (fragments_in c.args.request.now) c.args.selection.now)
    (trees_in c.args.request.now c.args.sets.now) c.in-Field.field.now c.args.visited.now.keys c.args.found.now
    c.push.new.self _ c.in-Field.ensures.brings c.in_ok-push-in-Field.ensures.ok refl

pub returns-in_ok-push-in-Field-clause-sized : goal.returns-in_ok-push-in-Field-clause-sized
returns-in_ok-push-in-Field-clause-sized g c =
    let grown : length c.push.new.self ≡ length c.args.found.now + 1 =
    ap length c.in_ok-push-in-Field.ensures.ok ∙ length-append c.args.found.now _ in
    let own : 1 ≤ size (c.args.selection.now ∷ []) = c.in-Field.ensures.sized in
    omega (arith, grown, own)

pub returns-in_ok-push-in-Field-clause-turns : goal.returns-in_ok-push-in-Field-clause-turns
returns-in_ok-push-in-Field-clause-turns g c = omega (arith, some-turns c.args.selection.now)

pub returns-in_ok-push-in-Set-clause-steps : goal.returns-in_ok-push-in-Set-clause-steps
returns-in_ok-push-in-Set-clause-steps g c =
    enters-set g.S.ScalarValue.answer c.args.request.now c.args.object.now c.args.sets.now c.push-in-Set.new.self _
    c.in_ok-push-in-Set.ensures.ok
    (written_selection (fragments_in c.args.request.now) c.args.selection.now) c.args.visited.now.keys c.args.found.now c.in-Set.ensures.brings

pub returns-in_ok-push-in-Set-clause-sized : goal.returns-in_ok-push-in-Set-clause-sized
returns-in_ok-push-in-Set-clause-sized g c =
    omega (
      arith,
      c.in-Set.ensures.sized.0,
      open-push size c.args.sets.now c.push-in-Set.new.self _ c.in_ok-push-in-Set.ensures.ok,
    )

pub returns-in_ok-push-in-Set-clause-turns : goal.returns-in_ok-push-in-Set-clause-turns
returns-in_ok-push-in-Set-clause-turns g c =
    omega (
      arith,
      c.in-Set.ensures.sized.1,
      open-push turns c.args.sets.now c.push-in-Set.new.self _ c.in_ok-push-in-Set.ensures.ok,
    )

pub returns-in_ok-push-in-Fragment-clause-steps : goal.returns-in_ok-push-in-Fragment-clause-steps
returns-in_ok-push-in-Fragment-clause-steps g c =
    let name = c.in-Fragment.spread.now.item.name.item in
    let entered : Enters g.S.ScalarValue.answer c.args.request.now c.args.object.now c.args.visited.now.keys (written_selection (fragments_in c.args.request.now) c.args.selection.now)
    (written_in c.args.request.now c.in-Fragment.among.now) name = c.in-Fragment.ensures.brings in
    enters-fragment g.S.ScalarValue.answer c.args.request.now c.args.object.now c.args.sets.now
    c.push-in-Fragment.new.self _ c.in_ok-push-in-Fragment.ensures.ok (written_selection (fragments_in c.args.request.now) c.args.selection.now) name c.args.visited.now.keys c.insert.new.self.keys c.args.found.now entered
    (inserted c.args.visited.now.keys c.insert.new.self.keys name c.copied.result c.copied.ensures entered.first c.in_ok-insert-in-Fragment.ensures.keys)

pub returns-in_ok-push-in-Fragment-clause-sized : goal.returns-in_ok-push-in-Fragment-clause-sized
returns-in_ok-push-in-Fragment-clause-sized g c =
    let grown : c.insert.new.self.keys ≡ c.args.visited.now.keys ++ c.in-Fragment.spread.now.item.name.item ∷ [] =
    inserted c.args.visited.now.keys c.insert.new.self.keys c.in-Fragment.spread.now.item.name.item c.copied.result c.copied.ensures c.in-Fragment.ensures.brings.first
    c.in_ok-insert-in-Fragment.ensures.keys in
    omega (
      arith,
      c.in-Fragment.ensures.sized.0,
      ap (λ (z : List Bytes). left_in z (fragments_in c.args.request.now)) grown,
      open-push size c.args.sets.now c.push-in-Fragment.new.self _ c.in_ok-push-in-Fragment.ensures.ok,
    )

pub returns-in_ok-push-in-Fragment-clause-turns : goal.returns-in_ok-push-in-Fragment-clause-turns
returns-in_ok-push-in-Fragment-clause-turns g c =
    let grown : c.insert.new.self.keys ≡ c.args.visited.now.keys ++ c.in-Fragment.spread.now.item.name.item ∷ [] =
    inserted c.args.visited.now.keys c.insert.new.self.keys c.in-Fragment.spread.now.item.name.item c.copied.result c.copied.ensures c.in-Fragment.ensures.brings.first
    c.in_ok-insert-in-Fragment.ensures.keys in
    omega (
      arith,
      some-turns c.args.selection.now,
      c.in-Fragment.ensures.sized.1,
      ap (λ (z : List Bytes). left_by turns z (fragments_in c.args.request.now)) grown,
      open-push turns c.args.sets.now c.push-in-Fragment.new.self _ c.in_ok-push-in-Fragment.ensures.ok,
    )
