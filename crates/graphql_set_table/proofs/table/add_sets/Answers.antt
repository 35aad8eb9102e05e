use Rattle.std.proofs.Common.{◌≡◌, ap, sym, ◌∙◌, arith, Some, None, length, slice_get}
use Rattle.graphql_schema.specs.Declarations.{declarations_of}
use Rattle.graphql_set_table.specs.Reading.{nodes_in, sets_at}
use Rattle.graphql_set_table.proofs.ReadingLemmas.{first-later}
use Rattle.graphql_set_table.proofs.TableLemmas.{all-read, count-more, none-read, once-first, once-more, read-more}
use Rattle.graphql_set_table.proofs.table.add_sets.Goals as goal

pub sets-init : goal.sets-init
sets-init g c =
    let sets = c.args.table.now.sets in
    let all = sets_at c.args.ahead in
    record {
      count =
          let empty : length sets ≡ 0 = ap (λ xs. length xs) c.requires.none in
          omega (arith, empty);
      definitions = c.requires.first;
      each = none-read (declarations_of c.args.schema.now) c.args.fragments.now.document.now all sets c.requires.none;
      once = once-first sets all c.requires.none;
    }

pub sets-preserved : goal.sets-preserved
sets-preserved g c =
    let declarations = declarations_of c.args.schema.now in
    let document = c.args.fragments.now.document.now in
    let sets = c.sets.table.sets in
    let more = c.add_set.new.table.sets in
    let ahead = c.sets.ahead in
    let new = c.add_set.new.ahead in
    let set = c.in-Some.set in
    let at : slice_get c.sets.ahead (length c.sets.table.sets) ≡ Some c.in-Some.set =
    ap (slice_get c.sets.ahead) (sym c.len.ensures) ∙ sym c.get.ensures.value ∙ sym c.copied.ensures ∙ c.in-Some.is in
    let grows = c.in_ok-add_set.ensures.numbered in
    let adds = c.in_ok-add_set.ensures.added in
    let before = c.sets.invariant in
    record {
      count = count-more declarations document sets more ahead new set adds.written at grows adds.grown;
      definitions = first-later declarations document (sets_at ahead) (sets_at new) grows before.definitions;
      each =
          read-more declarations document sets more ahead new set adds.written at grows adds.read adds.grown
          before.each;
      once =
          once-more sets more ahead new set adds.written (nodes_in (sets_at c.args.ahead)) at grows adds.grown
          adds.once before.once;
    }

pub returns-clause-numbered : goal.returns-clause-numbered
returns-clause-numbered g c =
    let declarations = declarations_of c.args.schema.now in
    let document = c.args.fragments.now.document.now in
    let sets = c.sets.table.sets in
    let ahead = c.sets.ahead in
    let end : slice_get c.sets.ahead (length c.sets.table.sets) ≡ None =
    ap (slice_get c.sets.ahead) (sym c.len.ensures) ∙ sym c.get.ensures.value ∙ sym c.copied.ensures
    ∙ c.in_default.is in
    let done = c.sets.invariant in
    (sets_at ahead, all-read declarations document sets ahead end done.count done.definitions done.each)

pub returns-clause-once : goal.returns-clause-once
returns-clause-once g c = omega (arith, c.sets.invariant.once)
