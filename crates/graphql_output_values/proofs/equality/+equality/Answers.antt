use Rattle.std.proofs.Common.{◌≡◌, ◌<◌, ◌≤◌, Some, true, false, get_or, length, ap, sym, subst, ◌∙◌, rules, arith}
use Rattle.std.specs.Option.{option_copied}
use Rattle.graphql_output_values.specs.Equality.{agree, equal, items_equal}
use Rattle.graphql_output_values.specs.Objects.{field_value}
use Rattle.graphql_output_values.specs.Values.{Holds}
use Rattle.graphql_output_values.specs.declared.value.Value.TheVariants as value
use Rattle.graphql_output_values.specs.EqualityEquations.{equal_lists, equal_as_objects}
use Rattle.graphql_output_values.proofs.EqualByKeys.{across, all_agree, apart_here, in_order, more_agree}
use Rattle.graphql_output_values.proofs.EqualityTests.{items_more, items_apart, has_others}
use Rattle.graphql_output_values.proofs.ObjectLemmas.{place}
use Rattle.graphql_output_values.proofs.equality.+equality.Goals as goal
use Rattle.graphql_output_values.proofs.equality.+equality.Goals.{same_by_keys-else-not-same_found-via-then-not-same_found+else-is_first, same_by_keys-else-not-same_found-via-else-not-same_found}
use Rattle.graphql_output_values.proofs.equality.+equality.Goals.{same_in_order-else-not-same_value-via-then-not-same_value+else-is_first, same_in_order-else-not-same_value-via-else-not-same_value}

pub same_in_order-returns-then-is_first : goal.same_in_order-returns-then-is_first
same_in_order-returns-then-is_first g t c =
    let E = equal g.S.PartialEq.eq in
    let fields = c.args.mine.now.fields in
    let others = c.args.theirs.now.fields in
    let i = c.loop-place.place in
    let field = c.field-item.result in
    let other = c.index-others-place.result in
    let at : field ≡ get_or fields i field = c.field-item.is ∙ ap (λ fs. get_or fs i field) c.as_slice-field-items.ensures in
    let beside : other ≡ get_or others i other = c.index-others-place.is ∙ ap (λ gs. get_or gs i other) c.as_slice-others.ensures in
    let within : i < length fields = omega (arith, ap length c.as_slice-field-items.ensures) in
    let first : place field.0 fields ≡ Some i = ap (λ key. place key fields) (sym c.as_str.ensures) ∙ c.is_first.ensures.0 c.if-is_first.true in
    let theirs : field_value others field.0 ≡ Some other.1 = across E fields others i field other c.requires first ∙ ap (λ p. Some p.1) (sym beside) in
    let unlike : c.same_value.result ≡ false = search rules in
    sym (apart_here E fields others i field within at first (ap (agree E (Some field.1)) theirs ∙ ap (λ p. E field.1 p.1) c.index-others-place.is ∙ sym c.same_value.ensures ∙ unlike))

pub same_in_order-loop-place-preserved : goal.same_in_order-loop-place-preserved
same_in_order-loop-place-preserved g t c =
    let E = equal g.S.PartialEq.eq in
    let fields = c.args.mine.now.fields in
    let others = c.args.theirs.now.fields in
    let i = c.loop-place.place in
    let field = c.field-item.result in
    let other = c.index-others-place.result in
    let at : field ≡ get_or fields i field = c.field-item.is ∙ ap (λ fs. get_or fs i field) c.as_slice-field-items.ensures in
    let beside : other ≡ get_or others i other = c.index-others-place.is ∙ ap (λ gs. get_or gs i other) c.as_slice-others.ensures in
    let within : i < length fields = omega (arith, ap length c.as_slice-field-items.ensures) in
    more_agree E fields others i field within at c.loop-place.invariant
    (λ first.
    let theirs : field_value others field.0 ≡ Some other.1 = across E fields others i field other c.requires first ∙ ap (λ p. Some p.1) (sym beside) in
    ap (agree E (Some field.1)) theirs
    ∙ (elim c.else-not-same_value.branch as (λ w. E field.1 other.1 ≡ true) [
      | same_in_order-else-not-same_value-via-then-not-same_value+else-is_first w ↦
          let is_first = w.is_first.ensures.1 (ap (λ key. place key fields) w.as_str.ensures ∙ first) in
          let is_not = w.if-is_first.false in
          absurd (cc (is_first, is_not))
      | same_in_order-else-not-same_value-via-else-not-same_value w ↦
          let alike : c.same_value.result ≡ true = search rules in
          ap (λ p. E field.1 p.1) c.index-others-place.is ∙ sym c.same_value.ensures ∙ alike
    ]))

pub same_in_order-returns : goal.same_in_order-returns
same_in_order-returns g t c =
    let fields = c.args.mine.now.fields in
    let past : length fields ≤ c.loop-place.place = omega (arith, ap length c.as_slice-field-items.ensures) in
    sym (in_order (equal g.S.PartialEq.eq) fields c.args.theirs.now.fields c.requires (all_agree (equal g.S.PartialEq.eq) fields c.args.theirs.now.fields c.loop-place.place c.loop-place.invariant past))

pub same_by_keys-returns-then-is_first : goal.same_by_keys-returns-then-is_first
same_by_keys-returns-then-is_first g t c =
    let E = equal g.S.PartialEq.eq in
    let fields = c.args.mine.now.fields in
    let others = c.args.theirs.now.fields in
    let i = c.loop-place.place in
    let field = c.field-item.result in
    let at : field ≡ get_or fields i field = c.field-item.is ∙ ap (λ fs. get_or fs i field) c.as_slice-field-items.ensures in
    let within : i < length fields = omega (arith, ap length c.as_slice-field-items.ensures) in
    let first : place field.0 fields ≡ Some i = ap (λ key. place key fields) (sym c.as_str-then-not-same_found.ensures) ∙ c.is_first.ensures.0 c.if-is_first.true in
    let theirs : field_value others field.0 ≡ option_copied c.get-found.result = ap (field_value others) (sym c.as_str.ensures) ∙ sym (c.loop-place.invariant.finds c.as_str.result.now) ∙ sym c.get-found.ensures in
    let unlike : c.same_found.result ≡ false = search rules in
    sym (apart_here E fields others i field within at first (ap (agree E (Some field.1)) theirs ∙ sym c.same_found.ensures ∙ unlike))

pub same_by_keys-loop-place-preserved : goal.same_by_keys-loop-place-preserved
same_by_keys-loop-place-preserved g t c =
    let E = equal g.S.PartialEq.eq in
    let fields = c.args.mine.now.fields in
    let others = c.args.theirs.now.fields in
    let i = c.loop-place.place in
    let field = c.field-item.result in
    let at : field ≡ get_or fields i field = c.field-item.is ∙ ap (λ fs. get_or fs i field) c.as_slice-field-items.ensures in
    let within : i < length fields = omega (arith, ap length c.as_slice-field-items.ensures) in
    let theirs : field_value others field.0 ≡ option_copied c.get-found.result = ap (field_value others) (sym c.as_str.ensures) ∙ sym (c.loop-place.invariant.finds c.as_str.result.now) ∙ sym c.get-found.ensures in
    record {
      finds = c.loop-place.invariant.finds;
      so_far =
          more_agree E fields others i field within at c.loop-place.invariant.so_far
          (λ first.
          ap (agree E (Some field.1)) theirs
          ∙ (elim c.else-not-same_found.branch as (λ w. agree E (Some field.1) (option_copied c.get-found.result) ≡ true) [
            | same_by_keys-else-not-same_found-via-then-not-same_found+else-is_first w ↦
                let is_first = w.is_first.ensures.1 (ap (λ key. place key fields) w.as_str-then-not-same_found.ensures ∙ first) in
                let is_not = w.if-is_first.false in
                absurd (cc (is_first, is_not))
            | same_by_keys-else-not-same_found-via-else-not-same_found w ↦
                let alike : c.same_found.result ≡ true = search rules in
                sym c.same_found.ensures ∙ alike
          ]));
    }

pub same_by_keys-returns : goal.same_by_keys-returns
same_by_keys-returns g t c =
    let fields = c.args.mine.now.fields in
    let past : length fields ≤ c.loop-place.place = omega (arith, ap length c.as_slice-field-items.ensures) in
    c.has_keys_of.ensures
    ∙ has_others (equal g.S.PartialEq.eq) fields c.args.theirs.now.fields (all_agree (equal g.S.PartialEq.eq) fields c.args.theirs.now.fields c.loop-place.place c.loop-place.invariant.so_far past)

pub same_value-returns-in-Some-as_list_value : goal.same_value-returns-in-Some-as_list_value
same_value-returns-in-Some-as_list_value g t c =
    let theirs : c.args.theirs.now ≡ value.List c.in-Some-as_list_value.others.now = subst (λ o. Holds value.List c.args.theirs.now (option_copied o)) c.in-Some-as_list_value.is c.as_list_value.ensures in
    c.same_items.ensures
    ∙ ap (λ s. items_equal (equal g.S.PartialEq.eq) s c.in-Some-as_list_value.others.now) c.as_slice.ensures
    ∙ sym (equal_lists g.S.PartialEq.eq c.in-List.items c.in-Some-as_list_value.others.now)
    ∙ sym (λ i. equal g.S.PartialEq.eq (c.in-List.is i) (theirs i))

pub same_value-returns-in-Some-as_object_value : goal.same_value-returns-in-Some-as_object_value
same_value-returns-in-Some-as_object_value g t c =
    let theirs : c.args.theirs.now ≡ value.Object c.in-Some-as_object_value.other.now = subst (λ o. Holds value.Object c.args.theirs.now (option_copied o)) c.in-Some-as_object_value.is c.as_object_value.ensures in
    c.same_fields.ensures
    ∙ sym (equal_as_objects g.S.PartialEq.eq c.in-Object.object c.in-Some-as_object_value.other.now)
    ∙ sym (λ i. equal g.S.PartialEq.eq (c.in-Object.is i) (theirs i))

pub same_items-returns-then-not-same_value : goal.same_items-returns-then-not-same_value
same_items-returns-then-not-same_value g t c =
    let off : c.same_value.result ≡ false = search rules in
    sym (items_apart (equal g.S.PartialEq.eq) c.args.mine.now c.args.theirs.now c.loop-place.place c.index-mine-place.result c.index-theirs-place.result (omega arith) ((λ i. equal g.S.PartialEq.eq (sym c.index-mine-place.is i) (sym c.index-theirs-place.is i)) ∙ sym c.same_value.ensures ∙ off))

pub same_items-loop-place-preserved : goal.same_items-loop-place-preserved
same_items-loop-place-preserved g t c =
    let on : c.same_value.result ≡ true = search rules in
    items_more (equal g.S.PartialEq.eq) c.args.mine.now c.args.theirs.now c.loop-place.place c.index-mine-place.result c.index-theirs-place.result (omega arith) (omega arith) c.loop-place.invariant ((λ i. equal g.S.PartialEq.eq (sym c.index-mine-place.is i) (sym c.index-theirs-place.is i)) ∙ sym c.same_value.ensures ∙ on)
