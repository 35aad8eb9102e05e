use Rattle.std.proofs.Common.{◌≡◌, ◌<◌, [], Some, length, ap, sym, subst, ◌∙◌, arith, rules}
use Rattle.std.specs.Prelude.{IfSome}
use Rattle.std.specs.List.{All, sum_by}
use Rattle.std.specs.Map.{values_of}
use Rattle.std.specs.Option.{option_copied}
use Rattle.std.proofs.lemmas.List.Elements.{All-nil}
use Rattle.graphql_output_values.specs.Counts.{value_count}
use Rattle.graphql_output_values.specs.DistinctKeys.{HasDistinctKeysThroughout}
use Rattle.graphql_output_values.specs.Objects.{HasDistinctKeys, field_value}
use Rattle.graphql_output_values.specs.Values.{Holds}
use Rattle.graphql_output_values.specs.declared.value.Value.TheVariants as value
use Rattle.graphql_joins.specs.Joins.{ItemsJoin, no_items}
use Rattle.graphql_joined_data.specs.Joining.{FieldJoinsOrDiffers}
use Rattle.graphql_joined_data.proofs.JoinSteps.{count-of-list, count-of-object, distinct-at, distinct-fields, distinct-found, distinct-items, distinct-list, distinct-under, each-more, field-at, field-within, fields-differ, get-at, item-within, items-differ, items-more, keys-more, lengths-differ, made-distinct, made-keys, made-list, made-object, more-distinct, no-list, no-object, no-scalar, null-joins-first, null-joins-second, values-more}
use Rattle.graphql_joined_data.proofs.joining.+joins.Goals as goal

pub join_data-returns-in-Null-clause-joins : goal.join_data-returns-in-Null-clause-joins
join_data-returns-in-Null-clause-joins g t c = λ exact. null-joins-first c.args.first.now c.args.second.now c.in-Null.is

pub join_data-returns-then-is_null-clause-joins : goal.join_data-returns-then-is_null-clause-joins
join_data-returns-then-is_null-clause-joins g t c = λ exact. null-joins-second c.args.first.now c.args.second.now (c.is_null.ensures.0 c.if-is_null.true)

pub joined_items-loop-place-init : goal.joined_items-loop-place-init
joined_items-loop-place-init g t c = record {
  joined = λ exact. subst (ItemsJoin [] []) (sym c.in_ok-items.ensures) no_items;
  distinct = subst (All HasDistinctKeysThroughout) (sym c.in_ok-items.ensures) (All-nil HasDistinctKeysThroughout);
}

pub joined_items-loop-place-preserved : goal.joined_items-loop-place-preserved
joined_items-loop-place-preserved g t c =
    let one = c.index-first-place.result in
    let other = c.index-second-place.result in
    let here : c.loop-place.place < length c.args.first.now = omega arith in
    let beside : c.loop-place.place < length c.args.second.now = omega arith in
    record {
      joined = λ exact.
          items-more c.args.first.now c.args.second.now c.loop-place.items c.add.new.items c.loop-place.place one other c.in_ok-join_data.field-0
          here beside c.index-first-place.is c.index-second-place.is c.in_ok-add.ensures (c.loop-place.invariant.joined exact) (c.in_ok-join_data.ensures.joins exact);
      distinct = more-distinct c.loop-place.items c.add.new.items c.in_ok-join_data.field-0 c.in_ok-add.ensures c.loop-place.invariant.distinct c.in_ok-join_data.ensures.distinct;
    }

pub joined_items-join_data-requires : goal.joined_items-join_data-requires
joined_items-join_data-requires g t c κs within =
    let one = c.index-first-place.result in
    let other = c.index-second-place.result in
    let here : c.loop-place.place < length c.args.first.now = omega arith in
    let beside : c.loop-place.place < length c.args.second.now = omega arith in (
      omega (arith, item-within c.args.first.now c.loop-place.place one here c.index-first-place.is),
      (
        search rules,
        (
          distinct-at c.args.first.now c.loop-place.place one here c.index-first-place.is c.requires.first_distinct,
          distinct-at c.args.second.now c.loop-place.place other beside c.index-second-place.is c.requires.second_distinct,
        ),
      ),
    )

pub joined_items-returns-in_err-join_data-clause-joins : goal.joined_items-returns-in_err-join_data-clause-joins
joined_items-returns-in_err-join_data-clause-joins g t c =
    items-differ g.S.PartialEq.eq g.met.S.Eq.laws.refl c.from_residual-in_err-join_data.result c.in_err-join_data.field-0.0
    c.from_residual-in_err-join_data.ensures.1 c.args.first.now c.args.second.now c.loop-place.place c.index-first-place.result c.index-second-place.result
    (get-at c.args.first.now c.loop-place.place c.index-first-place.result (omega arith) c.index-first-place.is)
    (get-at c.args.second.now c.loop-place.place c.index-second-place.result (omega arith) c.index-second-place.is)
    c.in_err-join_data.ensures.joins

pub joined_items-returns-clause-joins : goal.joined_items-returns-clause-joins
joined_items-returns-clause-joins g t c = λ exact.
    made-list c.args.first.now c.args.second.now c.loop-place.items c.loop-place.place (omega arith) (omega arith) (c.loop-place.invariant.joined exact)

pub joined_items-returns-clause-distinct : goal.joined_items-returns-clause-distinct
joined_items-returns-clause-distinct g t c = distinct-list c.loop-place.items c.loop-place.invariant.distinct

pub joined_objects-loop-field-preserved : goal.joined_objects-loop-field-preserved
joined_objects-loop-field-preserved g t c =
    let field = c.field-item.result in
    let it = c.in_ok-joined_field.field-0 in
    let items = c.as_slice-field-items.result.now in
    let here : c.loop-field.field-index < length items = omega arith in
    let found : option_copied c.found-other.result ≡ field_value c.args.second.now.fields field.0 =
    c.found-other.ensures ∙ c.in_ok-values.ensures c.as_str.result.now ∙ ap (field_value c.args.second.now.fields) c.as_str.ensures in
    record {
      joined = λ exact.
          each-more c.args.second.now.fields items c.loop-field.fields c.add.new.items c.loop-field.field-index field it (option_copied c.found-other.result)
          here c.field-item.is c.in_ok-add.ensures found (c.loop-field.invariant.joined exact) c.in_ok-joined_field.ensures.joins.0 (c.in_ok-joined_field.ensures.joins.1 exact);
      keys = keys-more items c.loop-field.fields c.add.new.items c.loop-field.field-index field it here c.field-item.is c.in_ok-add.ensures c.in_ok-joined_field.ensures.joins.0 c.loop-field.invariant.keys;
      distinct = values-more c.loop-field.fields c.add.new.items it c.in_ok-add.ensures c.loop-field.invariant.distinct c.in_ok-joined_field.ensures.distinct;
    }

pub joined_objects-from_distinct-requires : goal.joined_objects-from_distinct-requires
joined_objects-from_distinct-requires g t c =
    made-keys c.args.first.now.fields c.as_slice-field-items.result.now c.args.second.now.fields c.loop-field.fields c.push_new_fields.new.fields
    c.loop-field.field-index c.as_slice-field-items.ensures (omega arith) c.requires.first_distinct.0 c.requires.second_distinct.0
    c.loop-field.invariant.keys c.in_ok-push_new_fields.ensures

pub joined_objects-returns-clause-joins : goal.joined_objects-returns-clause-joins
joined_objects-returns-clause-joins g t c = λ exact.
    made-object c.args.first.now c.args.second.now c.from_distinct.result c.as_slice-field-items.result.now c.loop-field.fields c.push_new_fields.new.fields
    c.loop-field.field-index c.as_slice-field-items.ensures (omega arith) c.requires.first_distinct.0 (c.loop-field.invariant.joined exact)
    c.in_ok-push_new_fields.ensures c.from_distinct.ensures

pub joined_objects-returns-clause-distinct : goal.joined_objects-returns-clause-distinct
joined_objects-returns-clause-distinct g t c =
    made-distinct c.args.first.now c.args.second.now c.from_distinct.result c.loop-field.fields c.push_new_fields.new.fields c.requires.second_distinct.1
    c.loop-field.invariant.distinct
    (made-keys c.args.first.now.fields c.as_slice-field-items.result.now c.args.second.now.fields c.loop-field.fields c.push_new_fields.new.fields
    c.loop-field.field-index c.as_slice-field-items.ensures (omega arith) c.requires.first_distinct.0 c.requires.second_distinct.0
    c.loop-field.invariant.keys c.in_ok-push_new_fields.ensures)
    c.in_ok-push_new_fields.ensures c.from_distinct.ensures

pub joined_objects-returns-in_err-joined_field-clause-joins : goal.joined_objects-returns-in_err-joined_field-clause-joins
joined_objects-returns-in_err-joined_field-clause-joins g t c =
    let field = c.field-item.result in
    let items = c.as_slice-field-items.result.now in
    let found : option_copied c.found-other.result ≡ field_value c.args.second.now.fields field.0 =
    c.found-other.ensures ∙ c.in_ok-values.ensures c.as_str.result.now ∙ ap (field_value c.args.second.now.fields) c.as_str.ensures in
    let at : field_value c.args.first.now.fields field.0 ≡ Some field.1 =
    subst (λ fs. field_value fs field.0 ≡ Some field.1) c.as_slice-field-items.ensures
    (field-at items c.loop-field.field-index field (omega arith) c.field-item.is (subst HasDistinctKeys (sym c.as_slice-field-items.ensures) c.requires.first_distinct.0)) in
    fields-differ g.S.PartialEq.eq g.met.S.Eq.laws.refl c.from_residual-in_err-joined_field.result c.in_err-joined_field.field-0.0
    c.from_residual-in_err-joined_field.ensures.1 c.args.first.now c.args.second.now field.0 field.1 (option_copied c.found-other.result)
    at found c.in_err-joined_field.ensures.joins

pub joined_items-returns-then-first-second-clause-joins : goal.joined_items-returns-then-first-second-clause-joins
joined_items-returns-then-first-second-clause-joins g t c =
    lengths-differ g.S.PartialEq.eq g.met.S.Eq.laws.refl c.new.result c.args.first.now c.args.second.now c.new.ensures
    (λ same. absurd (omega (arith, same)))

pub join_data-joined_items-requires : goal.join_data-joined_items-requires
join_data-joined_items-requires g t c κs within = (
  omega (arith, count-of-list c.args.first.now c.in-List.items c.in-List.is, ap (sum_by value_count) c.as_slice.ensures),
  (
    search rules,
    (
      subst (All HasDistinctKeysThroughout) (sym c.as_slice.ensures) (distinct-items c.args.first.now c.in-List.items c.in-List.is c.requires.first_distinct),
      distinct-items c.args.second.now c.in-Some-as_list_value.others.now
          (subst (λ o. Holds value.List c.args.second.now (option_copied o)) c.in-Some-as_list_value.is c.as_list_value.ensures) c.requires.second_distinct,
    ),
  ),
)

pub join_data-joined_objects-requires : goal.join_data-joined_objects-requires
join_data-joined_objects-requires g t c κs within = (
  omega (arith, count-of-object c.args.first.now c.in-Object.object c.in-Object.is),
  (
    search rules,
    (
      distinct-fields c.args.first.now c.in-Object.object c.in-Object.is c.requires.first_distinct,
      distinct-fields c.args.second.now c.in-Some-as_object_value.other.now
          (subst (λ o. Holds value.Object c.args.second.now (option_copied o)) c.in-Some-as_object_value.is c.as_object_value.ensures) c.requires.second_distinct,
    ),
  ),
)

pub join_data-returns-in-None-clause-joins : goal.join_data-returns-in-None-clause-joins
join_data-returns-in-None-clause-joins g t c =
    let not_null : c.args.second.now ≡ value.Null → ⊥ = λ e. (let there = c.is_null.ensures.1 e in let off = c.if-is_null.false in absurd (cc (there, off))) in
    no-scalar g.S.PartialEq.eq g.met.S.Eq.laws.refl _ c.args.first.now c.args.second.now c.in-Scalar.scalar (search rules) c.in-Scalar.is not_null
    (subst (λ o. Holds value.Scalar c.args.second.now (option_copied o)) c.in-None.is c.as_scalar.ensures)

pub join_data-returns-in-None-as_list_value-clause-joins : goal.join_data-returns-in-None-as_list_value-clause-joins
join_data-returns-in-None-as_list_value-clause-joins g t c =
    let not_null : c.args.second.now ≡ value.Null → ⊥ = λ e. (let there = c.is_null.ensures.1 e in let off = c.if-is_null.false in absurd (cc (there, off))) in
    no-list g.S.PartialEq.eq g.met.S.Eq.laws.refl _ c.args.first.now c.args.second.now c.in-List.items (search rules) c.in-List.is not_null
    (subst (λ o. Holds value.List c.args.second.now (option_copied o)) c.in-None-as_list_value.is c.as_list_value.ensures)

pub join_data-returns-in-None-as_object_value-clause-joins : goal.join_data-returns-in-None-as_object_value-clause-joins
join_data-returns-in-None-as_object_value-clause-joins g t c =
    let not_null : c.args.second.now ≡ value.Null → ⊥ = λ e. (let there = c.is_null.ensures.1 e in let off = c.if-is_null.false in absurd (cc (there, off))) in
    no-object g.S.PartialEq.eq g.met.S.Eq.laws.refl _ c.args.first.now c.args.second.now c.in-Object.object (search rules) c.in-Object.is not_null
    (subst (λ o. Holds value.Object c.args.second.now (option_copied o)) c.in-None-as_object_value.is c.as_object_value.ensures)

pub joined_objects-joined_field-requires : goal.joined_objects-joined_field-requires
joined_objects-joined_field-requires g t c κs within =
    let field = c.field-item.result in
    let items = c.as_slice-field-items.result.now in
    let here : c.loop-field.field-index < length items = omega arith in
    let found : option_copied c.found-other.result ≡ field_value c.args.second.now.fields field.0 =
    c.found-other.ensures ∙ c.in_ok-values.ensures c.as_str.result.now ∙ ap (field_value c.args.second.now.fields) c.as_str.ensures in (
      omega (arith, field-within c.args.first.now.fields items c.loop-field.field-index field c.as_slice-field-items.ensures here c.field-item.is),
      (
        search rules,
        (
          distinct-under items c.loop-field.field-index field here c.field-item.is
              (subst (λ fs. All HasDistinctKeysThroughout (values_of fs)) (sym c.as_slice-field-items.ensures) c.requires.first_distinct.1),
          distinct-found c.args.second.now field.0 (option_copied c.found-other.result) found c.requires.second_distinct,
        ),
      ),
    )

pub joined_field-joined_under_key-requires : goal.joined_field-joined_under_key-requires
joined_field-joined_under_key-requires g t c κs within =
    (omega arith, (search rules, (c.requires.first_distinct, subst (λ o. IfSome (option_copied o) HasDistinctKeysThroughout) c.in-Some.is c.requires.other_distinct)))

pub joined_field-returns-in-None-clause-joins : goal.joined_field-returns-in-None-clause-joins
joined_field-returns-in-None-clause-joins g t c =
    subst (λ o. FieldJoinsOrDiffers g.S.PartialEq.eq c.args.key.now c.args.first.now (option_copied o) c.copied_field.result) (sym c.in-None.is) c.copied_field.ensures.joins

pub joined_field-returns-in-Some-clause-joins : goal.joined_field-returns-in-Some-clause-joins
joined_field-returns-in-Some-clause-joins g t c =
    subst (λ o. FieldJoinsOrDiffers g.S.PartialEq.eq c.args.key.now c.args.first.now (option_copied o) c.joined_under_key.result) (sym c.in-Some.is) c.joined_under_key.ensures.joins

pub joined_under_key-join_data-requires : goal.joined_under_key-join_data-requires
joined_under_key-join_data-requires g t c κs within =
    (omega arith, (search rules, (c.requires.first_distinct, c.requires.second_distinct)))
