use Rattle.std.proofs.Common.{◌≡◌, true, false, ◌&&◌, length, ap, sym, refl, ◌∙◌, rules, arith}
use Rattle.std.specs.Cmp.Lexicographic.{pointwise}
use Rattle.std.specs.List.{sum_by}
use Rattle.std.specs.Str.{bytes_eq}
use Rattle.graphql_values.specs.Counts.{value_count}
use Rattle.graphql_values.proofs.CountEquations.{count_list, count_object, field_count, item_count}
use Rattle.graphql_look_ahead.specs.Equality.{equal, same_field, same_item}
use Rattle.graphql_look_ahead.proofs.EqualityLemmas.{counted, elsewhere, equal_forms, fewer_left, first_alike, first_apart, more_left, name_elsewhere, none_left, not_enum, not_list, not_null, not_object, not_scalar, other_name, other_value, same_value}
use Rattle.graphql_look_ahead.specs.Values.{fields_left, fields_told, items_ahead, items_told, named_value, placed, value_shown}
use Rattle.graphql_look_ahead.proofs.equality.+equality.Goals as goal
use Rattle.graphql_look_ahead.proofs.equality.+equality.Goals.{are_same_fields-then-ne-via-then-ne, are_same_fields-then-ne-via-else-ne+then-not-are_same_span, are_same_fields-then-not-are_same_span-2-via-then-not-are_same_span-2, are_same_fields-then-not-are_same_span-2-via-else-not-are_same_span-2+then-not-are_same_value, are_same_items-then-not-are_same_span-via-then-not-are_same_span, are_same_items-then-not-are_same_span-via-else-not-are_same_span+then-not-are_same_value}

pub are_same_items-items-init : goal.are_same_items-items-init
are_same_items-items-init g t c = record { so_far = refl; fewer = omega arith }

pub are_same_items-items-smaller : goal.are_same_items-items-smaller
are_same_items-items-smaller g t c = omega (arith, ap length c.in-Some.ensures.steps)

pub are_same_items-returns-in-None : goal.are_same_items-returns-in-None
are_same_items-returns-in-None g t c =
    sym (fewer_left (same_item (equal g.S.PartialEq.eq)) _ _ _ _ c.in-Some.ensures.steps c.in-None.ensures.steps.0)
    ∙ c.items.invariant.so_far

pub are_same_items-returns-in-Some-next-2 : goal.are_same_items-returns-in-Some-next-2
are_same_items-returns-in-Some-next-2 g t c =
    sym (more_left (same_item (equal g.S.PartialEq.eq)) _ _ _ _ c.in_default.ensures.steps.0 c.in-Some-next-2.ensures.steps)
    ∙ c.items.invariant.so_far

pub are_same_items-returns-in-None-next : goal.are_same_items-returns-in-None-next
are_same_items-returns-in-None-next g t c =
    sym (none_left (same_item (equal g.S.PartialEq.eq)) _ _ c.in_default.ensures.steps.0 c.in-None-next.ensures.steps.0)
    ∙ c.items.invariant.so_far

pub are_same_items-items-preserved : goal.are_same_items-items-preserved
are_same_items-items-preserved g t c =
    let span_alike : c.are_same_span.result ≡ true = search rules in
    let value_alike : c.are_same_value.result ≡ true = search rules in
    record {
      so_far =
          sym (first_alike (same_item (equal g.S.PartialEq.eq)) _ _ _ _ _ _ c.in-Some.ensures.steps c.in-Some-next.ensures.steps
          (λ i. (sym c.are_same_span.ensures ∙ span_alike) i && (sym c.are_same_value.ensures ∙ value_alike) i))
          ∙ c.items.invariant.so_far;
      fewer = omega (arith, counted item_count _ _ _ c.in-Some.ensures.steps);
    }

pub are_same_fields-fields-init : goal.are_same_fields-fields-init
are_same_fields-fields-init g t c = record { so_far = refl; fewer = omega arith }

pub are_same_fields-fields-smaller : goal.are_same_fields-fields-smaller
are_same_fields-fields-smaller g t c = omega (arith, ap length c.in-Some.ensures.steps)

pub are_same_fields-returns-in-None : goal.are_same_fields-returns-in-None
are_same_fields-returns-in-None g t c =
    sym (fewer_left (same_field (equal g.S.PartialEq.eq)) _ _ _ _ c.in-Some.ensures.steps c.in-None.ensures.steps.0)
    ∙ c.fields.invariant.so_far

pub are_same_fields-returns-in-Some-next-2 : goal.are_same_fields-returns-in-Some-next-2
are_same_fields-returns-in-Some-next-2 g t c =
    sym (more_left (same_field (equal g.S.PartialEq.eq)) _ _ _ _ c.in_default.ensures.steps.0 c.in-Some-next-2.ensures.steps)
    ∙ c.fields.invariant.so_far

pub are_same_fields-returns-in-None-next : goal.are_same_fields-returns-in-None-next
are_same_fields-returns-in-None-next g t c =
    sym (none_left (same_field (equal g.S.PartialEq.eq)) _ _ c.in_default.ensures.steps.0 c.in-None-next.ensures.steps.0)
    ∙ c.fields.invariant.so_far

pub are_same_items-returns-then-not-are_same_span : goal.are_same_items-returns-then-not-are_same_span
are_same_items-returns-then-not-are_same_span g t c =
    elim c.then-not-are_same_span.branch as (λ w. false ≡ pointwise (same_item (equal g.S.PartialEq.eq)) (items_ahead c.args.mine) (items_ahead c.args.theirs)) [
      | are_same_items-then-not-are_same_span-via-then-not-are_same_span w ↦
          let off : c.are_same_span.result ≡ false = search rules in
          sym (first_apart (same_item (equal g.S.PartialEq.eq)) _ _ _ _ _ _ c.in-Some.ensures.steps c.in-Some-next.ensures.steps (elsewhere (equal g.S.PartialEq.eq) (placed c.in-Some.item) (placed c.in-Some-next.other) (sym c.are_same_span.ensures ∙ off)))
          ∙ c.items.invariant.so_far
      | are_same_items-then-not-are_same_span-via-else-not-are_same_span+then-not-are_same_value w ↦
          let on : c.are_same_span.result ≡ true = search rules in
          let off : w.are_same_value.result ≡ false = search rules in
          sym (first_apart (same_item (equal g.S.PartialEq.eq)) _ _ _ _ _ _ c.in-Some.ensures.steps c.in-Some-next.ensures.steps (λ i. (sym c.are_same_span.ensures ∙ on) i && (sym w.are_same_value.ensures ∙ off) i))
          ∙ c.items.invariant.so_far
    ]

pub are_same_items-are_same_value-requires : goal.are_same_items-are_same_value-requires
are_same_items-are_same_value-requires g t c = λ κs within.
    (omega (arith, counted item_count _ _ _ c.in-Some.ensures.steps), search rules)

pub are_same_fields-returns-then-ne : goal.are_same_fields-returns-then-ne
are_same_fields-returns-then-ne g t c =
    elim c.then-ne.branch as (λ w. false ≡ pointwise (same_field (equal g.S.PartialEq.eq)) (fields_left c.args.mine) (fields_left c.args.theirs)) [
      | are_same_fields-then-ne-via-then-ne w ↦
          let off : bytes_eq c.in-Some.field.0.item.now c.in-Some-next.other.0.item.now ≡ false = search rules in
          sym (first_apart (same_field (equal g.S.PartialEq.eq)) _ _ _ _ _ _ c.in-Some.ensures.steps c.in-Some-next.ensures.steps (other_name (equal g.S.PartialEq.eq) (named_value c.in-Some.field) (named_value c.in-Some-next.other) off))
          ∙ c.fields.invariant.so_far
      | are_same_fields-then-ne-via-else-ne+then-not-are_same_span w ↦
          let on : bytes_eq c.in-Some.field.0.item.now c.in-Some-next.other.0.item.now ≡ true = search rules in
          let off : w.are_same_span.result ≡ false = search rules in
          sym (first_apart (same_field (equal g.S.PartialEq.eq)) _ _ _ _ _ _ c.in-Some.ensures.steps c.in-Some-next.ensures.steps (name_elsewhere (equal g.S.PartialEq.eq) (named_value c.in-Some.field) (named_value c.in-Some-next.other) on (sym w.are_same_span.ensures ∙ off)))
          ∙ c.fields.invariant.so_far
    ]

pub are_same_fields-are_same_value-requires : goal.are_same_fields-are_same_value-requires
are_same_fields-are_same_value-requires g t c = λ κs within.
    (omega (arith, counted field_count _ _ _ c.in-Some.ensures.steps), search rules)

pub are_same_fields-returns-then-not-are_same_span-2 : goal.are_same_fields-returns-then-not-are_same_span-2
are_same_fields-returns-then-not-are_same_span-2 g t c =
    let name : bytes_eq c.in-Some.field.0.item.now c.in-Some-next.other.0.item.now ≡ true = search rules in
    let place : c.are_same_span.result ≡ true = search rules in
    elim c.then-not-are_same_span-2.branch as (λ w. false ≡ pointwise (same_field (equal g.S.PartialEq.eq)) (fields_left c.args.mine) (fields_left c.args.theirs)) [
      | are_same_fields-then-not-are_same_span-2-via-then-not-are_same_span-2 w ↦
          let off : c.are_same_span-in-Some-next.result ≡ false = search rules in
          sym (first_apart (same_field (equal g.S.PartialEq.eq)) _ _ _ _ _ _ c.in-Some.ensures.steps c.in-Some-next.ensures.steps (other_value (equal g.S.PartialEq.eq) (named_value c.in-Some.field) (named_value c.in-Some-next.other) name (sym c.are_same_span.ensures ∙ place) (elsewhere (equal g.S.PartialEq.eq) (placed c.in-Some.field.1) (placed c.in-Some-next.other.1) (sym c.are_same_span-in-Some-next.ensures ∙ off))))
          ∙ c.fields.invariant.so_far
      | are_same_fields-then-not-are_same_span-2-via-else-not-are_same_span-2+then-not-are_same_value w ↦
          let on : c.are_same_span-in-Some-next.result ≡ true = search rules in
          let off : w.are_same_value.result ≡ false = search rules in
          sym (first_apart (same_field (equal g.S.PartialEq.eq)) _ _ _ _ _ _ c.in-Some.ensures.steps c.in-Some-next.ensures.steps (other_value (equal g.S.PartialEq.eq) (named_value c.in-Some.field) (named_value c.in-Some-next.other) name (sym c.are_same_span.ensures ∙ place) (λ i. (sym c.are_same_span-in-Some-next.ensures ∙ on) i && (sym w.are_same_value.ensures ∙ off) i)))
          ∙ c.fields.invariant.so_far
    ]

pub are_same_fields-fields-preserved : goal.are_same_fields-fields-preserved
are_same_fields-fields-preserved g t c =
    let name : bytes_eq c.in-Some.field.0.item.now c.in-Some-next.other.0.item.now ≡ true = search rules in
    let place : c.are_same_span.result ≡ true = search rules in
    let span_alike : c.are_same_span-in-Some-next.result ≡ true = search rules in
    let value_alike : c.are_same_value.result ≡ true = search rules in
    record {
      so_far =
          sym (first_alike (same_field (equal g.S.PartialEq.eq)) _ _ _ _ _ _ c.in-Some.ensures.steps c.in-Some-next.ensures.steps
          (same_value (equal g.S.PartialEq.eq) (named_value c.in-Some.field) (named_value c.in-Some-next.other) name (sym c.are_same_span.ensures ∙ place)
          (λ i. (sym c.are_same_span-in-Some-next.ensures ∙ span_alike) i && (sym c.are_same_value.ensures ∙ value_alike) i)))
          ∙ c.fields.invariant.so_far;
      fewer = omega (arith, counted field_count _ _ _ c.in-Some.ensures.steps);
    }

pub are_same_value-are_same_name-requires-text-mine : goal.are_same_value-are_same_name-requires-text-mine
are_same_value-are_same_name-requires-text-mine g t c κs = search rules

pub are_same_value-are_same_name-requires-text-theirs : goal.are_same_value-are_same_name-requires-text-theirs
are_same_value-are_same_name-requires-text-theirs g t c κs = search rules

pub are_same_value-are_same_items-requires : goal.are_same_value-are_same_items-requires
are_same_value-are_same_items-requires g t c = λ κs within.
    (omega (arith, ap (λ v. value_count (value_shown v)) c.in-List.is, count_list (items_told c.in-List.list), ap (sum_by item_count) c.iter.ensures), search rules)

pub are_same_value-are_same_fields-requires : goal.are_same_value-are_same_fields-requires
are_same_value-are_same_fields-requires g t c = λ κs within.
    (omega (arith, ap (λ v. value_count (value_shown v)) c.in-Object.is, count_object (fields_told c.in-Object.object), ap (sum_by field_count) c.iter-in-Object-theirs.ensures), search rules)

pub are_same_value-returns-in-Null-theirs : goal.are_same_value-returns-in-Null-theirs
are_same_value-returns-in-Null-theirs g t c =
    sym (equal_forms g.S.PartialEq.eq _ _ _ _ c.in-Null.is c.in-Null-theirs.is)

pub are_same_value-returns-in_default : goal.are_same_value-returns-in_default
are_same_value-returns-in_default g t c =
    sym (equal_forms g.S.PartialEq.eq _ _ _ _ c.in-Null.is refl ∙ not_null g.S.PartialEq.eq _ c.in_default.not-Null)

pub are_same_value-returns-in-Scalar-theirs : goal.are_same_value-returns-in-Scalar-theirs
are_same_value-returns-in-Scalar-theirs g t c =
    c.eq.ensures ∙ sym (equal_forms g.S.PartialEq.eq _ _ _ _ c.in-Scalar.is c.in-Scalar-theirs.is)

pub are_same_value-returns-in_default-theirs : goal.are_same_value-returns-in_default-theirs
are_same_value-returns-in_default-theirs g t c =
    sym (equal_forms g.S.PartialEq.eq _ _ _ _ c.in-Scalar.is refl ∙ not_scalar g.S.PartialEq.eq c.in-Scalar.scalar _ c.in_default-theirs.not-Scalar)

pub are_same_value-returns-in-Enum-theirs : goal.are_same_value-returns-in-Enum-theirs
are_same_value-returns-in-Enum-theirs g t c =
    c.are_same_name.ensures ∙ sym (equal_forms g.S.PartialEq.eq _ _ _ _ c.in-Enum.is c.in-Enum-theirs.is)

pub are_same_value-returns-in_default-theirs-2 : goal.are_same_value-returns-in_default-theirs-2
are_same_value-returns-in_default-theirs-2 g t c =
    sym (equal_forms g.S.PartialEq.eq _ _ _ _ c.in-Enum.is refl ∙ not_enum g.S.PartialEq.eq c.in-Enum.name _ c.in_default-theirs-2.not-Enum)

pub are_same_value-returns-in-List-theirs : goal.are_same_value-returns-in-List-theirs
are_same_value-returns-in-List-theirs g t c =
    c.are_same_items.ensures
    ∙ (λ i. pointwise (same_item (equal g.S.PartialEq.eq)) (c.iter.ensures i) (c.iter-in-List-theirs.ensures i))
    ∙ sym (equal_forms g.S.PartialEq.eq _ _ _ _ c.in-List.is c.in-List-theirs.is)

pub are_same_value-returns-in_default-theirs-3 : goal.are_same_value-returns-in_default-theirs-3
are_same_value-returns-in_default-theirs-3 g t c =
    sym (equal_forms g.S.PartialEq.eq _ _ _ _ c.in-List.is refl ∙ not_list g.S.PartialEq.eq c.in-List.list _ c.in_default-theirs-3.not-List)

pub are_same_value-returns-in-Object-theirs : goal.are_same_value-returns-in-Object-theirs
are_same_value-returns-in-Object-theirs g t c =
    c.are_same_fields.ensures
    ∙ (λ i. pointwise (same_field (equal g.S.PartialEq.eq)) (c.iter-in-Object-theirs.ensures i) (c.iter-in-Object-theirs-2.ensures i))
    ∙ sym (equal_forms g.S.PartialEq.eq _ _ _ _ c.in-Object.is c.in-Object-theirs.is)

pub are_same_value-returns-in_default-theirs-4 : goal.are_same_value-returns-in_default-theirs-4
are_same_value-returns-in_default-theirs-4 g t c =
    sym (equal_forms g.S.PartialEq.eq _ _ _ _ c.in-Object.is refl ∙ not_object g.S.PartialEq.eq c.in-Object.object _ c.in_default-theirs-4.not-Object)
