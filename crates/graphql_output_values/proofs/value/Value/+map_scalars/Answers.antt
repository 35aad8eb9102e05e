use Rattle.std.proofs.Common.{◌≡◌, ap, sym, ◌∙◌, arith, map}
use Rattle.std.proofs.lemmas.Grind.{common_steps}
use Rattle.graphql_output_values.specs.Values.{map_scalars, map_field}
use Rattle.graphql_output_values.proofs.MapLemmas.{map_scalars-list, map_scalars-object, map_more}
use Rattle.graphql_output_values.specs.declared.value.Value.TheVariants as value
use Rattle.graphql_output_values.proofs.value.Value.+map_scalars.Goals as goal

pub mapped-returns-in_ok-map_items-in-List :
    goal.mapped-returns-in_ok-map_items-in-List
mapped-returns-in_ok-map_items-in-List g t c f turns =
    ap value.List (c.in_ok-map_items-in-List.ensures f turns) ∙ sym (map_scalars-list f c.in-List.items) ∙ ap (map_scalars f) (sym c.in-List.is)

pub mapped-returns-in_ok-fields-in-Object : goal.mapped-returns-in_ok-fields-in-Object
mapped-returns-in_ok-fields-in-Object g t c f turns =
    (λ i. value.Object (record { fields = c.in_ok-fields-in-Object.ensures f turns i })) ∙ sym (map_scalars-object f c.in-Object.object) ∙ ap (map_scalars f) (sym c.in-Object.is)

pub map_fields-loop-field-preserved : goal.map_fields-loop-field-preserved
map_fields-loop-field-preserved g t c = record {
  taken = grind (arith, common_steps);
  counted = grind (arith, common_steps);
  made = λ f turns. map_more (map_field f) c.loop-field.yielded c.in-Some.field c.loop-field.all c.push.new.self _ (c.loop-field.invariant.made f turns) c.in_ok-push.ensures.ok (λ i. (c.in-Some.field.0, c.in_ok-mapped.ensures f turns i));
}

pub map_fields-returns : goal.map_fields-returns
map_fields-returns g t c f turns =
    let all : c.loop-field.yielded ≡ c.args.fields = grind (arith, common_steps) in
    c.loop-field.invariant.made f turns ∙ ap (map (map_field f)) all

pub map_items-loop-item-preserved : goal.map_items-loop-item-preserved
map_items-loop-item-preserved g t c = record {
  taken = grind (arith, common_steps);
  counted = grind (arith, common_steps);
  made = λ f turns. map_more (map_scalars f) c.loop-item.yielded c.in-Some.item c.loop-item.all c.push.new.self _ (c.loop-item.invariant.made f turns) c.in_ok-push.ensures.ok (c.in_ok-mapped.ensures f turns);
}

pub map_items-returns : goal.map_items-returns
map_items-returns g t c f turns =
    let all : c.loop-item.yielded ≡ c.args.items = grind (arith, common_steps) in
    c.loop-item.invariant.made f turns ∙ ap (map (map_scalars f)) all
