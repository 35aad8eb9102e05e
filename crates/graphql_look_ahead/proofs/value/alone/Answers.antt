use Rattle.std.proofs.Common.{None, map, ap, sym, ◌∙◌}
use Rattle.graphql_values.specs.declared.input_value.InputValue.TheVariants as value
use Rattle.graphql_look_ahead.specs.Seen.{seen_alone}
use Rattle.graphql_look_ahead.specs.Values.{field_seen, item_seen}
use Rattle.graphql_look_ahead.proofs.ValueLemmas.{seen_list, seen_object}
use Rattle.graphql_look_ahead.proofs.value.alone.Goals as goal

pub returns-in-List : goal.returns-in-List
returns-in-List g c =
    ap value.List (c.new.ensures ∙ ap (map (item_seen None)) c.as_slice.ensures)
    ∙ sym (ap seen_alone c.in-List.is ∙ seen_list (λ _. None) c.in-List.items)

pub returns-in-Object : goal.returns-in-Object
returns-in-Object g c =
    ap value.Object (c.new-in-Object.ensures ∙ ap (map (field_seen None)) c.as_slice-in-Object.ensures)
    ∙ sym (ap seen_alone c.in-Object.is ∙ seen_object (λ _. None) c.in-Object.pairs)
