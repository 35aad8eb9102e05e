use Rattle.std.proofs.Common.{◌≡◌, ◌++◌, option_map}
use Rattle.std.specs.Vec.Iter.{into_iter_items}
use Rattle.serde_json.specs.View.{items_view, members_view}
use Rattle.graphql_lines.specs.Variables.{inputs_of, fields_of}
use Rattle.graphql_lines.proofs.variables.+inputs.Given as goal

-- what was found, and then what is left, is what the whole gives
abbrev pub invariant-list-items : goal.invariant-list-items
invariant-list-items g l =
    inputs_of g.S.ScalarValue.of_bool g.S.ScalarValue.of_int g.S.ScalarValue.of_text (items_view l.fn.items.items)
    ≡ option_map (λ xs. l.found ++ xs) (inputs_of g.S.ScalarValue.of_bool g.S.ScalarValue.of_int g.S.ScalarValue.of_text (items_view (into_iter_items l.item-iterator)))

abbrev pub invariant-object-members : goal.invariant-object-members
invariant-object-members g l =
    fields_of g.S.ScalarValue.of_bool g.S.ScalarValue.of_int g.S.ScalarValue.of_text (members_view l.fn.members.entries)
    ≡ option_map (λ ps. l.found ++ ps) (fields_of g.S.ScalarValue.of_bool g.S.ScalarValue.of_int g.S.ScalarValue.of_text (members_view l.key-iterator))
