use Rattle.std.proofs.Common.{take, None}
use Rattle.std.specs.List.{flat_map}
use Rattle.graphql_collected.specs.Requests.{drops_in, fragments_in}
use Rattle.graphql_look_ahead.specs.FirstChild.{AllLack, IsFirst}
use Rattle.graphql_look_ahead.specs.Selections.{below_collected}
use Rattle.graphql_look_ahead.proofs.searching.steps.find_first.Given as goal

abbrev pub invariant-fields : goal.invariant-fields
invariant-fields g l = record {
  before : IsFirst g.S.ScalarValue.answer l.request l.key (flat_map below_collected (take l.field-index l.fields)) None;
  lack : AllLack (drops_in g.S.ScalarValue.answer l.request) (fragments_in l.request) l.key l.searched.keys;
}
