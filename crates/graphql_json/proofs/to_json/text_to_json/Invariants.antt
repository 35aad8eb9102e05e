use Rattle.std.proofs.Common.{◌≡◌, [], ◌∷◌, ◌++◌, length}
use Rattle.std.specs.List.{flat_map}
use Rattle.graphql_json.specs.Json.{escaped}
use Rattle.graphql_json.specs.Writing.{KeepsFront}
use Rattle.graphql_json.proofs.to_json.text_to_json.Given as goal

-- what was written, and then what is left to be, is the whole
abbrev pub invariant-runs : goal.invariant-runs
invariant-runs l = record {
  written : l.out.items ++ flat_map escaped l.rest ≡ (l.fn.out.items ++ 34 ∷ []) ++ flat_map escaped l.fn.text;
  front : KeepsFront l.fn.out.items l.out.items;
}

abbrev pub decreases-runs : goal.decreases-runs
decreases-runs l = length l.rest
