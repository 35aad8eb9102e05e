use Rattle.std.proofs.Common.{◌≡◌, ◌++◌, [], map}
use Rattle.graphql_json.specs.Json.{joined}
use Rattle.graphql_json.specs.Writing.{KeepsFront}
use Rattle.graphql_answers.specs.Texts.{location_text}
use Rattle.graphql_answers.proofs.Parts.{left_of}
use Rattle.graphql_answers.proofs.places.push_each_location.Given as goal

-- what was written, and then what is left to be, is the whole
abbrev pub invariant-places : goal.invariant-places
invariant-places l = record {
  written : l.out.items ++ left_of location_text l.gap l.place-index l.places ≡ l.fn.out.items ++ joined [] (map location_text l.places);
  front : KeepsFront l.fn.out.items l.out.items;
}
