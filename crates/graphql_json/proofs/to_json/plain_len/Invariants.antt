use Rattle.std.proofs.Common.{◌≡◌, take}
use Rattle.std.specs.List.{flat_map}
use Rattle.graphql_json.specs.Json.{escaped}
use Rattle.graphql_json.proofs.to_json.plain_len.Given as goal

abbrev pub invariant-bytes : goal.invariant-bytes
invariant-bytes l = flat_map escaped (take l.index l.bytes) ≡ take l.index l.bytes
