use Rattle.std.proofs.Common.{◌≡◌, take, filter}
use Rattle.std.specs.Option.{option_map}
use Rattle.graphql_bundles.specs.Groups.{is_of}
use Rattle.graphql_bundles.proofs.heads.fields_in_part.Given as goal

abbrev pub invariant-loop-field : goal.invariant-loop-field
invariant-loop-field g l = l.fields ≡ filter (is_of (option_map (λ n. n.now) l.name)) (take l.field-index l.group)
