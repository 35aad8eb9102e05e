use Rattle.std.proofs.Common.{◌≡◌, take}
use Rattle.graphql_names.proofs.named_items.same_name.Given as goal

-- the bytes so far are the same
abbrev pub invariant-bytes : goal.invariant-bytes
invariant-bytes l = take l.place l.bytes ≡ take l.place l.others
