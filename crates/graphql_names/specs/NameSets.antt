-- Names in sets.
use Rattle.std.specs.Prelude.{Bool}
use Rattle.std.specs.Borrow.{Bor}
use Rattle.std.specs.HashSet.{HashSet}
use Rattle.std.specs.List.{list_any}
use Rattle.std.specs.Str.{bytes_eq}
use Rattle.graphql_names.specs.Names.{Bytes}

-- this name is one of the set
abbrev pub has_name : {H : Type 0} → HashSet (Bor Bytes) H → Bytes → Bool
has_name names name = list_any (λ n. bytes_eq name n.now) names.keys
