use Rattle.std.proofs.Common.{◌≡◌, map, take}
use Rattle.graphql_names.specs.Names.{Bytes, is_one_of}
use Rattle.graphql_rules_document.specs.Lent.{use_of}
use Rattle.graphql_names.specs.NameSets.{has_name}
use Rattle.graphql_rules_document.proofs.names.used_names.Given as goal

abbrev pub invariant-uses : goal.invariant-uses
invariant-uses l = (q : Bytes) → has_name l.names q ≡ is_one_of (map (λ u. u.name) (map use_of (take l.used-index l.uses))) q
