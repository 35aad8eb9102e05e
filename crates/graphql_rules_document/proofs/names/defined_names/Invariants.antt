use Rattle.std.proofs.Common.{◌≡◌, map, take}
use Rattle.graphql_names.specs.Names.{Bytes, is_one_of}
use Rattle.graphql_occurrences.specs.Occurrences.{variable_part}
use Rattle.graphql_names.specs.NameSets.{has_name}
use Rattle.graphql_rules_document.proofs.names.defined_names.Given as goal

abbrev pub invariant-defined : goal.invariant-defined
invariant-defined g l = (q : Bytes) → has_name l.names q ≡ is_one_of (map (λ v. v.name.item) (map variable_part (take l.variable-index l.defined))) q
