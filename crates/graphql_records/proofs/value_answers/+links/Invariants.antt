use Rattle.std.proofs.Common.{◌≡◌, take, map}
use Rattle.graphql_records.specs.Fields.{at_links}
use Rattle.graphql_records.proofs.value_answers.+links.Given as goal

abbrev pub invariant-links-values : goal.invariant-links-values
invariant-links-values l = l.answers ≡ map (at_links l.records.entries) (take l.value-index l.value-items)
