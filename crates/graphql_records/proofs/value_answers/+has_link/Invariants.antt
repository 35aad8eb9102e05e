use Rattle.std.proofs.Common.{◌≡◌, take, false}
use Rattle.std.specs.List.{list_any}
use Rattle.graphql_records.specs.Fields.{has_link}
use Rattle.graphql_records.proofs.value_answers.+has_link.Given as goal

abbrev pub invariant-have_link-values : goal.invariant-have_link-values
invariant-have_link-values l = list_any (has_link l.id) (take l.value-index l.values) ≡ false
