use Rattle.std.proofs.Common.{◌≡◌, take}
use Rattle.graphql_names.specs.Names.{Bytes, named}
use Rattle.graphql_rule_errors.specs.Found.{item_named}
use Rattle.graphql_rules_document.proofs.first_variables.first_variables.Given as goal

abbrev pub invariant-defined : goal.invariant-defined
invariant-defined g l = (name : Bytes) → item_named l.first name ≡ named (λ v. v.0.item) (take l.variable-index l.defined) name
