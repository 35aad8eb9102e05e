use Rattle.std.proofs.Common.{take}
use Rattle.std.specs.List.{AllByRecursion as Each}
use Rattle.graphql_rules_document.specs.Components.{Falls}
use Rattle.graphql_rules_document.proofs.components.all_fall.Given as goal

abbrev pub invariant-fragments : goal.invariant-fragments
invariant-fragments l = Each (Falls l.index.fragments.now l.components) (take l.fragment-index l.index.fragments.now)
