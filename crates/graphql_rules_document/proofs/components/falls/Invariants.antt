use Rattle.std.proofs.Common.{◌≤◌, take}
use Rattle.std.specs.List.{AllByRecursion as Each}
use Rattle.graphql_rules_document.specs.Components.{number_of}
use Rattle.graphql_rules_document.proofs.components.falls.Given as goal

abbrev pub invariant-spreads : goal.invariant-spreads
invariant-spreads l = Each (λ s. number_of l.index.fragments.now l.components s.name.now ≤ number_of l.index.fragments.now l.components l.fragment.name.now) (take l.spread-index l.fragment.spreads)
