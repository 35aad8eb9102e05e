use Rattle.std.proofs.Common.{◌≡◌, map, take}
use Rattle.graphql_rules_document.specs.Lent.{fragment_of}
use Rattle.graphql_rule_errors.specs.Repeats.{mention_lent}
use Rattle.graphql_rules_document.specs.UniqueFragmentNames.{fragment_mention}
use Rattle.graphql_rules_document.proofs.unique_fragment_names.fragment_names.Given as goal

abbrev pub invariant-fragments : goal.invariant-fragments
invariant-fragments l = map mention_lent l.mentions ≡ map fragment_mention (map fragment_of (take l.fragment-index l.fragments))
