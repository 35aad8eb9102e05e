use Rattle.std.proofs.Common.{◌≡◌, ◌++◌, Bool, map, take}
use Rattle.std.specs.List.{filter, flat_map}
use Rattle.graphql_rules_document.specs.Lent.{fragment_of, use_of}
use Rattle.graphql_rules_document.specs.Scopes.{FragmentScope}
use Rattle.graphql_rules_document.proofs.reached_fragments.ReachedFragments.add_uses.Given as goal

abbrev pub invariant-fragments : goal.invariant-fragments
invariant-fragments l =
    (test : FragmentScope → Bool) → l.self.marks ≡ map test (map fragment_of l.index.fragments.now)
    → map use_of l.uses ≡ map use_of l.initial.uses ++ flat_map (λ f. f.uses) (filter test (map fragment_of (take l.place l.index.fragments.now)))
