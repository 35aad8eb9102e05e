-- What the rule promises of errors holds of others that name the same places.
use Rattle.std.proofs.Common.{subst, ◌↔◌, Bool, List, get_or}
use Rattle.std.specs.List.{Contains}
use Rattle.std.proofs.lemmas.List.Elements.{All-contains, Contains-get_or}
use Rattle.graphql_schema.specs.declared.meta.MetaType.{MetaType}
use Rattle.graphql_text.specs.declared.position.SourcePosition.{SourcePosition}
use Rattle.graphql_rule_errors.specs.Places.{Places}
use Rattle.graphql_merging.specs.Members.{Member}
use Rattle.graphql_merging.specs.Sets.{Set}
use Rattle.graphql_merging.specs.Told.{Names}
use Rattle.graphql_merging.specs.Contract.{IsConflict, IsSound, IsDirect, IsComplete}
use Rattle.graphql_merging.proofs.Contracts.{any-among}
use Rattle.graphql_rules_merging.proofs.Settled.{none-in}

module _ {S C : Type 0} (eq : S → S → Bool) (types : List (MetaType S C)) (sets : List (Set S C)) where
  abbrev pub Promised : Places → Type 0
  Promised errors = IsSound eq types sets errors × IsDirect eq types sets errors × IsComplete eq types sets errors

  abbrev IsRight : List SourcePosition → Type 0
  IsRight e = (a : Member S C) × (b : Member S C) × IsConflict eq types sets a b × Names e a b

  pub promised_named : (old new : Places) → ((e : List SourcePosition) → Contains old e ↔ Contains new e) → Promised old → Promised new
  promised_named old new same h = (
    (λ k d within.
        let e = get_or new k d in
        All-contains IsRight old e h.0 ((same e).1 (Contains-get_or new k d within))),
    (λ set a b i pair key differ. any-among (λ e. Names e a b) old new (λ e j. (same e).0 j) (h.1 set a b i pair key differ)),
    (λ none. h.2 (none-in old (λ e i. subst (λ es. Contains es e) none ((same e).0 i)))),
  )
