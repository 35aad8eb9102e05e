-- Where nothing is said of any of some items.
use Rattle.std.proofs.Common.{◌≡◌, ◌↔◌, List, [], Bool, true, false}
use Rattle.std.specs.List.{All, Contains, flat_map}
use Rattle.std.proofs.lemmas.Bool.{both_ways, false_from_ne_true}
use Rattle.std.proofs.lemmas.List.Elements.{All-contains, Contains-get_or}
use Rattle.graphql_text.specs.declared.position.SourcePosition.{SourcePosition}
use Rattle.graphql_rule_errors.specs.Places.{error_if}
use Rattle.graphql_rule_errors.proofs.NoFaultLemmas.{none_if, none_told}

module _ {A B : Type 0} (f : A → List B) where
  all_silent : (xs : List A) → (flat_map f xs ≡ []) ↔ All (λ x. f x ≡ []) xs
  all_silent = none_told f (λ x. f x ≡ []) (λ x. (λ h. h, λ h. h))

  -- nothing is said of a list exactly where nothing is said of any of its items
  pub silent_each : (xs : List A) → (flat_map f xs ≡ []) ↔ ((x : A) → Contains xs x → f x ≡ [])
  silent_each xs = (λ h x there. All-contains (λ y. f y ≡ []) xs x ((all_silent xs).0 h) there, λ h. (all_silent xs).1 (λ k d within. h _ (Contains-get_or xs k d within)))

-- no error exactly where nothing is wrong
pub silent_if : (wrong : Bool) (at : List SourcePosition) → (error_if wrong at ≡ []) ↔ (wrong ≡ false)
silent_if wrong at =
    let none = none_if wrong at (wrong ≡ true) (λ h. h, λ h. h) in
    (λ h. false_from_ne_true wrong (none.0 h), λ h. none.1 (both_ways wrong h))
