-- The uses of variables that an operation reaches, as they are listed and where they stand.
use Rattle.std.proofs.Common.{◌≡◌, ◌↔◌, subst, List, map}
use Rattle.std.specs.List.{All, Contains}
use Rattle.std.proofs.lemmas.List.Elements.{All-contains, All-contains_itself, All-weaker}
use Rattle.graphql_names.specs.Names.{Bytes}
use Rattle.graphql_occurrences.specs.Parts.{Use, VariablePart}
use Rattle.graphql_rules_document.specs.Reached.{uses_from}
use Rattle.graphql_rules_document.specs.Scopes.{FragmentScope, OperationScope}
use Rattle.graphql_rules_document.specs.Laws.{UsesAreReached}
use Rattle.graphql_rules_merging.proofs.Lists.{map_has, map_of}
use Rattle.graphql_law_rows.specs.KeptRules.{IsUseIn}

all_iff : {X : Type 0} (P Q : X → Type 0) → ((x : X) → P x ↔ Q x) → (xs : List X) → All P xs ↔ All Q xs
all_iff P Q is xs = (All-weaker P Q (λ x. (is x).0) xs, All-weaker Q P (λ x. (is x).1) xs)

module _ {S : Type 0} (uses_reached : UsesAreReached S) (fragments : List FragmentScope) where
  each_of : (Fact : Use → Type 0) (o : OperationScope S)
      → All Fact (uses_from fragments o) ↔ ((u : Use) → IsUseIn fragments o u → Fact u)
  each_of Fact o = (
    λ h u is. All-contains Fact (uses_from fragments o) u h ((uses_reached fragments o u).1 is),
    λ h.
        All-weaker (Contains (uses_from fragments o)) Fact (λ u there. h u ((uses_reached fragments o u).0 there))
        (uses_from fragments o) (All-contains_itself (uses_from fragments o)),
  )

  one_of : (o : OperationScope S) (name : Bytes)
      → Contains (map (λ u. u.name) (uses_from fragments o)) name
      ↔ ((u : Use) × IsUseIn fragments o u × (u.name ≡ name))
  one_of o name = (
    λ h.
        let u = map_of (λ (u : Use). u.name) (uses_from fragments o) name h in
        (u.0, (uses_reached fragments o u.0).0 u.1, u.2),
    λ h.
        subst (Contains (map (λ u. u.name) (uses_from fragments o))) h.2
        (map_has (λ (u : Use). u.name) (uses_from fragments o) h.0 ((uses_reached fragments o h.0).1 h.1)),
  )

  -- the same of each operation
  pub each_use : (Fact : OperationScope S → Use → Type 0) (operations : List (OperationScope S))
      → All (λ o. All (Fact o) (uses_from fragments o)) operations
      ↔ All (λ o. (u : Use) → IsUseIn fragments o u → Fact o u) operations
  each_use Fact =
      all_iff (λ o. All (Fact o) (uses_from fragments o)) (λ o. (u : Use) → IsUseIn fragments o u → Fact o u)
      (λ o. each_of (Fact o) o)

  abbrev IsListed : OperationScope S → VariablePart S → Type 0
  IsListed o v = Contains (map (λ u. u.name) (uses_from fragments o)) v.name.item

  abbrev IsUsed : OperationScope S → VariablePart S → Type 0
  IsUsed o v = (u : Use) × IsUseIn fragments o u × (u.name ≡ v.name.item)

  -- and of each variable that it defines
  pub each_used : (operations : List (OperationScope S))
      → All (λ o. All (IsListed o) o.defined) operations ↔ All (λ o. All (IsUsed o) o.defined) operations
  each_used =
      all_iff (λ o. All (IsListed o) o.defined) (λ o. All (IsUsed o) o.defined)
      (λ o. all_iff (IsListed o) (IsUsed o) (λ v. one_of o v.name.item) o.defined)
