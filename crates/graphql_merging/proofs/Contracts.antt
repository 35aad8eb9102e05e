-- Where the rule ends, its errors are as it promises.
use Rattle.std.proofs.Common.{refl, subst, ℕ, Bool, true, List, [], ◌∷◌, get_or, inl, inr, arith}
use Rattle.std.specs.List.{All, Any, Contains}
use Rattle.std.proofs.lemmas.List.Elements.{Contains-get_or, Contains-append_cases}
use Rattle.std.proofs.lemmas.List.Elements.{Contains-append_left, Contains-append_right}
use Rattle.graphql_text.specs.declared.position.SourcePosition.{SourcePosition}
use Rattle.graphql_schema.specs.declared.meta.MetaType.{MetaType}
use Rattle.graphql_rule_errors.specs.Places.{Places}
use Rattle.graphql_merging.specs.Merging.{Merging}
use Rattle.graphql_merging.specs.Sets.{Set, members_of, sets_in, sets_of}
use Rattle.graphql_merging.specs.Pieces.{Pieces}
use Rattle.graphql_merging.specs.Contract.{IsSound, IsDirect, IsComplete}
use Rattle.graphql_merging.specs.Done.{IsDone, all_sets}
use Rattle.graphql_merging.proofs.Nested.{in-nothing, nested-sets-follow}
use Rattle.graphql_merging.proofs.Settled.{settled-piece}

-- what is true of an item of a list is true of one of a list that has its items
pub any-among : (P : List SourcePosition → Type 0) (es errors : Places)
    → ((e : List SourcePosition) → Contains es e → Contains errors e) → Any P es → Any P errors
any-among P es errors h a = let i = h a.1 (a.0, a.2, a.3) in (i.0, a.1, i.1, i.2, a.4)

module _ {S C : Type 0} (types : List (MetaType S C)) where
  -- a set is among all sets where it is one of the first of them
  pub root-among : (roots : List (Set S C)) (set : Set S C) → Contains roots set → Contains (all_sets types roots) set
  root-among [] set i = in-nothing set i
  root-among (r ∷ roots) set i = elim (Contains-append_cases (r ∷ []) roots set i) [
    | inl j ↦ (
        let of-root = Contains-append_left (r ∷ []) (sets_in types r.scope r.tree) set j in
        Contains-append_left (sets_of types r) (all_sets types roots) set of-root
        )
    | inr j ↦ Contains-append_right (sets_of types r) (all_sets types roots) set (root-among roots set j)
  ]

  -- a set of all is one of a root
  pub set-of-root : (roots : List (Set S C)) (set : Set S C) → Contains (all_sets types roots) set
      → (r : Set S C) × Contains roots r × Contains (sets_of types r) set
  set-of-root [] set i = in-nothing set i
  set-of-root (r ∷ roots) set i = elim (Contains-append_cases (sets_of types r) (all_sets types roots) set i) [
    | inl j ↦ (r, (0, omega arith, refl), j)
    | inr j ↦ (let k = set-of-root roots set j in (k.0, Contains-append_right (r ∷ []) roots k.0 k.1, k.2))
  ]

module _ (S C : Type 0) (eq : S → S → Bool) (types : List (MetaType S C)) (roots : List (Set S C)) (t : Pieces S C)
    (Begun : ℕ → ℕ → Bool → Type 0) (errors : Places) where
  -- by any relation: a contract's clause can only go over lists and truth values
  pub done-meets : IsDone eq types roots t Begun errors
      → IsSound eq types (all_sets types roots) errors × IsDirect eq types (all_sets types roots) errors
      × IsComplete eq types (all_sets types roots) errors
  done-meets done = (
    (λ k d within. let r = done.told k d within in let y = r.2 in (
      y.1,
      y.2,
      (r.0, root-among types roots r.0 r.1, (y.0, y.3, λ merge. y.4 ((merge 1).0))),
      y.5,
    )),
    done.directs,
    (λ none k d within.
        let set = get_or (all_sets types roots) k d in
        let r = set-of-root types roots set (Contains-get_or (all_sets types roots) k d within) in
        let piece = done.pieces r.0 r.1 in
        let ms = members_of types r.0 in
        let whole = settled-piece eq types t Begun done.owns (done.settled none) piece.0 ms piece.2 piece.1 in
        let inner = nested-sets-follow S C eq types r.0 whole in
        one-of (λ s. Merging eq types (members_of types s)) (sets_of types r.0) inner set r.2),
  )
    where
      one-of : {X : Type 0} (P : X → Type 0) (xs : List X) → All P xs → (x : X) → Contains xs x → P x
      one-of P xs h x i = subst P i.2 (h i.0 x i.1)
