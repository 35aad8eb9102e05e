-- The fields of a plain set are those of the set, under the same types; so where these merge those do.
use Rattle.std.proofs.Common.{◌≡◌, sym, ◌∙◌, ap, subst, ℕ, zero, suc, Bool, true, false, ◌||◌, List, [], ◌++◌, Some, None, cond, ⊎_elim}
use Rattle.std.specs.List.{Contains}
use Rattle.std.proofs.lemmas.List.Elements.{Contains-append_left, Contains-append_right, Contains-append_cases}
use Rattle.graphql_schema.specs.declared.meta.MetaType.{MetaType}
use Rattle.graphql_written_out.specs.Trees.{Directives, Head, Tree, none, field, inline}
use Rattle.graphql_semantics.proofs.Elements.{none-in, only-one, here}
use Rattle.graphql_merging.specs.Members.{Member, Scope, inside, member, members, scope_of}
use Rattle.graphql_merging.specs.Merging.{Merges, Merging, apart}
use Rattle.graphql_plain_tree.specs.Plain.{drops_all, plain_set, plain}

module _ {S C : Type 0} (types : List (MetaType S C)) (drops : Directives S → Bool) (stand_in : Directives S) where
  abbrev set : Bool → Tree S → Tree S
  set = plain_set drops stand_in

  abbrev p : Tree S → Tree S
  p = plain drops stand_in

  abbrev Ms : Type 0
  Ms = List (Member S C)

  abbrev all : Scope S C → Tree S → Ms
  all = members types

  -- the copy of a field: the same with a plain set
  abbrev copy : Member S C → Member S C
  copy m = record { parent = m.parent; head = m.head; below = p m.below }

  -- it is the copy of one of these
  abbrev Copied : Ms → Member S C → Type 0
  Copied ms c = (m : Member S C) × Contains ms m × (c ≡ copy m)

  later : (xs ys : Ms) (c : Member S C) → Copied ys c → Copied (xs ++ ys) c
  later xs ys c h = (h.0, Contains-append_right xs ys h.0 h.1, h.2)

  sooner : (xs ys : Ms) (c : Member S C) → Copied xs c → Copied (xs ++ ys) c
  sooner xs ys c h = (h.0, Contains-append_left xs ys h.0 h.1, h.2)

  one : (scope : Scope S C) (head : Head S) (below : Tree S) (c : Member S C)
      → Contains (member scope head (p below)) c → Copied (member scope head below) c
  one None head below c h = none-in c h
  one (Some parent) head below c h =
      let m : Member S C = record { parent = parent; head = head; below = below } in
      (m, here m [], sym (only-one (copy m) c h))

  both : (xs ys us vs : Ms) (c : Member S C) → (Contains us c → Copied xs c) → (Contains vs c → Copied ys c)
      → Contains (us ++ vs) c → Copied (xs ++ ys) c
  both xs ys us vs c f g h = ⊎_elim (λ a. sooner xs ys c (f a)) (λ a. later xs ys c (g a)) (Contains-append_cases us vs c h)

  copied : (t : Tree S) (out : Bool) (scope : Scope S C) (c : Member S C) → Contains (all scope (set out t)) c → Copied (all scope t) c
  copied none out scope c = λ h. none-in c h
  copied (field head directives below rest) true scope c =
      both (member scope head below) (all scope rest) (member scope head (p below)) [] c (one scope head below c) (none-in c)
  copied (field head directives below rest) false scope c =
      let first = member scope head below in
      elim (drops directives) as (λ d. Contains (all scope (cond d (set false rest) (field head [] (p below) (set false rest)))) c → Copied (first ++ all scope rest) c) [
        | true ↦ λ h. later first (all scope rest) c (copied rest false scope c h)
        | false ↦ both first (all scope rest) (member scope head (p below)) (all scope (set false rest)) c
            (one scope head below c) (copied rest false scope c)
      ]
  copied (inline on directives below rest) true scope c =
      let within = inside types scope on in
      both (all within below) (all scope rest) (all within (p below)) [] c (copied below (drops_all drops below) within c) (none-in c)
  copied (inline on directives below rest) false scope c =
      let within = inside types scope on in
      elim (drops directives) as (λ d. Contains (all scope (cond d (set false rest) (inline on [] (p below) (set false rest)))) c → Copied (all within below ++ all scope rest) c) [
        | true ↦ λ h. later (all within below) (all scope rest) c (copied rest false scope c h)
        | false ↦ both (all within below) (all scope rest) (all within (p below)) (all scope (set false rest)) c
            (copied below (drops_all drops below) within c) (copied rest false scope c)
      ]

  copied-plain : (t : Tree S) (scope : Scope S C) (c : Member S C) → Contains (all scope (p t)) c → Copied (all scope t) c
  copied-plain t = copied t (drops_all drops t)

  same-key : (c d a b : Member S C) → c ≡ copy a → d ≡ copy b → c.head.key ≡ d.head.key → a.head.key ≡ b.head.key
  same-key c d a b i j k = ap (λ (m : Member S C). m.head.key) (sym i) ∙ k ∙ ap (λ (m : Member S C). m.head.key) j

  module _ (eq : S → S → Bool) where
    -- what two fields do their copies do
    of-copies : (n : ℕ) (x : Bool) (c d a b : Member S C) → c ≡ copy a → d ≡ copy b
        → Merges eq types n x (copy a) (copy b) → Merges eq types n x c d
    of-copies n x c d a b i j h =
        subst (λ z. Merges eq types n x z d) (sym i) (subst (λ z. Merges eq types n x (copy a) z) (sym j) h)

    copies-merge : (n : ℕ) (x : Bool) (a b : Member S C) → Merges eq types n x a b → Merges eq types n x (copy a) (copy b)
    copies-merge zero x a b h = tt
    copies-merge (suc n) x a b h = (
      h.0,
      λ c d within_a within_b k.
          let i = copied-plain a.below (scope_of types a.parent a.head.name) c within_a in
          let j = copied-plain b.below (scope_of types b.parent b.head.name) d within_b in
          of-copies n (x || apart a b) c d i.0 j.0 i.2 j.2
          (copies-merge n (x || apart a b) i.0 j.0 (h.1 i.0 j.0 i.1 j.1 (same-key c d i.0 j.0 i.2 j.2 k))),
    )

    pub merging-plain : (scope : Scope S C) (t : Tree S) → Merging eq types (all scope t) → Merging eq types (all scope (p t))
    merging-plain scope t h c d inside_c inside_d k n =
        let i = copied-plain t scope c inside_c in
        let j = copied-plain t scope d inside_d in
        of-copies n false c d i.0 j.0 i.2 j.2
        (copies-merge n false i.0 j.0 (h i.0 j.0 i.1 j.1 (same-key c d i.0 j.0 i.2 j.2 k) n))
