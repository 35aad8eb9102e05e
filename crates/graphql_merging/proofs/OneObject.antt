-- Fields of one response key that apply to one object type.
use Rattle.std.proofs.Common.{◌≡◌, refl, sym, ◌∙◌, ap, subst, suc, arith, Bool, true, false, not, ◌&&◌, List, [], ◌∷◌, ◌||◌, map, Option, Some, None, cond, inl, inr, append-nil}
use Rattle.std.specs.List.{Contains}
use Rattle.std.specs.Str.{bytes_eq}
use Rattle.std.proofs.lemmas.Slice.Eq.{bytes_eq-Decides}
use Rattle.std.proofs.lemmas.List.Elements.{All-cons, All-nil, Contains-append_left, Contains-append_right, Contains-append_cases}
use Rattle.graphql_names.specs.Names.{Bytes}
use Rattle.graphql_schema.specs.declared.meta.MetaType.{MetaType}
use Rattle.graphql_schema.specs.declared.meta.MetaType.TheVariants as meta
use Rattle.graphql_schema.specs.Subtypes.{is_below, is_named_subtype}
use Rattle.graphql_schema.specs.Lookups.{is_object, own_name, type_named}
use Rattle.graphql_merging.specs.Members.{Member, members, members_below}
use Rattle.graphql_merging.specs.Merging.{Merges, Merging, apart}
use Rattle.graphql_merging.specs.Sets.{Set}
use Rattle.graphql_merging.proofs.Nested.{one-only, in-nothing}
use Rattle.graphql_merging.specs.Chosen.{under_key, own_set, members_of_all, chosen, chosen_of_all, OneObject, IsAbove, IsTypeAbove}
use Rattle.graphql_merging.specs.Laws.{ChosenAreCollected, OneField, OneFieldOfObject, OwnSetsMerge}
use Rattle.graphql_merging.proofs.ChosenMembers.{collected, from-sets}

pub chosen-are-collected : (S C : Type 0) → ChosenAreCollected S C
chosen-are-collected S C types drops is_above parent tree h = collected types drops is_above parent tree h

module _ {S C : Type 0} where
  -- parents above one object type are not two different objects
  not-apart : (types : List (MetaType S C)) (is_above : Bytes → Bool) (object : Bytes) → OneObject types is_above object → (a b : Member S C) → IsTypeAbove types is_above a.parent
      → IsTypeAbove types is_above b.parent → apart a b ≡ false
  not-apart types is_above object one a b f g = cases (is_object a.parent) (is_object b.parent) refl refl
    where
      cases : (p q : Bool) → is_object a.parent ≡ p → is_object b.parent ≡ q → ((p && q) && not (bytes_eq (own_name a.parent) (own_name b.parent))) ≡ false
      cases false q e h = refl
      cases true false e h = refl
      cases true true e h = ap not ((bytes_eq-Decides (own_name a.parent) (own_name b.parent)).1 (one a.parent f e ∙ sym (one b.parent g h)))

  pub under-has : (key : Bytes) (ms : List (Member S C)) (m : Member S C) → Contains (under_key key ms) m → Contains ms m × (key ≡ m.head.key)
  under-has key [] m i = in-nothing m i
  under-has key (x ∷ ms) m i = cases (bytes_eq key x.head.key) refl (under-has key ms m) i
    where
      Has : List (Member S C) → Type 0
      Has xs = Contains xs m × (key ≡ m.head.key)

      later : Has ms → Has (x ∷ ms)
      later r = (Contains-append_right (x ∷ []) ms m r.0, r.1)

      cases : (q : Bool) → bytes_eq key x.head.key ≡ q → (Contains (under_key key ms) m → Has ms) → Contains (cond q (x ∷ under_key key ms) (under_key key ms)) m → Has (x ∷ ms)
      cases false e rest j = later (rest j)
      cases true e rest j = elim (Contains-append_cases (x ∷ []) (under_key key ms) m j) [
        | inl k ↦ (Contains-append_left (x ∷ []) ms m k, (bytes_eq-Decides key x.head.key).0 e ∙ ap (λ (n : Member S C). n.head.key) (one-only x m k))
        | inr k ↦ later (rest k)
      ]

  -- a member of the own sets is one of the set of a field
  own-of : (types : List (MetaType S C)) (ms : List (Member S C)) (c : Member S C) → Contains (members_of_all types (map (own_set types) ms)) c
      → (m : Member S C) × Contains ms m × Contains (members_below types m) c
  own-of types [] c i = in-nothing c i
  own-of types (m ∷ ms) c i = elim (Contains-append_cases (members_below types m) (members_of_all types (map (own_set types) ms)) c i) [
    | inl j ↦ (m, (0, omega arith, refl), j)
    | inr j ↦ (let r = own-of types ms c j in (r.0, Contains-append_right (m ∷ []) ms r.0 r.1, r.2))
  ]

  -- no type is below an object type
  not-below : (o : Option (MetaType S C)) (m : MetaType S C) → is_object m ≡ true → is_below o (Some m) ≡ false
  not-below None (meta.Object x) h = refl
  not-below (Some (meta.Scalar y)) (meta.Object x) h = refl
  not-below (Some (meta.List y)) (meta.Object x) h = refl
  not-below (Some (meta.Nullable y)) (meta.Object x) h = refl
  not-below (Some (meta.Object y)) (meta.Object x) h = refl
  not-below (Some (meta.Enum y)) (meta.Object x) h = refl
  not-below (Some (meta.Interface y)) (meta.Object x) h = refl
  not-below (Some (meta.Union y)) (meta.Object x) h = refl
  not-below (Some (meta.InputObject y)) (meta.Object x) h = refl
  not-below (Some (meta.Placeholder y)) (meta.Object x) h = refl
  not-below o (meta.Scalar x) h = absurd (cc)
  not-below o (meta.List x) h = absurd (cc)
  not-below o (meta.Nullable x) h = absurd (cc)
  not-below o (meta.Enum x) h = absurd (cc)
  not-below o (meta.Interface x) h = absurd (cc)
  not-below o (meta.Union x) h = absurd (cc)
  not-below o (meta.InputObject x) h = absurd (cc)
  not-below o (meta.Placeholder x) h = absurd (cc)

  pub one-object : (types : List (MetaType S C)) (object : Bytes) → OneObject types (is_named_subtype types object) object
  one-object types object m h is = cases (bytes_eq object (own_name m)) refl
    where
      cases : (q : Bool) → bytes_eq object (own_name m) ≡ q → own_name m ≡ object
      cases true e = sym ((bytes_eq-Decides object (own_name m)).0 e)
      cases false e =
          let below = type_named types object in
          let no : false ≡ true = sym (ap (λ b. b || is_below below (type_named types (own_name m))) e ∙ ap (is_below below) h.0 ∙ not-below below m is) ∙ h.1 in
          absurd (cc)

module _ (S C : Type 0) (eq : S → S → Bool) where
  pub one-field : OneField S C eq
  one-field types drops is_above object sets one above merging a b i j e =
      let p = from-sets types drops is_above sets above a i in
      let q = from-sets types drops is_above sets above b j in
      ((merging a b p.0 q.0 e 1).0).0 (not-apart types is_above object one a b p.1 q.1)

  pub own-sets-merge : OwnSetsMerge S C eq
  own-sets-merge types drops is_above object key sets one above merging c d i j e n =
      let f = own-of types (under_key key (chosen_of_all types drops is_above sets)) c i in
      let g = own-of types (under_key key (chosen_of_all types drops is_above sets)) d j in
      let u = under-has key (chosen_of_all types drops is_above sets) f.0 f.1 in
      let v = under-has key (chosen_of_all types drops is_above sets) g.0 g.1 in
      let p = from-sets types drops is_above sets above f.0 u.0 in
      let q = from-sets types drops is_above sets above g.0 v.0 in
      subst (λ x. Merges eq types n x c d) (not-apart types is_above object one f.0 g.0 p.1 q.1)
      ((merging f.0 g.0 p.0 q.0 (sym u.1 ∙ v.1) (suc n)).1 c d f.2 g.2 e)

  pub one-field-of-object : (types : List (MetaType S C)) → OneFieldOfObject S C eq types
  one-field-of-object types drops object tree there merging a b i j e =
      let above : Bytes → Bool = is_named_subtype types (own_name object) in
      let set : Set S C = record { scope = Some object; tree = tree } in
      let own : above (own_name object) ≡ true = ap (λ q. q || is_below (type_named types (own_name object)) (type_named types (own_name object)))
      ((bytes_eq-Decides (own_name object) (own_name object)).1 refl) in
      let alone : chosen_of_all types drops above (set ∷ []) ≡ chosen types drops above (Some object) tree = append-nil (chosen types drops above (Some object) tree) in
      one-field types drops above (own_name object) (set ∷ []) (one-object types (own_name object))
      (All-cons (IsAbove types above) set [] (there, own) (All-nil (IsAbove types above)))
      (subst (Merging eq types) (sym (append-nil (members types (Some object) tree))) merging) a b
      (subst (λ found. Contains found a) (sym alone) i) (subst (λ found. Contains found b) (sym alone) j) e
