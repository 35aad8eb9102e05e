-- Sets are compared, one pair after the other.
use Rattle.std.proofs.Common.{◌≡◌, refl, ap, sym, subst, ◌∙◌, ℕ, eqb, Bool, true, false, not, ◌&&◌, ◌||◌, List, [], ◌∷◌, map, cond, ◌⊎◌, inl, inr}
use Rattle.std.specs.List.{Contains}
use Rattle.std.specs.Str.{bytes_eq}
use Rattle.std.proofs.lemmas.Slice.Eq.{bytes_eq-Decides}
use Rattle.std.proofs.lemmas.Bool.Decides.{Decides-eqb}
use Rattle.graphql_schema.specs.declared.meta.MetaType.{MetaType}
use Rattle.graphql_schema.specs.Lookups.{own_name, is_object}
use Rattle.graphql_merging.specs.Members.{Member}
use Rattle.graphql_merging.specs.Merging.{apart}
use Rattle.graphql_merging.specs.Pieces.{Pieces, PieceField}
use Rattle.graphql_merging.specs.Told.{AddsErrors, AgreeIfOneKey}
use Rattle.graphql_merging.proofs.Nested.{in-nothing}
use Rattle.graphql_merging.proofs.Reports.{adds-nothing}
use Rattle.graphql_merging.proofs.Standing.{apart-self, agreement-is-mutual}
use Rattle.graphql_rules_merging.specs.declared.agenda.SetPair.{SetPair}
use Rattle.graphql_rules_merging.specs.Agenda.{pair_of, Listed, PairOf, IsEmptyPiece, IsBegun, ListsPairs}
use Rattle.graphql_rules_merging.specs.Comparing.{between, later, Stage, members_in, HasOneKey, own_sets, OwnSets, field_pairs, LeadsTo, DoAgree, ComparesSets}
use Rattle.graphql_rules_merging.proofs.Pairs.{pair_either_way, pair_holds}
use Rattle.graphql_rules_merging.proofs.Lists.{map_has, map_of, between_has, between_of, later_of, later_cases}
use Rattle.graphql_rules_merging.proofs.Begun.{begins_none, begins_both, begins_as}

same-either-way : (p q : List ℕ) → bytes_eq p q ≡ bytes_eq q p
same-either-way p q = cases (bytes_eq p q) (bytes_eq q p) refl refl
  where
    cases : (x y : Bool) → bytes_eq p q ≡ x → bytes_eq q p ≡ y → x ≡ y
    cases true true e f = refl
    cases false false e f = refl
    cases true false e f = sym ((bytes_eq-Decides q p).1 (sym ((bytes_eq-Decides p q).0 e))) ∙ f
    cases false true e f = sym e ∙ (bytes_eq-Decides p q).1 (sym ((bytes_eq-Decides q p).0 f))

swapped : (x y z w : Bool) → z ≡ w → ((x && y) && not z) ≡ ((y && x) && not w)
swapped true true z w e = ap not e
swapped true false z w e = refl
swapped false true z w e = refl
swapped false false z w e = refl

or-false : (x : Bool) → (x || false) ≡ x
or-false true = refl
or-false false = refl

module _ {S C : Type 0} where
  pub apart_either_way : (a b : Member S C) → apart a b ≡ apart b a
  apart_either_way a b = swapped (is_object a.parent) (is_object b.parent) _ _ (same-either-way (own_name a.parent) (own_name b.parent))

  pub own_either_way : (x : Bool) (f g : PieceField S C) → own_sets x (f, g) ≡ own_sets x (g, f)
  own_either_way x f g =
      pair_either_way f.own g.own (x || apart f.member g.member) ∙ ap (λ y. pair_of g.own f.own (x || y)) (apart_either_way f.member g.member)

  pub own_itself : (eq : S → S → Bool) (x : Bool) (f : PieceField S C) → own_sets x (f, f) ≡ pair_of f.own f.own x
  own_itself eq x f = ap (pair_of f.own f.own) (ap (λ y. x || y) (apart-self eq f.member) ∙ or-false x)

module _ {S C : Type 0} (eq : S → S → Bool) (types : List (MetaType S C)) (t : Pieces S C) where
  abbrev Agreeing : Bool → PieceField S C × PieceField S C → Type 0
  Agreeing x p = HasOneKey p × DoAgree eq types x p

  abbrev Any : PieceField S C × PieceField S C → Type 0
  Any p = Unit {0}

  -- the own sets of fields, each with itself, and then those of each two
  pub begins_within : {A : Type 0} (x : Bool) (s : A → PieceField S C) (ws : List A) (old mid new : Listed)
      → ListsPairs t (PairOf (λ w. pair_of (s w).own (s w).own x) (λ w. Unit {0}) ws) (PairOf (λ w. pair_of (s w).own (s w).own x) (λ w. Unit {0}) ws) old mid
      → ListsPairs t (PairOf (own_sets x) (Agreeing x) (later (map s ws))) (PairOf (own_sets x) HasOneKey (later (map s ws))) mid new
      → ListsPairs t (OwnSets x (DoAgree eq types x) (map s ws) (map s ws)) (OwnSets x Any (map s ws) (map s ws)) old new
  begins_within {A} x s ws old mid new =
      begins_both t (PairOf (λ w. pair_of (s w).own (s w).own x) (λ w. Unit {0}) ws) (PairOf (λ w. pair_of (s w).own (s w).own x) (λ w. Unit {0}) ws)
      (PairOf (own_sets x) (Agreeing x) (later (map s ws))) (PairOf (own_sets x) HasOneKey (later (map s ws)))
      (OwnSets x (DoAgree eq types x) (map s ws) (map s ws)) (OwnSets x Any (map s ws) (map s ws)) old mid new must itself two
    where
      must : (k : SetPair) → OwnSets x (DoAgree eq types x) (map s ws) (map s ws) k
          → PairOf (λ w. pair_of (s w).own (s w).own x) (λ w. Unit {0}) ws k ⊎ PairOf (own_sets x) (Agreeing x) (later (map s ws)) k
      must k h = elim (later_cases (map s ws) h.0.0 h.0.1 h.1 h.2) [
        | inl same ↦ (let w = map_of s ws h.0.0 h.1 in
            inl (w.0, w.1, tt, h.5 ∙ ap (λ g. own_sets x (h.0.0, g)) (sym same) ∙ own_itself eq x h.0.0 ∙ ap (λ (f : PieceField S C). pair_of f.own f.own x) (sym w.2)))
        | inr o ↦ elim o [
          | inl l ↦ inr (h.0, l, (h.3, h.4), h.5)
          | inr l ↦ inr ((h.0.1, h.0.0), l, (sym h.3, agreement-is-mutual S C eq types x h.0.0.member h.0.1.member h.4), h.5 ∙ own_either_way x h.0.0 h.0.1)
        ]
      ]

      itself : (k : SetPair) → PairOf (λ w. pair_of (s w).own (s w).own x) (λ w. Unit {0}) ws k → OwnSets x Any (map s ws) (map s ws) k
      itself k h = ((s h.0, s h.0), map_has s ws h.0 h.1, map_has s ws h.0 h.1, refl, tt, h.3 ∙ sym (own_itself eq x (s h.0)))

      two : (k : SetPair) → PairOf (own_sets x) HasOneKey (later (map s ws)) k → OwnSets x Any (map s ws) (map s ws) k
      two k h = let r = later_of (map s ws) h.0 h.1 in (h.0, r.0, r.1, h.2, tt, h.3)

  -- the own sets of each field of the one list and each of the other
  pub begins_between : (x : Bool) (fs gs : List (PieceField S C)) (old new : Listed)
      → ListsPairs t (PairOf (own_sets x) (Agreeing x) (between fs gs)) (PairOf (own_sets x) HasOneKey (between fs gs)) old new
      → ListsPairs t (OwnSets x (DoAgree eq types x) fs gs) (OwnSets x Any fs gs) old new
  begins_between x fs gs old new =
      begins_as t (PairOf (own_sets x) (Agreeing x) (between fs gs)) (PairOf (own_sets x) HasOneKey (between fs gs))
      (OwnSets x (DoAgree eq types x) fs gs) (OwnSets x Any fs gs) old new
      (λ k h. (h.0, between_has fs gs h.0.0 h.0.1 h.1 h.2, (h.3, h.4), h.5))
      (λ k h. let r = between_of fs gs h.0 h.1 in (h.0, r.0, r.1, h.2, tt, h.3))

  module _ (pair : SetPair) where
    abbrev Left : SetPair → Type 0
    Left = PairOf (λ r. pair_of r pair.right pair.around) (λ r. Unit {0}) (t.inner pair.left)

    abbrev Right : SetPair → Type 0
    Right = PairOf (λ r. pair_of r pair.left pair.around) (λ r. Unit {0}) (t.inner pair.right)

    abbrev Own : (PieceField S C × PieceField S C → Type 0) → SetPair → Type 0
    Own P = OwnSets pair.around P (t.direct pair.left) (t.direct pair.right)

    -- the fragments in the one set, those in the other, and the own sets of the fields
    pub begins_sets : (old one two new : Listed) → ListsPairs t Left Left old one → ListsPairs t Right Right one two
        → ListsPairs t (Own (DoAgree eq types pair.around)) (Own Any) two new → ListsPairs t (LeadsTo t (DoAgree eq types pair.around) pair) (LeadsTo t Any pair) old new
    begins_sets old one two new f g h =
        begins_both t Left Left (λ k. Right k ⊎ Own (DoAgree eq types pair.around) k) (λ k. Right k ⊎ Own Any k)
        (LeadsTo t (DoAgree eq types pair.around) pair) (LeadsTo t Any pair) old one new (λ k i. i) (λ k i. inl i) (λ k i. inr i) f
        (begins_both t Right Right (Own (DoAgree eq types pair.around)) (Own Any) (λ k. Right k ⊎ Own (DoAgree eq types pair.around) k) (λ k. Right k ⊎ Own Any k)
        one two new (λ k i. i) (λ k i. inl i) (λ k i. inr i) g h)

    abbrev Choice : Bool → List (PieceField S C × PieceField S C)
    Choice same = cond same (later (t.direct pair.left)) (between (t.direct pair.left) (t.direct pair.right))

    pub fields_of_same : pair.left ≡ pair.right → field_pairs t pair ≡ later (t.direct pair.left)
    fields_of_same e = ap Choice ((Decides-eqb pair.left pair.right).1 e)

    pub fields_of_other : (pair.left ≡ pair.right → ⊥) → field_pairs t pair ≡ between (t.direct pair.left) (t.direct pair.right)
    fields_of_other differ = cases (eqb pair.left pair.right) refl
      where
        cases : (same : Bool) → eqb pair.left pair.right ≡ same → Choice same ≡ between (t.direct pair.left) (t.direct pair.right)
        cases true e = absurd (differ ((Decides-eqb pair.left pair.right).0 e))
        cases false e = refl

    between-none : (xs : List (PieceField S C)) → between xs [] ≡ []
    between-none [] = refl
    between-none (x ∷ xs) = between-none xs

    no-fields : IsEmptyPiece t pair.left ⊎ IsEmptyPiece t pair.right → field_pairs t pair ≡ []
    no-fields empty = cases (eqb pair.left pair.right) refl empty
      where
        cases : (same : Bool) → eqb pair.left pair.right ≡ same → IsEmptyPiece t pair.left ⊎ IsEmptyPiece t pair.right → Choice same ≡ []
        cases true e (inl l) = ap later l.0
        cases true e (inr r) = ap later (ap t.direct ((Decides-eqb pair.left pair.right).0 e) ∙ r.0)
        cases false e (inl l) = ap (λ xs. between xs (t.direct pair.right)) l.0
        cases false e (inr r) = ap (λ ys. between (t.direct pair.left) ys) r.0 ∙ between-none (t.direct pair.left)

    -- there is nothing to compare where one of the two is empty
    pub compares_empty : (s : Stage) → IsEmptyPiece t pair.left ⊎ IsEmptyPiece t pair.right → ComparesSets eq types t pair s s
    compares_empty s empty = record {
      told = subst (λ ps. AddsErrors (AgreeIfOneKey eq types pair.around) (map members_in ps) s.told s.told) (sym (no-fields empty)) (adds-nothing (AgreeIfOneKey eq types pair.around) s.told);
      begun = begins_none t (LeadsTo t (DoAgree eq types pair.around) pair) (LeadsTo t Any pair) s.listed (λ k h. led k empty h);
    }
      where
        begun : (k : SetPair) (p q : ℕ) → k ≡ pair_of p q pair.around → IsEmptyPiece t q → IsBegun t s.listed k
        begun k p q e h = subst (IsBegun t s.listed) (sym e) (inr (pair_holds (IsEmptyPiece t) p q pair.around (inr h)))

        led : (k : SetPair) → IsEmptyPiece t pair.left ⊎ IsEmptyPiece t pair.right → LeadsTo t (DoAgree eq types pair.around) pair k → IsBegun t s.listed k
        led k (inl l) (inl i) = in-nothing i.0 (subst (λ ns. Contains ns i.0) l.1 i.1)
        led k (inl l) (inr (inl i)) = begun k i.0 pair.left i.3 l
        led k (inl l) (inr (inr i)) = in-nothing i.0.0 (subst (λ fs. Contains fs i.0.0) l.0 i.1)
        led k (inr r) (inl i) = begun k i.0 pair.right i.3 r
        led k (inr r) (inr (inl i)) = in-nothing i.0 (subst (λ ns. Contains ns i.0) r.1 i.1)
        led k (inr r) (inr (inr i)) = in-nothing i.0.1 (subst (λ fs. Contains fs i.0.1) r.0 i.2)

    abbrev WithRight : List ℕ → SetPair → Type 0
    WithRight ns = PairOf (λ r. pair_of r pair.right pair.around) (λ r. Unit {0}) ns

    abbrev WithLeft : List ℕ → SetPair → Type 0
    WithLeft ns = PairOf (λ r. pair_of r pair.left pair.around) (λ r. Unit {0}) ns

    own-lists : (fs gs hs ks : List (PieceField S C)) (old new : Listed) → fs ≡ hs → gs ≡ ks
        → ListsPairs t (OwnSets pair.around (DoAgree eq types pair.around) fs gs) (OwnSets pair.around Any fs gs) old new
        → ListsPairs t (OwnSets pair.around (DoAgree eq types pair.around) hs ks) (OwnSets pair.around Any hs ks) old new
    own-lists fs gs hs ks old new e f h =
        subst (λ zs. ListsPairs t (OwnSets pair.around (DoAgree eq types pair.around) hs zs) (OwnSets pair.around Any hs zs) old new) f
        (subst (λ zs. ListsPairs t (OwnSets pair.around (DoAgree eq types pair.around) zs gs) (OwnSets pair.around Any zs gs) old new) e h)

    module _ (ns ms : List ℕ) (fs : List (PieceField S C)) (s u : Stage) (one two : Listed)
        (on_left : ns ≡ t.inner pair.left) (on_right : ms ≡ t.inner pair.right) (fields : fs ≡ t.direct pair.left)
        (f : ListsPairs t (WithRight ns) (WithRight ns) s.listed one) (g : ListsPairs t (WithLeft ms) (WithLeft ms) one two) where
      begun-sets : ListsPairs t (Own (DoAgree eq types pair.around)) (Own Any) two u.listed → ListsPairs t (LeadsTo t (DoAgree eq types pair.around) pair) (LeadsTo t Any pair) s.listed u.listed
      begun-sets h =
          begins_sets s.listed one two u.listed (subst (λ zs. ListsPairs t (WithRight zs) (WithRight zs) s.listed one) on_left f)
          (subst (λ zs. ListsPairs t (WithLeft zs) (WithLeft zs) one two) on_right g) h

      -- a set is compared with itself
      pub compares_itself : pair.left ≡ pair.right → AddsErrors (AgreeIfOneKey eq types pair.around) (map members_in (later fs)) s.told u.told
          → ListsPairs t (OwnSets pair.around (DoAgree eq types pair.around) fs fs) (OwnSets pair.around Any fs fs) two u.listed → ComparesSets eq types t pair s u
      compares_itself same told h = record {
        told = subst (λ ps. AddsErrors (AgreeIfOneKey eq types pair.around) (map members_in ps) s.told u.told) (ap later fields ∙ sym (fields_of_same same)) told;
        begun = begun-sets (own-lists fs fs (t.direct pair.left) (t.direct pair.right) two u.listed fields (fields ∙ ap t.direct same) h);
      }

      -- a set is compared with another
      pub compares_other : (gs : List (PieceField S C)) → gs ≡ t.direct pair.right → (pair.left ≡ pair.right → ⊥)
          → AddsErrors (AgreeIfOneKey eq types pair.around) (map members_in (between fs gs)) s.told u.told
          → ListsPairs t (PairOf (own_sets pair.around) (Agreeing pair.around) (between fs gs)) (PairOf (own_sets pair.around) HasOneKey (between fs gs)) two u.listed
          → ComparesSets eq types t pair s u
      compares_other gs others differ told h = record {
        told = subst (λ ps. AddsErrors (AgreeIfOneKey eq types pair.around) (map members_in ps) s.told u.told) ((λ i. between (fields i) (others i)) ∙ sym (fields_of_other differ)) told;
        begun = begun-sets (own-lists fs gs (t.direct pair.left) (t.direct pair.right) two u.listed fields others (begins_between pair.around fs gs two u.listed h));
      }
