-- Where all pairs are compared, nothing is left to compare.
use Rattle.std.proofs.Common.{◌≡◌, refl, sym, subst, ◌∙◌, ℕ, ltb, eqb, Bool, true, false, ◌||◌, List, [], ◌∷◌, ◌++◌, map, cond, inl, inr}
use Rattle.std.specs.List.{Contains}
use Rattle.std.proofs.lemmas.Bool.Decides.{Decides-eqb}
use Rattle.std.proofs.lemmas.List.{map-append}
use Rattle.graphql_values.specs.Laws.{SameAsItself}
use Rattle.graphql_text.specs.declared.position.SourcePosition.{SourcePosition}
use Rattle.graphql_schema.specs.declared.meta.MetaType.{MetaType}
use Rattle.graphql_rule_errors.specs.Places.{Places}
use Rattle.graphql_merging.specs.Members.{Member}
use Rattle.graphql_merging.specs.Merging.{Agree, apart}
use Rattle.graphql_merging.specs.Pieces.{Pieces, PieceField}
use Rattle.graphql_merging.specs.Told.{Tells, AgreeIfOneKey, later_pairs}
use Rattle.graphql_merging.proofs.Nested.{in-nothing}
use Rattle.graphql_merging.proofs.DirectFields.{nothing-told-fits}
use Rattle.graphql_merging.proofs.Standing.{agree-self, agreement-is-mutual}
use Rattle.graphql_rules_merging.specs.declared.agenda.SetPair.{SetPair}
use Rattle.graphql_rules_merging.specs.Agenda.{pair_of, Listed, IsListed, IsEmptyPiece, IsBegun}
use Rattle.graphql_rules_merging.specs.Comparing.{with_each, between, later, Stage, members_in, HasOneKey, own_sets, field_pairs, DoAgree}
use Rattle.graphql_rules_merging.specs.Finished.{IsCompared, IsFinished}
use Rattle.graphql_rules_merging.proofs.Pairs.{pair_either_way, pair_holds}
use Rattle.graphql_rules_merging.proofs.Lists.{here, map_has, between_has, later_cases}
use Rattle.graphql_rules_merging.proofs.WholeSets.{own_either_way, own_itself}

-- pairs of fields as pairs of members
pub later_members : {S C : Type 0} (fs : List (PieceField S C)) → map (members_in {S = S} {C = C}) (later fs) ≡ later_pairs (map (λ (f : PieceField S C). f.member) fs)
later_members [] = refl
later_members {S = S} {C = C} (f ∷ fs) =
    map-append (members_in {S = S} {C = C}) (with_each f fs) (later fs)
    ∙ (λ i. each fs i ++ later_members fs i)
  where
    each : (gs : List (PieceField S C)) → map (members_in {S = S} {C = C}) (with_each f gs) ≡ map {B = Member S C × Member S C} (λ y. (f.member, y)) (map (λ (g : PieceField S C). g.member) gs)
    each [] = refl
    each (g ∷ gs) = (λ i. (f.member, g.member) ∷ each gs i)

pub none-in : (es : Places) → ((e : List SourcePosition) → Contains es e → Contains [] e) → es ≡ []
none-in [] h = refl
none-in (e ∷ es) h = in-nothing e (h e (here e es))

module _ {S C : Type 0} (t : Pieces S C) (listed : Listed) where
  -- a pair was begun, either way round
  abbrev pub WasBegun : ℕ → ℕ → Bool → Type 0
  WasBegun p q x = IsBegun t listed (pair_of p q x)

  abbrev IsThere : ℕ → ℕ → Bool → Type 0
  IsThere p q x = IsListed listed (record { left = p; right = q; around = x })

  -- one of the two is empty, or the pair is listed one way or the other
  pub data IsSeen (p q : ℕ) (x : Bool) : Type 0 where
    empty_left : IsEmptyPiece t p → IsSeen p q x
    empty_right : IsEmptyPiece t q → IsSeen p q x
    as_is : IsThere p q x → IsSeen p q x
    turned : IsThere q p x → IsSeen p q x

  pub seen_begun : (p q : ℕ) (x : Bool) → WasBegun p q x → IsSeen p q x
  seen_begun p q x h = cases (ltb q p) h
    where
      cases : (a : Bool) → IsBegun t listed (cond a (record { left = q; right = p; around = x }) (record { left = p; right = q; around = x })) → IsSeen p q x
      cases true (inl i) = turned i
      cases true (inr (inl e)) = empty_right e
      cases true (inr (inr e)) = empty_left e
      cases false (inl i) = as_is i
      cases false (inr (inl e)) = empty_left e
      cases false (inr (inr e)) = empty_right e

  pub begun_either_way : (p q : ℕ) (x : Bool) → WasBegun p q x → WasBegun q p x
  begun_either_way p q x h = subst (IsBegun t listed) (pair_either_way p q x) h

module _ {S C : Type 0} (eq : S → S → Bool) (types : List (MetaType S C)) (t : Pieces S C) (definitions : ℕ) (stage : Stage) (finished : IsFinished eq types t definitions stage) where
  abbrev Was : ℕ → ℕ → Bool → Type 0
  Was p q x = WasBegun t stage.listed p q x

  pub left_begun : (p q r : ℕ) (x : Bool) → Was p q x → Contains (t.inner p) r → Was r q x
  left_begun p q r x h i = cases (seen_begun t stage.listed p q x h)
    where
      cases : IsSeen t stage.listed p q x → Was r q x
      cases (empty_left e) = in-nothing r (subst (λ ns. Contains ns r) e.1 i)
      cases (empty_right e) = inr (pair_holds (IsEmptyPiece t) r q x (inr e))
      cases (as_is k) = (finished.compared (record { left = p; right = q; around = x }) k).begun (pair_of r q x) (inl (r, i, tt, refl))
      cases (turned k) = (finished.compared (record { left = q; right = p; around = x }) k).begun (pair_of r q x) (inr (inl (r, i, tt, refl)))

  pub right_begun : (p q r : ℕ) (x : Bool) → Was p q x → Contains (t.inner q) r → Was p r x
  right_begun p q r x h i = begun_either_way t stage.listed r p x (left_begun q p r x (begun_either_way t stage.listed p q x h) i)

  module _ (itself : SameAsItself eq) where
    pub own_begun : (p : ℕ) (f : PieceField S C) → Was p p false → Contains (t.direct p) f → Was f.own f.own false
    own_begun p f h i = cases (seen_begun t stage.listed p p false h)
      where
        of-pair : IsListed stage.listed (record { left = p; right = p; around = false }) → Was f.own f.own false
        of-pair k = subst (IsBegun t stage.listed) (own_itself eq false f)
            ((finished.compared (record { left = p; right = p; around = false }) k).begun (own_sets false (f, f))
            (inr (inr ((f, f), i, i, refl, agree-self eq itself types false f.member, refl))))

        cases : IsSeen t stage.listed p p false → Was f.own f.own false
        cases (empty_left e) = in-nothing f (subst (λ fs. Contains fs f) e.0 i)
        cases (empty_right e) = in-nothing f (subst (λ fs. Contains fs f) e.0 i)
        cases (as_is k) = of-pair k
        cases (turned k) = of-pair k

    module _ (none : stage.told ≡ []) where
      -- the fields of two sets that were compared agree
      agree-compared : (pair : SetPair) (f g : PieceField S C) → IsCompared eq types t stage pair → Contains (t.direct pair.left) f → Contains (t.direct pair.right) g → HasOneKey (f, g)
          → DoAgree eq types pair.around (f, g)
      agree-compared pair f g c i j key = cases (eqb pair.left pair.right) refl fits
        where
          es-none : c.told.0 ≡ []
          es-none = none-in c.told.0 (λ e k. subst (λ told. Contains told e) none (c.told.2 e k))

          fits : (a b : PieceField S C) → Contains (field_pairs t pair) (a, b) → AgreeIfOneKey eq types pair.around a.member b.member
          fits a b k = nothing-told-fits S C eq types pair.around (map members_in (field_pairs t pair))
              (subst (Tells (AgreeIfOneKey eq types pair.around) (map members_in (field_pairs t pair))) es-none c.told.1) a.member b.member
              (map_has {B = Member S C × Member S C} members_in (field_pairs t pair) (a, b) k)

          cases : (same : Bool) → eqb pair.left pair.right ≡ same
              → ((a b : PieceField S C) → Contains (cond same (later (t.direct pair.left)) (between (t.direct pair.left) (t.direct pair.right))) (a, b) → AgreeIfOneKey eq types pair.around a.member b.member)
              → DoAgree eq types pair.around (f, g)
          cases false e fit = fit f g (between_has (t.direct pair.left) (t.direct pair.right) f g i j) key
          cases true e fit = elim (later_cases (t.direct pair.left) f g i (subst (λ q. Contains (t.direct q) g) (sym ((Decides-eqb pair.left pair.right).0 e)) j)) [
            | inl same ↦ subst (λ (h : PieceField S C). Agree eq types pair.around f.member h.member) same (agree-self eq itself types pair.around f.member)
            | inr o ↦ elim o [
              | inl k ↦ fit f g k key
              | inr k ↦ agreement-is-mutual S C eq types pair.around g.member f.member (fit g f k (sym key))
            ]
          ]

      of-listed : (pair : SetPair) (f g : PieceField S C) → IsListed stage.listed pair → Contains (t.direct pair.left) f → Contains (t.direct pair.right) g → HasOneKey (f, g)
          → DoAgree eq types pair.around (f, g) × IsBegun t stage.listed (own_sets pair.around (f, g))
      of-listed pair f g k i j key =
          let c = finished.compared pair k in
          let agree = agree-compared pair f g c i j key in
          (agree, c.begun (own_sets pair.around (f, g)) (inr (inr ((f, g), i, j, key, agree, refl))))

      pub fields_begun : (p q : ℕ) (f g : PieceField S C) (x : Bool) → Was p q x → Contains (t.direct p) f → Contains (t.direct q) g → f.member.head.key ≡ g.member.head.key
          → Agree eq types x f.member g.member × Was f.own g.own (x || apart f.member g.member)
      fields_begun p q f g x h i j key = cases (seen_begun t stage.listed p q x h)
        where
          cases : IsSeen t stage.listed p q x → Agree eq types x f.member g.member × Was f.own g.own (x || apart f.member g.member)
          cases (empty_left e) = in-nothing f (subst (λ fs. Contains fs f) e.0 i)
          cases (empty_right e) = in-nothing g (subst (λ fs. Contains fs g) e.0 j)
          cases (as_is k) = of-listed (record { left = p; right = q; around = x }) f g k i j key
          cases (turned k) =
              let both = of-listed (record { left = q; right = p; around = x }) g f k j i (sym key) in
              (agreement-is-mutual S C eq types x g.member f.member both.0, subst (IsBegun t stage.listed) (own_either_way x g f) both.1)
