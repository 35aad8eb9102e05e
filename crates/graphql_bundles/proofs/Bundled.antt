-- Where all bundles are gone through, nothing is left to compare.
use Rattle.std.proofs.Common.{◌≡◌, refl, sym, subst, ◌∙◌, ℕ, ◌<◌, Bool, true, false, ◌||◌, List, [], get_or, Option, Some, None, inl, inr}
use Rattle.std.specs.List.{All, Contains}
use Rattle.std.proofs.lemmas.List.Elements.{Contains-get_or}
use Rattle.std.proofs.lemmas.Bool.{false≢true, or_cases}
use Rattle.graphql_values.specs.Laws.{SameByAThird}
use Rattle.graphql_schema.specs.declared.meta.MetaType.{MetaType}
use Rattle.graphql_schema.specs.Types.{TypeOf}
use Rattle.graphql_schema.specs.Lookups.{own_name, is_object}
use Rattle.graphql_rule_errors.specs.Places.{Places}
use Rattle.graphql_merging.specs.Members.{Member, declared, members_below}
use Rattle.graphql_merging.specs.Done.{all_sets}
use Rattle.graphql_merging.specs.Merging.{SameField, SameShapes, Agree, Merging, in_set, in_sets, apart}
use Rattle.graphql_merging.specs.Sets.{Set, members_of, sets_of}
use Rattle.graphql_merging.specs.Pieces.{Pieces, PieceField, StandsIn, directly, in_fragment, IsPieceOf, HasOwnPieces, IsSettled}
use Rattle.graphql_bundles.specs.Bundles.{Bundle, GroupPart, BundleGroup, every, parts, in_part, IsNamed, OwnOf, StandsAmong, CoversPiece, IsVoid, IsGathered, Stood, IsGroupOf, HasShape, IsAlike, IsPassed, MeetAll, IsReachedBundle, of_definition, of_part}
use Rattle.graphql_bundles.specs.BundleLaws.{FoundIsTold, BundlesMeetContract}
use Rattle.graphql_merging.proofs.Contracts.{done-meets, set-of-root}
use Rattle.graphql_merging.proofs.Nested.{nested-sets-follow}
use Rattle.graphql_merging.proofs.Settled.{settled-piece}
use Rattle.graphql_bundles.proofs.Alike.{same-field-by-a-third, shapes-third, shapes-none}
use Rattle.graphql_merging.proofs.DirectFields.{In, to-In, from-In}
use Rattle.graphql_bundles.proofs.PartLemmas.{Covered, covered, both-apart, never-apart}
use Rattle.graphql_merging.proofs.Standing.{agree-under}

module _ (S C : Type 0) (eq : S → S → Bool) (third : SameByAThird eq) (types : List (MetaType S C)) (t : Pieces S C) where
  named-In : (names : List (List ℕ)) (a : Member S C) → IsNamed names a → is_object a.parent ≡ true → In (own_name a.parent) names
  named-In names a h o = to-In (own_name a.parent) names (h o)

  shape-of-two : (s : Option TypeOf) (a b : Member S C) → HasShape types s a → HasShape types s b → SameShapes types (declared a) (declared b)
  shape-of-two None a b f g = shapes-none types (declared a) (declared b) f
  shape-of-two (Some s) a b f g = shapes-third types (declared a) (declared b) s f g

  cover : (group : BundleGroup S C) (a b : Member S C) → IsNamed group.names a → IsNamed group.names b → apart a b ≡ false
      → Covered group.names (is_object a.parent) (own_name a.parent) (is_object b.parent) (own_name b.parent)
  cover group a b f g e =
      covered group.names (is_object a.parent) (own_name a.parent) (is_object b.parent) (own_name b.parent) (named-In group.names a f) (named-In group.names b g) e

  pub alike-agree : (x : Bool) (group : BundleGroup S C) → ((f : PieceField S C) → Contains group.fields f → IsNamed group.names f.member)
      → IsAlike eq types x group → (f g : PieceField S C) → Contains group.fields f → Contains group.fields g → Agree eq types x f.member g.member
  alike-agree x group named alike f g i j = (
    names x alike.field,
    shape-of-two alike.shape.0 f.member g.member (alike.shape.1 f i) (alike.shape.1 g j),
  )
    where
      names : (y : Bool)
          → ((part : GroupPart) → Contains (parts y group.names) part → part.around ≡ false
          → (h : Member S C) × ((f : PieceField S C) → Contains group.fields f → in_part part f.member ≡ true → SameField eq types f.member h))
          → (y || apart f.member g.member) ≡ false → SameField eq types f.member g.member
      names true field e = absurd (false≢true (sym e))
      names false field e =
          let c = cover group f.member g.member (named f i) (named g j) e in
          let part : GroupPart = record { of = c.of; around = false } in
          let h = field part (from-In part (parts false group.names) c.is_part) refl in
          same-field-by-a-third S C eq third types f.member g.member h.0 (h.1 f i c.left) (h.1 g j c.right)

  module _ (bundles : List Bundle) where
    pub gathered-stood : (x : Bool) (P : ℕ → Type 0) (p q : ℕ) → IsGathered t bundles x P → P p → P q → Stood t bundles p q x
    gathered-stood x P p q (inl none) i j = inl (inl (none p i))
    gathered-stood x P p q (inr b) i j = inr (b.0, b.1, b.2, b.3 p i, b.3 q j)

    own-stood : (x : Bool) (group : BundleGroup S C) → ((f : PieceField S C) → Contains group.fields f → IsNamed group.names f.member)
        → ((part : GroupPart) → Contains (parts x group.names) part → IsGathered t bundles part.around (OwnOf group part))
        → (f g : PieceField S C) → Contains group.fields f → Contains group.fields g → Stood t bundles f.own g.own (x || apart f.member g.member)
    own-stood true group named begun f g i j =
        gathered-stood true (OwnOf group (every true)) f.own g.own (begun (every true) (from-In (every true) (parts true group.names) (inl refl)))
        (f, i, refl, refl) (g, j, refl, refl)
    own-stood false group named begun f g i j = cases (apart f.member g.member) refl
      where
        cases : (y : Bool) → apart f.member g.member ≡ y → Stood t bundles f.own g.own y
        cases true e =
            gathered-stood true (OwnOf group (every true)) f.own g.own
            (begun (every true) (from-In (every true) (parts false group.names)
            (both-apart group.names (is_object f.member.parent) (own_name f.member.parent) (is_object g.member.parent) (own_name g.member.parent)
            (named-In group.names f.member (named f i)) (named-In group.names g.member (named g j)) e)))
            (f, i, refl, refl) (g, j, refl, refl)
        cases false e =
            let c = cover group f.member g.member (named f i) (named g j) e in
            let part : GroupPart = record { of = c.of; around = false } in
            gathered-stood false (OwnOf group part) f.own g.own (begun part (from-In part (parts false group.names) c.is_part))
            (f, i, c.left, refl) (g, j, c.right, refl)

    module _ (errors : Places) (passed : (b : Bundle) → Contains bundles b → IsPassed t eq types bundles errors b) (none : errors ≡ []) where
      void-inner : (p r : ℕ) → IsVoid t p → Contains (t.inner p) r → IsVoid t r
      void-inner p r v i = λ f h. v f (in_fragment p r f i h)

      holds-inner : (sets : List ℕ) (p r : ℕ) → CoversPiece t sets p → Contains (t.inner p) r → CoversPiece t sets r
      holds-inner sets p r k i = λ f h. k f (in_fragment p r f i h)

      stood-left : (p q r : ℕ) (x : Bool) → Stood t bundles p q x → Contains (t.inner p) r → Stood t bundles r q x
      stood-left p q r x (inl (inl v)) i = inl (inl (void-inner p r v i))
      stood-left p q r x (inl (inr v)) i = inl (inr v)
      stood-left p q r x (inr b) i = inr (b.0, b.1, b.2, holds-inner b.0.sets p r b.3 i, b.4)

      stood-right : (p q r : ℕ) (x : Bool) → Stood t bundles p q x → Contains (t.inner q) r → Stood t bundles p r x
      stood-right p q r x (inl (inl v)) i = inl (inl v)
      stood-right p q r x (inl (inr v)) i = inl (inr (void-inner q r v i))
      stood-right p q r x (inr b) i = inr (b.0, b.1, b.2, b.3, holds-inner b.0.sets q r b.4 i)

      stood-fields : (p q : ℕ) (f g : PieceField S C) (x : Bool) → Stood t bundles p q x → Contains (t.direct p) f → Contains (t.direct q) g
          → f.member.head.key ≡ g.member.head.key → Agree eq types x f.member g.member × Stood t bundles f.own g.own (x || apart f.member g.member)
      stood-fields p q f g x (inl (inl v)) i j key = absurd (v f (directly p f i))
      stood-fields p q f g x (inl (inr v)) i j key = absurd (v g (directly q g j))
      stood-fields p q f g x (inr b) i j key =
          let pass = passed b.0 b.1 in
          let s = pass.grouped f g (b.3 f (directly p f i)) (b.4 g (directly q g j)) key in
          let of = pass.of s.0 s.1 in
          let each = pass.each s.0 s.1 in
          subst (λ y. Agree eq types y f.member g.member × Stood t bundles f.own g.own (y || apart f.member g.member)) b.2
          (alike-agree b.0.around s.0 of.named (each.alike none f s.2) f g s.2 s.3, own-stood b.0.around s.0 of.named each.begun f g s.2 s.3)

      pub bundles-settle : IsSettled t eq types (Stood t bundles)
      bundles-settle = record { left = stood-left; right = stood-right; fields = stood-fields }

-- fields of bundles that are reached stand together
module _ (S C : Type 0) (eq : S → S → Bool) (types : List (MetaType S C)) (t : Pieces S C) (owns : HasOwnPieces t eq types) where
  module _ (ms : List (Member S C)) where
    set-meets : (k : ℕ) (b : Bundle) → ((f : PieceField S C) → StandsAmong t b.sets f → StandsIn t k f) → IsPieceOf t k ms → MeetAll t eq types ms b
    set-meets k b only piece f g i j key =
        (false, (λ e. absurd (false≢true e)), in_set f.member g.member (piece.only f (only f i)) (piece.only g (only g j)) key)

    below : (b : Bundle) (h f : PieceField S C) → StandsAmong t b.sets h → StandsIn t h.own f → Contains (members_below types h.member) f.member
    below b h f s i = (owns s.0 h s.2).only f i

    -- from a bundle to the own sets of a part of a group
    part-meets : (b c : Bundle) (group : BundleGroup S C) (part : GroupPart) → MeetAll t eq types ms b → IsGroupOf t b group → Contains (parts b.around group.names) part
        → c.around ≡ part.around → ((f : PieceField S C) → StandsAmong t c.sets f → (p : ℕ) × OwnOf group part p × StandsIn t p f) → MeetAll t eq types ms c
    part-meets b c group part meets of is same only f g i j key =
        let u = only f i in
        let v = only g j in
        let h = u.1 in
        let k = v.1 in
        let m = meets h.0 k.0 (of.stand h.0 h.1) (of.stand k.0 k.1) (of.key h.0 k.0 h.1 k.1) in (
          m.0 || apart h.0.member k.0.member,
          under h.0 k.0 m.0 h.1 k.1 h.2 k.2 m.1,
          in_sets m.0 h.0.member k.0.member f.member g.member m.2
              (below b h.0 f (of.stand h.0 h.1) (subst (λ p. StandsIn t p f) (sym h.3) u.2)) (below b k.0 g (of.stand k.0 k.1) (subst (λ p. StandsIn t p g) (sym k.3) v.2)) key,
        )
      where
        under : (h k : PieceField S C) (y : Bool) → Contains group.fields h → Contains group.fields k → in_part part h.member ≡ true → in_part part k.member ≡ true
            → (y ≡ true → b.around ≡ true) → (y || apart h.member k.member) ≡ true → c.around ≡ true
        under h k y i j u v le e = cases part.around refl
          where
            cases : (z : Bool) → part.around ≡ z → c.around ≡ true
            cases true q = same ∙ q
            cases false q =
                let n = never-apart b.around group.names part (to-In part (parts b.around group.names) is) q (is_object h.member.parent) (own_name h.member.parent)
                (is_object k.member.parent) (own_name k.member.parent) (λ o. to-In _ group.names (of.named h i o)) (λ o. to-In _ group.names (of.named k j o)) u v in
                elim (or_cases y (apart h.member k.member) e) [
                  | inl a ↦ absurd (false≢true (sym n.0 ∙ le a))
                  | inr a ↦ absurd (false≢true (sym n.1 ∙ a))
                ]

  module _ (definitions : ℕ) (roots : List (Set S C)) (root : (k : ℕ) → k < definitions → (set : Set S C) × Contains roots set × IsPieceOf t k (members_of types set)) where
    pub reached-meets : (b : Bundle) → IsReachedBundle t definitions b → (set : Set S C) × Contains roots set × MeetAll t eq types (members_of types set) b
    reached-meets _ (of_definition k b small only) = let r = root k small in (r.0, r.1, set-meets (members_of types r.0) k b only r.2)
    reached-meets _ (of_part b c group part h of is same only) =
        let r = reached-meets b h in (r.0, r.1, part-meets (members_of types r.0) b c group part r.2 of is same only)

pub found-is-told : (S C : Type 0) (eq : S → S → Bool) → FoundIsTold S C eq
found-is-told S C eq types t definitions roots owns root e h =
    let r = reached-meets S C eq types t owns definitions roots root h.0 h.1 in
    let u = h.2 in
    let m = r.2 u.0 u.1 u.2 u.3 u.4 in
    (r.0, r.1, (m.0, u.0.member, u.1.member, m.2, (λ agree. u.5 (agree-under eq types h.0.around m.0 u.0.member u.1.member m.1 agree)), u.6))

pub bundles-meet-contract : (S C : Type 0) (eq : S → S → Bool) → SameByAThird eq → BundlesMeetContract S C eq
bundles-meet-contract S C eq third types roots t bundles errors owns begun passed told directs =
    done-meets S C eq types roots t (Stood t bundles) errors (record {
      owns = owns;
      pieces = (λ set i. let k = begun set i in
          (k.0, k.1, gathered-stood S C eq third types t bundles false (λ p. p ≡ k.0) k.0 k.0 k.2 refl refl));
      told = told;
      directs = directs;
      settled = (λ none. bundles-settle S C eq third types t bundles errors passed none);
    })

-- bundles that are all gone through without errors: each set merges
pub bundles-merge : (S C : Type 0) (eq : S → S → Bool) → SameByAThird eq → (types : List (MetaType S C)) (roots : List (Set S C)) (t : Pieces S C)
    (bundles : List Bundle) (errors : Places) → HasOwnPieces t eq types
    → ((set : Set S C) → Contains roots set → (k : ℕ) × IsPieceOf t k (members_of types set) × IsGathered t bundles false (λ p. p ≡ k))
    → ((b : Bundle) → Contains bundles b → IsPassed t eq types bundles errors b) → errors ≡ []
    → All (λ set. Merging eq types (members_of types set)) (all_sets types roots)
bundles-merge S C eq third types roots t bundles errors owns begun passed none k d within =
    let set = get_or (all_sets types roots) k d in
    let r = set-of-root types roots set (Contains-get_or (all_sets types roots) k d within) in
    let piece = begun r.0 r.1 in
    let stood = gathered-stood S C eq third types t bundles false (λ p. p ≡ piece.0) piece.0 piece.0 piece.2 refl refl in
    let settled = bundles-settle S C eq third types t bundles errors passed none in
    let whole = settled-piece eq types t (Stood t bundles) owns settled piece.0 (members_of types r.0) stood piece.1 in
    let inner = nested-sets-follow S C eq types r.0 whole in
    one-of (λ (s : Set S C). Merging eq types (members_of types s)) (sets_of types r.0) inner set r.2
  where
    one-of : {X : Type 0} (P : X → Type 0) (xs : List X) → All P xs → (x : X) → Contains xs x → P x
    one-of P xs h x i = subst P i.2 (h i.0 x i.1)
