-- The sets of a document are gone to, and what is told of the fields that stand directly in them.
use Rattle.std.proofs.Common.{◌≡◌, refl, ap, sym, subst, ◌∙◌, arith, ℕ, ◌+◌, ◌<◌, ◌≤◌, Bool, true, false, not, ◌||◌, cond, List, [], ◌∷◌, ◌++◌, map, filter, reverse, take, length, get_or, slice_get, Option, Some, None, append-nil, append_assoc, ◌↔◌, ◌⊎◌, inl, inr}
use Rattle.std.specs.List.{Any, Contains}
use Rattle.std.specs.Option.{option_map_or}
use Rattle.std.specs.Str.{bytes_eq}
use Rattle.std.proofs.lemmas.Bool.{false≢true}
use Rattle.std.proofs.lemmas.Bool.Decides.{eqb_tells}
use Rattle.std.proofs.lemmas.List.{take_all, take-append-le}
use Rattle.std.proofs.lemmas.List.Elements.{Contains-append_left, Contains-append_right, Contains-append_cases}
use Rattle.std.proofs.lemmas.Option.{get_or_from_slice_get, slice_get_within}
use Rattle.std.proofs.lemmas.Slice.Eq.{bytes_eq-Decides}
use Rattle.graphql_text.specs.declared.position.SourcePosition.{SourcePosition}
use Rattle.graphql_names.specs.Names.{Bytes}
use Rattle.graphql_schema.specs.declared.meta.MetaType.{MetaType}
use Rattle.graphql_schema.specs.Lookups.{own_name, is_object}
use Rattle.graphql_rule_errors.specs.Places.{Places}
use Rattle.graphql_tree.specs.declared.document.Fragment.{Fragment}
use Rattle.graphql_merging.specs.Members.{Member}
use Rattle.graphql_merging.specs.Merging.{Agree}
use Rattle.graphql_merging.specs.Pieces.{Pieces, PieceField, StandsIn, directly, in_fragment}
use Rattle.graphql_merging.specs.Selected.{member_of}
use Rattle.graphql_merging.specs.Told.{Names, later_pairs}
use Rattle.graphql_merging.specs.Tables.{piece_field, pieces_of}
use Rattle.graphql_merging.specs.declared.table.SetTable.{SetTable}
use Rattle.graphql_merging.specs.declared.table.WrittenField.{WrittenField}
use Rattle.graphql_merging.specs.declared.table.WrittenSet.{WrittenSet}
use Rattle.graphql_merging.proofs.Contracts.{any-among}
use Rattle.graphql_merging.proofs.DirectFields.{In, to-In, from-In, later-In}
use Rattle.graphql_merging.proofs.Nested.{one-only, in-nothing}
use Rattle.graphql_bundles.specs.Bundles.{Bundle, BundleGroup, of_object, every, StandsAmong, IsReachedBundle, of_definition, of_part, IsFoundAmong}
use Rattle.graphql_bundles.specs.Closed.{AddsNumbers}
use Rattle.graphql_bundles.specs.Direct.{IsVisited, by_definition, by_fragment, by_field, IsWalked, AgreeThrough, IsDirectFound, AreDirectTold, TellsDirect, TellsDirects, all_seen, DirectParts}
use Rattle.graphql_bundles.specs.Groups.{KeyGroup, IsGrouped, key_at, under}
use Rattle.graphql_bundles.proofs.ClosedLemmas.{adds-both}
use Rattle.graphql_bundles.proofs.DirectClasses.{With, left-In, right-In, either-In}
use Rattle.graphql_bundles.proofs.DirectLemmas.{MemberPair, of-turned, parts-turned}
use Rattle.graphql_bundles.proofs.ListLemmas.{here, map_has, map_of, filter_of, take-cases, take-one, past-end}

-- the first of these numbers
abbrev pub Firsts : ℕ → ℕ → List ℕ → Type 0
Firsts definitions n all = ((k : ℕ) → Contains all k → k < definitions) × ((k : ℕ) → k < n → Contains all k)

pub firsts-none : (definitions : ℕ) → Firsts definitions 0 []
firsts-none definitions = ((λ k i. in-nothing k i), (λ k less. absurd (omega (arith, less))))

pub firsts-more : (definitions n : ℕ) (old new : List ℕ) → n < definitions → Firsts definitions n old → AddsNumbers old (n ∷ []) new → Firsts definitions (n + 1) new
firsts-more definitions n old new within h adds = (
  (λ k i. elim (Contains-append_cases old adds.more k (subst (λ ns. Contains ns k) adds.grown i)) [
    | inl j ↦ h.0 k j
    | inr j ↦ subst (λ m. m < definitions) (one-only n k (adds.only k j)) within
  ]),
  (λ k small. elim (eqb_tells k n) [
    | inl e ↦ adds.has k (subst (Contains (n ∷ [])) (sym e.1) (here n []))
    | inr e ↦ subst (λ ns. Contains ns k) (sym adds.grown) (Contains-append_left old adds.more k (h.1 k (before k n small e.1)))
  ]),
)
  where
    before : (k n : ℕ) → k < n + 1 → (k ≡ n → ⊥) → k < n
    before k n h e = omega (arith, h, e)

pub firsts-all : (definitions n : ℕ) (all : List ℕ) → definitions ≤ n → Firsts definitions n all → (k : ℕ) → Contains all k ↔ (k < definitions)
firsts-all definitions n all past h k = (h.0 k, λ less. h.1 k (omega (arith, less, past)))

module _ {S C : Type 0} (t : Pieces S C) (definitions : ℕ) where
  abbrev Walked : List ℕ → List ℕ → Type 0
  Walked first all = IsWalked t definitions first all

  pub walked-all : (all : List ℕ) → Walked all all → (p : ℕ) → IsVisited t definitions p → Contains all p
  walked-all all w _ (by_definition k less) = w.begun k less
  walked-all all w _ (by_fragment p q v i) = w.inner p q (walked-all all w p v) i
  walked-all all w _ (by_field p f v i) = w.own p f (walked-all all w p v) i

  pub walked-first : (all : List ℕ) → ((k : ℕ) → Contains all k ↔ (k < definitions)) → Walked [] all
  walked-first all are = record {
    begun = (λ k less. (are k).1 less);
    inner = (λ p r i j. in-nothing p i);
    own = (λ p f i j. in-nothing p i);
    visited = (λ p i. by_definition p ((are p).0 i));
  }

  -- the sets in one more are added
  pub walked-more : (index number : ℕ) (all new : List ℕ) → slice_get all index ≡ Some number → Walked (take index all) all
      → AddsNumbers all (t.inner number ++ map (λ f. f.own) (t.direct number)) new → Walked (take (index + 1) new) new
  walked-more index number all new at w adds = record {
    begun = (λ k less. kept k (w.begun k less));
    inner = (λ p r i j. elim (looked p i) [
      | inl k ↦ kept r (w.inner p r k j)
      | inr e ↦ adds.has r (Contains-append_left (t.inner number) (map (λ f. f.own) (t.direct number)) r (subst (λ q. Contains (t.inner q) r) (sym e) j))
    ]);
    own = (λ p f i j. elim (looked p i) [
      | inl k ↦ kept f.own (w.own p f k j)
      | inr e ↦ adds.has f.own (Contains-append_right (t.inner number) (map (λ f. f.own) (t.direct number)) f.own
          (map_has (λ (g : PieceField S C). g.own) (t.direct number) f (subst (λ q. Contains (t.direct q) f) (sym e) j)))
    ]);
    visited = (λ p i. elim (Contains-append_cases all adds.more p (subst (λ ns. Contains ns p) adds.grown i)) [
      | inl j ↦ w.visited p j
      | inr j ↦ elim (Contains-append_cases (t.inner number) (map (λ f. f.own) (t.direct number)) p (adds.only p j)) [
        | inl k ↦ by_fragment number p seen-it k
        | inr k ↦ (let m = map_of (λ (g : PieceField S C). g.own) (t.direct number) p k in
            subst (IsVisited t definitions) m.2 (by_field number m.0 seen-it m.1))
      ]
    ]);
  }
    where
      within : index < length all
      within = slice_get_within all index number at

      is : number ≡ get_or all index number
      is = sym (get_or_from_slice_get all index number number at)

      kept : (p : ℕ) → Contains all p → Contains new p
      kept p i = subst (λ ns. Contains ns p) (sym adds.grown) (Contains-append_left all adds.more p i)

      seen-it : IsVisited t definitions number
      seen-it = w.visited number (index, within, sym is)

      prefix : take (index + 1) new ≡ take (index + 1) all
      prefix = ap (take (index + 1)) adds.grown ∙ take-append-le (index + 1) all adds.more (omega (arith, within))

      looked : (p : ℕ) → Contains (take (index + 1) new) p → Contains (take index all) p ⊎ (number ≡ p)
      looked p i = take-cases all index number within is p (subst (λ ns. Contains ns p) prefix i)

  pub walked-end : (index : ℕ) (all : List ℕ) → slice_get all index ≡ None → Walked (take index all) all → Walked all all
  walked-end index all at w = subst (λ ns. Walked ns all) (take_all index all (past-end all index at)) w

  abbrev single : ℕ → Bundle
  single p = record { sets = p ∷ []; around = false }

  -- a bundle of what stands in a set that is come to is reached
  pub visited-reached : (p : ℕ) → IsVisited t definitions p → (c : Bundle) → c.around ≡ false → ((f : PieceField S C) → StandsAmong t c.sets f → StandsIn t p f)
      → IsReachedBundle t definitions c
  visited-reached _ (by_definition k less) c flag only = of_definition k c less only
  visited-reached _ (by_fragment p q v i) c flag only = visited-reached p v c flag (λ f s. in_fragment p q f i (only f s))
  visited-reached _ (by_field p h v i) c flag only =
      let b : Bundle = record { sets = p ∷ []; around = false } in
      let reached = visited-reached p v b refl (λ f s. subst (λ q. StandsIn t q f) (sym (one-only p s.0 s.1)) (directly s.0 f s.2)) in
      from-field p h i reached c flag only (is_object h.member.parent) refl
    where
      admitted : (o : Bool) (n : Bytes) → (not o || bytes_eq n n) ≡ true
      admitted true n = (bytes_eq-Decides n n).1 refl
      admitted false n = refl

      from-field : (p : ℕ) (h : PieceField S C) → Contains (t.direct p) h → IsReachedBundle t definitions (single p) → (c : Bundle) → c.around ≡ false
          → ((f : PieceField S C) → StandsAmong t c.sets f → StandsIn t h.own f) → (o : Bool) → is_object h.member.parent ≡ o → IsReachedBundle t definitions c
      from-field p h i reached c flag only true e =
          let n = own_name h.member.parent in
          let group : BundleGroup S C = record { fields = h ∷ []; names = n ∷ [] } in
          of_part (single p) c group (of_object n) reached (record {
            stand = (λ f j. (p, here p [], subst (Contains (t.direct p)) (one-only h f j) i));
            key = (λ f g j k. ap (λ (m : PieceField S C). m.member.head.key) (sym (one-only h f j) ∙ one-only h g k));
            named = (λ f j o. subst (λ (m : PieceField S C). Contains (n ∷ []) (own_name m.member.parent)) (one-only h f j) (here n []));
          }) (here (of_object n) []) flag (λ f s. (h.own, (h, here h [], admitted (is_object h.member.parent) n, refl), only f s))
      from-field p h i reached c flag only false e =
          let group : BundleGroup S C = record { fields = h ∷ []; names = [] } in
          of_part (single p) c group (every false) reached (record {
            stand = (λ f j. (p, here p [], subst (Contains (t.direct p)) (one-only h f j) i));
            key = (λ f g j k. ap (λ (m : PieceField S C). m.member.head.key) (sym (one-only h f j) ∙ one-only h g k));
            named = (λ f j o. absurd (false≢true (sym e ∙ ap (λ (m : PieceField S C). is_object m.member.parent) (one-only h f j) ∙ o)));
          }) (here (every false) []) flag (λ f s. (h.own, (h, here h [], refl, refl), only f s))

  -- so an error of two fields that stand directly in it is found in such a bundle
  pub direct-among : (eq : S → S → Bool) (types : List (MetaType S C)) (p : ℕ) → IsVisited t definitions p → (e : List SourcePosition)
      → IsDirectFound eq types (map (λ (f : PieceField S C). f.member) (t.direct p)) e → IsFoundAmong t definitions eq types e
  direct-among eq types p v e r =
      let b : Bundle = record { sets = p ∷ []; around = false } in
      let f = map_of (λ (f : PieceField S C). f.member) (t.direct p) r.0 r.2 in
      let g = map_of (λ (f : PieceField S C). f.member) (t.direct p) r.1 r.3 in (
        b,
        visited-reached p v b refl (λ f s. subst (λ q. StandsIn t q f) (sym (one-only p s.0 s.1)) (directly s.0 f s.2)),
        (
          f.0,
          g.0,
          (p, here p [], f.1),
          (p, here p [], g.1),
          ap (λ (m : Member S C). m.head.key) f.2 ∙ r.4 ∙ sym (ap (λ (m : Member S C). m.head.key) g.2),
          (λ agree. r.5 (subst (λ (m : Member S C). Agree eq types false m r.1) f.2 (subst (λ (m : Member S C). Agree eq types false f.0.member m) g.2 agree))),
          subst (λ (m : Member S C). Names e m g.0.member) (sym f.2) (subst (λ (m : Member S C). Names e r.0 m) (sym g.2) r.6),
        ),
      )

-- pairs of the fields of a key
module _ {S C : Type 0} (fragments : List (Fragment S)) (key : Bytes) where
  abbrev at : WrittenField S C → Member S C
  at f = member_of fragments f.selected

  abbrev of : WrittenField S C → Bool
  of f = bytes_eq key (key_at f)

  with-filter : (x : Member S C) (fs : List (WrittenField S C)) (a b : Member S C) → In {X = MemberPair S C} (a, b) (With x (map at fs)) → bytes_eq key b.head.key ≡ true
      → In {X = MemberPair S C} (a, b) (With x (map at (filter of fs)))
  with-filter x [] a b i e = absurd i
  with-filter x (f ∷ fs) a b (inl q) e = cases (of f) (ap (λ (p : MemberPair S C). bytes_eq key p.1.head.key) (sym q) ∙ e)
    where
      cases : (r : Bool) → r ≡ true → In {X = MemberPair S C} (a, b) (With x (map at (cond r (f ∷ filter of fs) (filter of fs))))
      cases true e = inl q
      cases false e = absurd (false≢true e)
  with-filter x (f ∷ fs) a b (inr i) e = cases (with-filter x fs a b i e) (of f)
    where
      cases : In {X = MemberPair S C} (a, b) (With x (map at (filter of fs))) → (r : Bool) → In {X = MemberPair S C} (a, b) (With x (map at (cond r (f ∷ filter of fs) (filter of fs))))
      cases ih true = inr ih
      cases ih false = ih

  first-of-with : (x : Member S C) (ys : List (Member S C)) (a b : Member S C) → In {X = MemberPair S C} (a, b) (With x ys) → a ≡ x
  first-of-with x [] a b i = absurd i
  first-of-with x (y ∷ ys) a b (inl e) = ap (λ (p : MemberPair S C). p.0) e
  first-of-with x (y ∷ ys) a b (inr i) = first-of-with x ys a b i

  pub later-filter : (fs : List (WrittenField S C)) (a b : Member S C) → In {X = MemberPair S C} (a, b) (later_pairs (map at fs)) → bytes_eq key a.head.key ≡ true
      → bytes_eq key b.head.key ≡ true → In {X = MemberPair S C} (a, b) (later_pairs (map at (filter of fs)))
  later-filter [] a b i u v = absurd i
  later-filter (f ∷ fs) a b i u v = cases (λ j. later-filter fs a b j u v) (either-In {X = MemberPair S C} (a, b) (With (at f) (map at fs)) (later_pairs (map at fs)) i) (of f) refl
    where
      cases : (In {X = MemberPair S C} (a, b) (later_pairs (map at fs)) → In {X = MemberPair S C} (a, b) (later_pairs (map at (filter of fs))))
          → In {X = MemberPair S C} (a, b) (With (at f) (map at fs)) ⊎ In {X = MemberPair S C} (a, b) (later_pairs (map at fs)) → (r : Bool) → of f ≡ r
          → In {X = MemberPair S C} (a, b) (later_pairs (map at (cond r (f ∷ filter of fs) (filter of fs))))
      cases ih (inl j) true e = left-In {X = MemberPair S C} (a, b) (With (at f) (map at (filter of fs))) (later_pairs (map at (filter of fs))) (with-filter (at f) fs a b j v)
      cases ih (inr j) true e = right-In {X = MemberPair S C} (a, b) (With (at f) (map at (filter of fs))) (later_pairs (map at (filter of fs))) (ih j)
      cases ih (inl j) false e =
          absurd (false≢true (sym e ∙ ap (λ (m : Member S C). bytes_eq key m.head.key) (sym (first-of-with (at f) (map at fs) a b j)) ∙ u))
      cases ih (inr j) false e = ih j

module _ {S C : Type 0} (eq : S → S → Bool) (types : List (MetaType S C)) (fragments : List (Fragment S)) where
  abbrev seen-at : WrittenField S C → Member S C
  seen-at f = member_of fragments f.selected

  -- the groups of a set so far
  pub record GroupsTold (fields : List (WrittenField S C)) (groups : List (KeyGroup S C)) (old new : Places) : Type 0 where
    pub errors : Places
    pub told : new ≡ old ++ errors
    pub found : (e : List SourcePosition) → Contains errors e → IsDirectFound eq types (map seen-at fields) e
    pub all : (g : KeyGroup S C) → Contains groups g → (a b : Member S C) → Contains (later_pairs (map seen-at g.1)) (a, b)
        → AgreeThrough eq types (map seen-at g.1) a b ⊎ Any (λ e. Names e a b) new

  pub groups-told-none : (fields : List (WrittenField S C)) (told : Places) → GroupsTold fields [] told told
  groups-told-none fields told =
      record { errors = []; told = sym (append-nil told); found = (λ e i. in-nothing e i); all = (λ g i. in-nothing g i) }

  pub groups-told-more : (fields : List (WrittenField S C)) (groups : List (KeyGroup S C)) (i : ℕ) (g : KeyGroup S C) (old mid new : Places) → IsGrouped fields groups
      → i < length groups → g ≡ get_or groups i g → GroupsTold fields (take i groups) old mid → DirectParts eq types fragments (reverse g.1) [] mid new
      → GroupsTold fields (take (i + 1) groups) old new
  groups-told-more fields groups i g old mid new grouped within is h p = record {
    errors = h.errors ++ p.errors;
    told = p.told ∙ ap (λ es. es ++ p.errors) h.told ∙ append_assoc old h.errors p.errors;
    found = (λ e j. elim (Contains-append_cases h.errors p.errors e j) [
      | inl k ↦ h.found e k
      | inr k ↦ (let r = p.found e k in
          let v = own r.0 (of-turned g.1 r.0 r.2) in
          let w = own r.1 (of-turned g.1 r.1 r.3) in
          (seen-at r.0, seen-at r.1, map_has seen-at fields r.0 v.0, map_has seen-at fields r.1 w.0, sym v.1 ∙ w.1, r.4, r.5))
    ]);
    all = (λ k j a b l. elim (take-cases groups i g within is k j) [
      | inl m ↦ elim (h.all k m a b l) [
        | inl alike ↦ inl alike
        | inr named ↦ inr (any-among (λ e. Names e a b) mid new (λ e n. subst (λ es. Contains es e) (sym p.told) (Contains-append_left mid p.errors e n)) named)
      ]
      | inr e ↦ subst (λ (q : KeyGroup S C). Contains (later_pairs (map seen-at q.1)) (a, b) → AgreeThrough eq types (map seen-at q.1) a b ⊎ Any (λ e. Names e a b) new) e
          (λ n. parts-turned eq types fragments g.1 mid new p a b n) l
    ]);
  }
    where
      own : (w : WrittenField S C) → Contains g.1 w → Contains fields w × (g.0 ≡ key_at w)
      own w j =
          let r = filter_of (λ v. bytes_eq g.0 (key_at v)) fields w (subst (λ fs. Contains fs w) (grouped.of g (i, within, sym is)) j) in
          (r.0, (bytes_eq-Decides g.0 (key_at w)).0 r.1)

  -- all groups: all fields
  pub groups-told-all : (fields : List (WrittenField S C)) (groups : List (KeyGroup S C)) (old new : Places) → IsGrouped fields groups → GroupsTold fields groups old new
      → TellsDirect eq types (map seen-at fields) old new
  groups-told-all fields groups old new grouped h = record {
    errors = h.errors;
    told = h.told;
    found = h.found;
    all = (λ a b i key.
        let pair = to-In {X = Member S C × Member S C} (a, b) (later_pairs (map seen-at fields)) i in
        let f = map_of seen-at fields a (left-member fields a b i) in
        let g = map_of (λ (g : KeyGroup S C). g.0) groups (key_at f.0) (grouped.all f.0 f.1) in
        let one = g.2 ∙ ap (λ (m : Member S C). m.head.key) f.2 in
        let inside = later-filter fragments g.0.0 fields a b pair ((bytes_eq-Decides g.0.0 a.head.key).1 one) ((bytes_eq-Decides g.0.0 b.head.key).1 (one ∙ key)) in
        let there = subst (λ fs. Contains (later_pairs (map seen-at fs)) (a, b)) (sym (grouped.of g.0 g.1))
        (from-In {X = Member S C × Member S C} (a, b) (later_pairs (map seen-at (under g.0.0 fields))) inside) in
        wider g.0 g.1 a b (Any (λ e. Names e a b) new) (h.all g.0 g.1 a b there));
  }
    where
      left-member : (fs : List (WrittenField S C)) (a b : Member S C) → Contains (later_pairs (map seen-at fs)) (a, b) → Contains (map seen-at fs) a
      left-member fs a b i = from-In a (map seen-at fs) ((later-In (map seen-at fs) a b (to-In {X = Member S C × Member S C} (a, b) (later_pairs (map seen-at fs)) i)).0)

      wider : (g : KeyGroup S C) → Contains groups g → (a b : Member S C) (N : Type 0) → AgreeThrough eq types (map seen-at g.1) a b ⊎ N → AgreeThrough eq types (map seen-at fields) a b ⊎ N
      wider g i a b N (inl (inl agree)) = inl (inl agree)
      wider g i a b N (inl (inr third)) =
          let m = map_of seen-at g.1 third.0 third.1 in
          let k = filter_of (λ v. bytes_eq g.0 (key_at v)) fields m.0 (subst (λ fs. Contains fs m.0) (grouped.of g i) m.1) in
          inl (inr (third.0, subst (Contains (map seen-at fields)) m.2 (map_has seen-at fields m.0 k.0), third.2, third.3))
      wider g i a b N (inr n) = inr n

module _ {S C : Type 0} (eq : S → S → Bool) (types : List (MetaType S C)) (t : Pieces S C) where
  abbrev inside : ℕ → List (Member S C)
  inside p = map (λ (f : PieceField S C). f.member) (t.direct p)

  pub directs-none : (told : Places) → TellsDirects eq types t [] told told
  directs-none told = record { errors = []; told = sym (append-nil told); found = (λ e i. in-nothing e i); all = (λ p i. in-nothing p i) }

  -- one set more
  pub directs-more : (sets : List ℕ) (i p : ℕ) (old mid new : Places) → i < length sets → p ≡ get_or sets i p → TellsDirects eq types t (take i sets) old mid
      → TellsDirect eq types (inside p) mid new → TellsDirects eq types t (take (i + 1) sets) old new
  directs-more sets i p old mid new within is h one = record {
    errors = h.errors ++ one.errors;
    told = one.told ∙ ap (λ es. es ++ one.errors) h.told ∙ append_assoc old h.errors one.errors;
    found = (λ e j. elim (Contains-append_cases h.errors one.errors e j) [
      | inl k ↦ (let r = h.found e k in (r.0, longer r.0 r.1, r.2))
      | inr k ↦ (p, last, one.found e k)
    ]);
    all = (λ q j a b l key. elim (take-cases sets i p within is q j) [
      | inl m ↦ elim (h.all q m a b l key) [
        | inl alike ↦ inl alike
        | inr named ↦ inr (any-among (λ e. Names e a b) mid new (λ e n. subst (λ es. Contains es e) (sym one.told) (Contains-append_left mid one.errors e n)) named)
      ]
      | inr e ↦ subst (λ r. AreDirectTold eq types (inside r) new) e one.all a b l key
    ]);
  }
    where
      longer : (q : ℕ) → Contains (take i sets) q → Contains (take (i + 1) sets) q
      longer q j = subst (λ ns. Contains ns q) (take-one sets i p within is) (Contains-append_left (take i sets) (p ∷ []) q j)

      last : Contains (take (i + 1) sets) p
      last = subst (λ ns. Contains ns p) (take-one sets i p within is) (Contains-append_right (take i sets) (p ∷ []) p (here p []))

  -- a set in which no field stands
  pub direct-nothing : (ms : List (Member S C)) (told : Places) → ms ≡ [] → TellsDirect eq types ms told told
  direct-nothing ms told none = record {
    errors = [];
    told = sym (append-nil told);
    found = (λ e i. in-nothing e i);
    all = (λ a b i key. in-nothing {X = Member S C × Member S C} (a, b) (subst (λ ns. Contains (later_pairs ns) (a, b)) none i));
  }

-- a set of the table
module _ {S C : Type 0} (fragments : List (Fragment S)) (table : SetTable S C) (p : ℕ) where
  abbrev inner-of : Option (WrittenSet S C) → List ℕ
  inner-of o = option_map_or (λ (set : WrittenSet S C). set.inner) o []

  abbrev fields-of : Option (WrittenSet S C) → List (WrittenField S C)
  fields-of o = option_map_or (λ (set : WrittenSet S C). set.fields) o []

  owns-same : (fs : List (WrittenField S C)) → map (λ (f : PieceField S C). f.own) (map (piece_field fragments) fs) ≡ map (λ (f : WrittenField S C). f.own) fs
  owns-same [] = refl
  owns-same (f ∷ fs) = ap (λ ns. f.own ∷ ns) (owns-same fs)

  members-same : (fs : List (WrittenField S C)) → map (λ (f : PieceField S C). f.member) (map (piece_field fragments) fs) ≡ all_seen fragments fs
  members-same [] = refl
  members-same (f ∷ fs) = ap (λ ms. member_of fragments f.selected ∷ ms) (members-same fs)

  -- the sets of the fragments in it and the own sets of its fields are added
  pub adds-sets : (o : Option (WrittenSet S C)) (old mid new inner own : List ℕ) → slice_get table.sets p ≡ o → inner ≡ inner-of o → own ≡ map (λ (f : WrittenField S C). f.own) (fields-of o)
      → AddsNumbers old inner mid → AddsNumbers mid own new
      → AddsNumbers old ((pieces_of fragments table).inner p ++ map (λ (f : PieceField S C). f.own) ((pieces_of fragments table).direct p)) new
  adds-sets o old mid new inner own at is are f g =
      let ours : own ≡ map (λ (f : PieceField S C). f.own) ((pieces_of fragments table).direct p) =
      are ∙ sym (owns-same (fields-of o)) ∙ ap (λ q. map (λ (f : PieceField S C). f.own) (map (piece_field fragments) (fields-of q))) (sym at) in
      subst (λ ns. AddsNumbers old ns new) (ap (λ ns. ns ++ own) (is ∙ ap inner-of (sym at)) ∙ ap (λ ns. (pieces_of fragments table).inner p ++ ns) ours)
      (adds-both old inner mid own new f g)

  -- its fields are told
  pub direct-at : (eq : S → S → Bool) (types : List (MetaType S C)) (o : Option (WrittenSet S C)) (fields : List (WrittenField S C)) (old new : Places)
      → slice_get table.sets p ≡ o → fields ≡ fields-of o → TellsDirect eq types (all_seen fragments fields) old new
      → TellsDirect eq types (map (λ (f : PieceField S C). f.member) ((pieces_of fragments table).direct p)) old new
  direct-at eq types o fields old new at are h =
      subst (λ ms. TellsDirect eq types ms old new)
      (ap (all_seen fragments) are ∙ sym (members-same (fields-of o)) ∙ ap (λ q. map (λ (f : PieceField S C). f.member) (map (piece_field fragments) (fields-of q))) (sym at)) h

  -- there is none
  pub direct-none : (eq : S → S → Bool) (types : List (MetaType S C)) (told : Places) → slice_get table.sets p ≡ None
      → TellsDirect eq types (map (λ (f : PieceField S C). f.member) ((pieces_of fragments table).direct p)) told told
  direct-none eq types told at = direct-at eq types None [] told told at refl (direct-nothing eq types (pieces_of fragments table) [] told refl)
