-- Where no two fields of one response key stand together in a set, all merge.
use Rattle.std.proofs.Common.{◌≡◌, refl, ap, sym, subst, ◌∙◌, arith, ℕ, suc, ◌+◌, ◌<◌, drop, get_or, length, Bool, true, false, not, ◌&&◌, ◌||◌, List, [], ◌∷◌, map, ◌⊎◌, inl, inr, Option, Some, None}
use Rattle.std.specs.List.{All, Contains, list_any, slice_get}
use Rattle.std.specs.Option.{option_map_or}
use Rattle.std.specs.Str.{bytes_eq}
use Rattle.std.proofs.lemmas.Bool.{false≢true}
use Rattle.std.proofs.lemmas.List.Elements.{All-get_or}
use Rattle.std.proofs.Math.Seq.{drop-cons}
use Rattle.std.proofs.lemmas.Option.{slice_get_cases}
use Rattle.std.proofs.lemmas.Slice.Eq.{bytes_eq-Decides}
use Rattle.graphql_values.specs.Laws.{SameAsItself}
use Rattle.graphql_tree.specs.declared.document.Fragment.{Fragment}
use Rattle.graphql_schema.specs.declared.meta.MetaType.{MetaType}
use Rattle.graphql_bundles.specs.Groups.{key_at}
use Rattle.graphql_merging.specs.Members.{Member, members_below}
use Rattle.graphql_merging.specs.Merging.{Agree, SameField, apart}
use Rattle.graphql_merging.specs.Sets.{Set, members_of, directs_of}
use Rattle.graphql_merging.specs.Pieces.{Pieces, PieceField, IsPieceOf, HasOwnPieces, IsSettled}
use Rattle.graphql_merging.specs.Tables.{piece_field, pieces_of}
use Rattle.graphql_merging.specs.Told.{later_pairs}
use Rattle.graphql_merging.specs.Done.{all_sets}
use Rattle.graphql_merging.specs.Contract.{IsSound, IsDirect, IsComplete}
use Rattle.graphql_merging.specs.declared.table.SetTable.{SetTable}
use Rattle.graphql_merging.specs.declared.table.WrittenField.{WrittenField}
use Rattle.graphql_merging.specs.declared.table.WrittenSet.{WrittenSet}
use Rattle.graphql_merging.proofs.Contracts.{done-meets}
use Rattle.graphql_merging.proofs.DirectFields.{In, to-In, from-In, later-In}
use Rattle.graphql_merging.proofs.Nested.{in-nothing}
use Rattle.graphql_merging.proofs.SameWraps.{both-false}
use Rattle.graphql_merging.proofs.Standing.{agrees-with-itself, apart-self}
use Rattle.graphql_rules_merging.specs.Alone.{AllStandAlone, SetStandsAlone, keys_differ}

both-true : (p q : Bool) → (p && q) ≡ true → (p ≡ true) × (q ≡ true)
both-true true q e = (refl, e)
both-true false q e = absurd (false≢true e)

neither : (p q : Bool) → (p || q) ≡ false → (p ≡ false) × (q ≡ false)
neither false q e = (refl, e)
neither true q e = absurd (false≢true (sym e))

not-true : (p : Bool) → not p ≡ true → p ≡ false
not-true false e = refl
not-true true e = absurd (false≢true e)

module _ {S C : Type 0} where
  abbrev has-key-of : WrittenField S C → List (WrittenField S C) → Bool
  has-key-of x xs = list_any (λ y. bytes_eq (key_at x) (key_at y)) xs

  none-behind : (x : WrittenField S C) (xs : List (WrittenField S C)) → keys_differ (x ∷ xs) ≡ true → has-key-of x xs ≡ false
  none-behind x xs h = not-true (has-key-of x xs) (both-true (not (has-key-of x xs)) (keys_differ xs) h).0

  others-differ : (x : WrittenField S C) (xs : List (WrittenField S C)) → keys_differ (x ∷ xs) ≡ true → keys_differ xs ≡ true
  others-differ x xs h = (both-true (not (has-key-of x xs)) (keys_differ xs) h).1

  -- a field is gone past that has another key than those behind it
  pub past-field : (xs : List (WrittenField S C)) (k : ℕ) (x : WrittenField S C) → k < length xs → x ≡ get_or xs k x
      → has-key-of x (drop (k + 1) xs) ≡ false → keys_differ (drop k xs) ≡ keys_differ xs → keys_differ (drop (k + 1) xs) ≡ keys_differ xs
  past-field xs k x within at none is =
      let step : drop k xs ≡ x ∷ drop (k + 1) xs = drop-cons xs k x within ∙ (λ i. sym at i ∷ drop (next k i) xs) in
      let one : keys_differ (x ∷ drop (k + 1) xs) ≡ keys_differ (drop (k + 1) xs) = ap (λ b. not b && keys_differ (drop (k + 1) xs)) none in
      sym one ∙ ap keys_differ (sym step) ∙ is
    where
      next : (k : ℕ) → suc k ≡ k + 1
      next k = omega arith

  -- one has the key of a field behind it
  pub meets-field : (xs : List (WrittenField S C)) (k : ℕ) (x : WrittenField S C) → k < length xs → x ≡ get_or xs k x
      → has-key-of x (drop (k + 1) xs) ≡ true → keys_differ (drop k xs) ≡ keys_differ xs → false ≡ keys_differ xs
  meets-field xs k x within at some is =
      let step : drop k xs ≡ x ∷ drop (k + 1) xs = drop-cons xs k x within ∙ (λ i. sym at i ∷ drop (next k i) xs) in
      let one : keys_differ (x ∷ drop (k + 1) xs) ≡ false = ap (λ b. not b && keys_differ (drop (k + 1) xs)) some in
      sym one ∙ ap keys_differ (sym step) ∙ is
    where
      next : (k : ℕ) → suc k ≡ k + 1
      next k = omega arith

  module _ (fragments : List (Fragment S)) where
    -- a field behind has another key
    not-among : (x : WrittenField S C) (xs : List (WrittenField S C)) → has-key-of x xs ≡ false
        → (g : PieceField S C) → In g (map (piece_field fragments) xs) → key_at x ≡ g.member.head.key → ⊥
    not-among x [] none g i e = i
    not-among x (y ∷ ys) none g (inl is) e =
        let n = neither (bytes_eq (key_at x) (key_at y)) (has-key-of x ys) none in
        let same : key_at x ≡ key_at y = e ∙ ap (λ (p : PieceField S C). p.member.head.key) is in
        false≢true (sym n.0 ∙ (bytes_eq-Decides (key_at x) (key_at y)).1 same)
    not-among x (y ∷ ys) none g (inr i) e = not-among x ys (neither (bytes_eq (key_at x) (key_at y)) (has-key-of x ys) none).1 g i e

    -- of one key there is one field
    one-of : (xs : List (WrittenField S C)) → keys_differ xs ≡ true → (f g : PieceField S C) → In f (map (piece_field fragments) xs)
        → In g (map (piece_field fragments) xs) → f.member.head.key ≡ g.member.head.key → f ≡ g
    one-of [] h f g i j e = absurd i
    one-of (x ∷ xs) h f g (inl a) (inl b) e = a ∙ sym b
    one-of (x ∷ xs) h f g (inl a) (inr j) e =
        absurd (not-among x xs (none-behind x xs h) g j (sym (ap (λ (p : PieceField S C). p.member.head.key) a) ∙ e))
    one-of (x ∷ xs) h f g (inr i) (inl b) e =
        absurd (not-among x xs (none-behind x xs h) f i (sym (ap (λ (p : PieceField S C). p.member.head.key) b) ∙ sym e))
    one-of (x ∷ xs) h f g (inr i) (inr j) e = one-of xs (others-differ x xs h) f g i j e

    -- what holds of each set of a table
    at-each : (table : SetTable S C) → All SetStandsAlone table.sets → (p : ℕ)
        → (option_map_or (λ set. set.inner) (slice_get table.sets p) [] ≡ [])
        × (keys_differ (option_map_or (λ set. set.fields) (slice_get table.sets p) []) ≡ true)
    at-each table all p = elim (slice_get_cases table.sets p).1 [
      | inl h ↦ (
          let alone : SetStandsAlone h.0 = subst SetStandsAlone h.3 (All-get_or SetStandsAlone table.sets p h.0 h.1 all) in
          (rw h.2 alone.inner, rw h.2 alone.differ))
      | inr h ↦ (rw h.1 refl, rw h.1 refl)
    ]

    pub table-alone : (table : SetTable S C) → All SetStandsAlone table.sets → AllStandAlone (pieces_of fragments table)
    table-alone table all = record {
      inner = λ p. (at-each table all p).0;
      one = λ p f g i j e.
          let fields = option_map_or (λ (set : WrittenSet S C). set.fields) (slice_get table.sets p) [] in
          one-of fields (at-each table all p).1 f g (to-In f (map (piece_field fragments) fields) i)
          (to-In g (map (piece_field fragments) fields) j) e;
    }

module _ {S C : Type 0} (eq : S → S → Bool) (types : List (MetaType S C)) (t : Pieces S C) (alone : AllStandAlone t) (itself : SameAsItself eq) where
  -- each piece with itself
  abbrev Begun : ℕ → ℕ → Bool → Type 0
  Begun p q x = (p ≡ q) × (x ≡ false)

  abbrev agrees : (x : Bool) (a : Member S C) → Agree eq types x a a
  agrees = agrees-with-itself S C eq itself types

  settled : IsSettled t eq types Begun
  settled = record {
    left = λ p q r x b i. in-nothing r (subst (λ rs. Contains rs r) (alone.inner p) i);
    right = λ p q r x b i. in-nothing r (subst (λ rs. Contains rs r) (alone.inner q) i);
    fields = λ p q f g x b i j e.
        let same : f ≡ g = alone.one p f g i (subst (λ k. Contains (t.direct k) g) (sym b.0) j) e in
        let near : apart f.member g.member ≡ false = sym (ap (λ (h : PieceField S C). apart f.member h.member) same) ∙ apart-self eq f.member in (
          subst (λ (h : PieceField S C). Agree eq types x f.member h.member) same (agrees x f.member),
          (ap (λ (h : PieceField S C). h.own) same, both-false x (apart f.member g.member) b.1 near),
        );
  }

  -- a field of a piece, by its member
  of-map : (fs : List (PieceField S C)) (a : Member S C) → In a (map (λ (f : PieceField S C). f.member) fs)
      → (f : PieceField S C) × In f fs × (f.member ≡ a)
  of-map [] a i = absurd i
  of-map (f ∷ fs) a (inl e) = (f, inl refl, sym e)
  of-map (f ∷ fs) a (inr i) = let r = of-map fs a i in (r.0, inr r.1, r.2)

  one-member : (p : ℕ) (a b : Member S C) → In a (map (λ (f : PieceField S C). f.member) (t.direct p))
      → In b (map (λ (f : PieceField S C). f.member) (t.direct p)) → a.head.key ≡ b.head.key → a ≡ b
  one-member p a b i j e =
      let f = of-map (t.direct p) a i in
      let g = of-map (t.direct p) b j in
      let key : f.0.member.head.key ≡ g.0.member.head.key = ap (λ (m : Member S C). m.head.key) f.2 ∙ e ∙ sym (ap (λ (m : Member S C). m.head.key) g.2) in
      let same = alone.one p f.0 g.0 (from-In f.0 (t.direct p) f.1) (from-In g.0 (t.direct p) g.1) key in
      sym f.2 ∙ ap (λ (h : PieceField S C). h.member) same ∙ g.2

  module _ (roots : List (Set S C)) where
    -- its direct fields are those of a piece, if there are any
    abbrev pub IsWritten : Set S C → Type 0
    IsWritten set =
        ((p : ℕ) × (map (λ (f : PieceField S C). f.member) (t.direct p) ≡ directs_of types set))
        ⊎ (directs_of types set ≡ [])

    same-field : (set : Set S C) → IsWritten set → (a b : Member S C) → Contains (later_pairs (directs_of types set)) (a, b)
        → a.head.key ≡ b.head.key → SameField eq types a b
    same-field set (inr none) a b i e = in-nothing (a, b) (subst (λ ms. Contains (later_pairs ms) (a, b)) none i)
    same-field set (inl h) a b i e =
        let both = later-In (directs_of types set) a b (to-In (a, b) (later_pairs (directs_of types set)) i) in
        let here = λ (m : Member S C) (k : In m (directs_of types set)). subst (λ ms. In m ms) (sym h.1) k in
        let same : a ≡ b = one-member h.0 a b (here a both.0) (here b both.1) e in
        subst (λ m. SameField eq types a m) same ((agrees false a).0 (apart-self eq a))

    pub alone-meets : HasOwnPieces t eq types
        → ((set : Set S C) → Contains roots set → (k : ℕ) × IsPieceOf t k (members_of types set))
        → ((set : Set S C) → Contains (all_sets types roots) set → IsWritten set)
        → IsSound eq types (all_sets types roots) [] × IsDirect eq types (all_sets types roots) []
        × IsComplete eq types (all_sets types roots) []
    alone-meets owns number each = done-meets S C eq types roots t Begun [] (record {
      owns = owns;
      pieces = (λ set i. let n = number set i in (n.0, n.1, (refl, refl)));
      told = (λ k d within. absurd (omega (arith, within)));
      directs = (λ set a b i pair key differ. absurd (differ (same-field set (each set i) a b pair key)));
      settled = (λ none. settled);
    })
