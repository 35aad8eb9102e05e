-- A bundle is gone through, and all are.
use Rattle.std.proofs.Common.{◌≡◌, ap, sym, subst, ◌∙◌, arith, ℕ, ◌+◌, ◌<◌, ◌≤◌, Bool, false, List, [], ◌∷◌, ◌++◌, map, take, length, get_or, slice_get, Some, None, inl, inr, option_map, append-nil, append_assoc}
use Rattle.std.specs.List.{Contains, flat_map}
use Rattle.std.specs.Str.{bytes_eq}
use Rattle.std.proofs.lemmas.Bool.{false≢true}
use Rattle.std.proofs.lemmas.List.{take_more, take_all, take-append-le, length-map}
use Rattle.std.proofs.lemmas.List.Elements.{Contains-append_cases}
use Rattle.std.proofs.lemmas.Option.{slice_get-map, slice_get_within, get_or_from_slice_get}
use Rattle.std.proofs.lemmas.Slice.Eq.{bytes_eq-Decides}
use Rattle.graphql_text.specs.declared.position.SourcePosition.{SourcePosition}
use Rattle.graphql_schema.specs.declared.meta.MetaType.{MetaType}
use Rattle.graphql_tree.specs.declared.document.Fragment.{Fragment}
use Rattle.graphql_schema.specs.Lookups.{own_name, is_object}
use Rattle.graphql_merging.specs.Pieces.{Pieces, PieceField, StandsIn}
use Rattle.graphql_merging.specs.Tables.{pieces_of, piece_field}
use Rattle.graphql_merging.specs.declared.table.SetTable.{SetTable}
use Rattle.graphql_merging.specs.declared.table.WrittenField.{WrittenField}
use Rattle.graphql_merging.proofs.Nested.{one-only, in-nothing}
use Rattle.graphql_bundles.specs.Bundles.{Bundle, BundleGroup, StandsAmong, IsGroupOf, IsGroupPassed, IsPassed, of_definition, of_part, IsFoundAmong}
use Rattle.graphql_bundles.specs.Going.{Stage, Grows, GroupLeadsTo, IsFoundIn, LeadsTo, IsGoing}
use Rattle.graphql_bundles.specs.Steps.{Goes, IsFoundOf, FoundInGroups, GroupsLeadTo, GroupsPassed, OfDefinitions, KeepsTold}
use Rattle.graphql_bundles.specs.Groups.{KeyGroup, IsGrouped, fields_in, key_at, group_of}
use Rattle.graphql_bundles.proofs.GoesLemmas.{Stays, goes-weaker, goes-none, goes-both, Definitions, grows-both, grows-weaker, gathered-stays}
use Rattle.graphql_bundles.proofs.GoingLemmas.{group-later, passed-later}
use Rattle.graphql_bundles.proofs.ListLemmas.{here, map_has, map_of, flat_has, flat_of, filter_has, filter_of, take-cases}
use Rattle.graphql_bundles.proofs.NameLemmas.{name-there}

module _ {B : Type 0} (view : B → Bundle) (keys : List B) (number : ℕ) (b : Bundle) where
  -- the bundle of a number
  pub bundle-at : (x : B) → slice_get keys number ≡ Some x → slice_get (map view keys) number ≡ Some b → view x ≡ b
  bundle-at x e at = same (view x) b (sym (slice_get-map view keys number ∙ ap (option_map view) e) ∙ at)
    where
      same : (c d : Bundle) → Some c ≡ Some d → c ≡ d
      same c d e = cc

  pub bundle-none : slice_get keys number ≡ None → slice_get (map view keys) number ≡ Some b → ⊥
  bundle-none e at = clash b (sym (slice_get-map view keys number ∙ ap (option_map view) e) ∙ at)
    where
      clash : (c : Bundle) → None ≡ Some c → ⊥
      clash c e = cc

-- as many bundles as there are keys
module _ {B : Type 0} (view : B → Bundle) (keys : List B) (n number : ℕ) (are : n ≡ length keys) where
  pub bundles-past : n ≤ number → length (map view keys) ≤ number
  bundles-past h = let e = length-map keys view in omega (arith, e, are, h)

  pub bundles-within : number < n → number < length (map view keys)
  bundles-within h = let e = length-map keys view in omega (arith, e, are, h)

module _ {S C : Type 0} (eq : S → S → Bool) (types : List (MetaType S C)) (table : SetTable S C) (fragments : List (Fragment S)) where
  abbrev t : Pieces S C
  t = pieces_of fragments table

  module _ (x : Bool) (groups : List (KeyGroup S C)) where
    abbrev FoundHere : List SourcePosition → Type 0
    FoundHere = FoundInGroups eq types fragments x groups

    abbrev MayHere : Bundle → Type 0
    MayHere = GroupsLeadTo t fragments x groups

    abbrev pub PassedAll : List (KeyGroup S C) → Stage → Type 0
    PassedAll gs = GroupsPassed t eq types fragments x gs

    abbrev OnePassed : KeyGroup S C → Stage → Type 0
    OnePassed g stage = IsGroupPassed t eq types stage.bundles stage.told x (group_of fragments g.1)

    pub passed-stays : (F : List SourcePosition → Type 0) (M : Bundle → Type 0) (gs : List (KeyGroup S C)) → Stays F M (PassedAll gs)
    passed-stays F M gs s u grows h g i = group-later eq types t F M s u grows x (group_of fragments g.1) (h g i)

    pub groups-none : (stage : Stage) → Goes FoundHere MayHere (PassedAll []) stage stage
    groups-none stage = goes-none FoundHere MayHere (PassedAll []) stage (λ g i. in-nothing g i)

    pub groups-more : (i : ℕ) (g : KeyGroup S C) (old mid new : Stage) → i < length groups → g ≡ get_or groups i g
        → Goes FoundHere MayHere (PassedAll (take i groups)) old mid
        → Goes (IsFoundOf eq types x (group_of fragments g.1).fields) (GroupLeadsTo t x (group_of fragments g.1))
        (λ stage. IsGroupPassed t eq types stage.bundles stage.told x (group_of fragments g.1)) mid new
        → Goes FoundHere MayHere (PassedAll (take (i + 1) groups)) old new
    groups-more i g old mid new within is f h =
        goes-both FoundHere MayHere (PassedAll (take i groups)) (OnePassed g) (PassedAll (take (i + 1) groups)) old mid new (passed-stays FoundHere MayHere (take i groups)) joins f
        (goes-weaker (IsFoundOf eq types x (group_of fragments g.1).fields) FoundHere (GroupLeadsTo t x (group_of fragments g.1)) MayHere (OnePassed g) (OnePassed g) mid new
        (λ e k. (g, (i, within, sym is), k)) (λ b k. (g, (i, within, sym is), k)) (λ s k. k) h)
      where
        joins : (s : Stage) → PassedAll (take i groups) s → IsGroupPassed t eq types s.bundles s.told x (group_of fragments g.1) → PassedAll (take (i + 1) groups) s
        joins s all last k j = elim (take-cases groups i g within is k j) [
          | inl here ↦ all k here
          | inr e ↦ subst (λ (m : KeyGroup S C). IsGroupPassed t eq types s.bundles s.told x (group_of fragments m.1)) e last
        ]

  -- the fields of some sets of the table
  module _ (b : Bundle) (fields : List (WrittenField S C)) (groups : List (KeyGroup S C)) (are : fields ≡ flat_map (fields_in table) b.sets) (grouped : IsGrouped fields groups) where
    stands : (w : WrittenField S C) → Contains fields w → StandsAmong t b.sets (piece_field fragments w)
    stands w i =
        let r = flat_of (fields_in table) b.sets w (subst (λ fs. Contains fs w) are i) in
        (r.0, r.1, map_has (piece_field fragments) (fields_in table r.0) w r.2)

    standing : (f : PieceField S C) → StandsAmong t b.sets f → (w : WrittenField S C) × Contains fields w × (piece_field fragments w ≡ f)
    standing f s =
        let m = map_of (piece_field fragments) (fields_in table s.0) f s.2 in
        (m.0, subst (λ fs. Contains fs m.0) (sym are) (flat_has (fields_in table) b.sets s.0 m.0 s.1 m.1), m.2)

    own : (g : KeyGroup S C) → Contains groups g → (w : WrittenField S C) → Contains g.1 w → Contains fields w × (g.0 ≡ key_at w)
    own g i w j =
        let r = filter_of (λ v. bytes_eq g.0 (key_at v)) fields w (subst (λ fs. Contains fs w) (grouped.of g i) j) in
        (r.0, (bytes_eq-Decides g.0 (key_at w)).0 r.1)

    at-group : (g : KeyGroup S C) → Contains groups g → IsGroupOf t b (group_of fragments g.1)
    at-group g i = record {
      stand = (λ f j. let m = map_of (piece_field fragments) g.1 f j in subst (StandsAmong t b.sets) m.2 (stands m.0 (own g i m.0 m.1).0));
      key = (λ f h j k.
          let m = map_of (piece_field fragments) g.1 f j in
          let n = map_of (piece_field fragments) g.1 h k in
          sym (ap (λ (p : PieceField S C). p.member.head.key) m.2) ∙ sym (own g i m.0 m.1).1 ∙ (own g i n.0 n.1).1 ∙ ap (λ (p : PieceField S C). p.member.head.key) n.2);
      named = (λ f j o.
          let m = map_of (piece_field fragments) g.1 f j in
          subst (λ (p : PieceField S C). Contains (group_of fragments g.1).names (own_name p.member.parent)) m.2
          (name-there g.1 m.0 m.1 (ap (λ (p : PieceField S C). is_object p.member.parent) m.2 ∙ o)));
    }

    both-in : (f h : PieceField S C) → StandsAmong t b.sets f → StandsAmong t b.sets h → f.member.head.key ≡ h.member.head.key
        → (group : BundleGroup S C) × Contains (map (λ (g : KeyGroup S C). group_of fragments g.1) groups) group × Contains group.fields f × Contains group.fields h
    both-in f h s u key =
        let v = standing f s in
        let w = standing h u in
        let one = ap (λ (p : PieceField S C). p.member.head.key) v.2 in
        let other = ap (λ (p : PieceField S C). p.member.head.key) w.2 in
        let g = map_of (λ (g : KeyGroup S C). g.0) groups (key_at v.0) (grouped.all v.0 v.1) in
        let keys : g.0.0 ≡ key_at w.0 = g.2 ∙ one ∙ key ∙ sym other in (
          group_of fragments g.0.1,
          map_has (λ (g : KeyGroup S C). group_of fragments g.1) groups g.0 g.1,
          subst (Contains (map (piece_field fragments) g.0.1)) v.2 (map_has (piece_field fragments) g.0.1 v.0 (has g.0 g.1 v.0 v.1 g.2)),
          subst (Contains (map (piece_field fragments) g.0.1)) w.2 (map_has (piece_field fragments) g.0.1 w.0 (has g.0 g.1 w.0 w.1 keys)),
        )
      where
        has : (g : KeyGroup S C) → Contains groups g → (w : WrittenField S C) → Contains fields w → g.0 ≡ key_at w → Contains g.1 w
        has g i w j e =
            subst (λ fs. Contains fs w) (sym (grouped.of g i)) (filter_has (λ v. bytes_eq g.0 (key_at v)) fields w j ((bytes_eq-Decides g.0 (key_at w)).1 e))

    bundle-passed : (stage : Stage) → GroupsPassed t eq types fragments b.around groups stage → IsPassed t eq types stage.bundles stage.told b
    bundle-passed stage h = record {
      groups = map (λ (g : KeyGroup S C). group_of fragments g.1) groups;
      grouped = both-in;
      of = (λ group i. let m = map_of (λ (g : KeyGroup S C). group_of fragments g.1) groups group i in
          subst (IsGroupOf t b) m.2 (at-group m.0 m.1));
      each = (λ group i. let m = map_of (λ (g : KeyGroup S C). group_of fragments g.1) groups group i in
          subst (IsGroupPassed t eq types stage.bundles stage.told b.around) m.2 (h m.0 m.1));
    }

    found-in : (e : List SourcePosition) → FoundInGroups eq types fragments b.around groups e → IsFoundIn t eq types b e
    found-in e r =
        let of = at-group r.0 r.1 in
        let f = r.2 in
        (f.0, f.1, of.stand f.0 f.2, of.stand f.1 f.3, of.key f.0 f.1 f.2 f.3, f.4, f.5)

    pub goes-bundle : (old mid new : Stage) → Grows (λ e. ⊥) (λ b. ⊥) old mid
        → Goes (FoundInGroups eq types fragments b.around groups) (GroupsLeadTo t fragments b.around groups) (GroupsPassed t eq types fragments b.around groups) mid new
        → Goes (IsFoundIn t eq types b) (LeadsTo t b) (λ stage. IsPassed t eq types stage.bundles stage.told b) old new
    goes-bundle old mid new spent h = record {
      grows = grows-both (IsFoundIn t eq types b) (LeadsTo t b) old mid new
          (grows-weaker (λ e. ⊥) (IsFoundIn t eq types b) (λ c. ⊥) (LeadsTo t b) old mid (λ e i. absurd i) (λ c i. absurd i) spent)
          (grows-weaker (FoundInGroups eq types fragments b.around groups) (IsFoundIn t eq types b) (GroupsLeadTo t fragments b.around groups) (LeadsTo t b) mid new
          found-in (λ c r. (group_of fragments r.0.1, at-group r.0 r.1, r.2)) h.grows);
      done = (λ e. bundle-passed new (h.done e));
    }

  module _ (definitions : ℕ) where
    abbrev Going : ℕ → Stage → Type 0
    Going number stage = IsGoing t eq types definitions number stage

    -- the bundles of the definitions are begun
    pub going-first : (old new : Stage) → old.bundles ≡ [] → ((e : List SourcePosition) → Contains old.told e → IsFoundAmong t definitions eq types e)
        → Goes (λ e. ⊥) (OfDefinitions t definitions) (Definitions t definitions) old new → Going 0 new
    going-first old new none right h = record {
      reached = (λ b i. let j = subst (λ bs. Contains bs b) (h.grows.bundles ∙ ap (λ bs. bs ++ h.grows.more) none) i in
          let m = h.grows.may b j in of_definition m.0 b m.1 (λ f s. let r = m.2.1 f s in
          subst (λ p. StandsIn t p f) (sym (one-only m.0 r.0 r.1)) r.2));
      right = (λ e i. elim (Contains-append_cases old.told h.grows.errors e (subst (λ es. Contains es e) h.grows.told i)) [
        | inl j ↦ right e j
        | inr j ↦ absurd (h.grows.found e j)
      ]);
      begun = h.done;
      passed = (λ e b i. in-nothing b i);
    }

    -- one more is gone through
    pub going-more : (number : ℕ) (b : Bundle) (old new : Stage) → slice_get old.bundles number ≡ Some b → Going number old
        → Goes (IsFoundIn t eq types b) (LeadsTo t b) (λ stage. IsPassed t eq types stage.bundles stage.told b) old new → Going (number + 1) new
    going-more number b old new at h goes =
        let grows = goes.grows in
        let within : number < length old.bundles = slice_get_within old.bundles number b at in
        let is : b ≡ get_or old.bundles number b = sym (get_or_from_slice_get old.bundles number b b at) in
        let here = h.reached b (number, within, sym is) in
        let first : take number old.bundles ++ b ∷ [] ≡ take (number + 1) new.bundles =
        sym (ap (take (number + 1)) grows.bundles ∙ take-append-le (number + 1) old.bundles grows.more (omega (arith, within))
        ∙ take_more old.bundles number b within ∙ ap (λ c. take number old.bundles ++ c ∷ []) (sym is)) in
        record {
          reached = (λ c i. elim (Contains-append_cases old.bundles grows.more c (subst (λ bs. Contains bs c) grows.bundles i)) [
            | inl j ↦ h.reached c j
            | inr j ↦ (let l = grows.may c j in let p = l.2 in of_part b c l.0 p.0 here l.1 p.1 p.2.0 p.2.1)
          ]);
          right = (λ e i. elim (Contains-append_cases old.told grows.errors e (subst (λ es. Contains es e) grows.told i)) [
            | inl j ↦ h.right e j
            | inr j ↦ (b, here, grows.found e j)
          ]);
          begun = (λ e k less. gathered-stays t (IsFoundIn t eq types b) (LeadsTo t b) false (λ p. p ≡ k) old new grows (h.begun (grows.within e) k less));
          passed = (λ e c i. elim (Contains-append_cases (take number old.bundles) (b ∷ []) c (subst (λ bs. Contains bs c) (sym first) i)) [
            | inl j ↦ passed-later eq types t (IsFoundIn t eq types b) (LeadsTo t b) old new grows c (h.passed (grows.within e) c j)
            | inr j ↦ subst (IsPassed t eq types new.bundles new.told) (one-only b c j) (goes.done e)
          ]);
        }

    -- all are
    pub going-all : (number : ℕ) (stage : Stage) → length stage.bundles ≤ number → Going number stage → Going (length stage.bundles) stage
    going-all number stage past h = record {
      reached = h.reached;
      right = h.right;
      begun = h.begun;
      passed = (λ e b i. h.passed e b (subst (λ bs. Contains bs b) (every stage.bundles ∙ sym (take_all number stage.bundles past)) i));
    }
      where
        every : (bs : List Bundle) → take (length bs) bs ≡ bs
        every bs = take_all (length bs) bs (omega arith)

    -- the bound was met
    pub going-out : (number n : ℕ) (stage new : Stage) → new.told ≡ stage.told → new.bundles ≡ stage.bundles → new.is_within ≡ false → Going number stage → Going n new
    going-out number n stage new told bundles out h = record {
      reached = (λ b i. h.reached b (subst (λ bs. Contains bs b) bundles i));
      right = (λ e i. h.right e (subst (λ es. Contains es e) told i));
      begun = (λ e. absurd (false≢true (sym out ∙ e)));
      passed = (λ e. absurd (false≢true (sym out ∙ e)));
    }

-- what was told stays told
pub kept-none : (stage : Stage) → KeepsTold stage stage
kept-none stage = ([], sym (append-nil stage.told))

pub kept-more : (F : List SourcePosition → Type 0) (M : Bundle → Type 0) (P : Stage → Type 0) (old mid new : Stage) → KeepsTold old mid → Goes F M P mid new → KeepsTold old new
kept-more F M P old mid new h goes =
    (h.0 ++ goes.grows.errors, goes.grows.told ∙ ap (λ es. es ++ goes.grows.errors) h.1 ∙ append_assoc old.told h.0 goes.grows.errors)
