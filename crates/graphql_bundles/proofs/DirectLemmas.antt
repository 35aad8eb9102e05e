-- Fields that stand directly in one set, compared by classes.
use Rattle.std.proofs.Common.{◌≡◌, refl, ap, sym, subst, ◌∙◌, arith, ℕ, ◌+◌, ◌<◌, ◌≤◌, Bool, true, false, not, ◌&&◌, ◌||◌, List, reverse, Option, [], ◌∷◌, ◌++◌, map, take, drop, length, get_or, slice_get, Some, None, append-nil, append_assoc, ◌⊎◌, inl, inr}
use Rattle.std.specs.List.{Any, Contains}
use Rattle.std.specs.Str.{bytes_eq}
use Rattle.std.specs.Cmp.Lexicographic.{nat_list_eq_equiv}
use Rattle.std.proofs.lemmas.List.{map-append, length-append, reverse-append}
use Rattle.std.proofs.lemmas.List.Elements.{Contains-append_left, Contains-append_right, Contains-append_cases}
use Rattle.graphql_text.specs.declared.position.SourcePosition.{SourcePosition}
use Rattle.graphql_schema.specs.declared.meta.MetaType.{MetaType}
use Rattle.graphql_rule_errors.specs.Places.{Places}
use Rattle.graphql_tree.specs.declared.document.Fragment.{Fragment}
use Rattle.graphql_schema.specs.Types.{TypeOf}
use Rattle.graphql_schema.specs.Lookups.{own_name, is_object}
use Rattle.graphql_merging.specs.Members.{Member, declared}
use Rattle.graphql_merging.specs.Merging.{Agree, SameShape, SameShapes, apart, is_leaf}
use Rattle.graphql_merging.specs.Selected.{member_of}
use Rattle.graphql_merging.specs.Told.{Names, AddsErrors, later_pairs}
use Rattle.graphql_merging.specs.declared.table.WrittenField.{WrittenField}
use Rattle.graphql_merging.proofs.Contracts.{any-among}
use Rattle.graphql_merging.proofs.DirectFields.{In, to-In, from-In, tells-named, tells-sound}
use Rattle.graphql_merging.proofs.Reports.{adds-nothing, adds-both}
use Rattle.graphql_merging.proofs.Nested.{one-only, in-nothing}
use Rattle.graphql_bundles.specs.declared.direct.Split.{Split}
use Rattle.graphql_bundles.specs.Direct.{AgreeThrough, all_seen, ComparesBefore, SortsOut, DirectParts}
use Rattle.graphql_bundles.proofs.DirectClasses.{With, of-with, left-In, right-In, either-In, later-push}
use Rattle.graphql_bundles.proofs.ListLemmas.{here, there, map_has, map_of, take-one}

-- two fields
abbrev pub MemberPair : Type 0 → Type 0 → Type 0
MemberPair S C = Member S C × Member S C

-- what is asked of two fields does not hang on which of them comes first
and-turned : (p q : Bool) → (p && q) ≡ (q && p)
and-turned true true = refl
and-turned true false = refl
and-turned false true = refl
and-turned false false = refl

or-turned : (p q : Bool) → (p || q) ≡ (q || p)
or-turned true true = refl
or-turned true false = refl
or-turned false true = refl
or-turned false false = refl

module _ {S C : Type 0} where
  longer : (x f a b : Member S C) (ys : List (Member S C)) → In {X = MemberPair S C} (a, b) (With x ys) → In {X = MemberPair S C} (a, b) (With x (ys ++ f ∷ []))
  longer x f a b [] i = absurd i
  longer x f a b (y ∷ ys) (inl e) = inl e
  longer x f a b (y ∷ ys) (inr i) = inr (longer x f a b ys i)

  -- pairs of a list with one item more
  later-kept : (ms : List (Member S C)) (f a b : Member S C) → In {X = MemberPair S C} (a, b) (later_pairs ms) → In {X = MemberPair S C} (a, b) (later_pairs (ms ++ f ∷ []))
  later-kept [] f a b i = absurd i
  later-kept (x ∷ ms) f a b i = elim (either-In {X = MemberPair S C} (a, b) (With x ms) (later_pairs ms) i) [
    | inl j ↦ left-In {X = MemberPair S C} (a, b) (With x (ms ++ f ∷ [])) (later_pairs (ms ++ f ∷ [])) (longer x f a b ms j)
    | inr j ↦ right-In {X = MemberPair S C} (a, b) (With x (ms ++ f ∷ [])) (later_pairs (ms ++ f ∷ [])) (later-kept ms f a b j)
  ]

  later-new : (ms : List (Member S C)) (f a : Member S C) → In a ms → In {X = MemberPair S C} (a, f) (later_pairs (ms ++ f ∷ []))
  later-new [] f a i = absurd i
  later-new (x ∷ ms) f a (inl e) = left-In {X = MemberPair S C} (a, f) (With x (ms ++ f ∷ [])) (later_pairs (ms ++ f ∷ [])) (last ms)
    where
      last : (ys : List (Member S C)) → In {X = MemberPair S C} (a, f) (With x (ys ++ f ∷ []))
      last [] = inl (λ j. (e j, f))
      last (y ∷ ys) = inr (last ys)
  later-new (x ∷ ms) f a (inr i) = right-In {X = MemberPair S C} (a, f) (With x (ms ++ f ∷ [])) (later_pairs (ms ++ f ∷ [])) (later-new ms f a i)

  apart-turned : (a b : Member S C) → apart a b ≡ apart b a
  apart-turned a b =
      ap (λ same. (is_object a.parent && is_object b.parent) && not same) (nat_list_eq_equiv.symm (own_name a.parent) (own_name b.parent))
      ∙ ap (λ both. both && not (bytes_eq (own_name b.parent) (own_name a.parent))) (and-turned (is_object a.parent) (is_object b.parent))

  shape-turned : (types : List (MetaType S C)) (s t : TypeOf) → SameShape types s t → SameShape types t s
  shape-turned types s t same =
      (sym same.0, λ leaf. sym (same.1 (or-turned (is_leaf types s.name) (is_leaf types t.name) ∙ leaf)))

  shapes-turned : (types : List (MetaType S C)) (s t : Option TypeOf) → SameShapes types s t → SameShapes types t s
  shapes-turned types None None same = tt
  shapes-turned types None (Some t) same = tt
  shapes-turned types (Some s) None same = tt
  shapes-turned types (Some s) (Some t) same = shape-turned types s t same

module _ {S C : Type 0} (eq : S → S → Bool) (types : List (MetaType S C)) (fragments : List (Fragment S)) where
  abbrev at : WrittenField S C → Member S C
  at f = member_of fragments f.selected

  abbrev all : List (WrittenField S C) → List (Member S C)
  all = all_seen fragments

  abbrev beside : WrittenField S C → WrittenField S C → MemberPair S C
  beside f a = (at f, at a)

  -- what agrees with another agrees the other way round
  agree-turned : (a b : Member S C) → Agree eq types false a b → Agree eq types false b a
  agree-turned a b agree = (
    λ together. let same = agree.0 (apart-turned a b ∙ together) in (sym same.0, (same.1.1, same.1.0)),
    shapes-turned types (declared a) (declared b) agree.1,
  )

  -- of fields that were compared with one that was taken up later
  abbrev NamedWith : Places → WrittenField S C → WrittenField S C → Type 0
  NamedWith more a f = Agree eq types false (at a) (at f) ⊎ Any (λ e. Names e (at f) (at a)) more

  named-before : (earlier : List (WrittenField S C)) (f : WrittenField S C) (told more : Places) → ComparesBefore eq types fragments earlier f told more
      → (a : WrittenField S C) → Contains earlier a → NamedWith more a f
  named-before earlier f told more adds a i =
      elim (tells-named (Agree eq types false) (map {B = MemberPair S C} (beside f) earlier) adds.0 adds.2 (at f) (at a)
      (to-In {X = MemberPair S C} (at f, at a) (map {B = MemberPair S C} (beside f) earlier) (map_has {B = MemberPair S C} (beside f) earlier a i))) [
        | inl agree ↦ inl (agree-turned (at f) (at a) agree)
        | inr named ↦ inr (any-among (λ e. Names e (at f) (at a)) adds.0 more
            (λ e j. subst (λ es. Contains es e) (sym adds.1) (Contains-append_right told adds.0 e j)) named)
      ]

  -- one more is compared
  pub before-none : (f : WrittenField S C) (told : Places) → ComparesBefore eq types fragments [] f told told
  before-none f told = adds-nothing (Agree eq types false) told

  pub before-more : (earlier : List (WrittenField S C)) (f : WrittenField S C) (i : ℕ) (a : WrittenField S C) (old mid new : Places) → i < length earlier → a ≡ get_or earlier i a
      → ComparesBefore eq types fragments (take i earlier) f old mid → AddsErrors (Agree eq types false) ((at f, at a) ∷ []) mid new
      → ComparesBefore eq types fragments (take (i + 1) earlier) f old new
  before-more earlier f i a old mid new within is g h =
      subst (λ (ps : List (MemberPair S C)). AddsErrors (Agree eq types false) ps old new)
      (sym (map-append {B = MemberPair S C} (beside f) (take i earlier) (a ∷ [])) ∙ ap (map {B = MemberPair S C} (beside f)) (take-one earlier i a within is))
      (adds-both (Agree eq types false) (map {B = MemberPair S C} (beside f) (take i earlier)) ((at f, at a) ∷ []) old mid new g h)

  -- an error of two of these fields
  abbrev pub FoundOf : List (WrittenField S C) → List SourcePosition → Type 0
  FoundOf ms e = (f : WrittenField S C) × (g : WrittenField S C) × Contains ms f × Contains ms g × (Agree eq types false (at f) (at g) → ⊥) × Names e (at f) (at g)

  found-before : (earlier : List (WrittenField S C)) (f : WrittenField S C) (told more : Places) (adds : ComparesBefore eq types fragments earlier f told more)
      → (e : List SourcePosition) → Contains adds.0 e
      → (a : WrittenField S C) × Contains earlier a × (Agree eq types false (at f) (at a) → ⊥) × Names e (at f) (at a)
  found-before earlier f told more adds e i =
      let r = tells-sound (Agree eq types false) (map {B = MemberPair S C} (beside f) earlier) adds.0 adds.2 e (to-In e adds.0 i) in
      let m = map_of {B = MemberPair S C} (beside f) earlier (r.0, r.1) (from-In {X = MemberPair S C} (r.0, r.1) (map {B = MemberPair S C} (beside f) earlier) r.2) in (
        m.0,
        m.1,
        subst (λ (p : MemberPair S C). Agree eq types false p.0 p.1 → ⊥) (sym m.2) r.3,
        subst (λ (p : MemberPair S C). Names e p.0 p.1) (sym m.2) r.4,
      )

  module _ (head : WrittenField S C) where
    -- some fields are sorted out
    pub record Sorted (ms : List (WrittenField S C)) (split : Split S C) (old new : Places) : Type 0 where
      pub each : (a : WrittenField S C) → Contains ms a → Contains split.alike a ⊎ Contains split.others a
      pub like : (a : WrittenField S C) → Contains split.alike a → Contains ms a × ((a ≡ head) ⊎ Agree eq types false (at head) (at a))
      pub among : (a : WrittenField S C) → Contains split.others a → Contains ms a
      pub errors : Places
      pub told : new ≡ old ++ errors
      pub found : (e : List SourcePosition) → Contains errors e → FoundOf ms e
      pub first : Contains ms head
      pub pairs : (a b : Member S C) → Contains (later_pairs (all ms)) (a, b)
          → AgreeThrough eq types (all ms) a b ⊎ (Any (λ e. Names e b a) new ⊎ Contains (later_pairs (all split.others)) (a, b))

    pub sorted-first : (split : Split S C) (told : Places) → split.alike ≡ head ∷ [] → split.others ≡ [] → Sorted (head ∷ []) split told told
    sorted-first split told alike others = record {
      each = (λ a i. inl (subst (λ fs. Contains fs a) (sym alike) i));
      like = (λ a i. let j = subst (λ fs. Contains fs a) alike i in (j, inl (sym (one-only head a j))));
      among = (λ a i. in-nothing a (subst (λ fs. Contains fs a) others i));
      errors = [];
      told = sym (append-nil told);
      found = (λ e i. in-nothing e i);
      first = here head [];
      pairs = (λ a b i. in-nothing {X = MemberPair S C} (a, b) i);
    }

    abbrev Result : List (WrittenField S C) → Places → List (WrittenField S C) → Member S C → Member S C → Type 0
    Result ms new others a b = AgreeThrough eq types (all ms) a b ⊎ (Any (λ e. Names e b a) new ⊎ Contains (later_pairs (all others)) (a, b))

    more-told : (ms ns : List (WrittenField S C)) (old new : Places) (es : Places) (others rest : List (WrittenField S C)) (a b : Member S C) → new ≡ old ++ es
        → ((w : WrittenField S C) → Contains ms w → Contains ns w)
        → ((p : MemberPair S C) → Contains (later_pairs (all others)) p → Contains (later_pairs (all rest)) p) → Result ms old others a b → Result ns new rest a b
    more-told ms ns old new es others rest a b grown sub kept (inl (inl agree)) = inl (inl agree)
    more-told ms ns old new es others rest a b grown sub kept (inl (inr third)) =
        let m = map_of at ms third.0 third.1 in
        inl (inr (third.0, subst (Contains (all ns)) m.2 (map_has at ns m.0 (sub m.0 m.1)), third.2, third.3))
    more-told ms ns old new es others rest a b grown sub kept (inr (inl named)) =
        inr (inl (any-among (λ e. Names e b a) old new (λ e i. subst (λ ds. Contains ds e) (sym grown) (Contains-append_left old es e i)) named))
    more-told ms ns old new es others rest a b grown sub kept (inr (inr left)) = inr (inr (kept (a, b) left))

    -- one more
    module _ (ms : List (WrittenField S C)) (f : WrittenField S C) (s u : Split S C) (old mid new : Places) (h : Sorted ms s old mid) where
      seen-push : (fs : List (WrittenField S C)) → all (fs ++ f ∷ []) ≡ all fs ++ at f ∷ []
      seen-push fs = map-append at fs (f ∷ [])

      abbrev Step : List (WrittenField S C) → Type 0
      Step others = (w : WrittenField S C) → Contains ms w → Result (ms ++ f ∷ []) new others (at w) (at f)

      step-pairs : (rest : List (WrittenField S C)) (es : Places) → new ≡ mid ++ es
          → ((p : MemberPair S C) → Contains (later_pairs (all s.others)) p → Contains (later_pairs (all rest)) p) → Step rest
          → (a b : Member S C) → Contains (later_pairs (all (ms ++ f ∷ []))) (a, b) → Result (ms ++ f ∷ []) new rest a b
      step-pairs rest es grown kept step a b i =
          let j = to-In {X = MemberPair S C} (a, b) (later_pairs (all ms ++ at f ∷ [])) (subst (λ ns. Contains (later_pairs ns) (a, b)) (seen-push ms) i) in
          elim (later-push (all ms) (at f) a b j) [
            | inl k ↦ more-told ms (ms ++ f ∷ []) mid new es s.others rest a b grown (λ w l. Contains-append_left ms (f ∷ []) w l) kept
                (h.pairs a b (from-In {X = MemberPair S C} (a, b) (later_pairs (all ms)) k))
            | inr k ↦ (let m = map_of at ms a (from-In a (all ms) k.0) in
                moved rest m.0 a b m.2 k.1 (step m.0 m.1))
          ]
        where
          moved : (rest : List (WrittenField S C)) (w : WrittenField S C) (a b : Member S C) → at w ≡ a → b ≡ at f → Result (ms ++ f ∷ []) new rest (at w) (at f)
              → Result (ms ++ f ∷ []) new rest a b
          moved rest w a b e q r = subst (λ c. Result (ms ++ f ∷ []) new rest a c) (sym q) (subst (λ c. Result (ms ++ f ∷ []) new rest c (at f)) e r)

      left : (a : WrittenField S C) → Contains ms a → Contains (ms ++ f ∷ []) a
      left a i = Contains-append_left ms (f ∷ []) a i

      last : Contains (ms ++ f ∷ []) f
      last = Contains-append_right ms (f ∷ []) f (here f [])

      sum-told : (es : Places) → new ≡ mid ++ es → new ≡ old ++ (h.errors ++ es)
      sum-told es e = e ∙ ap (λ ds. ds ++ es) h.told ∙ append_assoc old h.errors es

      sum-found : (earlier : List (WrittenField S C)) (adds : ComparesBefore eq types fragments earlier f mid new)
          → ((a : WrittenField S C) → Contains earlier a → Contains ms a) → (e : List SourcePosition) → Contains (h.errors ++ adds.0) e → FoundOf (ms ++ f ∷ []) e
      sum-found earlier adds sub e i = elim (Contains-append_cases h.errors adds.0 e i) [
        | inl j ↦ (let r = h.found e j in (r.0, r.1, left r.0 r.2, left r.1 r.3, r.4, r.5))
        | inr j ↦ (let r = found-before earlier f mid new adds e j in (f, r.0, last, left r.0 (sub r.0 r.1), r.2, r.3))
      ]

      result-named : (rest : List (WrittenField S C)) (a : WrittenField S C) → NamedWith new a f → Result (ms ++ f ∷ []) new rest (at a) (at f)
      result-named rest a (inl agree) = inl (inl agree)
      result-named rest a (inr named) = inr (inl named)

      result-alike : (rest : List (WrittenField S C)) (a : WrittenField S C) → Agree eq types false (at head) (at f)
          → (a ≡ head) ⊎ Agree eq types false (at head) (at a) → Result (ms ++ f ∷ []) new rest (at a) (at f)
      result-alike rest a agree (inl e) = inl (inl (subst (λ (w : WrittenField S C). Agree eq types false (at w) (at f)) (sym e) agree))
      result-alike rest a agree (inr other) = inl (inr (at head, map_has at (ms ++ f ∷ []) head (left head h.first), other, agree))

      pub sorted-more : SortsOut eq types fragments head f s u mid new → Sorted (ms ++ f ∷ []) u old new
      sorted-more (inl h') = record {
        each = (λ a i. elim (Contains-append_cases ms (f ∷ []) a i) [
          | inl j ↦ elim (h.each a j) [
            | inl k ↦ inl (subst (λ fs. Contains fs a) (sym h'.1) (Contains-append_left s.alike (f ∷ []) a k))
            | inr k ↦ inr (subst (λ fs. Contains fs a) (sym h'.2) k)
          ]
          | inr j ↦ inl (subst (λ fs. Contains fs a) (sym h'.1) (Contains-append_right s.alike (f ∷ []) a j))
        ]);
        like = (λ a i. elim (Contains-append_cases s.alike (f ∷ []) a (subst (λ fs. Contains fs a) h'.1 i)) [
          | inl j ↦ (let r = h.like a j in (left a r.0, r.1))
          | inr j ↦ (Contains-append_right ms (f ∷ []) a j, inr (subst (λ (w : WrittenField S C). Agree eq types false (at head) (at w)) (one-only f a j) h'.0))
        ]);
        among = (λ a i. left a (h.among a (subst (λ fs. Contains fs a) h'.2 i)));
        first = left head h.first;
        errors = h.errors ++ h'.3.0;
        told = sum-told h'.3.0 h'.3.1;
        found = sum-found s.others h'.3 h.among;
        pairs = (λ a b i. (step-pairs u.others h'.3.0 h'.3.1
            (λ p k. subst (λ fs. Contains (later_pairs (all fs)) p) (sym h'.2) k)
            (λ w j. elim (h.each w j) [
              | inl k ↦ result-alike u.others w h'.0 (h.like w k).1
              | inr k ↦ result-named u.others w (named-before s.others f mid new h'.3 w k)
            ]) a b i));
      }
      sorted-more (inr h') = record {
        each = (λ a i. elim (Contains-append_cases ms (f ∷ []) a i) [
          | inl j ↦ elim (h.each a j) [
            | inl k ↦ inl (subst (λ fs. Contains fs a) (sym h'.0) k)
            | inr k ↦ inr (subst (λ fs. Contains fs a) (sym h'.1) (Contains-append_left s.others (f ∷ []) a k))
          ]
          | inr j ↦ inr (subst (λ fs. Contains fs a) (sym h'.1) (Contains-append_right s.others (f ∷ []) a j))
        ]);
        like = (λ a i. let r = h.like a (subst (λ fs. Contains fs a) h'.0 i) in (left a r.0, r.1));
        among = (λ a i. elim (Contains-append_cases s.others (f ∷ []) a (subst (λ fs. Contains fs a) h'.1 i)) [
          | inl j ↦ left a (h.among a j)
          | inr j ↦ Contains-append_right ms (f ∷ []) a j
        ]);
        first = left head h.first;
        errors = h.errors ++ h'.2.0;
        told = sum-told h'.2.0 h'.2.1;
        found = sum-found s.alike h'.2 (λ a i. (h.like a i).0);
        pairs = (λ a b i. (step-pairs u.others h'.2.0 h'.2.1
            (λ p k. subst (λ fs. Contains (later_pairs (all fs)) p) (sym h'.1) (longer p k))
            (λ w j. elim (h.each w j) [
              | inl k ↦ result-named u.others w (named-before s.alike f mid new h'.2 w k)
              | inr k ↦ inr (inr (subst (λ fs. Contains (later_pairs (all fs)) (at w, at f)) (sym h'.1) (added w k)))
            ]) a b i));
      }
        where
          longer : (p : MemberPair S C) → Contains (later_pairs (all s.others)) p → Contains (later_pairs (all (s.others ++ f ∷ []))) p
          longer p k =
              subst (λ ns. Contains (later_pairs ns) p) (sym (seen-push s.others))
              (from-In {X = MemberPair S C} p (later_pairs (all s.others ++ at f ∷ [])) (later-kept (all s.others) (at f) p.0 p.1 (to-In {X = MemberPair S C} p (later_pairs (all s.others)) k)))

          added : (w : WrittenField S C) → Contains s.others w → Contains (later_pairs (all (s.others ++ f ∷ []))) (at w, at f)
          added w k =
              subst (λ ns. Contains (later_pairs ns) (at w, at f)) (sym (seen-push s.others))
              (from-In {X = MemberPair S C} (at w, at f) (later_pairs (all s.others ++ at f ∷ [])) (later-new (all s.others) (at f) (at w) (to-In (at w) (all s.others) (map_has at s.others w k))))

    -- one more may be among the others
    pub sorted-few : (f : WrittenField S C) (s u : Split S C) (n : ℕ) (mid new : Places) → SortsOut eq types fragments head f s u mid new → length s.others ≤ n
        → length u.others ≤ n + 1
    sorted-few f s u n mid new (inl h) few = let e = ap length h.2 in omega (arith, e, few)
    sorted-few f s u n mid new (inr h) few = let e = ap length h.1 ∙ length-append s.others (f ∷ []) in omega (arith, e, few)

    pub sorted-all : (ms : List (WrittenField S C)) (split : Split S C) (old new : Places) → Sorted ms split old new → DirectParts eq types fragments ms split.others old new
    sorted-all ms split old new h = record { among = h.among; errors = h.errors; told = h.told; found = h.found; pairs = h.pairs }

  pub parts-first : (fields : List (WrittenField S C)) (told : Places) → DirectParts eq types fragments fields fields told told
  parts-first fields told = record {
    among = (λ f i. i);
    errors = [];
    told = sym (append-nil told);
    found = (λ e i. in-nothing e i);
    pairs = (λ a b i. inr (inr i));
  }

  pub parts-more : (fields rest more : List (WrittenField S C)) (old mid new : Places) → DirectParts eq types fragments fields rest old mid
      → DirectParts eq types fragments rest more mid new → DirectParts eq types fragments fields more old new
  parts-more fields rest more old mid new f g = record {
    among = (λ w i. f.among w (g.among w i));
    errors = f.errors ++ g.errors;
    told = g.told ∙ ap (λ es. es ++ g.errors) f.told ∙ append_assoc old f.errors g.errors;
    found = (λ e i. elim (Contains-append_cases f.errors g.errors e i) [
      | inl j ↦ f.found e j
      | inr j ↦ (let r = g.found e j in (r.0, r.1, f.among r.0 r.2, f.among r.1 r.3, r.4, r.5))
    ]);
    pairs = (λ a b i. elim (f.pairs a b i) [
      | inl alike ↦ inl alike
      | inr r ↦ elim r [
        | inl named ↦ inr (inl (any-among (λ e. Names e b a) mid new (λ e j. subst (λ es. Contains es e) (sym g.told) (Contains-append_left mid g.errors e j)) named))
        | inr k ↦ wider a b (Any (λ e. Names e b a) new ⊎ Contains (later_pairs (all more)) (a, b)) (g.pairs a b k)
      ]
    ]);
  }
    where
      wider : (a b : Member S C) (T : Type 0) → AgreeThrough eq types (all rest) a b ⊎ T → AgreeThrough eq types (all fields) a b ⊎ T
      wider a b T (inl (inl agree)) = inl (inl agree)
      wider a b T (inl (inr third)) =
          let m = map_of at rest third.0 third.1 in
          inl (inr (third.0, subst (Contains (all fields)) m.2 (map_has at fields m.0 (f.among m.0 m.1)), third.2, third.3))
      wider a b T (inr r) = inr r

module _ {X : Type 0} where
  -- what a list contains from the last item on, it contains
  pub of-turned : (xs : List X) (x : X) → Contains (reverse xs) x → Contains xs x
  of-turned [] x i = i
  of-turned (y ∷ ys) x i = elim (Contains-append_cases (reverse ys) (y ∷ []) x (subst (λ zs. Contains zs x) (reverse-append (y ∷ []) ys) i)) [
    | inl j ↦ there y ys x (of-turned ys x j)
    | inr j ↦ subst (λ z. Contains (y ∷ ys) z) (one-only y x j) (here y ys)
  ]

map-turned : {A B : Type 0} (f : A → B) (xs : List A) → map f (reverse xs) ≡ reverse (map f xs)
map-turned f [] = refl
map-turned f (x ∷ xs) =
    ap (map f) (reverse-append (x ∷ []) xs) ∙ map-append f (reverse xs) (x ∷ []) ∙ ap (λ ys. ys ++ f x ∷ []) (map-turned f xs) ∙ sym (reverse-append (f x ∷ []) (map f xs))

module _ {S C : Type 0} where
  In-turned : (ms : List (Member S C)) (a : Member S C) → In a ms → In a (reverse ms)
  In-turned [] a i = i
  In-turned (m ∷ ms) a (inl e) = subst (In a) (sym (reverse-append (m ∷ []) ms)) (right-In a (reverse ms) (m ∷ []) (inl e))
  In-turned (m ∷ ms) a (inr i) = subst (In a) (sym (reverse-append (m ∷ []) ms)) (left-In a (reverse ms) (m ∷ []) (In-turned ms a i))

  -- each two, the last of them first
  later-turned : (ms : List (Member S C)) (a b : Member S C) → In {X = MemberPair S C} (a, b) (later_pairs ms) → In {X = MemberPair S C} (b, a) (later_pairs (reverse ms))
  later-turned [] a b i = absurd i
  later-turned (m ∷ ms) a b i =
      subst (λ ns. In {X = MemberPair S C} (b, a) (later_pairs ns)) (sym (reverse-append (m ∷ []) ms))
      (elim (either-In {X = MemberPair S C} (a, b) (With m ms) (later_pairs ms) i) [
        | inl j ↦ (let r = of-with m ms a b j in
            subst (λ c. In {X = MemberPair S C} (b, c) (later_pairs (reverse ms ++ m ∷ []))) (sym r.0) (later-new (reverse ms) m b (In-turned ms b r.1)))
        | inr j ↦ later-kept (reverse ms) m b a (later-turned ms a b j)
      ])

module _ {S C : Type 0} (eq : S → S → Bool) (types : List (MetaType S C)) (fragments : List (Fragment S)) where
  -- of fields that were taken up from the last to the first: each two of them
  pub parts-turned : (fields : List (WrittenField S C)) (old new : Places) → DirectParts eq types fragments (reverse fields) [] old new
      → (a b : Member S C) → Contains (later_pairs (all_seen fragments fields)) (a, b)
      → AgreeThrough eq types (all_seen fragments fields) a b ⊎ Any (λ e. Names e a b) new
  parts-turned fields old new h a b i = judged (h.pairs b a turned)
    where
      turned : Contains (later_pairs (all_seen fragments (reverse fields))) (b, a)
      turned =
          from-In {X = MemberPair S C} (b, a) (later_pairs (all_seen fragments (reverse fields)))
          (subst (λ ms. In {X = MemberPair S C} (b, a) (later_pairs ms)) (sym (map-turned (at eq types fragments) fields))
          (later-turned (all_seen fragments fields) a b (to-In {X = MemberPair S C} (a, b) (later_pairs (all_seen fragments fields)) i)))

      judged : AgreeThrough eq types (all_seen fragments (reverse fields)) b a
          ⊎ (Any (λ e. Names e a b) new ⊎ Contains (later_pairs (all_seen fragments [])) (b, a))
          → AgreeThrough eq types (all_seen fragments fields) a b ⊎ Any (λ e. Names e a b) new
      judged (inl (inl agree)) = inl (inl (agree-turned eq types fragments b a agree))
      judged (inl (inr third)) =
          let m = map_of (at eq types fragments) (reverse fields) third.0 third.1 in
          inl (inr (third.0, subst (Contains (all_seen fragments fields)) m.2 (map_has (at eq types fragments) fields m.0 (of-turned fields m.0 m.1)), third.3, third.2))
      judged (inr (inl named)) = inr named
      judged (inr (inr none)) = in-nothing {X = MemberPair S C} (b, a) none

pub first-rest : {X : Type 0} (xs : List X) (h : X) → slice_get xs 0 ≡ Some h → h ∷ drop 1 xs ≡ xs
first-rest [] h e = clash h e
  where
    clash : {X : Type 0} (h : X) → None ≡ Some h → h ∷ [] ≡ []
    clash h e = cc
first-rest (x ∷ xs) h e = λ i. same x h e i ∷ xs
  where
    same : {X : Type 0} (x h : X) → Some x ≡ Some h → h ≡ x
    same x h e = cc
