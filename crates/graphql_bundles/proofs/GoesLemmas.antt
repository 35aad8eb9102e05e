-- How far going through bundles is, step by step.
use Rattle.std.proofs.Common.{◌≡◌, refl, ap, sym, subst, ◌∙◌, arith, ℕ, ◌+◌, ◌<◌, ◌≤◌, Bool, true, false, List, [], ◌∷◌, ◌++◌, map, filter, take, length, get_or, append-nil, append_assoc, Result, Ok, Err, OnOk, ◌⊎◌, inl, inr}
use Rattle.std.specs.List.{Contains}
use Rattle.std.proofs.lemmas.Bool.{false≢true}
use Rattle.std.proofs.lemmas.List.Elements.{Contains-append_cases}
use Rattle.graphql_text.specs.declared.position.SourcePosition.{SourcePosition}
use Rattle.graphql_names.specs.Names.{Bytes}
use Rattle.graphql_schema.specs.declared.meta.MetaType.{MetaType}
use Rattle.graphql_rule_errors.specs.Places.{Places}
use Rattle.graphql_tree.specs.declared.document.Fragment.{Fragment}
use Rattle.graphql_merging.specs.Pieces.{Pieces, PieceField}
use Rattle.graphql_merging.specs.Tables.{piece_field}
use Rattle.graphql_merging.specs.declared.table.WrittenField.{WrittenField}
use Rattle.graphql_merging.proofs.Nested.{one-only, in-nothing}
use Rattle.graphql_merging.proofs.Standing.{agree-under}
use Rattle.graphql_bundles.specs.Bundles.{Bundle, GroupPart, BundleGroup, of_object, every, parts, in_part, OwnOf, StandsAmong, IsGathered, IsGroupPassed}
use Rattle.graphql_bundles.specs.Closed.{IsClosure}
use Rattle.graphql_bundles.specs.Going.{Stage, Grows, HoldsPart, GroupLeadsTo}
use Rattle.graphql_bundles.specs.Steps.{Goes, Compares, AreShaped, ArePartNamed, IsFoundOf, HoldsSets}
use Rattle.graphql_bundles.specs.Groups.{group_of, is_of, names_in}
use Rattle.graphql_bundles.proofs.BundleLemmas.{grows-none}
use Rattle.graphql_bundles.proofs.GoingLemmas.{gathered-later, still}
use Rattle.graphql_bundles.proofs.ListLemmas.{here, there, map_has, map_of, filter_has, filter_of, take-cases}
use Rattle.graphql_bundles.proofs.PartCases.{parts-none, part-of-one, part-of-all, parts-are}

abbrev pub Errors : Type 0
Errors = List SourcePosition

-- two facts of what a call that went well leaves
pub on-ok-both : {T E P Q R : Type 0} (r : Result T E) → (P → Q → R) → OnOk r P → OnOk r Q → OnOk r R
on-ok-both (Ok x) f p q = f p q
on-ok-both (Err e) f p q = tt

pub grows-weaker : (F G : List SourcePosition → Type 0) (M N : Bundle → Type 0) (old new : Stage) → ((e : List SourcePosition) → F e → G e)
    → ((b : Bundle) → M b → N b) → Grows F M old new → Grows G N old new
grows-weaker F G M N old new f m h = record {
  errors = h.errors;
  told = h.told;
  found = (λ e i. f e (h.found e i));
  more = h.more;
  bundles = h.bundles;
  may = (λ b i. m b (h.may b i));
  within = h.within;
}

pub grows-both : (F : List SourcePosition → Type 0) (M : Bundle → Type 0) (old mid new : Stage) → Grows F M old mid → Grows F M mid new → Grows F M old new
grows-both F M old mid new f g = record {
  errors = f.errors ++ g.errors;
  told = g.told ∙ ap (λ es. es ++ g.errors) f.told ∙ append_assoc old.told f.errors g.errors;
  found = (λ e i. elim (Contains-append_cases f.errors g.errors e i) [ inl j ↦ f.found e j | inr j ↦ g.found e j ]);
  more = f.more ++ g.more;
  bundles = g.bundles ∙ ap (λ bs. bs ++ g.more) f.bundles ∙ append_assoc old.bundles f.more g.more;
  may = (λ b i. elim (Contains-append_cases f.more g.more b i) [ inl j ↦ f.may b j | inr j ↦ g.may b j ]);
  within = (λ e. f.within (g.within e));
}

pub goes-weaker : (F G : List SourcePosition → Type 0) (M N : Bundle → Type 0) (P Q : Stage → Type 0) (old new : Stage)
    → ((e : List SourcePosition) → F e → G e) → ((b : Bundle) → M b → N b) → ((s : Stage) → P s → Q s) → Goes F M P old new → Goes G N Q old new
goes-weaker F G M N P Q old new f m p h = record {
  grows = grows-weaker F G M N old new f m h.grows;
  done = (λ e. p new (h.done e));
}

pub goes-none : (F : List SourcePosition → Type 0) (M : Bundle → Type 0) (P : Stage → Type 0) (stage : Stage) → P stage → Goes F M P stage stage
goes-none F M P stage p = record { grows = grows-none F M stage; done = (λ e. p) }

-- what stays so as going goes on
abbrev pub Stays : (F : List SourcePosition → Type 0) (M : Bundle → Type 0) (P : Stage → Type 0) → Type 0
Stays F M P = (s u : Stage) → Grows F M s u → P s → P u

-- first the one and then the other; `joins`: what is done then
pub goes-both : (F : List SourcePosition → Type 0) (M : Bundle → Type 0) (P Q R : Stage → Type 0) (old mid new : Stage) → Stays F M P
    → ((s : Stage) → P s → Q s → R s) → Goes F M P old mid → Goes F M Q mid new → Goes F M R old new
goes-both F M P Q R old mid new stays joins f g = record {
  grows = grows-both F M old mid new f.grows g.grows;
  done = (λ e. joins new (stays mid new g.grows (f.done (g.grows.within e))) (g.done e));
}

module _ {S C : Type 0} (t : Pieces S C) where
  pub gathered-as : (bundles : List Bundle) (x : Bool) (P Q : ℕ → Type 0) → ((p : ℕ) → Q p → P p) → IsGathered t bundles x P → IsGathered t bundles x Q
  gathered-as bundles x P Q h (inl none) = inl (λ p q. none p (h p q))
  gathered-as bundles x P Q h (inr b) = inr (b.0, b.1, b.2, λ p q. b.3 p (h p q))

  pub gathered-stays : (F : List SourcePosition → Type 0) (M : Bundle → Type 0) (x : Bool) (P : ℕ → Type 0) → Stays F M (λ stage. IsGathered t stage.bundles x P)
  gathered-stays F M x P s u grows g =
      gathered-later (λ a b. false) [] t s.bundles u.bundles x P (still (λ a b. false) [] t F M s u grows) g

  -- the bundle of the closure of some sets is begun, or there is nothing in it
  pub gathered-closed : (sets closed : List ℕ) (x : Bool) (bundles : List Bundle) → IsClosure t sets closed
      → (closed ≡ []) ⊎ Contains bundles (record { sets = closed; around = x }) → IsGathered t bundles x (Contains sets)
  gathered-closed sets closed x bundles h (inl none) =
      inl (λ p i f s. let a = h.holds p i f s in in-nothing a.0 (subst (λ ns. Contains ns a.0) none a.1))
  gathered-closed sets closed x bundles h (inr i) = inr (record { sets = closed; around = x }, i, refl, h.holds)

  -- sets are begun as a bundle, after something was counted
  pub goes-sets : (sets closed : List ℕ) (x : Bool) (old mid new : Stage) → IsClosure t sets closed → Grows (λ e. ⊥) (λ b. ⊥) old mid
      → Grows (λ e. ⊥) (λ b. b ≡ record { sets = closed; around = x }) mid new
      → (closed ≡ []) ⊎ Contains new.bundles (record { sets = closed; around = x })
      → Goes (λ e. ⊥) (HoldsSets t x sets) (λ stage. IsGathered t stage.bundles x (Contains sets)) old new
  goes-sets sets closed x old mid new h spent grows there = record {
    grows = grows-both (λ e. ⊥) (HoldsSets t x sets) old mid new
        (grows-weaker (λ e. ⊥) (λ e. ⊥) (λ b. ⊥) (HoldsSets t x sets) old mid (λ e i. i) (λ b i. absurd i) spent)
        (grows-weaker (λ e. ⊥) (λ e. ⊥) (λ b. b ≡ record { sets = closed; around = x }) (HoldsSets t x sets) mid new (λ e i. i) holds grows);
    done = (λ e. gathered-closed sets closed x new.bundles h there);
  }
    where
      holds : (b : Bundle) → b ≡ record { sets = closed; around = x } → HoldsSets t x sets b
      holds b e = (ap (λ (c : Bundle). c.around) e, λ f i. h.only f (subst (λ (c : Bundle). StandsAmong t c.sets f) e i))

  -- the bound is met
  pub goes-bound : (F : List SourcePosition → Type 0) (M : Bundle → Type 0) (P : Stage → Type 0) (old new : Stage) → new.told ≡ old.told → new.bundles ≡ old.bundles
      → new.is_within ≡ false → Goes F M P old new
  goes-bound F M P old new told bundles out = record {
    grows = record {
      errors = [];
      told = told ∙ sym (append-nil old.told);
      found = (λ e i. in-nothing e i);
      more = [];
      bundles = bundles ∙ sym (append-nil old.bundles);
      may = (λ b i. in-nothing b i);
      within = (λ e. absurd (false≢true (sym out ∙ e)));
    };
    done = (λ e. absurd (false≢true (sym out ∙ e)));
  }

  -- the bundles of definitions
  abbrev pub Definitions : ℕ → Stage → Type 0
  Definitions n stage = (k : ℕ) → k < n → IsGathered t stage.bundles false (λ p. p ≡ k)

-- what is told of fields that are compared
pub compares-goes : (F : List SourcePosition → Type 0) (M : Bundle → Type 0) (P : Type 0) (told more : Places) (bundles : List Bundle) (w : Bool) → Compares F P told more
    → Goes F M (λ stage. stage.told ≡ [] → P) (record { told = told; bundles = bundles; is_within = w }) (record { told = more; bundles = bundles; is_within = w })
compares-goes F M P told more bundles w h = record {
  grows = record {
    errors = h.errors;
    told = h.told;
    found = h.found;
    more = [];
    bundles = sym (append-nil bundles);
    may = (λ b i. in-nothing b i);
    within = (λ e. e);
  };
  done = (λ e none. h.done (no-rest told h.errors (sym h.told ∙ none)));
}
  where
    no-rest : (xs ys : Places) → xs ++ ys ≡ [] → ys ≡ []
    no-rest [] ys e = e
    no-rest (x ∷ xs) ys e = cc

-- what is so without errors stays so
pub told-stays : (F : List SourcePosition → Type 0) (M : Bundle → Type 0) (P : Type 0) → Stays F M (λ stage. stage.told ≡ [] → P)
told-stays F M P s u grows p none = p (no-first s.told grows.errors (sym grows.told ∙ none))
  where
    no-first : (xs ys : Places) → xs ++ ys ≡ [] → xs ≡ []
    no-first [] ys e = refl
    no-first (x ∷ xs) ys e = cc

module _ {S C : Type 0} (t : Pieces S C) (fragments : List (Fragment S)) (group : List (WrittenField S C)) where
  -- the own sets of the fields of a part
  module _ (part : GroupPart) (numbers : List ℕ) (are : numbers ≡ map (λ f. f.own) (filter (is_of part.of) group)) where
    own-has : (p : ℕ) → OwnOf (group_of fragments group) part p → Contains numbers p
    own-has p h =
        let m = map_of (piece_field fragments) group h.0 h.1 in
        let i = filter_has (is_of part.of) group m.0 m.1 (ap (λ (f : PieceField S C). in_part part f.member) m.2 ∙ h.2) in
        subst (λ ns. Contains ns p) (sym are)
        (subst (Contains (map (λ f. f.own) (filter (is_of part.of) group))) (ap (λ (f : PieceField S C). f.own) m.2 ∙ h.3)
        (map_has (λ (f : WrittenField S C). f.own) (filter (is_of part.of) group) m.0 i))

    own-of : (p : ℕ) → Contains numbers p → OwnOf (group_of fragments group) part p
    own-of p i =
        let m = map_of (λ (f : WrittenField S C). f.own) (filter (is_of part.of) group) p (subst (λ ns. Contains ns p) are i) in
        let k = filter_of (is_of part.of) group m.0 m.1 in
        (piece_field fragments m.0, map_has (piece_field fragments) group m.0 k.0, k.1, m.2)

    pub goes-part : (old new : Stage) → Goes (λ e. ⊥) (HoldsSets t part.around numbers) (λ stage. IsGathered t stage.bundles part.around (Contains numbers)) old new
        → Goes (λ e. ⊥) (HoldsPart t (group_of fragments group) part) (λ stage. IsGathered t stage.bundles part.around (OwnOf (group_of fragments group) part)) old new
    goes-part old new h =
        goes-weaker (λ e. ⊥) (λ e. ⊥) (HoldsSets t part.around numbers) (HoldsPart t (group_of fragments group) part)
        (λ stage. IsGathered t stage.bundles part.around (Contains numbers)) (λ stage. IsGathered t stage.bundles part.around (OwnOf (group_of fragments group) part)) old new
        (λ e i. i) (λ b k. (k.0, λ f i. let s = k.1 f i in (s.0, own-of s.0 s.1, s.2)))
        (λ s g. gathered-as t s.bundles part.around (Contains numbers) (OwnOf (group_of fragments group) part) own-has g) h

  abbrev it : BundleGroup S C
  it = group_of fragments group

  abbrev pub PartBegun : GroupPart → Stage → Type 0
  PartBegun part stage = IsGathered t stage.bundles part.around (OwnOf it part)

  -- the parts of some object types
  abbrev pub EachBegun : List Bytes → Stage → Type 0
  EachBegun names stage = (name : Bytes) → Contains names name → PartBegun (of_object name) stage

  abbrev pub MayEach : List Bytes → Bundle → Type 0
  MayEach names c = (name : Bytes) × Contains names name × HoldsPart t it (of_object name) c

  pub each-stays : (F : List SourcePosition → Type 0) (M : Bundle → Type 0) (names : List Bytes) → Stays F M (EachBegun names)
  each-stays F M names s u grows h name i = gathered-stays t F M false (OwnOf it (of_object name)) s u grows (h name i)

  pub each-none : (names : List Bytes) (stage : Stage) → Goes (λ e. ⊥) (MayEach names) (EachBegun []) stage stage
  each-none names stage = goes-none (λ e. ⊥) (MayEach names) (EachBegun []) stage (λ name i. in-nothing name i)

  pub each-more : (names : List Bytes) (i : ℕ) (name : Bytes) (old mid new : Stage) → i < length names → name ≡ get_or names i name
      → Goes (λ e. ⊥) (MayEach names) (EachBegun (take i names)) old mid → Goes (λ e. ⊥) (HoldsPart t it (of_object name)) (PartBegun (of_object name)) mid new
      → Goes (λ e. ⊥) (MayEach names) (EachBegun (take (i + 1) names)) old new
  each-more names i name old mid new within is f g =
      goes-both (λ e. ⊥) (MayEach names) (EachBegun (take i names)) (PartBegun (of_object name)) (EachBegun (take (i + 1) names)) old mid new
      (each-stays (λ e. ⊥) (MayEach names) (take i names)) joins f
      (goes-weaker (λ e. ⊥) (λ e. ⊥) (HoldsPart t it (of_object name)) (MayEach names) (PartBegun (of_object name)) (PartBegun (of_object name)) mid new
      (λ e i. i) (λ b h. (name, (i, within, sym is), h)) (λ s h. h) g)
    where
      joins : (s : Stage) → EachBegun (take i names) s → PartBegun (of_object name) s → EachBegun (take (i + 1) names) s
      joins s each last n j = elim (take-cases names i name within is n j) [
        | inl k ↦ each n k
        | inr e ↦ subst (λ m. PartBegun (of_object m) s) e last
      ]

  -- all parts around which no fields are apart
  abbrev pub AllBegun : List Bytes → Stage → Type 0
  AllBegun names stage = (part : GroupPart) → Contains (parts false names) part → PartBegun part stage

  abbrev pub MayAll : List Bytes → Bundle → Type 0
  MayAll names c = (part : GroupPart) × Contains (parts false names) part × HoldsPart t it part c

  pub all-none : (names : List Bytes) (old new : Stage) → names ≡ [] → Goes (λ e. ⊥) (HoldsPart t it (every false)) (PartBegun (every false)) old new
      → Goes (λ e. ⊥) (MayAll names) (AllBegun names) old new
  all-none names old new none h =
      goes-weaker (λ e. ⊥) (λ e. ⊥) (HoldsPart t it (every false)) (MayAll names) (PartBegun (every false)) (AllBegun names) old new (λ e i. i)
      (λ b k. (every false, subst (λ ps. Contains ps (every false)) (sym (parts-none names none)) (here (every false) []), k))
      (λ s k part i. subst (λ p. PartBegun p s) (one-only (every false) part (subst (λ ps. Contains ps part) (parts-none names none) i)) k) h

  -- of one object type
  pub all-one : (names : List Bytes) (old new : Stage) → (names ≡ [] → ⊥) → length names < 2 → Goes (λ e. ⊥) (MayEach names) (EachBegun names) old new
      → Goes (λ e. ⊥) (MayAll names) (AllBegun names) old new
  all-one names old new some few h =
      goes-weaker (λ e. ⊥) (λ e. ⊥) (MayEach names) (MayAll names) (EachBegun names) (AllBegun names) old new (λ e i. i)
      (λ b k. (of_object k.0, part-of-one names k.0 k.1, k.2))
      (λ s k part i. elim (parts-are names part i) [
        | inl e ↦ absurd (some e)
        | inr r ↦ elim r [ inl e ↦ absurd (omega (arith, few, e.1)) | inr e ↦ subst (λ p. PartBegun p s) (sym e.2) (k e.0 e.1) ]
      ]) h

  -- of two or more
  pub all-more : (names : List Bytes) (old mid new : Stage) → 2 ≤ length names → Goes (λ e. ⊥) (HoldsPart t it (every true)) (PartBegun (every true)) old mid
      → Goes (λ e. ⊥) (MayEach names) (EachBegun names) mid new → Goes (λ e. ⊥) (MayAll names) (AllBegun names) old new
  all-more names old mid new many f g =
      goes-both (λ e. ⊥) (MayAll names) (PartBegun (every true)) (EachBegun names) (AllBegun names) old mid new
      (gathered-stays t (λ e. ⊥) (MayAll names) true (OwnOf it (every true))) joins
      (goes-weaker (λ e. ⊥) (λ e. ⊥) (HoldsPart t it (every true)) (MayAll names) (PartBegun (every true)) (PartBegun (every true)) old mid
      (λ e i. i) (λ b k. (every true, part-of-all names (omega (arith, many)), k)) (λ s k. k) f)
      (goes-weaker (λ e. ⊥) (λ e. ⊥) (MayEach names) (MayAll names) (EachBegun names) (EachBegun names) mid new
      (λ e i. i) (λ b k. (of_object k.0, part-of-one names k.0 k.1, k.2)) (λ s k. k) g)
    where
      some : (names : List Bytes) → names ≡ [] → 2 ≤ length names → ⊥
      some [] e h = omega (arith, h)
      some (n ∷ names) e h = cc

      joins : (s : Stage) → PartBegun (every true) s → EachBegun names s → AllBegun names s
      joins s whole each part i = elim (parts-are names part i) [
        | inl e ↦ absurd (some names e many)
        | inr r ↦ elim r [
          | inl e ↦ subst (λ p. PartBegun p s) (sym e.0) whole
          | inr e ↦ subst (λ p. PartBegun p s) (sym e.2) (each e.0 e.1)
        ]
      ]

  module _ (eq : S → S → Bool) (types : List (MetaType S C)) where
    abbrev pub Passed : Bool → Stage → Type 0
    Passed x stage = IsGroupPassed t eq types stage.bundles stage.told x it

    found-under : (x : Bool) (e : List SourcePosition) → IsFoundOf eq types true it.fields e → IsFoundOf eq types x it.fields e
    found-under x e r = (r.0, r.1, r.2, r.3, λ agree. r.4 (agree-under eq types true x r.0.member r.1.member (λ _. refl) agree), r.5)

    -- fields around the group are apart: shapes are compared, and its own sets begun
    pub group-apart : (told more : Places) (bundles : List Bundle) (w : Bool) (new : Stage)
        → Compares (IsFoundOf eq types true it.fields) (AreShaped types it.fields) told more
        → Goes (λ e. ⊥) (HoldsPart t it (every true)) (PartBegun (every true)) (record { told = more; bundles = bundles; is_within = w }) new
        → Goes (IsFoundOf eq types true it.fields) (GroupLeadsTo t true it) (Passed true) (record { told = told; bundles = bundles; is_within = w }) new
    group-apart told more bundles w new f g =
        goes-both (IsFoundOf eq types true it.fields) (GroupLeadsTo t true it) (λ stage. stage.told ≡ [] → AreShaped types it.fields) (PartBegun (every true)) (Passed true)
        (record { told = told; bundles = bundles; is_within = w }) (record { told = more; bundles = bundles; is_within = w }) new
        (told-stays (IsFoundOf eq types true it.fields) (GroupLeadsTo t true it) (AreShaped types it.fields)) joins
        (compares-goes (IsFoundOf eq types true it.fields) (GroupLeadsTo t true it) (AreShaped types it.fields) told more bundles w f)
        (goes-weaker (λ e. ⊥) (IsFoundOf eq types true it.fields) (HoldsPart t it (every true)) (GroupLeadsTo t true it) (PartBegun (every true)) (PartBegun (every true))
        (record { told = more; bundles = bundles; is_within = w }) new (λ e i. absurd i) (λ b k. (every true, here (every true) [], k)) (λ s k. k) g)
      where
        joins : (s : Stage) → (s.told ≡ [] → AreShaped types it.fields) → PartBegun (every true) s → Passed true s
        joins s shaped own = record {
          begun = (λ part i. subst (λ p. PartBegun p s) (one-only (every true) part i) own);
          alike = (λ none _ _. record {
            shape = shaped none;
            field = (λ part i e. absurd (false≢true (sym e ∙ ap (λ (p : GroupPart). p.around) (sym (one-only (every true) part i)))));
          });
        }

    abbrev pub EachNamed : Type 0
    EachNamed = (part : GroupPart) → Contains (parts false (names_in group)) part → part.around ≡ false → ArePartNamed eq types it.fields part

    abbrev Found : List SourcePosition → Type 0
    Found = IsFoundOf eq types false it.fields

    abbrev May : Bundle → Type 0
    May = GroupLeadsTo t false it

    abbrev Shaped : Stage → Type 0
    Shaped stage = stage.told ≡ [] → AreShaped types it.fields

    abbrev Named : Stage → Type 0
    Named stage = stage.told ≡ [] → EachNamed

    abbrev Rest : Stage → Type 0
    Rest stage = Named stage × AllBegun (names_in group) stage

    whole : (s : Stage) → Shaped s → Rest s → Passed false s
    whole s shaped rest = record {
      begun = rest.1;
      alike = (λ none f i. record { shape = shaped none; field = (λ part j e. rest.0 none part j e f i) });
    }

    -- they are not: names and arguments are compared too, and the own sets of each part begun
    pub group-whole : (told more most : Places) (bundles : List Bundle) (w : Bool) (new : Stage)
        → Compares (IsFoundOf eq types true it.fields) (AreShaped types it.fields) told more
        → Compares Found EachNamed more most
        → Goes (λ e. ⊥) (MayAll (names_in group)) (AllBegun (names_in group)) (record { told = most; bundles = bundles; is_within = w }) new
        → Goes Found May (Passed false) (record { told = told; bundles = bundles; is_within = w }) new
    group-whole told more most bundles w new f h g =
        let first : Stage = record { told = told; bundles = bundles; is_within = w } in
        let second : Stage = record { told = more; bundles = bundles; is_within = w } in
        let third : Stage = record { told = most; bundles = bundles; is_within = w } in
        goes-both Found May Shaped Rest (Passed false) first second new (told-stays Found May (AreShaped types it.fields)) whole
        (goes-weaker (IsFoundOf eq types true it.fields) Found May May Shaped Shaped first second (λ e i. found-under false e i) (λ b k. k) (λ s k. k)
        (compares-goes (IsFoundOf eq types true it.fields) May (AreShaped types it.fields) told more bundles w f))
        (goes-both Found May Named (AllBegun (names_in group)) Rest second third new (told-stays Found May EachNamed) (λ s n a. (n, a))
        (compares-goes Found May EachNamed more most bundles w h)
        (goes-weaker (λ e. ⊥) Found (MayAll (names_in group)) May (AllBegun (names_in group)) (AllBegun (names_in group)) third new
        (λ e i. absurd i) (λ b k. k) (λ s k. k) g))
