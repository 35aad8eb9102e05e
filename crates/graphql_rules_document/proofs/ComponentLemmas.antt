-- Fragments that lead to each other, as a walk finds them.
use Rattle.std.proofs.Common.{◌≡◌, ◌⊎◌, inl, inr, ℕ, zero, suc, ◌+◌, ◌<◌, ◌≤◌, Bool, true, false, List, [], ◌∷◌, ◌++◌, Option, Some, None, length, map, reverse, get_or, set, take, slice_get, refl, sym, ap, subst, ◌∙◌, arith, IsTrue}
use Rattle.std.specs.List.{AllByRecursion as Each, Contains}
use Rattle.std.specs.Option.{option_map_or}
use Rattle.std.proofs.lemmas.Bool.{cases_lt, false_from_ne_true}
use Rattle.std.proofs.lemmas.List.{get_or_append_left, get_or_push, get_or-map, get_or-take, get_or-set_same, get_or-set_other, get_or_default, length-map, length-take-le, length_push, reverse-append, set_past, take_all, take_more}
use Rattle.std.proofs.lemmas.List.Elements.{Contains-get_or}
use Rattle.std.proofs.lemmas.Option.{get_or_from_slice_get, slice_get_read, slice_get_within}
use Rattle.graphql_names.specs.Names.{Bytes, is_one_of}
use Rattle.graphql_names.proofs.NameLemmas.{same_bytes}
use Rattle.graphql_rules_document.specs.declared.component_walk.Component.{Component}
use Rattle.graphql_rules_document.specs.declared.scopes.FragmentScope.{FragmentScope}
use Rattle.graphql_rules_document.specs.declared.scopes.Spread.{Spread}
use Rattle.graphql_rules_document.specs.Components.{Falling, Falls, IsSame, Leads, Told, component_of, number_of}
use Rattle.graphql_rules_document.specs.Lent.{fragment_of, spread_of}
use Rattle.graphql_rules_document.specs.Named.{fragment_names, last_place}
use Rattle.graphql_rules_document.specs.Reached.{IsReached, at_once, names_of, reached, through}
use Rattle.graphql_rules_document.specs.Scopes as spec
use Rattle.graphql_rules_document.specs.Searches.{name_at}
use Rattle.graphql_rules_document.specs.Walks.{IsPath, Parts, with_component}
use Rattle.graphql_rules_document.proofs.LeastLemmas.{IsClosed, each_append, reached_is, reached_within, start_reached}
use Rattle.graphql_rules_document.proofs.NamedLemmas.{last_place-Some}

-- ---- lists

pub none_more : (components : List (Option Component)) → ((place : ℕ) → get_or components place None ≡ None) → (place : ℕ) → get_or (components ++ None ∷ []) place None ≡ None
none_more [] h zero = refl
none_more [] h (suc place) = refl
none_more (c ∷ components) h zero = h 0
none_more (c ∷ components) h (suc place) = none_more components (λ p. h (suc p)) place

pub contains_got : {A : Type 0} (xs : List A) (k : ℕ) (x : A) → slice_get xs k ≡ Some x → Contains xs x
contains_got xs k x is = subst (Contains xs) (get_or_from_slice_get xs k x x is) (Contains-get_or xs k x (slice_get_within xs k x is))

pub contains_read : {A : Type 0} (xs ys : List A) (k : ℕ) (x : A) → xs ≡ ys → k < length xs → x ≡ get_or xs k x → Contains ys x
contains_read xs ys k x same within is = subst (λ zs. Contains zs x) same (contains_got xs k x (slice_get_read xs (length xs) k x refl within is))

pub each_taken : {A : Type 0} (P : A → Type 0) (xs : List A) (k : ℕ) (x : A) → k < length xs → x ≡ get_or xs k x → Each P (take k xs) → P x → Each P (take (k + 1) xs)
each_taken P xs k x within is h here = subst (Each P) (sym (take_more xs k x within)) (each_append P (take k xs) (get_or xs k x ∷ []) h (subst P is here, tt))

pub each_whole : {A : Type 0} (P : A → Type 0) (xs : List A) (k : ℕ) → length xs ≤ k → Each P (take k xs) → Each P xs
each_whole P xs k past h = subst (Each P) (take_all k xs past) h

module _ (fragments : List FragmentScope) where
  abbrev names : List Bytes
  names = fragment_names fragments

  abbrev fs : List spec.FragmentScope
  fs = map fragment_of fragments

  -- ---- what leads to what

  stays : (a : ℕ) → Leads fragments a a
  stays a = record { on = λ from r. r }

  and_on : (a b c : ℕ) → Leads fragments a b → Leads fragments b c → Leads fragments a c
  and_on a b c h k = record { on = λ from r. k.on from (h.on from r) }

  leads_as : (a a' b b' : ℕ) → a ≡ a' → b ≡ b' → Leads fragments a b → Leads fragments a' b'
  leads_as a a' b b' d e h = subst (λ x. Leads fragments x b') d (subst (λ y. Leads fragments a y) e h)

  -- along a path that leads on at each step
  forth_to : (path : List ℕ) → ((i : ℕ) → suc i < length path → Leads fragments (get_or path i 0) (get_or path (suc i) 0)) → (i j : ℕ) → i ≤ j → j < length path → Leads fragments (get_or path i 0) (get_or path j 0)
  forth_to path f i zero le within = let same : zero ≡ i = omega (arith, le) in leads_as (get_or path zero 0) (get_or path i 0) (get_or path zero 0) (get_or path zero 0) (ap (λ k. get_or path k 0) same) refl (stays (get_or path zero 0))
  forth_to path f i (suc j) le within = elim (cases_lt i (suc j)) [
    | inl less ↦ and_on (get_or path i 0) (get_or path j 0) (get_or path (suc j) 0) (forth_to path f i j (omega (arith, less)) (omega (arith, within))) (f j within)
    | inr more ↦ let same : suc j ≡ i = omega (arith, le, more) in leads_as (get_or path (suc j) 0) (get_or path i 0) (get_or path (suc j) 0) (get_or path (suc j) 0) (ap (λ k. get_or path k 0) same) refl (stays (get_or path (suc j) 0))
  ]

  back_to : (path : List ℕ) (start bound : ℕ) → ((i : ℕ) → start ≤ i → suc i < bound → Leads fragments (get_or path (suc i) 0) (get_or path i 0)) → (i j : ℕ) → start ≤ i → i ≤ j → j < bound → Leads fragments (get_or path j 0) (get_or path i 0)
  back_to path start bound f i zero from le within = let same : zero ≡ i = omega (arith, le) in leads_as (get_or path zero 0) (get_or path zero 0) (get_or path zero 0) (get_or path i 0) refl (ap (λ k. get_or path k 0) same) (stays (get_or path zero 0))
  back_to path start bound f i (suc j) from le within = elim (cases_lt i (suc j)) [
    | inl less ↦ and_on (get_or path (suc j) 0) (get_or path j 0) (get_or path i 0) (f j (omega (arith, from, less)) within) (back_to path start bound f i j from (omega (arith, less)) (omega (arith, within)))
    | inr more ↦ let same : suc j ≡ i = omega (arith, le, more) in leads_as (get_or path (suc j) 0) (get_or path (suc j) 0) (get_or path (suc j) 0) (get_or path i 0) refl (ap (λ k. get_or path k 0) same) (stays (get_or path (suc j) 0))
  ]

  -- ---- a path

  parts_as : (path path' : List ℕ) (bound : ℕ) (starts : List ℕ) → ((i : ℕ) → i < bound → get_or path i 0 ≡ get_or path' i 0) → Parts fragments path bound starts → Parts fragments path' bound starts
  parts_as path path' bound [] same h = tt
  parts_as path path' bound (start ∷ starts) same h = (
    h.0,
    (λ i from within. leads_as (get_or path (suc i) 0) (get_or path' (suc i) 0) (get_or path i 0) (get_or path' i 0) (same (suc i) within) (same i (omega (arith, within))) (h.1 i from within)),
    parts_as path path' start starts (λ i within. same i (omega (arith, within, h.0))) h.2,
  )

  pub path_of_none : IsPath fragments [] 0 []
  path_of_none = record { forth = λ i within. absurd (omega (arith, within)); parts = (omega arith, (λ i from within. absurd (omega (arith, within))), tt) }

  pub path_of_one : (place : ℕ) → IsPath fragments (place ∷ []) 0 []
  path_of_one place = record { forth = λ i within. absurd (omega (arith, within)); parts = (omega arith, (λ i from within. absurd (omega (arith, within))), tt) }

  parts_at : (path : List ℕ) (bound start : ℕ) (earlier rest : List ℕ) (before : ℕ) → earlier ≡ rest ++ before ∷ [] → Parts fragments path bound (start ∷ reverse earlier) → Parts fragments path bound (start ∷ before ∷ reverse rest)
  parts_at path bound start earlier rest before is = subst (λ bs. Parts fragments path bound (start ∷ bs)) (ap reverse is ∙ reverse-append rest (before ∷ []))

  pub path_is : (path path' : List ℕ) (start start' : ℕ) (earlier earlier' : List ℕ) → path ≡ path' → start ≡ start' → earlier ≡ earlier' → IsPath fragments path start earlier → IsPath fragments path' start' earlier'
  path_is path path' start start' earlier earlier' a b c h =
      subst (λ p. IsPath fragments p start' earlier') a (subst (λ s. IsPath fragments path s earlier') b (subst (λ e. IsPath fragments path start e) c h))

  -- a further fragment
  pub path_extended : (path : List ℕ) (start : ℕ) (earlier : List ℕ) (from position place : ℕ) → IsPath fragments path start earlier → start ≤ position → slice_get path position ≡ Some from → Leads fragments from place
      → IsPath fragments (path ++ place ∷ []) (length path) (earlier ++ start ∷ [])
  path_extended path start earlier from position place h behind there leads = record {
    forth = λ i within. forth i within (cases_lt (suc i) (length path));
    parts = (
      omega (arith, length_push path place),
      (λ i after within. absurd (omega (arith, after, within, length_push path place))),
      subst (λ bs. Parts fragments (path ++ place ∷ []) (length path) bs) (sym (reverse-append earlier (start ∷ [])))
          (parts_as path (path ++ place ∷ []) (length path) (start ∷ reverse earlier) (λ i within. sym (get_or_append_left path (place ∷ []) 0 i within)) h.parts),
    );
  }
    where
      inside : position < length path
      inside = slice_get_within path position from there

      forth : (i : ℕ) → suc i < length (path ++ place ∷ []) → (suc i < length path) ⊎ (length path ≤ suc i) → Leads fragments (get_or (path ++ place ∷ []) i 0) (get_or (path ++ place ∷ []) (suc i) 0)
      forth i within (inl less) =
          leads_as (get_or path i 0) (get_or (path ++ place ∷ []) i 0) (get_or path (suc i) 0) (get_or (path ++ place ∷ []) (suc i) 0) (sym (get_or_append_left path (place ∷ []) 0 i (omega (arith, less)))) (sym (get_or_append_left path (place ∷ []) 0 (suc i) less)) (h.forth i less)
      forth i within (inr more) =
          let last : length path ≡ suc i = omega (arith, more, within, length_push path place) in
          leads_as (get_or path i 0) (get_or (path ++ place ∷ []) i 0) place (get_or (path ++ place ∷ []) (suc i) 0) (sym (get_or_append_left path (place ∷ []) 0 i (omega (arith, last)))) (sym (get_or_push path place 0 (suc i) last))
          (and_on (get_or path i 0) from place
          (leads_as (get_or path i 0) (get_or path i 0) (get_or path position 0) from refl (get_or_from_slice_get path position from 0 there)
          (back_to path start (length path) h.parts.1 position i behind (omega (arith, inside, last)) (omega (arith, last)))) leads)

  -- the last part and the one before it are one
  pub path_merged : (path : List ℕ) (start : ℕ) (earlier rest : List ℕ) (before from there position to : ℕ) → earlier ≡ rest ++ before ∷ [] → IsPath fragments path start earlier → start ≤ position → slice_get path position ≡ Some from → to < start
      → slice_get path to ≡ Some there → Leads fragments from there → (IsPath fragments path before rest) × (before ≤ position)
  path_merged path start earlier rest before from there position to is h behind at_from less at_there leads = (
    record { forth = h.forth; parts = (omega (arith, parts.0, parts.2.0), (λ i after within. back i after within (cases_lt (suc i) start)), parts.2.2) },
    omega (arith, parts.2.0, behind),
  )
    where
      parts : Parts fragments path (length path) (start ∷ before ∷ reverse rest)
      parts = parts_at path (length path) start earlier rest before is h.parts

      inside : position < length path
      inside = slice_get_within path position from at_from

      one : (i : ℕ) → suc i ≡ start → Leads fragments (get_or path (suc i) 0) (get_or path i 0)
      one i same =
          and_on (get_or path (suc i) 0) from (get_or path i 0)
          (leads_as (get_or path (suc i) 0) (get_or path (suc i) 0) (get_or path position 0) from refl (get_or_from_slice_get path position from 0 at_from) (forth_to path h.forth (suc i) position (omega (arith, same, behind)) inside))
          (and_on from there (get_or path i 0) leads
          (leads_as (get_or path to 0) there (get_or path i 0) (get_or path i 0) (get_or_from_slice_get path to there 0 at_there) refl (forth_to path h.forth to i (omega (arith, same, less)) (omega (arith, same, behind, inside)))))

      back : (i : ℕ) → before ≤ i → suc i < length path → (suc i < start) ⊎ (start ≤ suc i) → Leads fragments (get_or path (suc i) 0) (get_or path i 0)
      back i after within (inl below) = parts.2.1 i after below
      back i after within (inr above) = elim (cases_lt i start) [
        | inl same ↦ one i (omega (arith, same, above))
        | inr over ↦ parts.1 i over within
      ]

  closed_forth : (path : List ℕ) (start : ℕ) → ((i : ℕ) → suc i < length path → Leads fragments (get_or path i 0) (get_or path (suc i) 0)) → start ≤ length path → (i : ℕ) → suc i < length (take start path) → Leads fragments (get_or (take start path) i 0) (get_or (take start path) (suc i) 0)
  closed_forth path start f le i within =
      let less : suc i < start = omega (arith, within, length-take-le start path le) in
      leads_as (get_or path i 0) (get_or (take start path) i 0) (get_or path (suc i) 0) (get_or (take start path) (suc i) 0) (sym (get_or-take start path i 0 (omega (arith, less)))) (sym (get_or-take start path (suc i) 0 less)) (f i (omega (arith, less, le)))

  -- the last part is left
  pub path_closed : (path : List ℕ) (start : ℕ) (earlier rest : List ℕ) (before : ℕ) → earlier ≡ rest ++ before ∷ [] → IsPath fragments path start earlier → IsPath fragments (take start path) before rest
  path_closed path start earlier rest before is h =
      let parts = parts_at path (length path) start earlier rest before is h.parts in
      record {
        forth = closed_forth path start h.forth parts.0;
        parts = subst (λ n. Parts fragments (take start path) n (before ∷ reverse rest)) (sym (length-take-le start path parts.0))
            (parts_as path (take start path) start (before ∷ reverse rest) (λ i within. sym (get_or-take start path i 0 within)) parts.2);
      }

  pub path_ends : (path : List ℕ) (start : ℕ) (earlier : List ℕ) → earlier ≡ [] → IsPath fragments path start earlier → IsPath fragments (take start path) start []
  path_ends path start earlier is h = record {
    forth = closed_forth path start h.forth h.parts.0;
    parts = (omega (arith, length-take-le start path h.parts.0), (λ i after within. absurd (omega (arith, after, within, length-take-le start path h.parts.0))), tt);
  }

  -- what stands in the last part leads to its first, and this to it
  pub members_up : (path : List ℕ) (start : ℕ) (earlier : List ℕ) (first position place : ℕ) → IsPath fragments path start earlier → slice_get path start ≡ Some first → start ≤ position → slice_get path position ≡ Some place → Leads fragments place first
  members_up path start earlier first position place h at_first after there =
      leads_as (get_or path position 0) place (get_or path start 0) first (get_or_from_slice_get path position place 0 there) (get_or_from_slice_get path start first 0 at_first)
      (back_to path start (length path) h.parts.1 start position (omega arith) after (slice_get_within path position place there))

  pub members_down : (path : List ℕ) (start : ℕ) (earlier : List ℕ) (first position place : ℕ) → IsPath fragments path start earlier → slice_get path start ≡ Some first → start ≤ position → slice_get path position ≡ Some place → Leads fragments first place
  members_down path start earlier first position place h at_first after there =
      leads_as (get_or path start 0) first (get_or path position 0) place (get_or_from_slice_get path start first 0 at_first) (get_or_from_slice_get path position place 0 there)
      (forth_to path h.forth start position after (slice_get_within path position place there))

  -- ---- names

  name_is : (name : Bytes) (place : ℕ) → last_place names name ≡ Some place → name_at names place ≡ name
  name_is name place is = same_bytes (name_at names place) name ((last_place-Some names name place is).named)

  contains_map : {A B : Type 0} (f : A → B) (xs : List A) (x : A) → Contains xs x → Contains (map f xs) (f x)
  contains_map f xs x c = (c.0, omega (arith, c.1, length-map xs f), get_or-map f xs c.0 x (f x) c.1 ∙ ap f c.2)

  -- a fragment leads to what it spreads
  pub spread_leads : (f : FragmentScope) (s : Spread) (from to : ℕ) → Contains fragments f → Contains f.spreads s → last_place names f.name.now ≡ Some from → last_place names s.name.now ≡ Some to → Leads fragments from to
  spread_leads f s from to there spread is_from is_to = record {
    on = λ start r. subst (IsReached fs start) (sym (name_is s.name.now to is_to))
        (through (fragment_of f) s.name.now (contains_map fragment_of fragments f there) (subst (IsReached fs start) (name_is f.name.now from is_from) r)
        (contains_map (λ x. x.name) (map spread_of f.spreads) (spread_of s) (contains_map spread_of f.spreads s spread)));
  }

  -- ---- what is told

  some-none : {A : Type 0} (x : A) → None ≡ Some x → ⊥
  some-none x e = cc

  same_some : (x y : Component) → Some x ≡ Some y → x ≡ y
  same_some x y e = cc

  pub told_of_none : (components : List (Option Component)) → ((place : ℕ) → get_or components place None ≡ None) → Told fragments components
  told_of_none components none = record {
    down = λ place c is. absurd (some-none c (sym (none place) ∙ is));
    up = λ place c is. absurd (some-none c (sym (none place) ∙ is));
  }

  told_cases : (components : List (Option Component)) (place : ℕ) (c : Component) (q : ℕ) (d : Component) → get_or (set components place (Some c)) q None ≡ Some d → (get_or components q None ≡ Some d) ⊎ ((q ≡ place) × (d ≡ c))
  told_cases components place c q d is = elim (cases_lt q place) [
    | inl less ↦ inl (sym (get_or-set_other components place q (Some c) None (λ e. omega (arith, less, e))) ∙ is)
    | inr le ↦ elim (cases_lt place q) [
      | inl more ↦ inl (sym (get_or-set_other components place q (Some c) None (λ e. omega (arith, more, e))) ∙ is)
      | inr ge ↦ let same : q ≡ place = omega (arith, le, ge) in elim (cases_lt place (length components)) [
        | inl within ↦ inr (same, same_some d c (sym is ∙ ap (λ k. get_or (set components place (Some c)) k None) same ∙ get_or-set_same components place (Some c) None within))
        | inr past ↦ inl (sym (ap (λ cs. get_or cs q None) (set_past components place (Some c) past)) ∙ is)
      ]
    ]
  ]

  told_more : (components : List (Option Component)) (place : ℕ) (c : Component) → Told fragments components → Leads fragments c.first place → Leads fragments place c.first → Told fragments (set components place (Some c))
  told_more components place c h down up = record {
    down = λ q d is. elim (told_cases components place c q d is) [ inl old ↦ h.down q d old | inr new ↦ leads_as c.first d.first place q (ap (λ x. x.first) (sym new.1)) (sym new.0) down ];
    up = λ q d is. elim (told_cases components place c q d is) [ inl old ↦ h.up q d old | inr new ↦ leads_as place q c.first d.first (sym new.0) (ap (λ x. x.first) (sym new.1)) up ];
  }

  pub told_at : (components : List (Option Component)) (o : Option ℕ) (c : Component) → Told fragments components → ((place : ℕ) → o ≡ Some place → Leads fragments c.first place) → ((place : ℕ) → o ≡ Some place → Leads fragments place c.first)
      → Told fragments (with_component components o c)
  told_at components None c h down up = h
  told_at components (Some place) c h down up = told_more components place c h (down place refl) (up place refl)

  component_at : (components : List (Option Component)) (o : Option ℕ) (c : Component) → option_map_or (λ place. get_or components place None) o None ≡ Some c → (place : ℕ) × (o ≡ Some place) × (get_or components place None ≡ Some c)
  component_at components (Some place) c is = (place, refl, is)
  component_at components None c is = absurd (some-none c is)

  -- ---- what the components tell

  -- fragments of one component reach each other
  pub same_reached : (components : List (Option Component)) (s : Spread) (name : Bytes) → Told fragments components → IsSame (component_of fragments components s.name.now) (component_of fragments components name) → is_one_of (reached fs (spread_of s ∷ [])) name ≡ true
  same_reached components s name h same =
      let a = component_at components (last_place names s.name.now) same.first same.one_is in
      let b = component_at components (last_place names name) same.second same.other_is in
      let up = h.up a.0 same.first a.2 in
      let down = h.down b.0 same.second b.2 in
      let here : IsReached fs (spread_of s ∷ []) (name_at names a.0) = subst (IsReached fs (spread_of s ∷ [])) (sym (name_is s.name.now a.0 a.1)) (start_reached fs (spread_of s ∷ [])).0 in
      let first = subst (λ k. Leads fragments a.0 k) same.same up in
      (reached_is fs (spread_of s ∷ []) name).1 (subst (IsReached fs (spread_of s ∷ [])) (name_is name b.0 b.1) (down.on (spread_of s ∷ []) (first.on (spread_of s ∷ []) here)))

  each_map : {A B : Type 0} (P : B → Type 0) (f : A → B) (xs : List A) → Each (λ x. P (f x)) xs → Each P (map f xs)
  each_map P f [] h = tt
  each_map P f (x ∷ xs) h = (h.0, each_map P f xs h.1)

  falls_closed : (components : List (Option Component)) (most : ℕ) (gs : List FragmentScope) → Each (Falls fragments components) gs → IsClosed (map fragment_of gs) (λ n. number_of fragments components n ≤ most)
  falls_closed components most [] h = tt
  falls_closed components most (g ∷ gs) h = ((λ below. spreads below g.spreads h.0), falls_closed components most gs h.1)
    where
      spreads : number_of fragments components g.name.now ≤ most → (ss : List Spread) → Each (λ (s : Spread). number_of fragments components s.name.now ≤ number_of fragments components g.name.now) ss → Each (λ n. number_of fragments components n ≤ most) (names_of (map spread_of ss))
      spreads below [] k = tt
      spreads below (s ∷ ss) k = (omega (arith, below, k.0), spreads below ss k.1)

  -- what has a greater number is not reached
  pub greater_unreached : (components : List (Option Component)) (s : Spread) (name : Bytes) → Falling fragments components → number_of fragments components s.name.now < number_of fragments components name → is_one_of (reached fs (spread_of s ∷ [])) name ≡ false
  greater_unreached components s name h less =
      let most = number_of fragments components s.name.now in
      false_from_ne_true (is_one_of (reached fs (spread_of s ∷ [])) name)
      (λ is. let below = reached_within (λ n. number_of fragments components n ≤ most) fs (spread_of s ∷ []) (omega arith, tt) (falls_closed components most fragments h) name ((reached_is fs (spread_of s ∷ []) name).0 is) in omega (arith, less, below))
