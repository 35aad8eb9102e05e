-- Where names stand among names in a row.
use Rattle.std.proofs.Common.{◌≡◌, inl, inr, ℕ, zero, suc, ◌+◌, ◌<◌, ◌≤◌, Bool, true, false, cond, List, [], ◌∷◌, ◌++◌, Option, Some, None, Bor, length, get_or, take, slice_get, refl, sym, ap, subst, ◌∙◌, append-nil, append_assoc, arith}
use Rattle.std.specs.HashMap.{HashMap, UpdatesBy, get_by}
use Rattle.std.specs.Option.{option_and_then, option_map, option_map_or, option_or}
use Rattle.std.specs.Str.{bytes_eq}
use Rattle.std.proofs.lemmas.Bool.{cases_lt}
use Rattle.std.proofs.lemmas.List.{take_more, map-append, length-map, length-take, length-take-le}
use Rattle.std.proofs.lemmas.Map.Text.{hash_map_updates_str}
use Rattle.graphql_names.specs.Names.{Bytes}
use Rattle.graphql_rules_document.specs.declared.scopes.FragmentScope.{FragmentScope}
use Rattle.graphql_rules_document.specs.Named.{earlier_among, earlier_place, earlier_places, fragment_names, last_place}

-- ---- one name more

pub last_place-push : (names : List Bytes) (n name : Bytes) → last_place (names ++ n ∷ []) name ≡ cond (bytes_eq n name) (Some (length names)) (last_place names name)
last_place-push [] n name = refl
last_place-push (m ∷ names) n name =
    ap (λ o. option_or (option_map suc o) (cond (bytes_eq m name) (Some 0) None)) (last_place-push names n name) ∙ either (bytes_eq n name)
  where
    either : (b : Bool) → option_or (option_map suc (cond b (Some (length names)) (last_place names name))) (cond (bytes_eq m name) (Some 0) None)
        ≡ cond b (Some (suc (length names))) (option_or (option_map suc (last_place names name)) (cond (bytes_eq m name) (Some 0) None))
    either true = refl
    either false = refl

earlier_among-push : (before names : List Bytes) (n : Bytes) → earlier_among before (names ++ n ∷ []) ≡ earlier_among before names ++ last_place (before ++ names) n ∷ []
earlier_among-push before [] n = ap (λ b. last_place b n ∷ []) (sym (append-nil before))
earlier_among-push before (m ∷ names) n =
    ap (λ xs. last_place before m ∷ xs)
    (earlier_among-push (before ++ m ∷ []) names n ∙ ap (λ b. earlier_among (before ++ m ∷ []) names ++ last_place b n ∷ []) (append_assoc before (m ∷ []) names))

-- the fragments up to one of them
module _ (fragments : List FragmentScope) (place : ℕ) (fragment : FragmentScope) (within : place < length fragments) (is : fragment ≡ get_or fragments place fragment) where
  abbrev so_far : List Bytes
  so_far = fragment_names (take place fragments)

  more_names : fragment_names (take (place + 1) fragments) ≡ so_far ++ fragment.name.now ∷ []
  more_names =
      ap fragment_names (take_more fragments place fragment within ∙ ap (λ f. take place fragments ++ f ∷ []) (sym is))
      ∙ map-append (λ f. f.name.now) (take place fragments) (fragment ∷ [])

  length_so_far : length so_far ≡ place
  length_so_far = length-map (take place fragments) (λ f. f.name.now) ∙ length-take-le place fragments (omega arith)

  pub lasts_more : {H : Type 0} (old new : HashMap (Bor Bytes) ℕ H) → UpdatesBy (λ x y. bytes_eq x.now y.now) (λ k. bytes_eq fragment.name.now k.now) old new (Some place)
      → ((name : Bytes) → get_by (λ k. bytes_eq name k.now) old ≡ last_place so_far name)
      → (name : Bytes) → get_by (λ k. bytes_eq name k.now) new ≡ last_place (fragment_names (take (place + 1) fragments)) name
  lasts_more old new updates before name =
      hash_map_updates_str fragment.name.now old new (Some place) updates name
      ∙ (λ i. cond (bytes_eq fragment.name.now name) (Some (sym length_so_far i)) (before name i))
      ∙ sym (ap (λ names. last_place names name) more_names ∙ last_place-push so_far fragment.name.now name)

  pub earliers_more : (old : List (Option ℕ)) (put : Option ℕ) → put ≡ last_place so_far fragment.name.now → old ≡ earlier_places so_far → old ++ put ∷ [] ≡ earlier_places (fragment_names (take (place + 1) fragments))
  earliers_more old put found before =
      (λ i. before i ++ found i ∷ []) ∙ sym (ap earlier_places more_names ∙ earlier_among-push [] so_far fragment.name.now)

-- ---- what a place tells

some-suc : (a b : ℕ) → Some (suc a) ≡ Some b → suc a ≡ b
some-suc a b e = cc

none-some : {A : Type 0} (x : A) → None ≡ Some x → ⊥
none-some x e = cc

some-none : {A : Type 0} (x : A) → Some x ≡ None → ⊥
some-none x e = cc

-- none of these names is this one
abbrev pub NoneNamed : List Bytes → Bytes → ℕ → Type 0
NoneNamed names name from = (j : ℕ) → from ≤ j → j < length names → bytes_eq (get_or names j []) name ≡ false

none_more : (n : Bytes) (names : List Bytes) (name : Bytes) → bytes_eq n name ≡ false → NoneNamed names name 0 → NoneNamed (n ∷ names) name 0
none_more n names name here rest zero from within = here
none_more n names name here rest (suc j) from within = rest j (omega arith) (omega (arith, within))

-- where the name has no place, it is none of these names
pub last_place-None : (names : List Bytes) (name : Bytes) → last_place names name ≡ None → NoneNamed names name 0
last_place-None [] name e = λ j from within. absurd (omega (arith, within))
last_place-None (n ∷ names) name e = either (last_place names name) (bytes_eq n name) (last_place-None names name) refl e
  where
    either : (o : Option ℕ) (b : Bool) → (o ≡ None → NoneNamed names name 0) → bytes_eq n name ≡ b → option_or (option_map suc o) (cond b (Some 0) None) ≡ None → NoneNamed (n ∷ names) name 0
    either (Some k) b rest here e = absurd (some-none _ e)
    either None true rest here e = absurd (some-none _ e)
    either None false rest here e = none_more n names name here (rest refl)

pub record LastAt (names : List Bytes) (name : Bytes) (place : ℕ) : Type 0 where
  pub within : place < length names
  pub named : bytes_eq (get_or names place []) name ≡ true
  pub behind : NoneNamed names name (suc place)

last_more : (n : Bytes) (names : List Bytes) (name : Bytes) (place : ℕ) → LastAt names name place → LastAt (n ∷ names) name (suc place)
last_more n names name place h = record { within = omega (arith, h.within); named = h.named; behind = behind }
  where
    behind : NoneNamed (n ∷ names) name (suc (suc place))
    behind zero from within = absurd (omega (arith, from))
    behind (suc j) from within = h.behind j (omega (arith, from)) (omega (arith, within))

last_first : (n : Bytes) (names : List Bytes) (name : Bytes) → bytes_eq n name ≡ true → NoneNamed names name 0 → LastAt (n ∷ names) name 0
last_first n names name here rest = record { within = omega arith; named = here; behind = behind }
  where
    behind : NoneNamed (n ∷ names) name 1
    behind zero from within = absurd (omega (arith, from))
    behind (suc j) from within = rest j (omega arith) (omega (arith, within))

pub last_place-Some : (names : List Bytes) (name : Bytes) (place : ℕ) → last_place names name ≡ Some place → LastAt names name place
last_place-Some [] name place e = absurd (none-some _ e)
last_place-Some (n ∷ names) name place e = either (last_place names name) (bytes_eq n name) (last_place-Some names name) (last_place-None names name) refl e
  where
    either : (o : Option ℕ) (b : Bool) → ((k : ℕ) → o ≡ Some k → LastAt names name k) → (o ≡ None → NoneNamed names name 0) → bytes_eq n name ≡ b → option_or (option_map suc o) (cond b (Some 0) None) ≡ Some place → LastAt (n ∷ names) name place
    either (Some k) b later none here e = subst (LastAt (n ∷ names) name) (some-suc k place e) (last_more n names name k (later k refl))
    either None true later none here e = let zeroth : 0 ≡ place = cc in subst (LastAt (n ∷ names) name) zeroth (last_first n names name here (none refl))
    either None false later none here e = absurd (none-some _ e)

-- ---- the place before

earlier_among-at : (before names : List Bytes) (place : ℕ) → place < length names → slice_get (earlier_among before names) place ≡ Some (last_place (before ++ take place names) (get_or names place []))
earlier_among-at before [] place within = absurd (omega (arith, within))
earlier_among-at before (n ∷ names) zero within = ap (λ b. Some (last_place b n)) (sym (append-nil before))
earlier_among-at before (n ∷ names) (suc place) within =
    earlier_among-at (before ++ n ∷ []) names place (omega (arith, within))
    ∙ ap (λ b. Some (last_place b (get_or names place []))) (append_assoc before (n ∷ []) (take place names))

earlier_among-past : (before names : List Bytes) (place : ℕ) → length names ≤ place → slice_get (earlier_among before names) place ≡ None
earlier_among-past before [] place past = refl
earlier_among-past before (n ∷ names) zero past = absurd (omega (arith, past))
earlier_among-past before (n ∷ names) (suc place) past = earlier_among-past (before ++ n ∷ []) names place (omega (arith, past))

pub earlier_at : (names : List Bytes) (place : ℕ) → place < length names → earlier_place names place ≡ last_place (take place names) (get_or names place [])
earlier_at names place within = ap (option_and_then (λ p. p)) (earlier_among-at [] names place within)

-- it is below
pub earlier_below : (names : List Bytes) (place : ℕ) → option_map_or suc (earlier_place names place) 0 < suc place
earlier_below names place = elim (cases_lt place (length names)) [
  | inl within ↦ subst (λ o. option_map_or suc o 0 < suc place) (sym (earlier_at names place within)) (below (last_place (take place names) (get_or names place [])) refl)
  | inr past ↦ subst (λ o. option_map_or suc o 0 < suc place) (sym (ap (option_and_then (λ p. p)) (earlier_among-past [] names place past))) (omega arith)
]
  where
    below : (o : Option ℕ) → last_place (take place names) (get_or names place []) ≡ o → option_map_or suc o 0 < suc place
    below None is = omega arith
    below (Some k) is =
        let at = last_place-Some (take place names) (get_or names place []) k is in
        omega (arith, at.within, length-take place names)
