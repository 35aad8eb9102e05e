-- Alike sets have alike fields for each object type, in alike groups, and are of one height.
use Rattle.std.proofs.Common.{◌≡◌, refl, ◌∙◌, ap, ◌+◌, max, Bool, true, false, not, ◌||◌, List, [], ◌∷◌, ◌++◌, cond}
use Rattle.std.specs.List.{flat_map, list_any}
use Rattle.std.specs.Str.{bytes_eq}
use Rattle.graphql_names.specs.Names.{Bytes}
use Rattle.graphql_written_out.specs.Trees.{Directives, Head, Tree, none, field, inline, height}
use Rattle.graphql_written_out.specs.Fields.{Found, fields, applies}
use Rattle.graphql_written_out.specs.Groups.{keys_after, under}
use Rattle.graphql_semantics.specs.Evaluation.{highest, sets_below}
use Rattle.graphql_plain_answers.specs.AlikeSets.{EachAlike, TreesAlike}

each-append : {A B : Type 0} (Alike : A → B → Type 0)
    (xs : List A) (ys : List B) (us : List A) (vs : List B)
    → EachAlike Alike xs ys → EachAlike Alike us vs → EachAlike Alike (xs ++ us) (ys ++ vs)
each-append Alike [] [] us vs h k = k
each-append Alike [] (y ∷ ys) us vs h k = absurd h
each-append Alike (x ∷ xs) [] us vs h k = absurd h
each-append Alike (x ∷ xs) (y ∷ ys) us vs h k = (h.0, each-append Alike xs ys us vs h.1 k)

each-if : {A B : Type 0} (Alike : A → B → Type 0) (p q : Bool) → p ≡ q
    → (xs : List A) (ys : List B) (us : List A) (vs : List B)
    → EachAlike Alike xs ys → EachAlike Alike us vs → EachAlike Alike (cond p xs us) (cond q ys vs)
each-if Alike true true e xs ys us vs h k = h
each-if Alike true false e xs ys us vs h k = absurd (cc)
each-if Alike false true e xs ys us vs h k = absurd (cc)
each-if Alike false false e xs ys us vs h k = k

module _ {S : Type 0} (Heads : Head S → Head S → Type 0)
    (Marks : Directives S → Directives S → Type 0) where
  abbrev pub Trees : Tree S → Tree S → Type 0
  Trees = TreesAlike Heads Marks

  abbrev pub FoundAlike : Found S → Found S → Type 0
  FoundAlike x y = Heads x.head y.head × Trees x.below y.below

  abbrev pub Founds : List (Found S) → List (Found S) → Type 0
  Founds = EachAlike FoundAlike

  pub below-alike : (xs ys : List (Found S)) → Founds xs ys
      → EachAlike Trees (sets_below xs) (sets_below ys)
  below-alike [] [] h = tt
  below-alike [] (y ∷ ys) h = absurd h
  below-alike (x ∷ xs) [] h = absurd h
  below-alike (x ∷ xs) (y ∷ ys) h = (h.0.1, below-alike xs ys h.1)

  -- ---- heights

  as-high : (t u : Tree S) → Trees t u → height t ≡ height u
  as-high none none h = refl
  as-high none (field other marks inner more) h = absurd h
  as-high none (inline at marks inner more) h = absurd h
  as-high (field head directives below rest) none h = absurd h
  as-high (field head directives below rest) (inline at marks inner more) h = absurd h
  as-high (field head directives below rest) (field other marks inner more) h =
      λ i. max (as-high below inner h.2 i + 1) (as-high rest more h.3 i)
  as-high (inline on directives below rest) none h = absurd h
  as-high (inline on directives below rest) (field other marks inner more) h = absurd h
  as-high (inline on directives below rest) (inline at marks inner more) h =
      λ i. max (as-high below inner h.2 i + 1) (as-high rest more h.3 i)

  pub highest-alike : (ts us : List (Tree S)) → EachAlike Trees ts us → highest ts ≡ highest us
  highest-alike [] [] h = refl
  highest-alike [] (u ∷ us) h = absurd h
  highest-alike (t ∷ ts) [] h = absurd h
  highest-alike (t ∷ ts) (u ∷ us) h = λ i. max (as-high t u h.0 i) (highest-alike ts us h.1 i)

  -- ---- fields, by which directives leave out

  module _ (drops others : Directives S → Bool)
      (same-drops : (directives marks : Directives S) → Marks directives marks
      → drops directives ≡ others marks)
      (is_above : Bytes → Bool) where
    fields-alike : (t u : Tree S) → Trees t u
        → Founds (fields drops is_above t) (fields others is_above u)
    fields-alike none none h = tt
    fields-alike none (field other marks inner more) h = absurd h
    fields-alike none (inline at marks inner more) h = absurd h
    fields-alike (field head directives below rest) none h = absurd h
    fields-alike (field head directives below rest) (inline at marks inner more) h = absurd h
    fields-alike (field head directives below rest) (field other marks inner more) h =
        let behind = fields-alike rest more h.3 in
        each-if FoundAlike (drops directives) (others marks) (same-drops directives marks h.1)
        _ _ _ _ behind ((h.0, h.2), behind)
    fields-alike (inline on directives below rest) none h = absurd h
    fields-alike (inline on directives below rest) (field other marks inner more) h = absurd h
    fields-alike (inline on directives below rest) (inline at marks inner more) h =
        let inside = fields-alike below inner h.2 in
        let behind = fields-alike rest more h.3 in
        each-if FoundAlike (drops directives || not (applies is_above on))
        (others marks || not (applies is_above at))
        (λ i. same-drops directives marks h.1 i || not (applies is_above (h.0 i))) _ _ _ _ behind
        (each-append FoundAlike (fields drops is_above below) (fields others is_above inner)
        _ _ inside behind)

    pub found-alike : (ts us : List (Tree S)) → EachAlike Trees ts us
        → Founds (flat_map (fields drops is_above) ts) (flat_map (fields others is_above) us)
    found-alike [] [] h = tt
    found-alike [] (u ∷ us) h = absurd h
    found-alike (t ∷ ts) [] h = absurd h
    found-alike (t ∷ ts) (u ∷ us) h =
        each-append FoundAlike (fields drops is_above t) (fields others is_above u) _ _
        (fields-alike t u h.0) (found-alike ts us h.1)

-- ---- groups, of fields of which each has the key of the other

module _ {S : Type 0} (Alike : Found S → Found S → Type 0)
    (same-key : (x y : Found S) → Alike x y → x.head.key ≡ y.head.key) where
  next-key : (p q : Bool) → p ≡ q → (a b : Bytes) → a ≡ b → (ks ls ms ns : List Bytes) → ks ≡ ls
      → ms ≡ ns
      → cond p ks (a ∷ ms) ≡ cond q ls (b ∷ ns)
  next-key p q e a b same ks ls ms ns done more = λ i. cond (e i) (done i) (same i ∷ more i)

  pub keys-alike : (done : List Bytes) (xs ys : List (Found S)) → EachAlike Alike xs ys
      → keys_after done xs ≡ keys_after done ys
  keys-alike done [] [] h = refl
  keys-alike done [] (y ∷ ys) h = absurd h
  keys-alike done (x ∷ xs) [] h = absurd h
  keys-alike done (x ∷ xs) (y ∷ ys) h =
      let key = same-key x y h.0 in
      next-key (list_any (bytes_eq x.head.key) done) (list_any (bytes_eq y.head.key) done)
      (ap (λ k. list_any (bytes_eq k) done) key)
      x.head.key y.head.key key _ _ _ _ (keys-alike done xs ys h.1)
      (ap (λ k. keys_after (done ++ k ∷ []) xs) key
      ∙ keys-alike (done ++ y.head.key ∷ []) xs ys h.1)

  pub under-alike : (xs ys : List (Found S)) (key : Bytes) → EachAlike Alike xs ys
      → EachAlike Alike (under xs key) (under ys key)
  under-alike [] [] key h = tt
  under-alike [] (y ∷ ys) key h = absurd h
  under-alike (x ∷ xs) [] key h = absurd h
  under-alike (x ∷ xs) (y ∷ ys) key h =
      let behind = under-alike xs ys key h.1 in
      each-if Alike (bytes_eq key x.head.key) (bytes_eq key y.head.key)
      (ap (bytes_eq key) (same-key x y h.0))
      _ _ _ _ (h.0, behind) behind
