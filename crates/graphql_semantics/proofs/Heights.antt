-- The selections below what is found are lower.
use Rattle.std.proofs.Common.{◌≡◌, refl, ℕ, zero, suc, ◌≤◌, ◌+◌, max, arith, Bool, true, false, not, ◌||◌, List, [], ◌∷◌, ◌++◌, map, cond}
use Rattle.std.specs.List.{flat_map}
use Rattle.std.specs.Str.{bytes_eq}
use Rattle.std.proofs.lemmas.List.{map-append}
use Rattle.graphql_names.specs.Names.{Bytes}
use Rattle.graphql_written_out.specs.Trees.{Directives, Tree, none, field, inline, height}
use Rattle.graphql_written_out.specs.Fields.{Found, fields, applies}
use Rattle.graphql_written_out.specs.Groups.{under}
use Rattle.graphql_semantics.specs.Evaluation.{highest, sets_below}

module _ {S : Type 0} where
  pub highest-append : (xs ys : List (Tree S)) → highest (xs ++ ys) ≡ max (highest xs) (highest ys)
  highest-append [] ys = omega arith
  highest-append (x ∷ xs) ys = omega (arith, highest-append xs ys)

  abbrev pub top : List (Found S) → ℕ
  top xs = highest (sets_below xs)

  pub top-append : (xs ys : List (Found S)) → top (xs ++ ys) ≡ max (top xs) (top ys)
  top-append xs ys = rw (map-append (λ (x : Found S). x.below) xs ys) (highest-append (sets_below xs) (sets_below ys))

  pub top-under : (xs : List (Found S)) (k : Bytes) → top (under xs k) ≤ top xs
  top-under [] k = omega arith
  top-under (x ∷ xs) k =
      let ih : top (under xs k) ≤ top xs = top-under xs k in
      elim (bytes_eq k x.head.key) as (λ q. top (cond q (x ∷ under xs k) (under xs k)) ≤ max (height x.below) (top xs))
      [ true ↦ omega (arith, ih) | false ↦ omega (arith, ih) ]

module _ {S : Type 0} (drops : Directives S → Bool) (b : Bytes → Bool) where
  top-fields : (t : Tree S) (m : ℕ) → height t ≤ suc m → top (fields drops b t) ≤ m
  top-fields none m h = omega arith
  top-fields (field head directives below rest) m h =
      elim (drops directives) as (λ q. top (cond q (fields drops b rest) (record { head = head; below = below } ∷ fields drops b rest)) ≤ m)
      [ true ↦ top-fields rest m (omega (arith, h)) | false ↦ (let ih : top (fields drops b rest) ≤ m = top-fields rest m (omega (arith, h)) in omega (arith, ih, h)) ]
  top-fields (inline on directives below rest) m h =
      let ih : top (fields drops b rest) ≤ m = top-fields rest m (omega (arith, h)) in
      let ib : top (fields drops b below) ≤ m = top-fields below m (omega (arith, h)) in
      elim (drops directives || not (applies b on)) as (λ q. top (cond q (fields drops b rest) (fields drops b below ++ fields drops b rest)) ≤ m)
      [ true ↦ ih | false ↦ omega (arith, ih, ib, top-append (fields drops b below) (fields drops b rest)) ]

  pub top-found : (ts : List (Tree S)) (m : ℕ) → highest ts ≤ suc m → top (flat_map (fields drops b) ts) ≤ m
  top-found [] m h = omega arith
  top-found (t ∷ ts) m h =
      let one : top (fields drops b t) ≤ m = top-fields t m (omega (arith, h)) in
      let ih : top (flat_map (fields drops b) ts) ≤ m = top-found ts m (omega (arith, h)) in
      omega (arith, one, ih, top-append (fields drops b t) (flat_map (fields drops b) ts))

  no-fields : (t : Tree S) → height t ≤ 0 → fields drops b t ≡ []
  no-fields none h = refl
  no-fields (field head directives below rest) h = absurd (omega (arith, h))
  no-fields (inline on directives below rest) h = absurd (omega (arith, h))

  pub no-found : (ts : List (Tree S)) → highest ts ≤ 0 → flat_map (fields drops b) ts ≡ []
  no-found [] h = refl
  no-found (t ∷ ts) h = rw (no-fields t (omega (arith, h)), no-found ts (omega (arith, h))) refl
