-- Groups of lists that differ by repeats.
use Rattle.std.proofs.Common.{◌≡◌, refl, sym, ◌∙◌, ap, subst, Bool, true, false, ◌||◌, List, [], ◌∷◌, ◌++◌, append-nil, append_assoc, cond, ⊎_elim}
use Rattle.std.specs.List.{Contains, list_any}
use Rattle.std.specs.Str.{bytes_eq}
use Rattle.std.specs.Cmp.Lexicographic.{nat_list_eq_equiv}
use Rattle.graphql_names.specs.Names.{Bytes}
use Rattle.graphql_written_out.specs.Fields.{Found}
use Rattle.graphql_written_out.specs.Groups.{keys_after}
use Rattle.graphql_written_out.specs.Repeats.{AddsButRepeats, nothing, kept, again}
use Rattle.graphql_semantics.proofs.Elements.{none-in, cons-cases}

same_name : (k : Bytes) → bytes_eq k k ≡ true
same_name k = nat_list_eq_equiv.refl k

pub any-more : (p : Bytes → Bool) (done more : List Bytes) → list_any p done ≡ true → list_any p (done ++ more) ≡ true
any-more p [] more h = cc
any-more p (d ∷ ds) more h = either (p d) (any-more p ds more) h
  where
    either : (q : Bool) → (list_any p ds ≡ true → list_any p (ds ++ more) ≡ true) → (q || list_any p ds) ≡ true → (q || list_any p (ds ++ more)) ≡ true
    either true ih t = refl
    either false ih t = ih t

pub any-last : (k : Bytes) (done : List Bytes) → list_any (bytes_eq k) (done ++ k ∷ []) ≡ true
any-last k [] = rw (same_name k) refl
any-last k (d ∷ ds) = rw (any-last k ds) (or_true (bytes_eq k d))
  where
    or_true : (q : Bool) → (q || true) ≡ true
    or_true true = refl
    or_true false = refl

module _ {S : Type 0} where
  -- a field whose key is done is passed over
  done-skips : (zs xs : List (Found S)) (x : Found S) (done : List Bytes) → list_any (bytes_eq x.head.key) done ≡ true
      → keys_after done (zs ++ xs) ≡ keys_after done (zs ++ x ∷ xs)
  done-skips [] xs x done t = rw t refl
  done-skips (z ∷ zs) xs x done t =
      elim (list_any (bytes_eq z.head.key) done) as (λ q. cond q (keys_after done (zs ++ xs)) (z.head.key ∷ keys_after (done ++ z.head.key ∷ []) (zs ++ xs))
      ≡ cond q (keys_after done (zs ++ x ∷ xs)) (z.head.key ∷ keys_after (done ++ z.head.key ∷ []) (zs ++ x ∷ xs))) [
        | true ↦ done-skips zs xs x done t
        | false ↦ ap (λ ks. z.head.key ∷ ks) (done-skips zs xs x (done ++ z.head.key ∷ []) (any-more (bytes_eq x.head.key) done (z.head.key ∷ []) t))
      ]

  drop-again : (zs xs : List (Found S)) (x : Found S) (done : List Bytes) → Contains zs x → keys_after done (zs ++ xs) ≡ keys_after done (zs ++ x ∷ xs)
  drop-again [] xs x done c = none-in x c
  drop-again (z ∷ zs) xs x done c = cases (drop-again zs xs x) (list_any (bytes_eq z.head.key) done) refl
    where
      cases : ((other : List Bytes) → Contains zs x → keys_after other (zs ++ xs) ≡ keys_after other (zs ++ x ∷ xs)) → (q : Bool) → list_any (bytes_eq z.head.key) done ≡ q
          → cond q (keys_after done (zs ++ xs)) (z.head.key ∷ keys_after (done ++ z.head.key ∷ []) (zs ++ xs))
          ≡ cond q (keys_after done (zs ++ x ∷ xs)) (z.head.key ∷ keys_after (done ++ z.head.key ∷ []) (zs ++ x ∷ xs))
      cases ih true t = ⊎_elim
          (λ e. done-skips zs xs x done (subst (λ (y : Found S). list_any (bytes_eq y.head.key) done ≡ true) e t))
          (λ d. ih done d) (cons-cases z x zs c)
      cases ih false t = ap (λ ks. z.head.key ∷ ks) (⊎_elim
          (λ e. done-skips zs xs x (done ++ z.head.key ∷ []) (subst (λ (y : Found S). list_any (bytes_eq y.head.key) (done ++ z.head.key ∷ []) ≡ true) e (any-last z.head.key done)))
          (λ d. ih (done ++ z.head.key ∷ []) d) (cons-cases z x zs c))

  -- the keys are the same, in the same order
  pub adds-keys : (done : List Bytes) {old xs new : List (Found S)} → AddsButRepeats (Found S) old xs new → keys_after done new ≡ keys_after done (old ++ xs)
  adds-keys done (nothing {old = old}) = ap (keys_after done) (sym (append-nil old))
  adds-keys done (kept {old = old} {xs = xs} x a) = adds-keys done a ∙ ap (keys_after done) (append_assoc old (x ∷ []) xs)
  adds-keys done (again {old = old} {xs = xs} x c a) = adds-keys done a ∙ drop-again old xs x done c
