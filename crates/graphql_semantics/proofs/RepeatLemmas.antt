-- Lists that differ by repeats.
use Rattle.std.proofs.Common.{◌⊎◌, ⊎_elim, inl, inr, ◌≡◌, refl, sym, ◌∙◌, ap, subst, Bool, true, false, List, [], ◌∷◌, ◌++◌, map, append-nil, append_assoc, cond, Option, Some, None}
use Rattle.std.specs.List.{Contains, filter, flat_map}
use Rattle.std.proofs.lemmas.List.{map-append}
use Rattle.std.proofs.lemmas.Grind.{flat_map-append}
use Rattle.std.proofs.lemmas.List.Elements.{filter-append, Contains-append_left, Contains-append_right, Contains-push, Contains-push_cases, Contains-append_cases}
use Rattle.graphql_written_out.specs.Repeats.{AddsButRepeats, nothing, kept, again, Repeats}
use Rattle.graphql_semantics.proofs.Elements.{here, later, none-in, cons-cases}

-- the first of a list
abbrev pub first : {A : Type 0} → List A → Option A
first [] = None
first (x ∷ xs) = Some x

module _ {A : Type 0} where
  -- what stood there stays
  pub adds-old : (y : A) {old xs new : List A} → AddsButRepeats A old xs new → Contains old y → Contains new y
  adds-old y nothing h = h
  adds-old y (kept {old = old} x a) h = adds-old y a (Contains-append_left old (x ∷ []) y h)
  adds-old y (again x c a) h = adds-old y a h

  -- what is added is there
  pub adds-new : (y : A) {old xs new : List A} → AddsButRepeats A old xs new → Contains xs y → Contains new y
  adds-new y nothing h = none-in y h
  adds-new y (kept {old = old} {xs = xs} x a) h =
      ⊎_elim (λ e. adds-old y a (subst (λ z. Contains (old ++ x ∷ []) z) e (Contains-push old x))) (λ c. adds-new y a c) (cons-cases x y xs h)
  adds-new y (again {xs = xs} {new = new} x c a) h =
      ⊎_elim (λ e. subst (λ z. Contains new z) e (adds-old x a c)) (λ d. adds-new y a d) (cons-cases x y xs h)

  -- one list after another
  pub adds-append : (zs : List A) (last : List A) {old xs new : List A} → AddsButRepeats A old xs new → AddsButRepeats A new zs last → AddsButRepeats A old (xs ++ zs) last
  adds-append zs last nothing b = b
  adds-append zs last (kept x a) b = kept x (adds-append zs last a b)
  adds-append zs last (again x c a) b = again x c (adds-append zs last a b)

  -- repeats alone add nothing
  pub adds-none : (old xs : List A) → ((y : A) → Contains xs y → Contains old y) → AddsButRepeats A old xs old
  adds-none old [] h = nothing
  adds-none old (x ∷ xs) h = again x (h x (here x xs)) (adds-none old xs (λ y c. h y (later x y xs c)))

  -- all may be kept
  pub adds-all : (old xs : List A) → AddsButRepeats A old xs (old ++ xs)
  adds-all old [] = subst (λ zs. AddsButRepeats A old [] zs) (sym (append-nil old)) nothing
  adds-all old (x ∷ xs) = kept x (subst (λ zs. AddsButRepeats A (old ++ x ∷ []) xs zs) (append_assoc old (x ∷ []) xs) (adds-all (old ++ x ∷ []) xs))

  -- through a test, a function, and a function to lists
  module _ (p : A → Bool) where
    filter-kept : (x : A) (old xs new : List A) (q : Bool) → p x ≡ q → AddsButRepeats A (filter p old ++ filter p (x ∷ [])) (filter p xs) (filter p new)
        → AddsButRepeats A (filter p old) (filter p (x ∷ xs)) (filter p new)
    filter-kept x old xs new true t a =
        subst (λ w. AddsButRepeats A (filter p old) (cond w (x ∷ filter p xs) (filter p xs)) (filter p new)) (sym t)
        (kept x (subst (λ w. AddsButRepeats A (filter p old ++ cond w (x ∷ []) []) (filter p xs) (filter p new)) t a))
    filter-kept x old xs new false t a =
        subst (λ w. AddsButRepeats A (filter p old) (cond w (x ∷ filter p xs) (filter p xs)) (filter p new)) (sym t)
        (subst (λ zs. AddsButRepeats A zs (filter p xs) (filter p new)) (append-nil (filter p old))
        (subst (λ w. AddsButRepeats A (filter p old ++ cond w (x ∷ []) []) (filter p xs) (filter p new)) t a))

    filter-contains : (x : A) (xs : List A) → p x ≡ true → Contains xs x → Contains (filter p xs) x
    filter-contains x [] t h = none-in x h
    filter-contains x (y ∷ ys) t h =
        ⊎_elim
        (λ e. subst (λ z. Contains (filter p (z ∷ ys)) x) (sym e) (subst (λ w. Contains (cond w (x ∷ filter p ys) (filter p ys)) x) (sym t) (here x (filter p ys))))
        (λ c. elim (p y) as (λ w. Contains (cond w (y ∷ filter p ys) (filter p ys)) x)
        [ true ↦ later y x (filter p ys) (filter-contains x ys t c) | false ↦ filter-contains x ys t c ])
        (cons-cases y x ys h)

    filter-again : (x : A) (old xs new : List A) (q : Bool) → p x ≡ q → Contains old x → AddsButRepeats A (filter p old) (filter p xs) (filter p new)
        → AddsButRepeats A (filter p old) (filter p (x ∷ xs)) (filter p new)
    filter-again x old xs new true t c a =
        subst (λ w. AddsButRepeats A (filter p old) (cond w (x ∷ filter p xs) (filter p xs)) (filter p new)) (sym t) (again x (filter-contains x old t c) a)
    filter-again x old xs new false t c a =
        subst (λ w. AddsButRepeats A (filter p old) (cond w (x ∷ filter p xs) (filter p xs)) (filter p new)) (sym t) a

    pub adds-filter : {old xs new : List A} → AddsButRepeats A old xs new → AddsButRepeats A (filter p old) (filter p xs) (filter p new)
    adds-filter nothing = nothing
    adds-filter (kept {old = old} {xs = xs} {new = new} x a) =
        filter-kept x old xs new (p x) refl (subst (λ zs. AddsButRepeats A zs (filter p xs) (filter p new)) (filter-append p old (x ∷ [])) (adds-filter a))
    adds-filter (again {old = old} {xs = xs} {new = new} x c a) = filter-again x old xs new (p x) refl c (adds-filter a)

module _ {A B : Type 0} (f : A → B) where
  map-contains : (x : A) (xs : List A) → Contains xs x → Contains (map f xs) (f x)
  map-contains x [] h = none-in x h
  map-contains x (y ∷ ys) h =
      ⊎_elim (λ e. subst (λ z. Contains (f z ∷ map f ys) (f x)) (sym e) (here (f x) (map f ys))) (λ c. later (f y) (f x) (map f ys) (map-contains x ys c)) (cons-cases y x ys h)

  pub adds-map : {old xs new : List A} → AddsButRepeats A old xs new → AddsButRepeats B (map f old) (map f xs) (map f new)
  adds-map nothing = nothing
  adds-map (kept {old = old} {xs = xs} {new = new} x a) = kept (f x) (subst (λ zs. AddsButRepeats B zs (map f xs) (map f new)) (map-append f old (x ∷ [])) (adds-map a))
  adds-map (again {old = old} x c a) = again (f x) (map-contains x old c) (adds-map a)

module _ {A B : Type 0} (f : A → List B) where
  flat-contains : (x : A) (xs : List A) (y : B) → Contains xs x → Contains (f x) y → Contains (flat_map f xs) y
  flat-contains x [] y h c = none-in x h
  flat-contains x (z ∷ zs) y h c =
      ⊎_elim
      (λ e. Contains-append_left (f z) (flat_map f zs) y (subst (λ w. Contains (f w) y) (sym e) c))
      (λ d. Contains-append_right (f z) (flat_map f zs) y (flat-contains x zs y d c))
      (cons-cases z x zs h)

  pub flat-last : (x : A) (old : List A) → flat_map f (old ++ x ∷ []) ≡ flat_map f old ++ f x
  flat-last x old = flat_map-append f old (x ∷ []) ∙ ap (λ zs. flat_map f old ++ zs) (append-nil (f x))

  pub adds-flat : {old xs new : List A} → AddsButRepeats A old xs new → AddsButRepeats B (flat_map f old) (flat_map f xs) (flat_map f new)
  adds-flat nothing = nothing
  adds-flat (kept {old = old} {xs = xs} {new = new} x a) =
      adds-append (flat_map f xs) (flat_map f new) (adds-all (flat_map f old) (f x)) (subst (λ zs. AddsButRepeats B zs (flat_map f xs) (flat_map f new)) (flat-last x old) (adds-flat a))
  adds-flat (again {old = old} {xs = xs} {new = new} x c a) =
      adds-append (flat_map f xs) (flat_map f new) (adds-none (flat_map f old) (f x) (λ y d. flat-contains x old y c d)) (adds-flat a)

module _ {A : Type 0} where
  first-again : (x : A) (old xs : List A) → Contains old x → first (old ++ xs) ≡ first (old ++ x ∷ xs)
  first-again x [] xs h = none-in x h
  first-again x (y ∷ ys) xs h = refl

  pub adds-first : {old xs new : List A} → AddsButRepeats A old xs new → first new ≡ first (old ++ xs)
  adds-first (nothing {old = old}) = ap first (sym (append-nil old))
  adds-first (kept {old = old} {xs = xs} x a) = adds-first a ∙ ap first (append_assoc old (x ∷ []) xs)
  adds-first (again {old = old} {xs = xs} x c a) = adds-first a ∙ first-again x old xs c
