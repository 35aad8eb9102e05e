-- What is told, step by step.
use Rattle.std.proofs.Common.{◌≡◌, refl, ap, sym, subst, ◌∙◌, ℕ, ◌+◌, ◌<◌, Bool, ◌||◌, List, [], ◌∷◌, ◌++◌, map, take, drop, length, get_or, append-nil, append_assoc, add-one, Option, Some, None}
use Rattle.std.specs.List.{flat_map}
use Rattle.std.proofs.Math.Seq.{drop-cons}
use Rattle.std.proofs.lemmas.List.{take_more, map-append}
use Rattle.graphql_tree.specs.Arguments.{Argument}
use Rattle.graphql_schema.specs.declared.meta.MetaType.{MetaType}
use Rattle.graphql_names.specs.Names.{Bytes}
use Rattle.graphql_rule_errors.specs.Places.{Places}
use Rattle.graphql_text.specs.declared.position.SourcePosition.{SourcePosition}
use Rattle.graphql_merging.specs.declared.difference.Difference.{Difference}
use Rattle.graphql_merging.specs.declared.difference.Difference.TheVariants as difference
use Rattle.graphql_merging.specs.Members.{Member, declared, declared_type}
use Rattle.graphql_merging.specs.Merging.{SameArguments, SameShapes, Agree, apart}
use Rattle.graphql_merging.specs.Told.{Names, Tells, nothing, fitting, conflict, AddsErrors, Differs, DiffersAsWritten, later_pairs}

module _ {S C : Type 0} (F : Member S C → Member S C → Type 0) where
  abbrev Pairs : Type 0
  Pairs = List (Member S C × Member S C)

  tells-append : (ps qs : Pairs) (es fs : Places) → Tells F ps es → Tells F qs fs → Tells F (ps ++ qs) (es ++ fs)
  tells-append _ qs _ fs nothing t = t
  tells-append _ qs _ fs (fitting a b ps es f h) t = fitting a b (ps ++ qs) (es ++ fs) f (tells-append ps qs es fs h t)
  tells-append _ qs _ fs (conflict a b e ps es f n h) t = conflict a b e (ps ++ qs) (es ++ fs) f n (tells-append ps qs es fs h t)

  pub adds-nothing : (old : Places) → AddsErrors F [] old old
  adds-nothing old = ([], sym (append-nil old), nothing)

  pub adds-both : (ps qs : Pairs) (old mid new : Places) → AddsErrors F ps old mid → AddsErrors F qs mid new → AddsErrors F (ps ++ qs) old new
  adds-both ps qs old mid new f g =
      (f.0 ++ g.0, g.1 ∙ ap (λ xs. xs ++ g.0) f.1 ∙ append_assoc old f.0 g.0, tells-append ps qs f.0 g.0 f.2 g.2)

  pub adds-one : (a b : Member S C) (old new : Places) (e : List SourcePosition) → (F a b → ⊥) → Names e a b → new ≡ old ++ e ∷ [] → AddsErrors F ((a, b) ∷ []) old new
  adds-one a b old new e f n is = (e ∷ [], is, conflict a b e [] [] f n nothing)

  pub adds-none : (a b : Member S C) (old : Places) → F a b → AddsErrors F ((a, b) ∷ []) old old
  adds-none a b old r = ([], sym (append-nil old), fitting a b [] [] r nothing)

module _ {S C : Type 0} (eq : S → S → Bool) (types : List (MetaType S C)) where
  pub differing : (x : Bool) (a b : Member S C) (d : Difference) → Differs eq types x a b (Some d) → Agree eq types x a b → ⊥
  differing x a b difference.Names h agree = h.1 ((agree.0 h.0).0)
  differing x a b difference.Arguments h agree = h.2 ((agree.0 h.0).1)
  differing x a b difference.Types h agree = h agree.1

  abbrev Written : Bool → Member S C → Member S C → Option Difference → Type 0
  Written q a b = DiffersAsWritten eq q a.head.name b.head.name a.head.arguments b.head.arguments

  -- what differs as it is written
  pub as-written : (q x : Bool) (a b : Member S C) (d : Difference) → q ≡ (x || apart a b) → Written q a b (Some d) → Differs eq types x a b (Some d)
  as-written q x a b difference.Names e h = (sym e ∙ h.0, h.1)
  as-written q x a b difference.Arguments e h = (sym e ∙ h.0, h.1, h.2)
  as-written q x a b difference.Types e h = absurd h

  pub alike : (q x : Bool) (a b : Member S C) → q ≡ (x || apart a b) → Written q a b None → SameShapes types (declared a) (declared b) → Differs eq types x a b None
  alike q x a b e h shapes = ((λ f. h (e ∙ f)), shapes)

pub lent-arguments : {S : Type 0} (eq : S → S → Bool) {xs ys us vs : List (Argument S)} → xs ≡ us → ys ≡ vs → SameArguments eq xs ys → SameArguments eq us vs
lent-arguments eq {xs = xs} {us = us} {vs = vs} e f same = subst (λ zs. SameArguments eq zs vs) e (subst (λ zs. SameArguments eq xs zs) f same)

-- pairs of what a list's items are seen as
module _ {A M : Type 0} (s : A → M) where
  pub map-twice : (x : M) (xs : List A) → map {B = M × M} (λ y. (x, s y)) xs ≡ map {B = M × M} (λ y. (x, y)) (map s xs)
  map-twice x [] = refl
  map-twice x (y ∷ xs) = (λ i. (x, s y) ∷ map-twice x xs i)

module _ {S C A : Type 0} (F : Member S C → Member S C → Type 0) (s : A → Member S C) where
  -- one more of a field's others
  pub adds-more : (x : Member S C) (ys : List A) (i : ℕ) (y : A) (old mid new : Places) → i < length ys → y ≡ get_or ys i y
      → AddsErrors F (map (λ z. (x, s z)) (take i ys)) old mid → AddsErrors F ((x, s y) ∷ []) mid new → AddsErrors F (map (λ z. (x, s z)) (take (i + 1) ys)) old new
  adds-more x ys i y old mid new within is f g =
      let grown : map (λ z. (x, s z)) (take i ys) ++ (x, s y) ∷ [] ≡ map (λ z. (x, s z)) (take (i + 1) ys) =
      sym (ap (map (λ z. (x, s z))) (take_more ys i y within ∙ ap (λ z. take i ys ++ z ∷ []) (sym is)) ∙ map-append (λ z. (x, s z)) (take i ys) (y ∷ [])) in
      subst (λ ps. AddsErrors F ps old new) grown (adds-both F _ _ old mid new f g)

  -- a field with those that follow it, and then those with one another
  pub adds-rest : (ys : List A) (i : ℕ) (y : A) (old mid new : Places) → i < length ys → y ≡ get_or ys i y
      → AddsErrors F (map (λ z. (s y, s z)) (drop (i + 1) ys)) old mid → AddsErrors F (later_pairs (map s (drop (i + 1) ys))) mid new
      → AddsErrors F (later_pairs (map s (drop i ys))) old new
  adds-rest ys i y old mid new within is f g =
      let cons : y ∷ drop (i + 1) ys ≡ drop i ys = (λ j. is j ∷ drop (add-one i j) ys) ∙ sym (drop-cons ys i y within) in
      let twice = map-twice s (s y) (drop (i + 1) ys) in
      subst (λ zs. AddsErrors F (later_pairs (map s zs)) old new) cons
      (adds-both F _ _ old mid new (subst (λ ps. AddsErrors F ps old mid) twice f) g)

pub shapes-of : {S C : Type 0} (types : List (MetaType S C)) (p q : MetaType S C) {m n u v : Bytes} → m ≡ u → n ≡ v
    → SameShapes types (declared_type p m) (declared_type q n) → SameShapes types (declared_type p u) (declared_type q v)
shapes-of types p q {n = n} {u = u} e f same =
    subst (λ z. SameShapes types (declared_type p u) (declared_type q z)) f (subst (λ z. SameShapes types (declared_type p z) (declared_type q n)) e same)

module _ {S C A : Type 0} (F : Member S C → Member S C → Type 0) (s : A → Member S C) (rights : List A) where
  abbrev pub With : A → List (Member S C × Member S C)
  With left = map (λ right. (s left, s right)) rights

  with-append : (xs ys : List A) → flat_map With (xs ++ ys) ≡ flat_map With xs ++ flat_map With ys
  with-append [] ys = refl
  with-append (x ∷ xs) ys = ap (λ rest. With x ++ rest) (with-append xs ys) ∙ sym (append_assoc (With x) (flat_map With xs) (flat_map With ys))

  -- one more field with all others
  pub adds-left : (xs : List A) (i : ℕ) (x : A) (old mid new : Places) → i < length xs → x ≡ get_or xs i x
      → AddsErrors F (flat_map With (take i xs)) old mid → AddsErrors F (With x) mid new → AddsErrors F (flat_map With (take (i + 1) xs)) old new
  adds-left xs i x old mid new within is f g =
      let one : flat_map With (x ∷ []) ≡ With x = append-nil (With x) in
      let grown : flat_map With (take i xs) ++ With x ≡ flat_map With (take (i + 1) xs) =
      (λ j. flat_map With (take i xs) ++ sym one j) ∙ sym (with-append (take i xs) (x ∷ []))
      ∙ sym (ap (flat_map With) (take_more xs i x within ∙ ap (λ z. take i xs ++ z ∷ []) (sym is))) in
      subst (λ ps. AddsErrors F ps old new) grown (adds-both F _ _ old mid new f g)
