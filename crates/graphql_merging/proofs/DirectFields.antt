-- The fields that stand directly in a set.
use Rattle.std.proofs.Common.{◌≡◌, refl, ap, sym, subst, ◌∙◌, arith, Bool, true, false, List, [], ◌∷◌, ◌++◌, map, Some, None, get_or, ◌⊎◌, inl, inr, lit<}
use Rattle.std.specs.Str.{bytes_eq}
use Rattle.std.proofs.lemmas.Slice.Eq.{bytes_eq-Decides}
use Rattle.std.proofs.lemmas.Bool.{false≢true}
use Rattle.std.specs.List.{Any, Contains}
use Rattle.std.proofs.lemmas.List.Elements.{Contains-get_or, Contains-append_left, Contains-append_right, Contains-append_cases}
use Rattle.graphql_schema.specs.declared.meta.MetaType.{MetaType}
use Rattle.graphql_written_out.specs.Trees.{Head, Tree, none, field, inline}
use Rattle.graphql_rule_errors.specs.Places.{Places}
use Rattle.graphql_text.specs.declared.position.SourcePosition.{SourcePosition}
use Rattle.graphql_merging.specs.Members.{Member, Scope, member, inside, members}
use Rattle.graphql_merging.specs.Merging.{Agree, in_set, apart}
use Rattle.graphql_merging.specs.Sets.{directs_in, directs_of}
use Rattle.graphql_merging.specs.Told.{Names, Tells, nothing, fitting, conflict, AgreeIfOneKey, later_pairs}
use Rattle.graphql_merging.specs.Laws.{DirectConflictsAreNamed, DirectConflictsAreConflicts, NothingToldFits}
use Rattle.graphql_merging.proofs.Standing.{apart-self}
use Rattle.graphql_merging.proofs.Nested.{one-only, in-nothing}

-- elements, by the first and those that follow
abbrev pub In : {X : Type 0} → X → List X → Type 0
In x [] = ⊥
In x (y ∷ ys) = (x ≡ y) ⊎ In x ys

pub to-In : {X : Type 0} (x : X) (xs : List X) → Contains xs x → In x xs
to-In x [] h = in-nothing x h
to-In x (y ∷ ys) h = elim (Contains-append_cases (y ∷ []) ys x h) [ inl i ↦ inl (sym (one-only y x i)) | inr i ↦ inr (to-In x ys i) ]

pub from-In : {X : Type 0} (x : X) (xs : List X) → In x xs → Contains xs x
from-In x [] h = absurd h
from-In x (y ∷ ys) (inl e) = Contains-append_left (y ∷ []) ys x (0, lit< tt, sym e)
from-In x (y ∷ ys) (inr i) = Contains-append_right (y ∷ []) ys x (from-In x ys i)

In-append : {X : Type 0} (x : X) (xs ys : List X) → In x (xs ++ ys) → In x xs ⊎ In x ys
In-append x [] ys h = inr h
In-append x (z ∷ xs) ys (inl e) = inl (inl e)
In-append x (z ∷ xs) ys (inr h) = elim (In-append x xs ys h) [ inl i ↦ inl (inr i) | inr i ↦ inr i ]

any-later : {X : Type 0} (P : X → Type 0) (x : X) (xs : List X) → Any P xs → Any P (x ∷ xs)
any-later P x xs h = let i = Contains-append_right (x ∷ []) xs h.1 (h.0, h.2, h.3) in (i.0, h.1, i.1, i.2, h.4)

module _ {S C : Type 0} (F : Member S C → Member S C → Type 0) where
  -- each pair fits or is named
  pub tells-named : (ps : List (Member S C × Member S C)) (es : Places) → Tells F ps es → (a b : Member S C) → In (a, b) ps → F a b ⊎ Any (λ e. Names e a b) es
  tells-named _ _ nothing a b i = absurd i
  tells-named _ _ (fitting x y ps es f h) a b (inl q) = inl (subst (λ (p : Member S C × Member S C). F p.0 p.1) (sym q) f)
  tells-named _ _ (fitting x y ps es f h) a b (inr i) = tells-named ps es h a b i
  tells-named _ _ (conflict x y e ps es f n h) a b (inl q) = inr (0, e, omega arith, refl, subst (λ (p : Member S C × Member S C). Names e p.0 p.1) (sym q) n)
  tells-named _ _ (conflict x y e ps es f n h) a b (inr i) =
      elim (tells-named ps es h a b i) [ inl g ↦ inl g | inr g ↦ inr (any-later (λ e. Names e a b) e es g) ]

  -- each that is told is a pair that does not fit
  pub tells-sound : (ps : List (Member S C × Member S C)) (es : Places) → Tells F ps es → (e : List SourcePosition) → In e es
      → (a : Member S C) × (b : Member S C) × In (a, b) ps × (F a b → ⊥) × Names e a b
  tells-sound _ _ nothing e i = absurd i
  tells-sound _ _ (fitting x y ps es f h) e i = let r = tells-sound ps es h e i in (r.0, r.1, inr r.2, r.3, r.4)
  tells-sound _ _ (conflict x y d ps es f n h) e (inl q) = (x, y, inl refl, f, subst (λ d. Names d x y) (sym q) n)
  tells-sound _ _ (conflict x y d ps es f n h) e (inr i) = let r = tells-sound ps es h e i in (r.0, r.1, inr r.2, r.3, r.4)

module _ {S C : Type 0} where
  with-In : (x : Member S C) (ys : List (Member S C)) (a b : Member S C) → In (a, b) (map {B = Member S C × Member S C} (λ y. (x, y)) ys) → (a ≡ x) × In b ys
  with-In x [] a b h = absurd h
  with-In x (y ∷ ys) a b (inl e) = (ap (λ (p : Member S C × Member S C). p.0) e, inl (ap (λ (p : Member S C × Member S C). p.1) e))
  with-In x (y ∷ ys) a b (inr h) = let r = with-In x ys a b h in (r.0, inr r.1)

  pub later-In : (ms : List (Member S C)) (a b : Member S C) → In (a, b) (later_pairs ms) → In a ms × In b ms
  later-In [] a b h = absurd h
  later-In (x ∷ ms) a b h = elim (In-append (a, b) (map {B = Member S C × Member S C} (λ y. (x, y)) ms) (later_pairs ms) h) [
    | inl i ↦ (let r = with-In x ms a b i in (inl r.0, inr r.1))
    | inr i ↦ (let r = later-In ms a b i in (inr r.0, inr r.1))
  ]

module _ {S C : Type 0} (types : List (MetaType S C)) where
  direct-member : (scope : Scope S C) (t : Tree S) (a : Member S C) → Contains (directs_in types scope t) a → Contains (members types scope t) a
  direct-member scope none a h = h
  direct-member scope (field head directives below rest) a h = elim (Contains-append_cases (member scope head below) (directs_in types scope rest) a h) [
    | inl i ↦ Contains-append_left (member scope head below) (members types scope rest) a i
    | inr i ↦ Contains-append_right (member scope head below) (members types scope rest) a (direct-member scope rest a i)
  ]
  direct-member scope (inline on directives below rest) a h =
      Contains-append_right (members types (inside types scope on) below) (members types scope rest) a (direct-member scope rest a h)

  member-scope : (scope : Scope S C) (head : Head S) (below : Tree S) (a : Member S C) → Contains (member scope head below) a → scope ≡ Some a.parent
  member-scope None head below a h = in-nothing a h
  member-scope (Some parent) head below a h = ap (λ (m : Member S C). Some m.parent) (one-only _ a h)

  -- the direct fields of a set stand under its type
  direct-scope : (scope : Scope S C) (t : Tree S) (a : Member S C) → Contains (directs_in types scope t) a → scope ≡ Some a.parent
  direct-scope scope none a h = in-nothing a h
  direct-scope scope (field head directives below rest) a h = elim (Contains-append_cases (member scope head below) (directs_in types scope rest) a h) [
    | inl i ↦ member-scope scope head below a i
    | inr i ↦ direct-scope scope rest a i
  ]
  direct-scope scope (inline on directives below rest) a h = direct-scope scope rest a h

  same-parent : (m n : MetaType S C) → Some m ≡ Some n → m ≡ n
  same-parent m n e = cc

  always : S → S → Bool
  always x y = true

  pub direct-apart : (scope : Scope S C) (t : Tree S) (a b : Member S C) → Contains (directs_in types scope t) a → Contains (directs_in types scope t) b → apart a b ≡ false
  direct-apart scope t a b i j =
      let e = same-parent b.parent a.parent (sym (direct-scope scope t b j) ∙ direct-scope scope t a i) in
      ap (λ parent. apart a (record b { parent = parent })) e ∙ apart-self always a

pub direct-conflicts-are-named : (S C : Type 0) (eq : S → S → Bool) → DirectConflictsAreNamed S C eq
direct-conflicts-are-named S C eq types set es told a b i key differ =
    let inn = to-In (a, b) (later_pairs (directs_of types set)) i in
    let both = later-In (directs_of types set) a b inn in
    elim (tells-named (AgreeIfOneKey eq types false) _ es told a b inn) [
      | inl fits ↦ absurd (differ ((fits key).0 (direct-apart types set.scope set.tree a b (from-In a _ both.0) (from-In b _ both.1))))
      | inr named ↦ named
    ]

key-of : {S C : Type 0} (eq : S → S → Bool) (types : List (MetaType S C)) (a b : Member S C) → (AgreeIfOneKey eq types false a b → ⊥) → a.head.key ≡ b.head.key
key-of eq types a b h = cases (bytes_eq a.head.key b.head.key) refl
  where
    cases : (r : Bool) → bytes_eq a.head.key b.head.key ≡ r → a.head.key ≡ b.head.key
    cases true e = (bytes_eq-Decides a.head.key b.head.key).0 e
    cases false e = absurd (h (λ same. absurd (false≢true (sym e ∙ (bytes_eq-Decides a.head.key b.head.key).1 same))))

pub direct-conflicts-are-conflicts : (S C : Type 0) (eq : S → S → Bool) → DirectConflictsAreConflicts S C eq
direct-conflicts-are-conflicts S C eq types set es told k d within =
    let e = get_or es k d in
    let r = tells-sound (AgreeIfOneKey eq types false) _ es told e (to-In e es (Contains-get_or es k d within)) in
    let both = later-In (directs_of types set) r.0 r.1 r.2 in
    let one = direct-member types set.scope set.tree r.0 (from-In r.0 _ both.0) in
    let two = direct-member types set.scope set.tree r.1 (from-In r.1 _ both.1) in
    let key = key-of eq types r.0 r.1 r.3 in
    let differ = λ (agree : Agree eq types false r.0 r.1). r.3 (λ _. agree) in
    (r.0, r.1, (set, (0, lit< tt, refl), (false, in_set r.0 r.1 one two key, λ merge. differ ((merge 1).0))), r.4)

pub nothing-told-fits : (S C : Type 0) (eq : S → S → Bool) → NothingToldFits S C eq
nothing-told-fits S C eq types x ps told a b i = elim (tells-named (AgreeIfOneKey eq types x) ps [] told a b (to-In (a, b) ps i)) [
  | inl fits ↦ fits
  | inr named ↦ absurd (omega (arith, named.2))
]
