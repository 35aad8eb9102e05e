-- Fields of one class are alike, so they agree; numbers tell of one key and of one parent.
use Rattle.std.proofs.Common.{◌≡◌, refl, ap, sym, subst, ◌∙◌, arith, ℕ, ◌+◌, ◌-◌, ◌<◌, ◌≤◌, length, Bool, true, false, not, ◌&&◌, List, [], ◌∷◌, Option, Some, None, eqb, position, if◌then◌else◌, get_or, slice_get, inl, inr}
use Rattle.std.specs.List.{Contains}
use Rattle.std.specs.Option.{is_some, option_map_or}
use Rattle.std.specs.Str.{bytes_eq}
use Rattle.std.proofs.lemmas.Bool.{cases_lt, false≢true}
use Rattle.std.proofs.lemmas.Bool.Decides.{eqb_tells}
use Rattle.std.proofs.lemmas.Option.{none-some, slice_get-get_or, slice_get_past}
use Rattle.std.proofs.lemmas.List.Quantifiers.{position-Some}
use Rattle.std.proofs.lemmas.Slice.Eq.{bytes_eq-Decides}
use Rattle.graphql_values.specs.Laws.{SameByAThird}
use Rattle.graphql_schema.specs.declared.meta.MetaType.{MetaType}
use Rattle.graphql_schema.specs.Types.{TypeOf}
use Rattle.graphql_schema.specs.Lookups.{own_name, is_object}
use Rattle.graphql_tree.specs.declared.document.Fragment.{Fragment}
use Rattle.graphql_merging.specs.Members.{declared}
use Rattle.graphql_merging.specs.Merging.{SameField, SameShapes, Agree, are_different_objects}
use Rattle.graphql_merging.specs.Selected.{member_of}
use Rattle.graphql_merging.specs.declared.table.SetTable.{SetTable}
use Rattle.graphql_merging.specs.declared.table.WrittenField.{WrittenField}
use Rattle.graphql_merging.specs.declared.table.WrittenSet.{WrittenSet}
use Rattle.graphql_merging.proofs.Nested.{one-only, in-nothing}
use Rattle.graphql_merging.proofs.Standing.{agreement-is-mutual}
use Rattle.graphql_bundles.specs.Groups.{fields_in, is_declared, key_at, object_name}
use Rattle.graphql_bundles.proofs.Alike.{same-field-by-a-third, shapes-third}
use Rattle.graphql_rules_merging.specs.Classes.{AgreeAnywhere, HasClass, HasPlace, IsNumbered, AreNumbered, AreAllNumbered, numbers_of}
use Rattle.graphql_rules_merging.specs.declared.classes.Draft.{Draft}
use Rattle.graphql_rules_merging.specs.declared.field_numbers.FieldNumbers.{FieldNumbers}

-- a parent is not another object type than itself
not-other : {S C : Type 0} (m : MetaType S C) → are_different_objects m m ≡ false
not-other m = cases (is_object m) (bytes_eq (own_name m) (own_name m)) ((bytes_eq-Decides (own_name m) (own_name m)).1 refl)
  where
    cases : (o q : Bool) → q ≡ true → ((o && o) && not q) ≡ false
    cases true q e = ap not e
    cases false q e = refl

one-text : {x y : List ℕ} → Some x ≡ Some y → x ≡ y
one-text e = cc

-- a number that is there is one more than the place of the text
place-known : (texts : List (List ℕ)) (n : ℕ) (text : Option (List ℕ)) → (n ≡ 0 → ⊥) → HasPlace texts n text
    → (x : List ℕ) × (text ≡ Some x) × (position (bytes_eq x) texts ≡ Some (n - 1))
place-known texts n text some (inl none) = absurd (some none)
place-known texts n text some (inr place) = place

-- two texts stand at one place if they are the same
one-place : (texts : List (List ℕ)) (m n : ℕ) (x y : List ℕ) → (m ≡ 0 → ⊥) → (n ≡ 0 → ⊥)
    → position (bytes_eq x) texts ≡ Some (m - 1) → position (bytes_eq y) texts ≡ Some (n - 1) → eqb m n ≡ bytes_eq x y
one-place texts m n x y some any at on = elim (eqb_tells m n) [
  | inl e ↦ e.0 ∙ sym ((bytes_eq-Decides x y).1 (same e.1))
  | inr e ↦ e.0 ∙ sym (unlike (bytes_eq x y) refl e.1)
]
  where
    there : (z : List ℕ) (k : ℕ) → position (bytes_eq z) texts ≡ Some k → z ≡ get_or texts k x
    there z k e = (bytes_eq-Decides z (get_or texts k x)).0 (position-Some (bytes_eq z) texts k x e).1

    same : m ≡ n → x ≡ y
    same e = there x (m - 1) at ∙ ap (λ k. get_or texts (k - 1) x) e ∙ sym (there y (n - 1) on)

    one-number : (k l : ℕ) → Some k ≡ Some l → k ≡ l
    one-number k l e = cc

    met : x ≡ y → m ≡ n
    met e =
        let places = one-number (m - 1) (n - 1) (sym at ∙ ap (λ z. position (bytes_eq z) texts) e ∙ on) in
        omega (arith, places, some, any)

    unlike : (b : Bool) → bytes_eq x y ≡ b → (m ≡ n → ⊥) → b ≡ false
    unlike true e other = absurd (other (met ((bytes_eq-Decides x y).0 e)))
    unlike false e other = refl

alike-texts : (k l x y : List ℕ) → k ≡ x → l ≡ y → bytes_eq k l ≡ bytes_eq x y
alike-texts k l x y e f = ap (λ z. bytes_eq z l) e ∙ ap (bytes_eq x) f

-- of two object types it is asked whether their names differ
other-objects : {S C : Type 0} (m n : MetaType S C) (x y : List ℕ) → object_name m ≡ Some x → object_name n ≡ Some y
    → are_different_objects m n ≡ not (bytes_eq x y)
other-objects m n x y e f = cases (is_object m) (is_object n) (own_name m) (own_name n) e f
  where
    cases : (a b : Bool) (k l : List ℕ) → (if a then Some k else None) ≡ Some x → (if b then Some l else None) ≡ Some y
        → ((a && b) && not (bytes_eq k l)) ≡ not (bytes_eq x y)
    cases true true k l e f = ap not (alike-texts k l x y (one-text e) (one-text f))
    cases true false k l e f = absurd (none-some y f)
    cases false b k l e f = absurd (none-some x e)

module _ {S C : Type 0} (eq : S → S → Bool) (types : List (MetaType S C)) where
  -- as if both had one parent names and arguments are compared, and shapes as they are
  pub alike-by : (f g : WrittenField S C) → key_at f ≡ key_at g
      → Agree eq types false (member_of [] (record { parent = g.selected.parent; field = f.selected.field })) (member_of [] g.selected)
      → Agree eq types true (member_of [] f.selected) (member_of [] g.selected) → AgreeAnywhere eq types f g
  alike-by f g key written shapes = record { key = key; field = written.0 (not-other g.selected.parent.now); shape = shapes.1 }

  -- alike, they agree
  pub alike-agree : (fragments : List (Fragment S)) (x : Bool) (f g : WrittenField S C) → AgreeAnywhere eq types f g
      → Agree eq types x (member_of fragments f.selected) (member_of fragments g.selected)
  alike-agree fragments x f g alike = ((λ _. alike.field), alike.shape)

  module _ (third : SameByAThird eq) where
    known : (o : Option TypeOf) → is_some o ≡ true → (s : TypeOf) × (o ≡ Some s)
    known None e = absurd (false≢true e)
    known (Some s) e = (s, refl)

    -- two that are like a third, which is declared
    alike-third : (h f g : WrittenField S C) → is_declared h ≡ true → AgreeAnywhere eq types h f → AgreeAnywhere eq types h g → AgreeAnywhere eq types f g
    alike-third h f g is one other =
        let s = known (declared (member_of [] h.selected)) is in record {
          key = sym one.key ∙ other.key;
          field = same-field-by-a-third S C eq third types (member_of [] f.selected) (member_of [] g.selected) (member_of [] h.selected) (turned h f one.field) (turned h g other.field);
          shape = shapes-third types (declared (member_of [] f.selected)) (declared (member_of [] g.selected)) s.0 (of h f s.0 s.1 one.shape) (of h g s.0 s.1 other.shape);
        }
      where
        turned : (h f : WrittenField S C) → SameField eq types (member_of [] h.selected) (member_of [] f.selected) → SameField eq types (member_of [] f.selected) (member_of [] h.selected)
        turned h f same = (sym same.0, (same.1.1, same.1.0))

        of : (h f : WrittenField S C) (s : TypeOf) → declared (member_of [] h.selected) ≡ Some s
            → SameShapes types (declared (member_of [] h.selected)) (declared (member_of [] f.selected)) → SameShapes types (declared (member_of [] f.selected)) (Some s)
        of h f s e shape =
            subst (SameShapes types (declared (member_of [] f.selected))) e
            (agreement-is-mutual S C eq types true (member_of [] h.selected) (member_of [] f.selected) ((λ q. absurd (false≢true (sym q))), shape)).1

    -- what is so of each field by itself the numbers of each two tell
    pub numbers-tell : (table : SetTable S C) (draft : Draft S C)
        → ((p : ℕ) (f : WrittenField S C) → Contains (fields_in table p) f → IsNumbered eq types draft f) → AreAllNumbered eq types table draft.numbers.items
    numbers-tell table draft has p q f g i j =
        let one = has p f i in
        let other = has q g j in
        let m = numbers_of draft.numbers.items f in
        let n = numbers_of draft.numbers.items g in
        record {
          keys = λ some any.
              let x = place-known draft.keys.keys m.key (Some (key_at f)) some one.key in
              let y = place-known draft.keys.keys n.key (Some (key_at g)) any other.key in
              one-place draft.keys.keys m.key n.key x.0 y.0 some any x.2 y.2 ∙ sym (alike-texts (key_at f) (key_at g) x.0 y.0 (one-text x.1) (one-text y.1));
          classes = of-class f g m.class n.class one.class other.class;
          parents = λ some any.
              let x = place-known draft.parents.keys m.parent (object_name f.selected.parent.now) some one.parent in
              let y = place-known draft.parents.keys n.parent (object_name g.selected.parent.now) any other.parent in
              ap not (one-place draft.parents.keys m.parent n.parent x.0 y.0 some any x.2 y.2) ∙ sym (other-objects f.selected.parent.now g.selected.parent.now x.0 y.0 x.1 y.1);
        }
      where
        one-head : (h k : WrittenField S C) → Some h ≡ Some k → h ≡ k
        one-head h k e = cc

        of-class : (f g : WrittenField S C) (m n : ℕ) → HasClass eq types m draft.heads f → HasClass eq types n draft.heads g
            → m ≡ n → (m ≡ 0 → ⊥) → AgreeAnywhere eq types f g
        of-class f g m n (inl none) other same some = absurd (some none)
        of-class f g m n (inr one) (inl none) same some = absurd (some (same ∙ none))
        of-class f g m n (inr one) (inr other) same some =
            let head = one-head one.0 other.0 (sym one.1 ∙ ap (λ c. slice_get draft.heads (c - 1)) same ∙ other.1) in
            alike-third one.0 f g one.3 one.2 (subst (λ (h : WrittenField S C). AgreeAnywhere eq types h g) (sym head) other.2)

  -- what is seen of the numbers of a field
  pub numbered-by : (draft : Draft S C) (f : WrittenField S C) (m : FieldNumbers) (key : List ℕ) (parent : Option (List ℕ)) (heads : List (WrittenField S C))
      → m ≡ numbers_of draft.numbers.items f → key ≡ key_at f → parent ≡ object_name f.selected.parent.now → heads ≡ draft.heads
      → HasPlace draft.keys.keys m.key (Some key) → HasPlace draft.parents.keys m.parent parent → HasClass eq types m.class heads f → IsNumbered eq types draft f
  numbered-by draft f m key parent heads e k p h keyed placed classed = record {
    key = subst (λ n. HasPlace draft.keys.keys n (Some (key_at f))) (ap (λ (n : FieldNumbers). n.key) e) (subst (λ x. HasPlace draft.keys.keys m.key (Some x)) k keyed);
    class = subst (λ n. HasClass eq types n draft.heads f) (ap (λ (n : FieldNumbers). n.class) e) (subst (λ hs. HasClass eq types m.class hs f) h classed);
    parent = subst (λ n. HasPlace draft.parents.keys n (object_name f.selected.parent.now)) (ap (λ (n : FieldNumbers). n.parent) e)
        (subst (HasPlace draft.parents.keys m.parent) p placed);
  }

  -- no numbers tell nothing
  pub no-numbers : (table : SetTable S C) → AreAllNumbered eq types table []
  no-numbers table p q f g i j = record { keys = λ some any. absurd (some refl); classes = λ same some. absurd (some refl); parents = λ some any. absurd (some refl) }

-- what holds of the fields of all sets of a table
module _ {S C : Type 0} (table : SetTable S C) (P : WrittenField S C → Type 0) where
  pub rows-more : (i : ℕ) (set : WrittenSet S C) → i < length table.sets → set ≡ get_or table.sets i set
      → ((p : ℕ) (f : WrittenField S C) → p < i → Contains (fields_in table p) f → P f) → ((f : WrittenField S C) → Contains set.fields f → P f)
      → (p : ℕ) (f : WrittenField S C) → p < i + 1 → Contains (fields_in table p) f → P f
  rows-more i set within is before here p f less j = elim (eqb_tells p i) [
    | inl e ↦ here f (subst (λ fs. Contains fs f) (at p e.1) j)
    | inr e ↦ before p f (smaller p i less e.1) j
  ]
    where
      smaller : (p i : ℕ) → p < i + 1 → (p ≡ i → ⊥) → p < i
      smaller p i less e = omega (arith, less, e)

      at : (p : ℕ) → p ≡ i → fields_in table p ≡ set.fields
      at p e = ap (fields_in table) e ∙ ap (λ o. option_map_or (λ (s : WrittenSet S C). s.fields) o []) (slice_get-get_or table.sets i set within)
          ∙ ap (λ (s : WrittenSet S C). s.fields) (sym is)

  pub rows-all : (i : ℕ) → length table.sets ≤ i → ((p : ℕ) (f : WrittenField S C) → p < i → Contains (fields_in table p) f → P f)
      → (p : ℕ) (f : WrittenField S C) → Contains (fields_in table p) f → P f
  rows-all i past has p f j = elim (cases_lt p i) [
    | inl less ↦ has p f less j
    | inr more ↦ in-nothing f (subst (λ fs. Contains fs f) (ap (λ o. option_map_or (λ (s : WrittenSet S C). s.fields) o []) (slice_get_past table.sets p (omega (arith, past, more)))) j)
  ]

-- the two of one pair
pub numbered-one : {S C : Type 0} (eq : S → S → Bool) (types : List (MetaType S C)) (numbers : List FieldNumbers) (f g : WrittenField S C) (fs gs : List (WrittenField S C))
    → Contains fs f → Contains gs g → AreNumbered eq types numbers fs gs → AreNumbered eq types numbers (f ∷ []) (g ∷ [])
numbered-one eq types numbers f g fs gs i j fits a b k l =
    fits a b (subst (Contains fs) (one-only f a k) i) (subst (Contains gs) (one-only g b l) j)

-- one with the others
pub numbered-with : {S C : Type 0} (eq : S → S → Bool) (types : List (MetaType S C)) (numbers : List FieldNumbers) (f : WrittenField S C) (fs gs hs : List (WrittenField S C))
    → Contains fs f → ((h : WrittenField S C) → Contains hs h → Contains gs h) → AreNumbered eq types numbers fs gs → AreNumbered eq types numbers (f ∷ []) hs
numbered-with eq types numbers f fs gs hs i sub fits a b k l = fits a b (subst (Contains fs) (one-only f a k) i) (sub b l)
