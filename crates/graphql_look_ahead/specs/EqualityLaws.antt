-- The equality of input values is symmetric and transitive where that of scalars is, and reflexive
-- where that is.
use Rattle.std.proofs.Common.{◌≡◌, Bool, true, ◌&&◌, List, [], ◌∷◌, suc, get_or, map, ap, sym}
use Rattle.std.proofs.Common.{subst, refl, ◌∙◌, arith}
use Rattle.std.proofs.lemmas.Bool.{false≢true}
use Rattle.std.specs.Cmp.{IsEquivalence, IsPartialEquivalence, and_equiv, and_per, equiv}
use Rattle.std.specs.Cmp.{partial_equiv_from_equiv, first_so, on_equiv, on_per, nat_eq_equiv}
use Rattle.std.specs.Cmp.{per_alike, second_so}
use Rattle.std.specs.Cmp.Lexicographic.{lists_equiv, lists_per, nat_list_eq_equiv, pointwise}
use Rattle.std.specs.List.{All}
use Rattle.std.specs.Str.{bytes_eq}
use Rattle.graphql_text.specs.declared.position.SourcePosition.{SourcePosition}
use Rattle.graphql_text.specs.declared.position.Span.{Span}
use Rattle.graphql_values.specs.InputValues.{Placed, Pair}
use Rattle.graphql_values.specs.declared.input_value.InputValue.{
  InputValue,
  fold-roll-InputValue,
  map-InputValue,
  out-InputValue,
  roll-out-InputValue,
}
use Rattle.graphql_values.specs.declared.input_value.InputValue.TheOpen.{InputValue-F}
use Rattle.graphql_values.specs.declared.input_value.InputValue.TheVariants as value
use Rattle.graphql_values.proofs.InputValueEquations.{on_item, on_value}
use Rattle.graphql_values.proofs.InputValueInduction.{value_ind, HoldsOfItems, HoldsOfPairs}
use Rattle.graphql_look_ahead.specs.Equality.{same_position, same_span, same_item, same_field}
use Rattle.graphql_look_ahead.specs.Equality.{same_form, equal, equal_layer}

-- ---- lists, from what holds of the items of the first

module _ {X : Type 0} (E : X → X → Bool) where
  abbrev Flips : X → Type 0
  Flips x = (y : X) → E x y ≡ E y x

  abbrev Alike : X → Type 0
  Alike x = (y z : X) → E x y ≡ true → E x z ≡ E y z

  abbrev IsItself : X → Type 0
  IsItself x = E x x ≡ true

  list_flips : (xs ys : List X) → All Flips xs → pointwise E xs ys ≡ pointwise E ys xs
  list_flips [] [] all = refl
  list_flips [] (y ∷ ys) all = refl
  list_flips (x ∷ xs) [] all = refl
  list_flips (x ∷ xs) (y ∷ ys) all =
      λ i. all 0 x (omega arith) y i && list_flips xs ys (λ k d h. all (suc k) d (omega arith)) i

  list_alike : (xs ys zs : List X) → All Alike xs → pointwise E xs ys ≡ true
      → pointwise E xs zs ≡ pointwise E ys zs
  list_alike [] [] zs all h = refl
  list_alike [] (y ∷ ys) zs all h = absurd (false≢true h)
  list_alike (x ∷ xs) [] zs all h = absurd (false≢true h)
  list_alike (x ∷ xs) (y ∷ ys) [] all h = refl
  list_alike (x ∷ xs) (y ∷ ys) (z ∷ zs) all h =
      λ i. all 0 x (omega arith) y z (first_so (E x y) (pointwise E xs ys) h) i
      && list_alike xs ys
      zs (λ k d w. all (suc k) d (omega arith)) (second_so (E x y) (pointwise E xs ys) h) i

  list_itself : (xs : List X) → All IsItself xs → pointwise E xs xs ≡ true
  list_itself [] all = refl
  list_itself (x ∷ xs) all =
      λ i. all 0 x (omega arith) i && list_itself xs (λ k d h. all (suc k) d (omega arith)) i

-- ---- places

position_laws : IsEquivalence same_position
position_laws = and_equiv (on_equiv (λ (p : SourcePosition). p.index) nat_eq_equiv)
    (and_equiv (on_equiv (λ (p : SourcePosition). p.line) nat_eq_equiv)
    (on_equiv (λ (p : SourcePosition). p.column) nat_eq_equiv))

span_laws : IsEquivalence same_span
span_laws = and_equiv (on_equiv (λ (s : Span). s.start) position_laws)
    (on_equiv (λ (s : Span). s.end) position_laws)

-- ---- items and fields, from what holds of the value of the first

module _ {A : Type 0} (E : A → A → Bool) where
  item_flips : (x : Placed A) → Flips E x.item → Flips (same_item E) x
  item_flips x flips y = λ i. span_laws.symm x.span y.span i && flips y.item i

  item_alike : (x : Placed A) → Alike E x.item → Alike (same_item E) x
  item_alike x alike y z h =
      λ i. span_laws.congr x.span y.span z.span
      (first_so (same_span x.span y.span) (E x.item y.item) h) i
      && alike y.item z.item (second_so (same_span x.span y.span) (E x.item y.item) h) i

  item_itself : (x : Placed A) → IsItself E x.item → IsItself (same_item E) x
  item_itself x itself = λ i. span_laws.refl x.span i && itself i

  abbrev same_name : Pair A → Pair A → Bool
  same_name p q = bytes_eq p.0.item q.0.item && same_span p.0.span q.0.span

  name_laws : IsEquivalence same_name
  name_laws = and_equiv (on_equiv (λ (p : Pair A). p.0.item) nat_list_eq_equiv)
      (on_equiv (λ (p : Pair A). p.0.span) span_laws)

  field_flips : (p : Pair A) → Flips E p.1.item → Flips (same_field E) p
  field_flips p flips q = λ i. name_laws.symm p q i && item_flips p.1 flips q.1 i

  field_alike : (p : Pair A) → Alike E p.1.item → Alike (same_field E) p
  field_alike p alike q r h =
      λ i. name_laws.congr p q r (first_so (same_name p q) (same_item E p.1 q.1) h) i
      && item_alike p.1 alike q.1 r.1 (second_so (same_name p q) (same_item E p.1 q.1) h) i

  field_itself : (p : Pair A) → IsItself E p.1.item → IsItself (same_field E) p
  field_itself p itself = λ i. name_laws.refl p i && item_itself p.1 itself i

-- ---- values, by their layers

module _ {S : Type 0} where
  abbrev AllParts : (InputValue S → Type 0) → InputValue-F S (InputValue S) → Type 0
  AllParts P (InputValue-F.List xs) = HoldsOfItems P xs
  AllParts P (InputValue-F.Object ps) = HoldsOfPairs P ps
  AllParts P _ = Unit {0}

  by_layers : (P : InputValue S → Type 0)
      → ((v : InputValue S) → AllParts P (out-InputValue S v) → P v) → (v : InputValue S) → P v
  by_layers P step = value_ind P
      (step value.Null (subst (AllParts P) (sym value.outs-Null) tt))
      (λ s. step (value.Scalar s) (subst (AllParts P) (sym (value.outs-Scalar s)) tt))
      (λ n. step (value.Enum n) (subst (AllParts P) (sym (value.outs-Enum n)) tt))
      (λ n. step (value.Variable n) (subst (AllParts P) (sym (value.outs-Variable n)) tt))
      (λ xs all. step (value.List xs) (subst (AllParts P) (sym (value.outs-List xs)) all))
      (λ ps all. step (value.Object ps) (subst (AllParts P) (sym (value.outs-Object ps)) all))

module _ {A B : Type 0} (E : A → B → Bool) where
  items_map : (xs : List (Placed A)) (ys : List (Placed B))
      → pointwise (same_item (λ (equals : B → Bool) v. equals v)) (map (on_item E) xs) ys
      ≡ pointwise (same_item E) xs ys
  items_map [] [] = refl
  items_map [] (y ∷ ys) = refl
  items_map (x ∷ xs) [] = refl
  items_map (x ∷ xs) (y ∷ ys) = ap (λ b. same_item E x y && b) (items_map xs ys)

  fields_map : (ps : List (Pair A)) (qs : List (Pair B))
      → pointwise (same_field (λ (equals : B → Bool) v. equals v)) (map (on_value E) ps) qs
      ≡ pointwise (same_field E) ps qs
  fields_map [] [] = refl
  fields_map [] (q ∷ qs) = refl
  fields_map (p ∷ ps) [] = refl
  fields_map (p ∷ ps) (q ∷ qs) = ap (λ b. same_field E p q && b) (fields_map ps qs)

module _ {S : Type 0} (scalars : S → S → Bool) where
  form_map : (x y : InputValue-F S (InputValue S))
      → same_form (λ (equals : InputValue S → Bool) v.
      equals v) scalars (map-InputValue S (InputValue S) (InputValue S → Bool) (equal scalars) x) y
      ≡ same_form (equal scalars) scalars x y
  form_map (InputValue-F.List xs) (InputValue-F.List ys) = items_map (equal scalars) xs ys
  form_map (InputValue-F.Object ps) (InputValue-F.Object qs) = fields_map (equal scalars) ps qs
  form_map _ _ = refl

  -- two values are equal where their layers are
  pub equal_is : (v w : InputValue S)
      → equal scalars v w
      ≡ same_form (equal scalars) scalars (out-InputValue S v) (out-InputValue S w)
  equal_is v w =
      ap (λ u. equal scalars u w) (sym (roll-out-InputValue S v))
      ∙ ap (λ equals. equals w)
      (fold-roll-InputValue S (InputValue S → Bool) (equal_layer scalars) (out-InputValue S v))
      ∙ form_map (out-InputValue S v) (out-InputValue S w)

  module _ (laws : IsPartialEquivalence scalars) where
    form_flips : (x y : InputValue-F S (InputValue S)) → AllParts (Flips (equal scalars)) x
        → same_form (equal scalars) scalars x y ≡ same_form (equal scalars) scalars y x
    form_flips InputValue-F.Null InputValue-F.Null all = refl
    form_flips (InputValue-F.Scalar s) (InputValue-F.Scalar t) all = laws.symm s t
    form_flips (InputValue-F.Enum m) (InputValue-F.Enum n) all = nat_list_eq_equiv.symm m n
    form_flips (InputValue-F.Variable m) (InputValue-F.Variable n) all = nat_list_eq_equiv.symm m n
    form_flips (InputValue-F.List xs) (InputValue-F.List ys) all =
        list_flips (same_item (equal scalars)) xs ys
        (λ k d h. item_flips (equal scalars) (get_or xs k d) (all k d h))
    form_flips (InputValue-F.Object ps) (InputValue-F.Object qs) all =
        list_flips (same_field (equal scalars)) ps qs
        (λ k d h. field_flips (equal scalars) (get_or ps k d) (all k d h))
    form_flips _ _ all = refl

    form_alike : (x y z : InputValue-F S (InputValue S)) → AllParts (Alike (equal scalars)) x
        → same_form (equal scalars) scalars x y ≡ true
        → same_form (equal scalars) scalars x z ≡ same_form (equal scalars) scalars y z
    form_alike InputValue-F.Null InputValue-F.Null z all h = refl
    form_alike (InputValue-F.Scalar s) (InputValue-F.Scalar t) (InputValue-F.Scalar u) all h =
        per_alike laws s t u h
    form_alike (InputValue-F.Scalar s) (InputValue-F.Scalar t) _ all h = refl
    form_alike (InputValue-F.Enum m) (InputValue-F.Enum n) (InputValue-F.Enum o) all h =
        nat_list_eq_equiv.congr m n o h
    form_alike (InputValue-F.Enum m) (InputValue-F.Enum n) _ all h = refl
    form_alike (InputValue-F.Variable m) (InputValue-F.Variable n) (InputValue-F.Variable o) all h =
        nat_list_eq_equiv.congr m n o h
    form_alike (InputValue-F.Variable m) (InputValue-F.Variable n) _ all h = refl
    form_alike (InputValue-F.List xs) (InputValue-F.List ys) (InputValue-F.List zs) all h =
        list_alike (same_item (equal scalars)) xs ys zs
        (λ k d w. item_alike (equal scalars) (get_or xs k d) (all k d w)) h
    form_alike (InputValue-F.List xs) (InputValue-F.List ys) _ all h = refl
    form_alike (InputValue-F.Object ps) (InputValue-F.Object qs) (InputValue-F.Object rs) all h =
        list_alike (same_field (equal scalars)) ps qs rs
        (λ k d w. field_alike (equal scalars) (get_or ps k d) (all k d w)) h
    form_alike (InputValue-F.Object ps) (InputValue-F.Object qs) _ all h = refl
    form_alike _ _ z all h = absurd (false≢true h)

    flips : (v w : InputValue S) → equal scalars v w ≡ equal scalars w v
    flips = by_layers (Flips (equal scalars)) (λ v all w. equal_is v w
        ∙ form_flips (out-InputValue S v) (out-InputValue S w) all ∙ sym (equal_is w v))

    alike : (v w u : InputValue S) → equal scalars v w ≡ true
        → equal scalars v u ≡ equal scalars w u
    alike = by_layers (Alike (equal scalars)) (λ v all w u h.
        equal_is v u ∙ form_alike (out-InputValue S v) (out-InputValue S w) (out-InputValue S u) all
        (sym (equal_is v w) ∙ h) ∙ sym (equal_is w u))

    pub equal_per : IsPartialEquivalence (equal scalars)
    equal_per = record { symm = flips; trans = λ v w u h k. alike v w u h ∙ k }

  form_itself : IsEquivalence scalars → (x : InputValue-F S (InputValue S))
      → AllParts (IsItself (equal scalars)) x → same_form (equal scalars) scalars x x ≡ true
  form_itself laws InputValue-F.Null all = refl
  form_itself laws (InputValue-F.Scalar s) all = laws.refl s
  form_itself laws (InputValue-F.Enum n) all = nat_list_eq_equiv.refl n
  form_itself laws (InputValue-F.Variable n) all = nat_list_eq_equiv.refl n
  form_itself laws (InputValue-F.List xs) all = list_itself (same_item (equal scalars)) xs
      (λ k d h. item_itself (equal scalars) (get_or xs k d) (all k d h))
  form_itself laws (InputValue-F.Object ps) all = list_itself (same_field (equal scalars)) ps
      (λ k d h. field_itself (equal scalars) (get_or ps k d) (all k d h))

  itself : IsEquivalence scalars → (v : InputValue S) → equal scalars v v ≡ true
  itself laws = by_layers (IsItself (equal scalars))
      (λ v all. equal_is v v ∙ form_itself laws (out-InputValue S v) all)

  pub equal_equiv : IsEquivalence scalars → IsEquivalence (equal scalars)
  equal_equiv laws = equiv (equal_per (partial_equiv_from_equiv laws)) (itself laws)

-- ---- items and fields at their places, and lists of them

module _ {A : Type 0} (E : A → A → Bool) where
  item_per : IsPartialEquivalence E → IsPartialEquivalence (same_item E)
  item_per laws = and_per (on_per (λ (x : Placed A). x.span) (partial_equiv_from_equiv span_laws))
      (on_per (λ (x : Placed A). x.item) laws)

  item_equiv : IsEquivalence E → IsEquivalence (same_item E)
  item_equiv laws = and_equiv (on_equiv (λ (x : Placed A). x.span) span_laws)
      (on_equiv (λ (x : Placed A). x.item) laws)

module _ {S : Type 0} (scalars : S → S → Bool) where
  pub items_per : IsPartialEquivalence scalars
      → IsPartialEquivalence (pointwise (same_item (equal scalars)))
  items_per laws = lists_per (item_per (equal scalars) (equal_per scalars laws))

  pub items_equiv : IsEquivalence scalars → IsEquivalence (pointwise (same_item (equal scalars)))
  items_equiv laws = lists_equiv (item_equiv (equal scalars) (equal_equiv scalars laws))

  pub fields_per : IsPartialEquivalence scalars
      → IsPartialEquivalence (pointwise (same_field (equal scalars)))
  fields_per laws =
      lists_per (and_per (partial_equiv_from_equiv (name_laws (equal scalars)))
      (on_per (λ (p : Pair (InputValue S)). p.1)
      (item_per (equal scalars) (equal_per scalars laws))))

  pub fields_equiv : IsEquivalence scalars → IsEquivalence (pointwise (same_field (equal scalars)))
  fields_equiv laws =
      lists_equiv (and_equiv (name_laws (equal scalars))
      (on_equiv (λ (p : Pair (InputValue S)). p.1)
      (item_equiv (equal scalars) (equal_equiv scalars laws))))
