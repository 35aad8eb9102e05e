-- What it is for two values to be the same, by their forms.
use Rattle.std.proofs.Common.{◌≡◌, ◌↔◌, ℕ, zero, suc, ◌+◌, ◌<◌, ◌≤◌, Bool, true, false, IsTrue, List, [], ◌∷◌, ◌++◌, length, take, drop, get_or, slice_get, Option, MatchOption, ap, sym, subst, refl, ◌∙◌, arith}
use Rattle.std.proofs.lemmas.Bool.{false≢true}
use Rattle.graphql_text.specs.declared.text.Text.{Text}
use Rattle.graphql_values.specs.declared.input_value.InputValue.{InputValue, out-InputValue, roll-InputValue, roll-out-InputValue}
use Rattle.graphql_values.specs.declared.input_value.InputValue.TheOpen.{InputValue-F}
use Rattle.graphql_values.specs.declared.input_value.InputValue.TheVariants as value
use Rattle.graphql_values.specs.InputValues.{Placed, Pair}
use Rattle.graphql_values.specs.SameValue.{SameValue, SameItems, SameFields, values_named, same_null, same_scalar, same_enum, same_variable, same_list, same_object, no_items, more_items}
use Rattle.graphql_values.proofs.UnderLemmas.{around, counted}

-- ---- facts about lists

pub refuted : {A : Type 0} (r : Bool) → r ≡ false → IsTrue r → A
refuted r isnt is = absurd (false≢true (sym isnt ∙ is))

pub get_or_any : {X : Type 0} (xs : List X) (n : ℕ) (x d : X) → n < length xs → get_or xs n x ≡ get_or xs n d
get_or_any [] n x d within = absurd (omega arith)
get_or_any (y ∷ xs) zero x d within = refl
get_or_any (y ∷ xs) (suc n) x d within = get_or_any xs n x d (omega arith)

module _ {S : Type 0} (eq : S → S → Bool) where
  abbrev pub Same : InputValue S → InputValue S → Type 0
  Same = SameValue S eq

  -- ---- lists, place by place

  pub items_from : (xs ys : List (Placed (InputValue S))) → length xs ≡ length ys → ((k : ℕ) (x y : Placed (InputValue S)) → k < length xs → Same (get_or xs k x).item (get_or ys k y).item) → SameItems S eq xs ys
  items_from [] [] e h = no_items
  items_from [] (y ∷ ys) e h = absurd (omega (arith, e))
  items_from (x ∷ xs) [] e h = absurd (omega (arith, e))
  items_from (x ∷ xs) (y ∷ ys) e h = more_items x y xs ys (h 0 x y (omega arith)) (items_from xs ys (omega (arith, e)) (λ k a b within. h (suc k) a b (omega arith)))

  pub items_length : (xs ys : List (Placed (InputValue S))) → SameItems S eq xs ys → length xs ≡ length ys
  items_length _ _ no_items = refl
  items_length _ _ (more_items x y xs ys here rest) = let e : length xs ≡ length ys = items_length xs ys rest in omega arith

  pub items_at : (xs ys : List (Placed (InputValue S))) → SameItems S eq xs ys → (k : ℕ) (x y : Placed (InputValue S)) → k < length xs → Same (get_or xs k x).item (get_or ys k y).item
  items_at _ _ no_items k a b within = absurd (omega arith)
  items_at _ _ (more_items x y xs ys here rest) zero a b within = here
  items_at _ _ (more_items x y xs ys here rest) (suc k) a b within = items_at xs ys rest k a b (omega arith)

  -- the items that stand at one place
  pub items_here : (xs ys us vs : List (Placed (InputValue S))) (k : ℕ) (x y : Placed (InputValue S)) → xs ≡ us → ys ≡ vs → k < length xs → x ≡ get_or xs k x → y ≡ get_or ys k y → SameItems S eq us vs → Same x.item y.item
  items_here xs ys us vs k x y left right within is_x is_y same =
      let here : Same (get_or us k x).item (get_or vs k y).item = items_at us vs same k x y (subst (λ zs. k < length zs) left within) in
      subst (λ z. Same z.item y.item) (sym (is_x ∙ ap (λ zs. get_or zs k x) left)) (subst (λ z. Same (get_or us k x).item z.item) (sym (is_y ∙ ap (λ zs. get_or zs k y) right)) here)

  -- ---- values that stand first, place by place, among others

  abbrev pub Leads : List (Placed (InputValue S)) → List (Placed (InputValue S)) → Type 0
  Leads [] ys = Unit {0}
  Leads (x ∷ xs) [] = ⊥
  Leads (x ∷ xs) (y ∷ ys) = Same x.item y.item × Leads xs ys

  items_lead : (xs ys : List (Placed (InputValue S))) → SameItems S eq xs ys → Leads xs ys
  items_lead _ _ no_items = tt
  items_lead _ _ (more_items x y xs ys here rest) = (here, items_lead xs ys rest)

  leads_length : (xs ys : List (Placed (InputValue S))) → Leads xs ys → length xs ≤ length ys
  leads_length [] ys h = omega arith
  leads_length (x ∷ xs) [] h = absurd h
  leads_length (x ∷ xs) (y ∷ ys) h = omega (arith, leads_length xs ys h.1)

  -- and no others
  leads_same : (xs ys : List (Placed (InputValue S))) → Leads xs ys → length ys ≤ length xs → SameItems S eq xs ys
  leads_same [] [] h fit = no_items
  leads_same [] (y ∷ ys) h fit = absurd (omega (arith, fit))
  leads_same (x ∷ xs) [] h fit = absurd h
  leads_same (x ∷ xs) (y ∷ ys) h fit = more_items x y xs ys h.0 (leads_same xs ys h.1 (omega (arith, fit)))

  -- the same value stands at the place
  abbrev pub IsRanked : Option (Placed (InputValue S)) → InputValue S → Type 0
  IsRanked found a = MatchOption found ⊥ (λ y. Same a y.item)

  leads_at : (us vs ys : List (Placed (InputValue S))) (x : Placed (InputValue S)) → Leads (us ++ x ∷ vs) ys → IsRanked (slice_get ys (length us)) x.item
  leads_at [] vs [] x h = absurd h
  leads_at [] vs (y ∷ ys) x h = h.0
  leads_at (u ∷ us) vs [] x h = absurd h
  leads_at (u ∷ us) vs (y ∷ ys) x h = leads_at us vs ys x h.1

  -- ---- fields, name by name

  abbrev pub AllLead : List (Pair (InputValue S)) → List (Pair (InputValue S)) → Type 0
  AllLead ps qs = (name : Text) → Leads (values_named name ps) (values_named name qs)

  pub fields_length : (ps qs : List (Pair (InputValue S))) → SameFields S eq ps qs → length ps ≡ length qs
  fields_length ps qs same =
      let there = counted ps qs (λ name. omega (arith, items_length _ _ (same name))) in
      let back = counted qs ps (λ name. omega (arith, items_length _ _ (same name))) in
      omega (arith, there.0, back.0)

  pub fields_fit : (ps qs : List (Pair (InputValue S))) → length ps ≡ length qs → AllLead ps qs → SameFields S eq ps qs
  fields_fit ps qs e lead name = leads_same _ _ (lead name) ((counted ps qs (λ n. leads_length _ _ (lead n))).1 e name)

  module _ (ps fs qs : List (Pair (InputValue S))) (fields : fs ≡ ps) (k : ℕ) (p : Pair (InputValue S)) (within : k < length fs) (is : p ≡ get_or fs k p) (rank : ℕ) (ranks : rank ≡ length (values_named p.0.item (take k fs))) where
    abbrev HasLike : ℕ → Type 0
    HasLike n = IsRanked (slice_get (values_named p.0.item qs) n) p.1.item

    -- the field at a place has its like, of the same name and rank
    pub fields_at : SameFields S eq ps qs → HasLike rank
    fields_at same = subst HasLike (sym ranks) (leads_at (values_named p.0.item (take k fs)) (values_named p.0.item (drop (k + 1) fs)) (values_named p.0.item qs) p.1
        (subst (λ xs. Leads xs (values_named p.0.item qs)) (around fs k p within is) (items_lead _ _ (subst (λ zs. SameFields S eq zs qs) (sym fields) same p.0.item))))

  -- ---- the forms of the two values

  abbrev pub Level : InputValue-F S (InputValue S) → InputValue-F S (InputValue S) → Type 0
  Level InputValue-F.Null InputValue-F.Null = Unit {0}
  Level (InputValue-F.Scalar a) (InputValue-F.Scalar b) = eq a b ≡ true
  Level (InputValue-F.Enum m) (InputValue-F.Enum n) = m ≡ n
  Level (InputValue-F.Variable m) (InputValue-F.Variable n) = m ≡ n
  Level (InputValue-F.List xs) (InputValue-F.List ys) = SameItems S eq xs ys
  Level (InputValue-F.Object ps) (InputValue-F.Object qs) = SameFields S eq ps qs
  Level _ _ = ⊥

  abbrev out : InputValue S → InputValue-F S (InputValue S)
  out = out-InputValue S

  closed : (a b : InputValue S) (l m : InputValue-F S (InputValue S)) → out a ≡ l → out b ≡ m → Level l m → Level (out a) (out b)
  closed a b l m e f h = subst (λ x. Level x (out b)) (sym e) (subst (Level l) (sym f) h)

  to_level : (a b : InputValue S) → Same a b → Level (out a) (out b)
  to_level _ _ same_null = closed value.Null value.Null _ _ value.outs-Null value.outs-Null tt
  to_level _ _ (same_scalar x y h) = closed (value.Scalar x) (value.Scalar y) _ _ (value.outs-Scalar x) (value.outs-Scalar y) h
  to_level _ _ (same_enum n) = closed (value.Enum n) (value.Enum n) _ _ (value.outs-Enum n) (value.outs-Enum n) refl
  to_level _ _ (same_variable n) = closed (value.Variable n) (value.Variable n) _ _ (value.outs-Variable n) (value.outs-Variable n) refl
  to_level _ _ (same_list xs ys h) = closed (value.List xs) (value.List ys) _ _ (value.outs-List xs) (value.outs-List ys) h
  to_level _ _ (same_object ps qs h) = closed (value.Object ps) (value.Object qs) _ _ (value.outs-Object ps) (value.outs-Object qs) h

  -- the same values, seen a layer deep
  pub level_of : (a b : InputValue S) (l m : InputValue-F S (InputValue S)) → out a ≡ l → out b ≡ m → Same a b → Level l m
  level_of a b l m e f s = subst (λ x. Level x m) e (subst (Level (out a)) f (to_level a b s))

  pub same_at : (a b x y : InputValue S) → a ≡ x → b ≡ y → Same x y → Same a b
  same_at a b x y p q s = subst (λ z. Same z b) (sym p) (subst (Same x) (sym q) s)

  pub null_level : (m : InputValue-F S (InputValue S)) → Level InputValue-F.Null m → m ≡ InputValue-F.Null
  null_level InputValue-F.Null h = refl
  null_level (InputValue-F.Scalar _) h = absurd h
  null_level (InputValue-F.Enum _) h = absurd h
  null_level (InputValue-F.Variable _) h = absurd h
  null_level (InputValue-F.List _) h = absurd h
  null_level (InputValue-F.Object _) h = absurd h

  pub null_case : (r : Bool) (a b : InputValue S) → a ≡ value.Null → (IsTrue r ↔ (b ≡ value.Null)) → (IsTrue r ↔ Same a b)
  null_case r a b p h = (λ t. same_at a b _ _ p (h.0 t) same_null, λ s. h.1 (sym (roll-out-InputValue S b) ∙ ap (roll-InputValue S) (null_level (out b) (level_of a b _ _ (ap out p ∙ value.outs-Null) refl s)) ∙ value.rolls-Null))

  pub scalar_case : (r : Bool) (a b : InputValue S) (x y : S) → a ≡ value.Scalar x → b ≡ value.Scalar y → r ≡ eq x y → (IsTrue r ↔ Same a b)
  scalar_case r a b x y p q e = (λ t. same_at a b _ _ p q (same_scalar x y (sym e ∙ t)), λ s. e ∙ level_of a b _ _ (ap out p ∙ value.outs-Scalar x) (ap out q ∙ value.outs-Scalar y) s)

  pub enum_case : (r : Bool) (a b : InputValue S) (m n : Text) → a ≡ value.Enum m → b ≡ value.Enum n → (IsTrue r ↔ (m ≡ n)) → (IsTrue r ↔ Same a b)
  enum_case r a b m n p q h = (λ t. same_at a b _ _ p (q ∙ ap value.Enum (sym (h.0 t))) (same_enum m), λ s. h.1 (level_of a b _ _ (ap out p ∙ value.outs-Enum m) (ap out q ∙ value.outs-Enum n) s))

  pub variable_case : (r : Bool) (a b : InputValue S) (m n : Text) → a ≡ value.Variable m → b ≡ value.Variable n → (IsTrue r ↔ (m ≡ n)) → (IsTrue r ↔ Same a b)
  variable_case r a b m n p q h = (λ t. same_at a b _ _ p (q ∙ ap value.Variable (sym (h.0 t))) (same_variable m), λ s. h.1 (level_of a b _ _ (ap out p ∙ value.outs-Variable m) (ap out q ∙ value.outs-Variable n) s))

  pub list_case : (a b : InputValue S) (xs ys : List (Placed (InputValue S))) → a ≡ value.List xs → b ≡ value.List ys → (SameItems S eq xs ys ↔ Same a b)
  list_case a b xs ys p q = (λ h. same_at a b _ _ p q (same_list xs ys h), level_of a b _ _ (ap out p ∙ value.outs-List xs) (ap out q ∙ value.outs-List ys))

  pub object_case : (a b : InputValue S) (ps qs : List (Pair (InputValue S))) → a ≡ value.Object ps → b ≡ value.Object qs → (SameFields S eq ps qs ↔ Same a b)
  object_case a b ps qs p q = (λ h. same_at a b _ _ p q (same_object ps qs h), level_of a b _ _ (ap out p ∙ value.outs-Object ps) (ap out q ∙ value.outs-Object qs))
