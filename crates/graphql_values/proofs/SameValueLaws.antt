-- Being the same value is an equivalence, where the scalars' equality is one.
use Rattle.std.proofs.Common.{◌≡◌, Bool, true, List, length, get_or, ap, sym, subst, refl, ◌∙◌, arith}
use Rattle.std.specs.Cmp.{IsEquivalence}
use Rattle.graphql_text.specs.declared.text.Text.{Text}
use Rattle.graphql_values.specs.declared.input_value.InputValue.{InputValue, out-InputValue, roll-InputValue, roll-out-InputValue}
use Rattle.graphql_values.specs.declared.input_value.InputValue.TheOpen.{InputValue-F}
use Rattle.graphql_values.specs.declared.input_value.InputValue.TheVariants as value
use Rattle.graphql_values.specs.InputValues.{Placed, Pair}
use Rattle.graphql_values.specs.Laws.{SameAsItself, SameEitherWay, SameByAThird}
use Rattle.graphql_values.specs.SameValue.{SameItems, SameFields, values_named, same_null, same_scalar, same_enum, same_variable, same_list, same_object, no_items, more_items}
use Rattle.graphql_values.proofs.InputValueInduction.{value_ind, HoldsOfItems, HoldsOfPairs}
use Rattle.graphql_values.proofs.UnderLemmas.{under_holds}
use Rattle.graphql_values.proofs.SameValueLemmas.{Same, Level, null_level, level_of, same_at, get_or_any, items_from, items_length, items_at}

module _ {S : Type 0} (eq : S → S → Bool) (laws : IsEquivalence eq) where
  itself_items : (xs : List (Placed (InputValue S))) → HoldsOfItems (λ a. Same eq a a) xs → SameItems S eq xs xs
  itself_items xs each = items_from eq xs xs refl (λ k x y within. subst (λ z. Same eq (get_or xs k x).item z.item) (get_or_any xs k x y within) (each k x within))

  itself_pairs : (ps : List (Pair (InputValue S))) → HoldsOfPairs (λ a. Same eq a a) ps → Same eq (value.Object ps) (value.Object ps)
  itself_pairs ps each = same_object ps ps (λ name. itself_items (values_named name ps) (under_holds (λ x. Same eq x.item x.item) name ps each))

  pub same_as_itself : SameAsItself eq
  same_as_itself = value_ind (λ a. Same eq a a) same_null (λ s. same_scalar s s (laws.refl s)) same_enum same_variable (λ xs each. same_list xs xs (itself_items xs each)) itself_pairs

  mutual
    pub either_way : SameEitherWay eq
    either_way _ _ same_null = same_null
    either_way _ _ (same_scalar x y h) = same_scalar y x (laws.symm y x ∙ h)
    either_way _ _ (same_enum n) = same_enum n
    either_way _ _ (same_variable n) = same_variable n
    either_way _ _ (same_list xs ys h) = same_list ys xs (either_items xs ys h)
    either_way _ _ (same_object ps qs h) = same_object qs ps (λ name. either_items (values_named name ps) (values_named name qs) (h name))

    either_items : (xs ys : List (Placed (InputValue S))) → SameItems S eq xs ys → SameItems S eq ys xs
    either_items _ _ no_items = no_items
    either_items _ _ (more_items x y xs ys here rest) = more_items y x ys xs (either_way x.item y.item here) (either_items xs ys rest)

  -- ---- what is the same as a value of some form has that form

  abbrev rolled : (a : InputValue S) (m : InputValue-F S (InputValue S)) → out-InputValue S a ≡ m → a ≡ roll-InputValue S m
  rolled a m e = sym (roll-out-InputValue S a) ∙ ap (roll-InputValue S) e

  list_level : (xs : List (Placed (InputValue S))) (m : InputValue-F S (InputValue S)) → Level eq (InputValue-F.List xs) m → (ys : List (Placed (InputValue S))) × (m ≡ InputValue-F.List ys) × SameItems S eq xs ys
  list_level xs (InputValue-F.List ys) h = (ys, refl, h)
  list_level xs InputValue-F.Null h = absurd h
  list_level xs (InputValue-F.Scalar _) h = absurd h
  list_level xs (InputValue-F.Enum _) h = absurd h
  list_level xs (InputValue-F.Variable _) h = absurd h
  list_level xs (InputValue-F.Object _) h = absurd h

  same_as_list : (xs : List (Placed (InputValue S))) (b : InputValue S) → Same eq (value.List xs) b → (ys : List (Placed (InputValue S))) × (b ≡ value.List ys) × SameItems S eq xs ys
  same_as_list xs b s =
      let w = list_level xs (out-InputValue S b) (level_of eq (value.List xs) b _ _ (value.outs-List xs) refl s) in
      (w.0, rolled b _ w.1 ∙ value.rolls-List w.0, w.2)

  object_level : (ps : List (Pair (InputValue S))) (m : InputValue-F S (InputValue S)) → Level eq (InputValue-F.Object ps) m
      → (qs : List (Pair (InputValue S))) × (m ≡ InputValue-F.Object qs) × SameFields S eq ps qs
  object_level ps (InputValue-F.Object qs) h = (qs, refl, h)
  object_level ps InputValue-F.Null h = absurd h
  object_level ps (InputValue-F.Scalar _) h = absurd h
  object_level ps (InputValue-F.Enum _) h = absurd h
  object_level ps (InputValue-F.Variable _) h = absurd h
  object_level ps (InputValue-F.List _) h = absurd h

  same_as_object : (ps : List (Pair (InputValue S))) (b : InputValue S) → Same eq (value.Object ps) b
      → (qs : List (Pair (InputValue S))) × (b ≡ value.Object qs) × SameFields S eq ps qs
  same_as_object ps b s =
      let w = object_level ps (out-InputValue S b) (level_of eq (value.Object ps) b _ _ (value.outs-Object ps) refl s) in
      (w.0, rolled b _ w.1 ∙ value.rolls-Object w.0, w.2)

  scalar_level : (x : S) (m : InputValue-F S (InputValue S)) → Level eq (InputValue-F.Scalar x) m → (y : S) × (m ≡ InputValue-F.Scalar y) × (eq x y ≡ true)
  scalar_level x (InputValue-F.Scalar y) h = (y, refl, h)
  scalar_level x InputValue-F.Null h = absurd h
  scalar_level x (InputValue-F.Enum _) h = absurd h
  scalar_level x (InputValue-F.Variable _) h = absurd h
  scalar_level x (InputValue-F.List _) h = absurd h
  scalar_level x (InputValue-F.Object _) h = absurd h

  same_as_scalar : (x : S) (b : InputValue S) → Same eq (value.Scalar x) b → (y : S) × (b ≡ value.Scalar y) × (eq x y ≡ true)
  same_as_scalar x b s =
      let w = scalar_level x (out-InputValue S b) (level_of eq (value.Scalar x) b _ _ (value.outs-Scalar x) refl s) in
      (w.0, rolled b _ w.1 ∙ value.rolls-Scalar w.0, w.2)

  -- an enum value or a variable is the same as itself alone
  enum_level : (n : Text) (m : InputValue-F S (InputValue S)) → Level eq (InputValue-F.Enum n) m → m ≡ InputValue-F.Enum n
  enum_level n (InputValue-F.Enum k) h = ap InputValue-F.Enum (sym h)
  enum_level n InputValue-F.Null h = absurd h
  enum_level n (InputValue-F.Scalar _) h = absurd h
  enum_level n (InputValue-F.Variable _) h = absurd h
  enum_level n (InputValue-F.List _) h = absurd h
  enum_level n (InputValue-F.Object _) h = absurd h

  variable_level : (n : Text) (m : InputValue-F S (InputValue S)) → Level eq (InputValue-F.Variable n) m → m ≡ InputValue-F.Variable n
  variable_level n (InputValue-F.Variable k) h = ap InputValue-F.Variable (sym h)
  variable_level n InputValue-F.Null h = absurd h
  variable_level n (InputValue-F.Scalar _) h = absurd h
  variable_level n (InputValue-F.Enum _) h = absurd h
  variable_level n (InputValue-F.List _) h = absurd h
  variable_level n (InputValue-F.Object _) h = absurd h

  -- ---- by a third

  abbrev Passes : InputValue S → Type 0
  Passes a = (b c : InputValue S) → Same eq a b → Same eq b c → Same eq a c

  by_scalar : (x : S) → Passes (value.Scalar x)
  by_scalar x b c s t =
      let v = same_as_scalar x b s in
      let w = same_as_scalar v.0 c (subst (λ z. Same eq z c) v.1 t) in
      same_at eq _ c _ _ refl w.1 (same_scalar x w.0 (laws.congr x v.0 w.0 v.2 ∙ w.2))

  by_enum : (n : Text) → Passes (value.Enum n)
  by_enum n b c s t =
      let e : b ≡ value.Enum n = rolled b _ (enum_level n (out-InputValue S b) (level_of eq (value.Enum n) b _ _ (value.outs-Enum n) refl s)) ∙ value.rolls-Enum n in
      subst (λ z. Same eq z c) e t

  by_variable : (n : Text) → Passes (value.Variable n)
  by_variable n b c s t =
      let e : b ≡ value.Variable n = rolled b _ (variable_level n (out-InputValue S b) (level_of eq (value.Variable n) b _ _ (value.outs-Variable n) refl s)) ∙ value.rolls-Variable n in
      subst (λ z. Same eq z c) e t

  items_pass : (xs ys zs : List (Placed (InputValue S))) → HoldsOfItems Passes xs → SameItems S eq xs ys → SameItems S eq ys zs → SameItems S eq xs zs
  items_pass xs ys zs each h k =
      let e : length xs ≡ length ys = items_length eq xs ys h in
      items_from eq xs zs (e ∙ items_length eq ys zs k) (λ n x z within. each n x within _ _ (items_at eq xs ys h n x x within) (items_at eq ys zs k n x z (omega arith)))

  by_list : (xs : List (Placed (InputValue S))) → HoldsOfItems Passes xs → Passes (value.List xs)
  by_list xs each b c s t =
      let v = same_as_list xs b s in
      let w = same_as_list v.0 c (subst (λ z. Same eq z c) v.1 t) in
      same_at eq _ c _ _ refl w.1 (same_list xs w.0 (items_pass xs v.0 w.0 each v.2 w.2))

  by_object : (ps : List (Pair (InputValue S))) → HoldsOfPairs Passes ps → Passes (value.Object ps)
  by_object ps each b c s t =
      let v = same_as_object ps b s in
      let w = same_as_object v.0 c (subst (λ z. Same eq z c) v.1 t) in
      same_at eq _ c _ _ refl w.1 (same_object ps w.0 (λ name. items_pass (values_named name ps) (values_named name v.0) (values_named name w.0) (under_holds (λ x. Passes x.item) name ps each) (v.2 name) (w.2 name)))

  null_same : (b : InputValue S) → Same eq value.Null b → b ≡ value.Null
  null_same b s = rolled b _ (null_level eq (out-InputValue S b) (level_of eq value.Null b _ _ value.outs-Null refl s)) ∙ value.rolls-Null

  pub by_a_third : SameByAThird eq
  by_a_third = value_ind Passes
      (λ b c s t. subst (λ z. Same eq z c) (null_same b s) t)
      by_scalar by_enum by_variable by_list by_object
