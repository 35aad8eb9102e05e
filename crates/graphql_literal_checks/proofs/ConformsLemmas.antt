-- What it is for a value to conform, by its form.
use Rattle.std.proofs.Common.{◌≡◌, ◌&&◌, inl, inr, ℕ, Bool, true, false, List, [], ◌∷◌, Option, Some, None, Ok, Bor, length, ap, sym, subst, refl, ◌∙◌, arith}
use Rattle.std.specs.List.{list_all, flat_map}
use Rattle.std.proofs.lemmas.Bool.{false≢true}
use Rattle.std.proofs.Math.Bool.{and-true}
use Rattle.std.proofs.lemmas.List.{same_from_push}
use Rattle.std.proofs.lemmas.List.Folds.{list_all-append}
use Rattle.std.proofs.lemmas.Option.{none-some, same_Some}
use Rattle.graphql_scalars.specs.ScalarAnswers.{ScalarAnswer, as_text}
use Rattle.graphql_values.specs.declared.input_value.InputValue.{InputValue, out-InputValue}
use Rattle.graphql_values.specs.declared.input_value.InputValue.TheOpen.{InputValue-F}
use Rattle.graphql_values.specs.declared.input_value.InputValue.TheVariants as value
use Rattle.graphql_values.specs.InputValues.{Placed, Pair}
use Rattle.graphql_values.specs.Variables.{IsConstant, names_of_variables, variables_layer}
use Rattle.graphql_values.proofs.InputValueEquations.{fold_null, fold_variable}
use Rattle.graphql_values.proofs.VariableLemmas.{variables_in_list, variables_in_object}
use Rattle.graphql_values.proofs.VariableLaws.{none_is_listed}
use Rattle.graphql_names.specs.declared.type_modifier.TypeModifier.{TypeModifier}
use Rattle.graphql_names.specs.declared.type_modifier.TypeModifier.TheVariants as modifier
use Rattle.graphql_names.specs.declared.type_reference.«Type».{«Type»}
use Rattle.graphql_schema.specs.Scalars.{Scalars}
use Rattle.graphql_schema.specs.declared.meta.argument.Argument.{Argument}
use Rattle.graphql_schema.specs.declared.meta.input_object.InputObjectMeta.{InputObjectMeta}
use Rattle.graphql_schema.specs.declared.meta.MetaType.{MetaType}
use Rattle.graphql_schema.specs.declared.meta.MetaType.TheVariants as meta
use Rattle.graphql_schema.specs.Types.{TypeOf, refuses_null}
use Rattle.graphql_names.specs.Names.{Bytes}
use Rattle.graphql_schema.specs.Lookups.{type_named}
use Rattle.graphql_literal_checks.specs.declared.source.Source.{Source}
use Rattle.graphql_literal_checks.specs.InputTypes.{WholeFits, allows, may_stand_alone, argument_named}
use Rattle.graphql_literal_checks.specs.Conforms.{Conforms, null, variable, scalar, enum, sent_enum, list, object, EachConforms, no_items, more_items, FieldsConform, no_fields, more_fields}
use Rattle.graphql_literal_checks.specs.Judged.{IsListOf, Judged, Names, IsObject, ObjectFits, NamedFits, AloneFits, ListFits, FieldFits, lent, is_constant, are_constant, have_constants}

-- ---- types that are lent

pub lent_is : (b : «Type» Bytes (Bor (List TypeModifier))) (t : TypeOf) → b.name ≡ t.name → b.modifiers.now ≡ t.modifiers → lent b ≡ t
lent_is b t name modifiers = ap (λ n. record { name = n; modifiers = b.modifiers.now }) name ∙ ap (λ m. record { name = t.name; modifiers = m }) modifiers

-- ---- lists

none_there : {A : Type 0} (xs : List A) → length xs ≡ 0 → xs ≡ []
none_there [] none = refl
none_there (x ∷ xs) none = absurd (omega arith)

nil-cons : {A : Type 0} (x : A) (xs : List A) → [] ≡ x ∷ xs → ⊥
nil-cons x xs is = cc

same_head : {A : Type 0} (x y : A) (xs ys : List A) → x ∷ xs ≡ y ∷ ys → x ≡ y
same_head x y xs ys is = cc

same_tail : {A : Type 0} (x y : A) (xs ys : List A) → x ∷ xs ≡ y ∷ ys → xs ≡ ys
same_tail x y xs ys is = cc

-- ---- constants

nothing_if : (ns : List Bytes) → list_all (λ _. false) ns ≡ true → ns ≡ []
nothing_if [] h = refl
nothing_if (n ∷ ns) h = absurd (false≢true h)

all_nothing : {A : Type 0} (f : A → List Bytes) (xs : List A) → list_all (λ _. false) (flat_map f xs) ≡ list_all (λ x. list_all (λ _. false) (f x)) xs
all_nothing f [] = refl
all_nothing f (x ∷ xs) = list_all-append (λ _. false) (f x) (flat_map f xs) ∙ ap (λ b. list_all (λ _. false) (f x) && b) (all_nothing f xs)

constant_null : (S : Type 0) → true ≡ is_constant {S = S} value.Null
constant_null S = ap (list_all (λ _. false)) (sym (fold_null {S = S} variables_layer))

constant_variable : (S : Type 0) (name : Bytes) → false ≡ is_constant {S = S} (value.Variable name)
constant_variable S name = ap (list_all (λ _. false)) (sym (fold_variable {S = S} variables_layer name))

module _ {S : Type 0} where
  pub constant_list : (xs : List (Placed (InputValue S))) → are_constant xs ≡ is_constant (value.List xs)
  constant_list xs = sym (ap (list_all (λ _. false)) (variables_in_list xs) ∙ all_nothing (λ (x : Placed (InputValue S)). names_of_variables x.item) xs)

  pub constant_object : (ps : List (Pair (InputValue S))) → have_constants ps ≡ is_constant (value.Object ps)
  constant_object ps = sym (ap (list_all (λ _. false)) (variables_in_object ps) ∙ all_nothing (λ (p : Pair (InputValue S)). names_of_variables p.1.item) ps)

  pub no_item_varies : (b : Bool) (xs : List (Placed (InputValue S))) → length xs ≡ 0 → b ≡ (b && are_constant xs)
  no_item_varies b xs none = sym (and-true b) ∙ ap (λ ys. b && are_constant ys) (sym (none_there xs none))

  pub no_field_varies : (b : Bool) (ps : List (Pair (InputValue S))) → length ps ≡ 0 → b ≡ (b && have_constants ps)
  no_field_varies b ps none = sym (and-true b) ∙ ap (λ qs. b && have_constants qs) (sym (none_there ps none))

  is_constant_if : (v : InputValue S) → is_constant v ≡ true → IsConstant v
  is_constant_if v h = (none_is_listed S v).0 (nothing_if (names_of_variables v) h)

  constant_if : (v : InputValue S) → IsConstant v → is_constant v ≡ true
  constant_if v h = ap (list_all (λ _. false)) ((none_is_listed S v).1 h)

-- ---- the names of enums' values

module _ {S : Type 0} (answer : S → ScalarAnswer) (source : Source) where
  abbrev name_within : InputValue-F S (InputValue S) → Option Bytes
  name_within (InputValue-F.Enum name) = Some name
  name_within (InputValue-F.Scalar s) = as_text (answer s)
  name_within _ = None

  abbrev name_at : InputValue S → Option Bytes
  name_at v = name_within (out-InputValue S v)

  names_at : (v : InputValue S) (name : Bytes) → Names answer source v name → name_at v ≡ Some name
  names_at v name (inl is) = ap name_at is ∙ ap name_within (value.outs-Enum name)
  names_at v name (inr w) = ap name_at w.1.1 ∙ ap name_within (value.outs-Scalar w.1.0) ∙ w.1.2

  pub names_same : (v : InputValue S) (a b : Bytes) → Names answer source v a → Names answer source v b → a ≡ b
  names_same v a b m n = same_Some a b (sym (names_at v a m) ∙ names_at v b n)

-- ---- conforming by the form of the value

module _ {S C : Type 0} (scalars : Scalars S C) (types : List (MetaType S C)) (source : Source) where
  abbrev pub Fits : TypeOf → InputValue S → Type 0
  Fits = Conforms scalars types source

  abbrev pub Named : Option (MetaType S C) → InputValue S → Type 0
  Named = NamedFits scalars types source

  abbrev out : InputValue S → InputValue-F S (InputValue S)
  out = out-InputValue S

  abbrev Level : TypeOf → InputValue-F S (InputValue S) → Type 0
  Level t InputValue-F.Null = refuses_null t ≡ false
  Level t (InputValue-F.List xs) = ListFits scalars types source t xs
  Level t _ = Unit {0}

  to_level : (t : TypeOf) (v : InputValue S) → Fits t v → Level t (out v)
  to_level _ _ (null t h) = subst (Level t) (sym value.outs-Null) h
  to_level _ _ (variable t name) = subst (Level t) (sym (value.outs-Variable name)) tt
  to_level _ _ (scalar t m s alone there accepted) = subst (Level t) (sym (value.outs-Scalar s)) tt
  to_level _ _ (enum t m name alone there declared accepted) = subst (Level t) (sym (value.outs-Enum name)) tt
  to_level _ _ (sent_enum t m s name sent text alone there declared accepted) = subst (Level t) (sym (value.outs-Scalar s)) tt
  to_level _ _ (list t size within xs is allowed each) = subst (Level t) (sym (value.outs-List xs)) (size, within, is, allowed, each)
  to_level _ _ (object t m ps alone there fields whole) = subst (Level t) (sym (value.outs-Object ps)) tt

  level_of : (t : TypeOf) (v : InputValue S) (l : InputValue-F S (InputValue S)) → out v ≡ l → Fits t v → Level t l
  level_of t v l e h = subst (Level t) e (to_level t v h)

  pub null_of : (t : TypeOf) (v : InputValue S) → v ≡ value.Null → Fits t v → refuses_null t ≡ false
  null_of t v is h = level_of t v InputValue-F.Null (ap out is ∙ value.outs-Null) h

  pub list_of : (t : TypeOf) (v : InputValue S) (xs : List (Placed (InputValue S))) → v ≡ value.List xs → Fits t v → ListFits scalars types source t xs
  list_of t v xs is h = level_of t v (InputValue-F.List xs) (ap out is ∙ value.outs-List xs) h

  pub named_at : (o : Option (MetaType S C)) (t : TypeOf) (v : InputValue S) → type_named types t.name ≡ o → may_stand_alone t ≡ true → Named o v → AloneFits scalars types source t v
  named_at o t v there alone fits = (alone, subst (λ p. Named p v) (sym there) fits)

  pub at_named : (o : Option (MetaType S C)) (t : TypeOf) (v : InputValue S) → type_named types t.name ≡ o → AloneFits scalars types source t v → Named o v
  at_named o t v there fits = subst (λ p. Named p v) there fits.1

  pub alone_of : (t : TypeOf) (v : InputValue S) → Fits t v → (v ≡ value.Null → ⊥) → ((name : Bytes) → v ≡ value.Variable name → ⊥) → ((xs : List (Placed (InputValue S))) → v ≡ value.List xs → ⊥)
      → AloneFits scalars types source t v
  alone_of _ _ (null t h) no_null no_variable no_list = absurd (no_null refl)
  alone_of _ _ (variable t name) no_null no_variable no_list = absurd (no_variable name refl)
  alone_of _ _ (scalar t m s alone there accepted) no_null no_variable no_list = named_at (Some (meta.Scalar m)) t (value.Scalar s) there alone ((s, refl), accepted)
  alone_of _ _ (enum t m name alone there declared accepted) no_null no_variable no_list = named_at (Some (meta.Enum m)) t (value.Enum name) there alone ((name, inl refl, declared), accepted)
  alone_of _ _ (sent_enum t m s name sent text alone there declared accepted) no_null no_variable no_list =
      named_at (Some (meta.Enum m)) t (value.Scalar s) there alone ((name, inr (sent, (s, refl, text)), declared), accepted)
  alone_of _ _ (list t size within xs is allowed each) no_null no_variable no_list = absurd (no_list xs refl)
  alone_of _ _ (object t m ps alone there fields whole) no_null no_variable no_list = named_at (Some (meta.InputObject m)) t (value.Object ps) there alone (ps, refl, (fields, whole))

  from_named : (o : Option (MetaType S C)) (t : TypeOf) (v : InputValue S) → type_named types t.name ≡ o → may_stand_alone t ≡ true → Named o v → Fits t v
  from_named (Some (meta.Scalar m)) t v there alone fits =
      subst (Fits t) (sym fits.0.1) (scalar t m fits.0.0 alone there (subst (scalars.accepts m.check) fits.0.1 fits.1))
  from_named (Some (meta.Enum m)) t v there alone fits = from_name fits.0.1
    where
      from_name : Names scalars.answer source v fits.0.0 → Fits t v
      from_name (inl is) = subst (Fits t) (sym is) (enum t m fits.0.0 alone there fits.0.2 (subst (scalars.accepts m.check) is fits.1))
      from_name (inr w) = subst (Fits t) (sym w.1.1) (sent_enum t m w.1.0 fits.0.0 w.0 w.1.2 alone there fits.0.2 (subst (scalars.accepts m.check) w.1.1 fits.1))
  from_named (Some (meta.InputObject m)) t v there alone fits = subst (Fits t) (sym fits.1) (object t m fits.0 alone there fits.2.0 fits.2.1)
  from_named (Some (meta.Object m)) t v there alone fits = absurd fits
  from_named (Some (meta.Interface m)) t v there alone fits = absurd fits
  from_named (Some (meta.Union m)) t v there alone fits = absurd fits
  from_named (Some (meta.List m)) t v there alone fits = absurd fits
  from_named (Some (meta.Nullable m)) t v there alone fits = absurd fits
  from_named (Some (meta.Placeholder m)) t v there alone fits = absurd fits
  from_named None t v there alone fits = absurd fits

  pub judged_null : (t : TypeOf) (v : InputValue S) → v ≡ value.Null → refuses_null t ≡ false → Judged (Fits t v) (is_constant v) (Ok true)
  judged_null t v is h = (subst (Fits t) (sym is) (null t h), constant_null S ∙ ap is_constant (sym is))

  pub judged_variable : (t : TypeOf) (v : InputValue S) (name : Bytes) → v ≡ value.Variable name → Judged (Fits t v) (is_constant v) (Ok false)
  judged_variable t v name is = (subst (Fits t) (sym is) (variable t name), constant_variable S name ∙ ap is_constant (sym is))

  pub list_fits : (t : TypeOf) (v : InputValue S) (xs ys : List (Placed (InputValue S))) → v ≡ value.List xs → ys ≡ xs → ListFits scalars types source t ys → Fits t v
  list_fits t v xs ys is same fits =
      subst (Fits t) (sym is) (subst (λ zs. Fits t (value.List zs)) same (list t fits.0 fits.1 ys fits.2 fits.3 fits.4))

  pub fits_list : (t : TypeOf) (v : InputValue S) (xs ys : List (Placed (InputValue S))) → v ≡ value.List xs → ys ≡ xs → Fits t v → ListFits scalars types source t ys
  fits_list t v xs ys is same fits = subst (ListFits scalars types source t) (sym same) (list_of t v xs is fits)

  pub alone_fits : (t : TypeOf) (v : InputValue S) → AloneFits scalars types source t v → Fits t v
  alone_fits t v fits = from_named (type_named types t.name) t v refl fits.0 fits.1

  -- ---- items

  abbrev pub Each : TypeOf → List (Placed (InputValue S)) → Type 0
  Each = EachConforms scalars types source

  pub list_with : (t asked : TypeOf) (size : Option ℕ) (within : List TypeModifier) (xs : List (Placed (InputValue S))) → IsListOf t.modifiers size within → allows size (length xs) ≡ true → asked ≡ record { name = t.name; modifiers = within } → Each asked xs → ListFits scalars types source t xs
  list_with t asked size within xs is allowed same each = (size, within, is, allowed, subst (λ u. Each u xs) same each)

  pub within_list : (t asked : TypeOf) (size : Option ℕ) (within : List TypeModifier) (xs : List (Placed (InputValue S))) → IsListOf t.modifiers size within → asked ≡ record { name = t.name; modifiers = within } → ListFits scalars types source t xs → Each asked xs
  within_list t asked size within xs is same fits =
      let one : fits.1 ≡ within = (same_from_push fits.1 within (modifier.List fits.0) (modifier.List size) (sym fits.2 ∙ is)).0 in
      subst (λ u. Each u xs) (ap (λ m. record { name = t.name; modifiers = m }) one ∙ sym same) fits.4

  pub no_item : (t : TypeOf) (xs : List (Placed (InputValue S))) → length xs ≡ 0 → Each t xs
  no_item t xs none = subst (Each t) (sym (none_there xs none)) (no_items t)

  pub first_item : (t : TypeOf) (ys : List (Placed (InputValue S))) → Each t ys → (x : Placed (InputValue S)) (xs : List (Placed (InputValue S))) → ys ≡ x ∷ xs → Fits t x.item × Each t xs
  first_item _ _ (no_items t) x xs is = absurd (nil-cons x xs is)
  first_item _ _ (more_items t y ys here rest) x xs is =
      (subst (λ z. Fits t z.item) (same_head y x ys xs is) here, subst (Each t) (same_tail y x ys xs is) rest)

  pub with_item : (t : TypeOf) (ys : List (Placed (InputValue S))) (x : Placed (InputValue S)) (xs : List (Placed (InputValue S))) → ys ≡ x ∷ xs → Fits t x.item → Each t xs → Each t ys
  with_item t ys x xs is here rest = subst (Each t) (sym is) (more_items t x xs here rest)

  -- ---- fields

  abbrev pub Fields : List (Argument S) → List (Pair (InputValue S)) → Type 0
  Fields = FieldsConform scalars types source

  -- the field is declared, and its value conforms
  abbrev pub PairFits : List (Argument S) → Pair (InputValue S) → Type 0
  PairFits declared p = FieldFits scalars types source declared p.0.item p.1.item

  pub no_pair : (declared : List (Argument S)) (ps : List (Pair (InputValue S))) → length ps ≡ 0 → Fields declared ps
  no_pair declared ps none = subst (Fields declared) (sym (none_there ps none)) (no_fields declared)

  pub first_field : (declared : List (Argument S)) (qs : List (Pair (InputValue S))) → Fields declared qs → (p : Pair (InputValue S)) (ps : List (Pair (InputValue S))) → qs ≡ p ∷ ps → PairFits declared p × Fields declared ps
  first_field _ _ (no_fields declared) p ps is = absurd (nil-cons p ps is)
  first_field _ _ (more_fields declared a q qs there here rest) p ps is =
      (subst (PairFits declared) (same_head q p qs ps is) (a, there, here), subst (Fields declared) (same_tail q p qs ps is) rest)

  pub with_field : (declared : List (Argument S)) (qs : List (Pair (InputValue S))) (p : Pair (InputValue S)) (ps : List (Pair (InputValue S))) → qs ≡ p ∷ ps → PairFits declared p → Fields declared ps → Fields declared qs
  with_field declared qs p ps is fits rest = subst (Fields declared) (sym is) (more_fields declared fits.0 p ps fits.1 fits.2 rest)

  pub no_field : (declared : List (Argument S)) (name : Bytes) (v : InputValue S) → argument_named declared name ≡ None → FieldFits scalars types source declared name v → ⊥
  no_field declared name v none fits = none-some fits.0 (sym none ∙ fits.1)

  pub field_fits : (declared : List (Argument S)) (name : Bytes) (v : InputValue S) (a : Argument S) (t : TypeOf) → argument_named declared name ≡ Some a → t ≡ a.arg_type → Fits t v → FieldFits scalars types source declared name v
  field_fits declared name v a t there same fits = (a, there, subst (λ u. Fits u v) same fits)

  pub fits_field : (declared : List (Argument S)) (name : Bytes) (v : InputValue S) (a : Argument S) (t : TypeOf) → argument_named declared name ≡ Some a → t ≡ a.arg_type → FieldFits scalars types source declared name v → Fits t v
  fits_field declared name v a t there same fits = subst (λ u. Fits u v) (ap (λ (b : Argument S). b.arg_type) (same_Some fits.0 a (sym fits.1 ∙ there)) ∙ sym same) fits.2

  -- ---- objects

  abbrev pairs_within : InputValue-F S (InputValue S) → List (Pair (InputValue S))
  pairs_within (InputValue-F.Object ps) = ps
  pairs_within _ = []

  pub objects_same : (us ps : List (Pair (InputValue S))) → value.Object us ≡ value.Object ps → us ≡ ps
  objects_same us ps e = sym (ap pairs_within (value.outs-Object us)) ∙ ap (λ v. pairs_within (out v)) e ∙ ap pairs_within (value.outs-Object ps)

  -- the fields conform, none is missing, and the type accepts the object where no variable stands in it
  abbrev pub Whole : InputObjectMeta S C → InputValue S → List (Pair (InputValue S)) → Type 0
  Whole m v ps = Fields m.input_fields ps × WholeFits scalars.accepts m v ps (have_constants ps ≡ true)

  pub object_fits : (m : InputObjectMeta S C) (v : InputValue S) (ps : List (Pair (InputValue S))) → v ≡ value.Object ps → Whole m v ps → IsObject (ObjectFits scalars types source m) v
  object_fits m v ps is whole = (ps, is, (whole.0, (whole.1.0, λ no_variable. subst (scalars.accepts m.check) is (whole.1.1 (constant_object ps ∙ constant_if (value.Object ps) no_variable)))))

  fits_whole : (m : InputObjectMeta S C) (v : InputValue S) (ps : List (Pair (InputValue S))) → v ≡ value.Object ps → ObjectFits scalars types source m ps → Whole m v ps
  fits_whole m v ps is fits = (fits.0, (fits.1.0, λ h. subst (scalars.accepts m.check) (sym is) (fits.1.1 (is_constant_if (value.Object ps) (sym (constant_object ps) ∙ h)))))

  pub fits_object : (m : InputObjectMeta S C) (v : InputValue S) (ps : List (Pair (InputValue S))) → v ≡ value.Object ps → IsObject (ObjectFits scalars types source m) v → Whole m v ps
  fits_object m v ps is fits = fits_whole m v ps is (subst (ObjectFits scalars types source m) (objects_same fits.0 ps (sym fits.1 ∙ is)) fits.2)
