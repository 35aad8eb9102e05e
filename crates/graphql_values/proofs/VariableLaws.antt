-- Which variables stand in a value, and what a value becomes once they have values.
use Rattle.std.proofs.Common.{◌≡◌, ℕ, zero, suc, ◌<◌, List, [], ◌∷◌, ◌++◌, Option, Some, None, map, length, get_or, ap, sym, subst, refl, ◌∙◌, arith}
use Rattle.std.specs.List.{flat_map, Contains, Any}
use Rattle.std.specs.Option.{option_map, option_and_then}
use Rattle.std.proofs.lemmas.Option.{none-some, same_Some}
use Rattle.graphql_text.specs.declared.text.Text.{Text}
use Rattle.graphql_values.specs.declared.input_value.InputValue.{InputValue}
use Rattle.graphql_values.specs.declared.input_value.InputValue.TheVariants as value
use Rattle.graphql_values.specs.InputValues.{Placed, Pair}
use Rattle.graphql_values.specs.Laws.{VariablesAreListed, NoneIsListed, ConstantsStay, NoVariableStays, OnlyMissingValuesFail}
use Rattle.graphql_values.specs.Variables.{Occurs, itself, in_list, in_object, IsConstant, names_of_variables, variables_layer, each_given, constant_layer, constant_of, constant_item, constant_pair}
use Rattle.graphql_values.proofs.InputValueEquations.{fold_null, fold_scalar, fold_enum, fold_variable}
use Rattle.graphql_values.proofs.InputValueInduction.{value_ind, HoldsOfItems, HoldsOfPairs}
use Rattle.graphql_values.proofs.SameValueLemmas.{get_or_any}
use Rattle.graphql_values.proofs.VariableLemmas.{variables_in_list, variables_in_object, constant_of_list, constant_of_object}

-- ---- lists

among_first : {X : Type 0} (xs ys : List X) (x : X) → Contains xs x → Contains (xs ++ ys) x
among_first [] ys x w = absurd (let k : w.0 < 0 = w.1 in omega arith)
among_first (z ∷ xs) ys x (zero, within, is) = (zero, omega arith, is)
among_first (z ∷ xs) ys x (suc k, within, is) = let w : Contains (xs ++ ys) x = among_first xs ys x (k, omega arith, is) in (suc w.0, (let b : w.0 < length (xs ++ ys) = w.1 in omega arith), w.2)

among_last : {X : Type 0} (xs ys : List X) (x : X) → Contains ys x → Contains (xs ++ ys) x
among_last [] ys x w = w
among_last (z ∷ xs) ys x w = let v : Contains (xs ++ ys) x = among_last xs ys x w in (suc v.0, (let b : v.0 < length (xs ++ ys) = v.1 in omega arith), v.2)

module _ {X Y : Type 0} (f : X → List Y) (y : Y) where
  among_all : (xs : List X) (k : ℕ) (x : X) → k < length xs → get_or xs k x ≡ x → Contains (f x) y → Contains (flat_map f xs) y
  among_all [] k x within is w = absurd (omega arith)
  among_all (z ∷ xs) zero x within is w = among_first (f z) (flat_map f xs) y (subst (λ u. Contains (f u) y) (sym is) w)
  among_all (z ∷ xs) (suc k) x within is w = among_last (f z) (flat_map f xs) y (among_all xs k x (omega arith) is w)

  -- an element of a list of lists, joined, stands in one of them
  from_one : (xs ys : List Y) → Contains (xs ++ ys) y → (R : Type 0) → (Contains xs y → R) → (Contains ys y → R) → R
  from_one [] ys w R left right = right w
  from_one (z ∷ xs) ys (zero, within, is) R left right = left (zero, omega arith, is)
  from_one (z ∷ xs) ys (suc k, within, is) R left right =
      from_one xs ys (k, omega arith, is) R (λ v. left (suc v.0, (let b : v.0 < length xs = v.1 in omega arith), v.2)) right

  among_which : (xs : List X) → Contains (flat_map f xs) y → Any (λ x. Contains (f x) y) xs
  among_which [] w = absurd (let k : w.0 < 0 = w.1 in omega arith)
  among_which (x ∷ xs) w = from_one (f x) (flat_map f xs) w (Any (λ x. Contains (f x) y) (x ∷ xs))
      (λ v. (zero, x, omega arith, refl, v))
      (λ v. let u : Any (λ x. Contains (f x) y) xs = among_which xs v in (suc u.0, u.1, (let b : u.0 < length xs = u.2 in omega arith), u.3, u.4))

module _ {A B : Type 0} (f : A → Option B) where
  each_stays : (same : B → A) → (xs : List A) (ys : List B) → xs ≡ map same ys → ((k : ℕ) (d : B) → k < length ys → f (same (get_or ys k d)) ≡ Some (get_or ys k d)) → each_given f xs ≡ Some ys
  each_stays same xs [] e h = ap (each_given f) e
  each_stays same xs (y ∷ ys) e h =
      let rest : each_given f (map same ys) ≡ Some ys = each_stays same (map same ys) ys refl (λ k d within. h (suc k) d (omega arith)) in
      ap (each_given f) e
      ∙ ap (λ o. option_and_then (λ z. option_map (λ zs. z ∷ zs) (each_given f (map same ys))) o) (h 0 y (omega arith))
      ∙ ap (option_map (λ zs. y ∷ zs)) rest

  -- one of the items gives nothing
  first_or_rest : (o : Option B) (r : Option (List B)) (R : Type 0) → option_and_then (λ y. option_map (λ ys. y ∷ ys) r) o ≡ None → (o ≡ None → R) → (r ≡ None → R) → R
  first_or_rest None r R e first rest = first refl
  first_or_rest (Some y) None R e first rest = rest refl
  first_or_rest (Some y) (Some ys) R e first rest = absurd (none-some (y ∷ ys) (sym e))

  which_lacks : (xs : List A) → each_given f xs ≡ None → Any (λ x. f x ≡ None) xs
  which_lacks [] e = absurd (none-some [] (sym e))
  which_lacks (x ∷ xs) e = first_or_rest (f x) (each_given f xs) (Any (λ x. f x ≡ None) (x ∷ xs)) e
      (λ here. (zero, x, omega arith, refl, here))
      (λ later. let u : Any (λ x. f x ≡ None) xs = which_lacks xs later in (suc u.0, u.1, (let b : u.0 < length xs = u.2 in omega arith), u.3, u.4))

  -- what the items give is what one of them gives
  parts_of : (o : Option B) (r : Option (List B)) (zs : List B) (R : Type 0) → option_and_then (λ y. option_map (λ ys. y ∷ ys) r) o ≡ Some zs → ((y : B) (ys : List B) → o ≡ Some y → r ≡ Some ys → y ∷ ys ≡ zs → R) → R
  parts_of None r zs R e go = absurd (none-some zs e)
  parts_of (Some y) None zs R e go = absurd (none-some zs e)
  parts_of (Some y) (Some ys) zs R e go = go y ys refl refl (same_Some (y ∷ ys) zs e)

  first_or_later : (Q : B → Type 0) (y : B) (ys : List B) (z : B) → Q y → ((k : ℕ) → k < length ys → get_or ys k z ≡ z → Q z) → (k : ℕ) → k < length (y ∷ ys) → get_or (y ∷ ys) k z ≡ z → Q z
  first_or_later Q y ys z here later zero within is = subst Q is here
  first_or_later Q y ys z here later (suc k) within is = later k (omega arith) is

  each_from : (Q : B → Type 0) (xs : List A) (zs : List B) → ((k : ℕ) (d : A) → k < length xs → (y : B) → f (get_or xs k d) ≡ Some y → Q y) → each_given f xs ≡ Some zs → (k : ℕ) (z : B) → k < length zs → get_or zs k z ≡ z → Q z
  each_from Q [] zs h e k z within is = absurd (let l : length zs ≡ 0 = ap length (sym (same_Some [] zs e)) in omega arith)
  each_from Q (x ∷ xs) zs h e k z within is = parts_of (f x) (each_given f xs) zs (Q z) e (λ y ys first rest all.
      first_or_later Q y ys z (h 0 x (omega arith) y first) (λ j b i. each_from Q xs ys (λ j d b. h (suc j) d (omega arith)) rest j z b i) k (subst (λ l. k < length l) (sym all) within) (subst (λ l. get_or l k z ≡ z) (sym all) is))

-- ---- names

nothing_among : {R : Type 0} (name : Text) (ns : List Text) → ns ≡ [] → Contains ns name → R
nothing_among name ns e w = absurd (let l : length ns ≡ 0 = ap length e in let b : w.0 < length ns = w.1 in omega arith)

one_of : (name n : Text) → Contains (n ∷ []) name → n ≡ name
one_of name n (zero, within, is) = is
one_of name n (suc k, within, is) = absurd (omega arith)

empty_if : (ns : List Text) → ((n : Text) → Contains ns n → ⊥) → ns ≡ []
empty_if [] h = refl
empty_if (n ∷ ns) h = absurd (h n (0, omega arith, refl))

-- ---- the variables of a value

module _ {S : Type 0} where
  items_variables : (xs : List (Placed (InputValue S))) → List Text
  items_variables xs = flat_map (λ (x : Placed (InputValue S)). names_of_variables x.item) xs

  listed : (name : Text) (v : InputValue S) → Occurs S name v → Contains (names_of_variables v) name
  listed name _ itself = subst (λ ns. Contains ns name) (sym (fold_variable variables_layer name)) (0, omega arith, refl)
  listed name _ (in_list xs x among o) =
      subst (λ ns. Contains ns name) (sym (variables_in_list xs)) (among_all (λ (x : Placed (InputValue S)). names_of_variables x.item) name xs among.0 x among.1 among.2 (listed name x.item o))
  listed name _ (in_object ps p among o) =
      subst (λ ns. Contains ns name) (sym (variables_in_object ps)) (among_all (λ (p : Pair (InputValue S)). names_of_variables p.1.item) name ps among.0 p among.1 among.2 (listed name p.1.item o))

  module _ (name : Text) where
    abbrev Stands : InputValue S → Type 0
    Stands v = Contains (names_of_variables v) name → Occurs S name v

    stands_in_list : (xs : List (Placed (InputValue S))) → HoldsOfItems Stands xs → Stands (value.List xs)
    stands_in_list xs each w =
        let u : Any (λ (x : Placed (InputValue S)). Contains (names_of_variables x.item) name) xs = among_which (λ (x : Placed (InputValue S)). names_of_variables x.item) name xs (subst (λ ns. Contains ns name) (variables_in_list xs) w) in
        in_list xs u.1 (u.0, u.2, u.3) (subst (λ z. Stands z.item) u.3 (each u.0 u.1 u.2) u.4)

    stands_in_object : (ps : List (Pair (InputValue S))) → HoldsOfPairs Stands ps → Stands (value.Object ps)
    stands_in_object ps each w =
        let u : Any (λ (p : Pair (InputValue S)). Contains (names_of_variables p.1.item) name) ps = among_which (λ (p : Pair (InputValue S)). names_of_variables p.1.item) name ps (subst (λ ns. Contains ns name) (variables_in_object ps) w) in
        in_object ps u.1 (u.0, u.2, u.3) (subst (λ z. Stands z.1.item) u.3 (each u.0 u.1 u.2) u.4)

    stands : (v : InputValue S) → Stands v
    stands = value_ind Stands
        (nothing_among name _ (fold_null variables_layer))
        (λ s. nothing_among name _ (fold_scalar variables_layer s))
        (λ n. nothing_among name _ (fold_enum variables_layer n))
        (λ n w. subst (λ m. Occurs S name (value.Variable m)) (sym (one_of name n (subst (λ ns. Contains ns name) (fold_variable variables_layer n) w))) itself)
        stands_in_list stands_in_object

pub variables_are_listed : (S : Type 0) → VariablesAreListed S
variables_are_listed S v name = (stands name v, listed name v)

pub none_is_listed : (S : Type 0) → NoneIsListed S
none_is_listed S v = (λ e name o. nothing_among name _ e (listed name v o), λ constant. empty_if (names_of_variables v) (λ name w. constant name (stands name v w)))

-- ---- what a value becomes

module _ {S : Type 0} (given : Text → Option (InputValue S)) where
  abbrev Stays : InputValue S → Type 0
  Stays v = IsConstant v → constant_of given v ≡ Some v

  mapped_same : {X : Type 0} (xs : List X) → xs ≡ map (λ x. x) xs
  mapped_same [] = refl
  mapped_same (x ∷ xs) = ap (λ rest. x ∷ rest) (mapped_same xs)

  list_stays : (xs : List (Placed (InputValue S))) → HoldsOfItems Stays xs → Stays (value.List xs)
  list_stays xs each constant =
      constant_of_list given xs
      ∙ ap (option_map value.List) (each_stays (constant_item given) (λ x. x) xs xs (mapped_same xs) (λ k d within.
      ap (option_map (λ w. record { item = w; span = (get_or xs k d).span })) (each k d within (λ name o. constant name (in_list xs (get_or xs k d) (k, within, get_or_any xs k (get_or xs k d) d within) o)))))

  object_stays : (ps : List (Pair (InputValue S))) → HoldsOfPairs Stays ps → Stays (value.Object ps)
  object_stays ps each constant =
      constant_of_object given ps
      ∙ ap (option_map value.Object) (each_stays (constant_pair given) (λ x. x) ps ps (mapped_same ps) (λ k d within.
      ap (λ o. option_map (λ x. ((get_or ps k d).0, x)) (option_map (λ w. record { item = w; span = (get_or ps k d).1.span }) o)) (each k d within (λ name o. constant name (in_object ps (get_or ps k d) (k, within, get_or_any ps k (get_or ps k d) d within) o)))))

  stays : (v : InputValue S) → Stays v
  stays = value_ind Stays (λ _. fold_null (constant_layer given)) (λ s _. fold_scalar (constant_layer given) s) (λ n _. fold_enum (constant_layer given) n) (λ n constant. absurd (constant n itself)) list_stays object_stays

  abbrev Missing : InputValue S → Type 0
  Missing v = constant_of given v ≡ None → (name : Text) × Occurs S name v × (given name ≡ None)

  is_none : {A B : Type 0} (f : A → B) (o : Option A) → option_map f o ≡ None → o ≡ None
  is_none f None e = refl
  is_none f (Some x) e = absurd (none-some (f x) (sym e))

  something : {A R : Type 0} (x : A) (o : Option A) → o ≡ Some x → o ≡ None → R
  something x o e f = absurd (none-some x (sym f ∙ e))

  list_missing : (xs : List (Placed (InputValue S))) → HoldsOfItems Missing xs → Missing (value.List xs)
  list_missing xs each e =
      let u : Any (λ x. constant_item given x ≡ None) xs = which_lacks (constant_item given) xs (is_none value.List _ (sym (constant_of_list given xs) ∙ e)) in
      let w = subst (λ z. Missing z.item) u.3 (each u.0 u.1 u.2) (is_none _ _ u.4) in
      (w.0, in_list xs u.1 (u.0, u.2, u.3) w.1, w.2)

  object_missing : (ps : List (Pair (InputValue S))) → HoldsOfPairs Missing ps → Missing (value.Object ps)
  object_missing ps each e =
      let u : Any (λ p. constant_pair given p ≡ None) ps = which_lacks (constant_pair given) ps (is_none value.Object _ (sym (constant_of_object given ps) ∙ e)) in
      let w = subst (λ z. Missing z.1.item) u.3 (each u.0 u.1 u.2) (is_none _ _ (is_none _ _ u.4)) in
      (w.0, in_object ps u.1 (u.0, u.2, u.3) w.1, w.2)

  missing : (v : InputValue S) → Missing v
  missing = value_ind Missing
      (something _ _ (fold_null (constant_layer given))) (λ s. something _ _ (fold_scalar (constant_layer given) s)) (λ n. something _ _ (fold_enum (constant_layer given) n))
      (λ n e. (n, itself, sym (fold_variable (constant_layer given) n) ∙ e))
      list_missing object_missing

pub constants_stay : (S : Type 0) → ConstantsStay S
constants_stay S given v = stays given v

pub only_missing_values_fail : (S : Type 0) → OnlyMissingValuesFail S
only_missing_values_fail S given v = missing given v

module _ {S : Type 0} (given : Text → Option (InputValue S)) (given_constant : (name : Text) (w : InputValue S) → given name ≡ Some w → IsConstant w) where
  abbrev Becomes : InputValue S → Type 0
  Becomes v = (w : InputValue S) → constant_of given v ≡ Some w → IsConstant w

  abbrev without : InputValue S → Type 0
  without w = names_of_variables w ≡ []

  is_constant : (w : InputValue S) → names_of_variables w ≡ [] → IsConstant w
  is_constant w e = (none_is_listed S w).0 e

  inside : {A B : Type 0} (f : A → B) (o : Option A) (b : B) → option_map f o ≡ Some b → (R : Type 0) → ((a : A) → o ≡ Some a → f a ≡ b → R) → R
  inside f None b e R go = absurd (none-some b e)
  inside f (Some a) b e R go = go a refl (same_Some (f a) b e)

  constant_list : (ys : List (Placed (InputValue S))) → ((k : ℕ) (y : Placed (InputValue S)) → k < length ys → get_or ys k y ≡ y → IsConstant y.item) → IsConstant (value.List ys)
  constant_list ys each name o =
      let u : Any (λ (y : Placed (InputValue S)). Contains (names_of_variables y.item) name) ys = among_which (λ (y : Placed (InputValue S)). names_of_variables y.item) name ys (subst (λ ns. Contains ns name) (variables_in_list ys) (listed name (value.List ys) o)) in
      each u.0 u.1 u.2 u.3 name (stands name u.1.item u.4)

  constant_object : (ps : List (Pair (InputValue S))) → ((k : ℕ) (p : Pair (InputValue S)) → k < length ps → get_or ps k p ≡ p → IsConstant p.1.item) → IsConstant (value.Object ps)
  constant_object ps each name o =
      let u : Any (λ (p : Pair (InputValue S)). Contains (names_of_variables p.1.item) name) ps = among_which (λ (p : Pair (InputValue S)). names_of_variables p.1.item) name ps (subst (λ ns. Contains ns name) (variables_in_object ps) (listed name (value.Object ps) o)) in
      each u.0 u.1 u.2 u.3 name (stands name u.1.1.item u.4)

  list_becomes_constant : (xs : List (Placed (InputValue S))) → HoldsOfItems Becomes xs → Becomes (value.List xs)
  list_becomes_constant xs each w e = inside value.List (each_given (constant_item given) xs) w (sym (constant_of_list given xs) ∙ e) (IsConstant w) (λ ys all is.
      subst IsConstant is (constant_list ys (each_from (constant_item given) (λ y. IsConstant y.item) xs ys (λ k d within y gives.
      inside (λ v. record { item = v; span = (get_or xs k d).span }) (constant_of given (get_or xs k d).item) y gives (IsConstant y.item) (λ v one same. subst (λ z. IsConstant z.item) same (each k d within v one))) all)))

  object_becomes_constant : (ps : List (Pair (InputValue S))) → HoldsOfPairs Becomes ps → Becomes (value.Object ps)
  object_becomes_constant ps each w e = inside value.Object (each_given (constant_pair given) ps) w (sym (constant_of_object given ps) ∙ e) (IsConstant w) (λ qs all is.
      subst IsConstant is (constant_object qs (each_from (constant_pair given) (λ q. IsConstant q.1.item) ps qs (λ k d within q gives.
      inside (λ x. ((get_or ps k d).0, x)) (constant_item given (get_or ps k d).1) q gives (IsConstant q.1.item) (λ x two whole.
      inside (λ v. record { item = v; span = (get_or ps k d).1.span }) (constant_of given (get_or ps k d).1.item) x two (IsConstant q.1.item) (λ v one same.
      subst (λ z. IsConstant z.1.item) whole (subst (λ z. IsConstant z.item) same (each k d within v one))))) all)))

  from_leaf : (v w : InputValue S) → constant_of given v ≡ Some v → names_of_variables v ≡ [] → constant_of given v ≡ Some w → IsConstant w
  from_leaf v w stays none e = subst IsConstant (same_Some v w (sym stays ∙ e)) (is_constant v none)

  becomes : (v : InputValue S) → Becomes v
  becomes = value_ind Becomes
      (λ w. from_leaf value.Null w (fold_null (constant_layer given)) (fold_null variables_layer))
      (λ s w. from_leaf (value.Scalar s) w (fold_scalar (constant_layer given) s) (fold_scalar variables_layer s))
      (λ n w. from_leaf (value.Enum n) w (fold_enum (constant_layer given) n) (fold_enum variables_layer n))
      (λ n w e. given_constant n w (sym (fold_variable (constant_layer given) n) ∙ e))
      list_becomes_constant object_becomes_constant

pub no_variable_stays : (S : Type 0) → NoVariableStays S
no_variable_stays S given constants v w = becomes given constants v w
