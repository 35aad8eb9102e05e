-- What is asked of what is open, once a list or an object was put on top of it.
use Rattle.std.proofs.Common.{◌≡◌, ◌&&◌, ◌+◌, ◌*◌, ◌<◌, Bool, true, false, ℕ, List, [], ◌∷◌, ◌++◌, Result, Ok, Err, ap, sym, subst, refl, ◌∙◌, arith}
use Rattle.std.specs.Prelude.{◌↔◌, OnOk}
use Rattle.std.proofs.lemmas.List.Sums.{sum_by_push, sum_by-cons}
use Rattle.graphql_text.specs.Memory.{UnlessMemory}
use Rattle.graphql_values.specs.declared.input_value.InputValue.{InputValue}
use Rattle.graphql_values.specs.declared.input_value.InputValue.TheVariants as value
use Rattle.graphql_values.specs.InputValues.{Placed, Pair}
use Rattle.graphql_values.specs.Counts.{value_count, count_layer}
use Rattle.graphql_values.proofs.CountEquations.{count_list, count_object, item_count, field_count}
use Rattle.graphql_values.proofs.InputValueEquations.{fold_null, fold_scalar, fold_enum, fold_variable}
use Rattle.graphql_values.proofs.InputValueInduction.{value_ind}
use Rattle.graphql_schema.specs.Scalars.{Scalars}
use Rattle.graphql_schema.specs.declared.meta.MetaType.{MetaType}
use Rattle.graphql_literal_checks.specs.declared.misfit.Misfit.{Misfit}
use Rattle.graphql_literal_checks.specs.declared.open_values.Open.{Open}
use Rattle.graphql_literal_checks.specs.declared.source.Source.{Source}
use Rattle.graphql_literal_checks.specs.Judged.{Judged, IsMemory}
use Rattle.graphql_literal_checks.specs.OpenValues.{Owed, Owes, LeavesAsked, all_constant, stays_constant, all_left, left_in, items_left, fields_left}

-- ---- variables

module _ {S C : Type 0} where
  constant_push : (here : Bool) (fs : List (Open S C)) (f : Open S C) → all_constant here (fs ++ f ∷ []) ≡ all_constant (stays_constant here f) fs
  constant_push here [] f = refl
  constant_push here (g ∷ fs) f = ap (λ b. stays_constant b g) (constant_push here fs f)

-- ---- what is asked

module _ {S C : Type 0} (scalars : Scalars S C) (types : List (MetaType S C)) (source : Source) where
  abbrev One : Bool → Open S C → Type 0
  One = Owes scalars types source

  abbrev All : Bool → List (Open S C) → Type 0
  All = Owed scalars types source

  abbrev Opened : Type 0 → Bool → Result Bool Misfit → List (Open S C) → List (Open S C) → Type 0
  Opened = LeavesAsked scalars types source

  owed_push : (here : Bool) (fs : List (Open S C)) (f : Open S C) → All here (fs ++ f ∷ []) → One here f × All (stays_constant here f) fs
  owed_push here [] f h = (h.0, tt)
  owed_push here (g ∷ fs) f h = let w = owed_push here fs f h.1 in (w.0, (subst (λ b. One b g) (constant_push here fs f) h.0, w.1))

  push_owed : (here : Bool) (fs : List (Open S C)) (f : Open S C) → One here f → All (stays_constant here f) fs → All here (fs ++ f ∷ [])
  push_owed here [] f one rest = (one, tt)
  push_owed here (g ∷ fs) f one rest = (subst (λ b. One b g) (sym (constant_push here fs f)) rest.0, push_owed here fs f one rest.1)

  popped_owes : (here : Bool) (fs gs : List (Open S C)) (f : Open S C) → gs ≡ fs ++ f ∷ [] → All here gs → One here f × All (stays_constant here f) fs
  popped_owes here fs gs f is h = owed_push here fs f (subst (All here) is h)

  pushed_owes : (here : Bool) (fs gs : List (Open S C)) (f : Open S C) → gs ≡ fs ++ f ∷ [] → One here f × All (stays_constant here f) fs → All here gs
  pushed_owes here fs gs f is w = subst (All here) (sym is) (push_owed here fs f w.0 w.1)

  -- nothing was opened
  pub opens_none : (P : Type 0) (b : Bool) (r : Result Bool Misfit) (fs : List (Open S C)) → Judged P b r → Opened P b r fs fs
  opens_none P b (Ok told) fs h = (λ o. (h.0, subst (λ x. All x fs) h.1 o), λ w. subst (λ x. All x fs) (sym h.1) w.1)
  opens_none P b (Err m) fs h = h

  -- one more was opened
  pub opens_one : (fs gs : List (Open S C)) (f : Open S C) → gs ≡ fs ++ f ∷ [] → Opened (One true f) (stays_constant true f) (Ok true) fs gs
  opens_one fs gs f is = (popped_owes true fs gs f is, pushed_owes true fs gs f is)

  -- something was opened within one more
  pub opens_within : (P : Type 0) (b : Bool) (r : Result Bool Misfit) (fs gs new : List (Open S C)) (f : Open S C) → gs ≡ fs ++ f ∷ [] → Opened P b r gs new → Opened (P × One b f) (stays_constant b f) r fs new
  opens_within P b (Ok told) fs gs new f is h = (
    λ o. let w = h.0 o in let u = popped_owes b fs gs f is w.1 in ((w.0, u.0), u.1),
    λ w. h.1 (w.0.0, pushed_owes b fs gs f is (w.0.1, w.1)),
  )
  opens_within P b (Err m) fs gs new f is h = λ not_memory w. h not_memory w.0

  pub opens_same : (P Q : Type 0) (b c : Bool) (r : Result Bool Misfit) (fs new : List (Open S C)) → (P → Q) → (Q → P) → b ≡ c → Opened P b r fs new → Opened Q c r fs new
  opens_same P Q b c (Ok told) fs new to back same h = (
    λ o. let w = h.0 o in (to w.0, subst (λ x. All x fs) same w.1),
    λ w. h.1 (back w.0, subst (λ x. All x fs) (sym same) w.1),
  )
  opens_same P Q b c (Err m) fs new to back same h = λ not_memory q. h not_memory (back q)

  -- ---- the loop

  module _ (Q : Type 0) where
    pub begins : (b told : Bool) (fs new : List (Open S C)) → fs ≡ [] → Opened Q b (Ok told) fs new → All told new ↔ Q
    begins b told fs new none h = (λ o. (h.0 o).0, λ q. h.1 (q, subst (All b) (sym none) tt))

    pub goes_on : (here told : Bool) (fs gs new : List (Open S C)) (f : Open S C) → gs ≡ fs ++ f ∷ [] → All here gs ↔ Q → Opened (One here f) (stays_constant here f) (Ok told) fs new → All told new ↔ Q
    goes_on here told fs gs new f is so_far h = (λ o. so_far.0 (pushed_owes here fs gs f is (h.0 o)), λ q. h.1 (popped_owes here fs gs f is (so_far.1 q)))

    pub stops : (here : Bool) (m : Misfit) (fs gs new : List (Open S C)) (f : Open S C) → gs ≡ fs ++ f ∷ [] → All here gs ↔ Q → Opened (One here f) (stays_constant here f) (Err m) fs new → UnlessMemory IsMemory m (Q → ⊥)
    stops here m fs gs new f is so_far h = λ not_memory q. h not_memory (popped_owes here fs gs f is (so_far.1 q)).0

    pub ends : (here : Bool) (gs : List (Open S C)) → gs ≡ [] → All here gs ↔ Q → Q
    ends here gs none so_far = so_far.0 (subst (All here) (sym none) tt)

-- ---- how many turns are left

-- what holds whether the call succeeds or not, and what follows where it succeeds
pub at_ok : {A E : Type 0} (P : Type 0) (r : Result A E) → P → OnOk r P
at_ok P (Ok x) h = h
at_ok P (Err e) h = tt

pub then_ok : {A E : Type 0} (P Q : Type 0) (r : Result A E) → (P → Q) → OnOk r P → OnOk r Q
then_ok P Q (Ok x) to h = to h
then_ok P Q (Err e) to h = tt

module _ {S : Type 0} where
  counts_itself : (v : InputValue S) → 0 < value_count v
  counts_itself = value_ind (λ v. 0 < value_count v)
      (omega (arith, fold_null {S = S} count_layer)) (λ s. omega (arith, fold_scalar count_layer s)) (λ n. omega (arith, fold_enum {S = S} count_layer n)) (λ n. omega (arith, fold_variable {S = S} count_layer n))
      (λ xs _. omega (arith, count_list xs)) (λ ps _. omega (arith, count_object ps))

  pub some_left : (left : ℕ) (v : InputValue S) → left < left + 2 * value_count v
  some_left left v = omega (arith, counts_itself v)

  pub list_left : (before after : ℕ) (v : InputValue S) (xs ys : List (Placed (InputValue S))) → v ≡ value.List xs → ys ≡ xs → after ≡ before + items_left ys → after < before + 2 * value_count v
  list_left before after v xs ys is same h = omega (arith, h, ap items_left same, ap value_count is, count_list xs)

  pub object_left : (before after : ℕ) (v : InputValue S) (ps qs : List (Pair (InputValue S))) → v ≡ value.Object ps → qs ≡ ps → after ≡ before + fields_left qs → after < before + 2 * value_count v
  object_left before after v ps qs is same h = omega (arith, h, ap fields_left same, ap value_count is, count_object ps)

  pub item_left : (before middle after : ℕ) (x : Placed (InputValue S)) (xs rest : List (Placed (InputValue S))) → xs ≡ x ∷ rest → middle ≡ before + items_left rest → after < middle + 2 * value_count x.item → after < before + items_left xs
  item_left before middle after x xs rest is h less = omega (arith, h, less, ap items_left is, sum_by-cons item_count x rest)

  pub field_left : (before after : ℕ) (p : Pair (InputValue S)) (ps rest : List (Pair (InputValue S))) → ps ≡ p ∷ rest → after < before + fields_left rest + 2 * value_count p.1.item → after < before + fields_left ps
  field_left before after p ps rest is less = omega (arith, less, ap fields_left is, sum_by-cons field_count p rest)

module _ {S C : Type 0} where
  pub left_push : (fs gs : List (Open S C)) (f : Open S C) → gs ≡ fs ++ f ∷ [] → all_left gs ≡ all_left fs + left_in f
  left_push fs gs f is = ap all_left is ∙ sum_by_push left_in fs f

-- ---- a first item and the others

pub constant_first : (before here : Bool) (one rest all : Bool) → all ≡ (one && rest) → ((before && here) && all) ≡ (((before && here) && one) && rest)
constant_first before here one rest all is = ap (λ b. (before && here) && b) is ∙ assoc (before && here) one rest
  where
    assoc : (a b c : Bool) → (a && (b && c)) ≡ ((a && b) && c)
    assoc true b c = refl
    assoc false b c = refl
