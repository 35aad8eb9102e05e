-- Data of a mutation fit its selection sets, and its failures are just what fails.
use Rattle.std.proofs.Common.{◌≡◌, ◌⊎◌, inl, inr, refl, sym, subst, ap, Bool, List, [], ◌∷◌, ◌++◌, map, reverse, Option, Some, None, Result, Ok, Err}
use Rattle.std.specs.Prelude.{IfSome}
use Rattle.std.specs.List.{All, Contains}
use Rattle.std.specs.Option.{option_map}
use Rattle.std.proofs.lemmas.List.Elements.{All-head, All-tail, Contains-append_cases, Contains-append_left, Contains-append_right}
use Rattle.graphql_names.specs.Names.{Bytes}
use Rattle.graphql_output_values.specs.declared.value.Value.{Value}
use Rattle.graphql_output_values.specs.declared.value.Value.TheVariants as value
use Rattle.graphql_schema.specs.Types.{TypeOf}
use Rattle.graphql_written_out.specs.Trees.{Tree}
use Rattle.graphql_written_out.specs.Fields.{Found}
use Rattle.graphql_written_out.specs.Groups.{keys, under}
use Rattle.graphql_field_results.specs.declared.execution_error.ExecutionError.{ExecutionError}
use Rattle.graphql_field_results.specs.declared.field_error.FieldError.{FieldError}
use Rattle.graphql_field_results.specs.declared.resolved.Resolved.{Resolved}
use Rattle.graphql_semantics.specs.Completion.{Members, blame_at, complete_result, is_required}
use Rattle.graphql_semantics.specs.Engines.{Engine}
use Rattle.graphql_semantics.specs.Evaluation.{Group, evaluate, found_in, sets_below}
use Rattle.graphql_semantics.specs.Failing.{IsAccounted}
use Rattle.graphql_semantics.specs.Fitting.{Fits}
use Rattle.graphql_semantics.specs.Laws.{DataFit, FailuresAreExact, NoDataFails}
use Rattle.graphql_semantics.specs.Outcomes.{Outcome, show_place}
use Rattle.graphql_semantics.proofs.ExactFailures.{comes, told-below, told-failure}
use Rattle.graphql_semantics.proofs.Failures.{result-accounted}
use Rattle.graphql_semantics.proofs.FittingData.{fit-result}
use Rattle.graphql_semantics.proofs.Elements.{here, none-in, only-one}
use Rattle.graphql_semantics.proofs.GroupKeys.{HasField, keys-have_fields}
use Rattle.graphql_mutation.specs.Fitting.{RootFails, RootFits, RunFails, RunFits, after_step, declared, undeclared, no_groups, more_groups, resolver, answer, below, first, later}
use Rattle.graphql_mutation.specs.Laws.{RunFailuresAreExact, RunsFit, RunsWithoutDataFail}
use Rattle.graphql_mutation.specs.Serial.{Mutation, Run, declared_step, mutate, root_group, root_groups, serially, step_of, unless_null}

if-imp : {A : Type 0} (P Q : A → Type 0) → ((x : A) → P x → Q x) → (o : Option A) → IfSome o P → IfSome o Q
if-imp P Q h None p = tt
if-imp P Q h (Some x) p = h x p

if-map : {A B : Type 0} (f : A → B) (P : A → Type 0) (Q : B → Type 0) → ((x : A) → P x → Q (f x)) → (o : Option A) → IfSome o P → IfSome (option_map f o) Q
if-map f P Q h None p = tt
if-map f P Q h (Some x) p = h x p

no-map : {A B : Type 0} (f : A → B) (o : Option A) → option_map f o ≡ None → o ≡ None
no-map f None e = refl
no-map f (Some x) e = absurd (cc)

no-behind : {A : Type 0} (xs ys : List A) → xs ++ ys ≡ [] → ys ≡ []
no-behind [] ys e = e
no-behind (x ∷ xs) ys e = absurd (cc)

then-accounted : {S X : Type 0} (key : Bytes) (one : Run S X (Value S)) (v : Option (Value S)) (others : Run S X (Members S))
    → one.outcome.value ≡ v → IsAccounted one.outcome → IsAccounted others.outcome → IsAccounted (unless_null key one v others).outcome
then-accounted key one None others is h k = λ none empty. h is empty
then-accounted key one (Some v) others is h k = λ none empty.
    k (no-map (λ ms. (key, v) ∷ ms) others.outcome.value none) (no-behind one.outcome.failures others.outcome.failures empty)

module _ {S N X : Type 0} (m : Mutation S N X) (object : Bytes) where
  -- what the nodes in the answer of a field give
  abbrev run_below : X → Bytes → Found S → List (Found S) → N → Outcome S (Members S)
  run_below c key x xs n = evaluate (after_step m object c x) (key ∷ []) ((after_step m object c x).concrete n) n (sets_below (x ∷ xs))

  -- ---- data

  module _ (fit : DataFit S N) where
    field-fits : (c : X) (key : Bytes) (x : Found S) (xs : List (Found S)) (type : Option TypeOf) → (m.engine c).declared object x.head.name ≡ type
        → IfSome (declared_step m object key (sets_below (x ∷ xs)) x.head c type).outcome.value (RootFits m object c (x ∷ xs))
    field-fits c key x xs None d = undeclared c x xs d
    field-fits c key x xs (Some type) d =
        let e : Engine S N = after_step m object c x in
        if-imp (Fits e (sets_below (x ∷ xs)) type.name (reverse type.modifiers)) (RootFits m object c (x ∷ xs))
        (λ v h. declared c x xs type v d h) _
        (fit-result e (sets_below (x ∷ xs)) (run_below c key x xs) (λ n. fit e (key ∷ []) (e.concrete n) n (sets_below (x ∷ xs)))
        (blame_at (key ∷ []) x.head.place) type.name (reverse type.modifiers) (step_of m object c x.head).answer)

    group-fits : (c : X) (key : Bytes) (xs : List (Found S)) → IfSome (root_group m object c key xs).outcome.value (RootFits m object c xs)
    group-fits c key [] = tt
    group-fits c key (x ∷ xs) = field-fits c key x xs ((m.engine c).declared object x.head.name) refl

    then-fit : (c : X) (key : Bytes) (xs : List (Found S)) (gs : List (Group S)) (v : Option (Value S)) (others : Run S X (Members S))
        → IfSome v (RootFits m object c xs) → IfSome others.outcome.value (RunFits m object (root_group m object c key xs).after gs)
        → IfSome (unless_null key (root_group m object c key xs) v others).outcome.value (RunFits m object c ((key, xs) ∷ gs))
    then-fit c key xs gs None others h k = tt
    then-fit c key xs gs (Some v) others h k =
        if-map (λ ms. (key, v) ∷ ms) (RunFits m object (root_group m object c key xs).after gs) (RunFits m object c ((key, xs) ∷ gs))
        (λ ms r. more_groups c key xs v gs ms h r) others.outcome.value k

    groups-fit : (c : X) (gs : List (Group S)) → IfSome (serially m object c gs).outcome.value (RunFits m object c gs)
    groups-fit c [] = no_groups c
    groups-fit c ((key, xs) ∷ gs) =
        let one = root_group m object c key xs in
        then-fit c key xs gs one.outcome.value (serially m object one.after gs) (group-fits c key xs) (groups-fit one.after gs)

  -- ---- failures

  module _ (exact : FailuresAreExact S N) where
    module _ (c : X) (key : Bytes) (x : Found S) (xs : List (Found S)) (f : ExecutionError S) where
      abbrev completed : TypeOf → Result (Resolved S N) (FieldError S) → Outcome S (Value S)
      completed type a =
          complete_result (run_below c key x xs) (blame_at (key ∷ []) x.head.place) type.name ((after_step m object c x).is_leaf type.name)
          (λ n. (after_step m object c x).is_possible type.name ((after_step m object c x).concrete n)) (reverse type.modifiers) a

      result-fails : (type : TypeOf) (a : Result (Resolved S N) (FieldError S)) → (m.engine c).declared object x.head.name ≡ Some type
          → (step_of m object c x.head).answer ≡ a → Contains (completed type a).failures f → RootFails m object c key (x ∷ xs) f
      result-fails type (Err error) d q h =
          subst (λ y. RootFails m object c key (x ∷ xs) y) (only-one (blame_at (key ∷ []) x.head.place error) f h) (resolver c key x xs type error d q)
      result-fails type (Ok r) d q h = elim (comes (run_below c key x xs) (blame_at (key ∷ []) x.head.place) type.name ((after_step m object c x).is_leaf type.name)
          (λ n. (after_step m object c x).is_possible type.name ((after_step m object c x).concrete n)) f (reverse type.modifiers) r h) [
            | inl own ↦ subst (λ y. RootFails m object c key (x ∷ xs) y) (sym own.2) (answer c key x xs type r own.0 d q own.1)
            | inr under ↦
                below c key x xs type r under.0 f d q under.1
                ((exact (after_step m object c x) (key ∷ []) ((after_step m object c x).concrete under.0) under.0 (sets_below (x ∷ xs)) f).0 under.2)
          ]

      field-fails : (type : Option TypeOf) → (m.engine c).declared object x.head.name ≡ type
          → Contains (declared_step m object key (sets_below (x ∷ xs)) x.head c type).outcome.failures f → RootFails m object c key (x ∷ xs) f
      field-fails None d h = none-in f h
      field-fails (Some type) d h = result-fails type (step_of m object c x.head).answer d refl h

    group-fails : (c : X) (key : Bytes) (xs : List (Found S)) (f : ExecutionError S)
        → Contains (root_group m object c key xs).outcome.failures f → RootFails m object c key xs f
    group-fails c key [] f h = none-in f h
    group-fails c key (x ∷ xs) f h = field-fails c key x xs f ((m.engine c).declared object x.head.name) refl h

    then-fails : (c : X) (key : Bytes) (xs : List (Found S)) (gs : List (Group S)) (f : ExecutionError S) (v : Option (Value S)) (others : Run S X (Members S))
        → (root_group m object c key xs).outcome.value ≡ v → (Contains others.outcome.failures f → RunFails m object (root_group m object c key xs).after gs f)
        → Contains (unless_null key (root_group m object c key xs) v others).outcome.failures f → RunFails m object c ((key, xs) ∷ gs) f
    then-fails c key xs gs f None others is k h = first c key xs gs f (group-fails c key xs f h)
    then-fails c key xs gs f (Some v) others is k h = elim (Contains-append_cases (root_group m object c key xs).outcome.failures others.outcome.failures f h) [
      | inl own ↦ first c key xs gs f (group-fails c key xs f own)
      | inr more ↦ later c key xs gs v f is (k more)
    ]

    only-fails : (c : X) (gs : List (Group S)) (f : ExecutionError S) → Contains (serially m object c gs).outcome.failures f → RunFails m object c gs f
    only-fails c [] f h = none-in f h
    only-fails c ((key, xs) ∷ gs) f h =
        let one = root_group m object c key xs in
        then-fails c key xs gs f one.outcome.value (serially m object one.after gs) refl (only-fails one.after gs f) h

    root-told : (c : X) (key : Bytes) (xs : List (Found S)) (f : ExecutionError S) → RootFails m object c key xs f
        → Contains (root_group m object c key xs).outcome.failures f
    root-told _ _ _ _ (resolver c key x xs type error d q) =
        rw (d, q) (here (blame_at (key ∷ []) x.head.place error) [])
    root-told _ _ _ _ (answer c key x xs type r error d q fail) =
        rw (d, q) (told-failure (run_below c key x xs) (blame_at (key ∷ []) x.head.place) type.name ((after_step m object c x).is_leaf type.name)
        (λ n. (after_step m object c x).is_possible type.name ((after_step m object c x).concrete n)) (blame_at (key ∷ []) x.head.place error) fail refl)
    root-told _ _ _ _ (below c key x xs type r n f d q at fail) =
        rw (d, q) (told-below (run_below c key x xs) (blame_at (key ∷ []) x.head.place) type.name ((after_step m object c x).is_leaf type.name)
        (λ n. (after_step m object c x).is_possible type.name ((after_step m object c x).concrete n)) f at
        ((exact (after_step m object c x) (key ∷ []) ((after_step m object c x).concrete n) n (sets_below (x ∷ xs)) f).1 fail))

    told-first : (key : Bytes) (one : Run S X (Value S)) (v : Option (Value S)) (others : Run S X (Members S)) (f : ExecutionError S)
        → Contains one.outcome.failures f → Contains (unless_null key one v others).outcome.failures f
    told-first key one None others f h = h
    told-first key one (Some v) others f h = Contains-append_left one.outcome.failures others.outcome.failures f h

    told-later : (key : Bytes) (one : Run S X (Value S)) (v : Option (Value S)) (w : Value S) (others : Run S X (Members S)) (f : ExecutionError S)
        → v ≡ Some w → Contains others.outcome.failures f → Contains (unless_null key one v others).outcome.failures f
    told-later key one None w others f is h = absurd (cc)
    told-later key one (Some v) w others f is h = Contains-append_right one.outcome.failures others.outcome.failures f h

    all-told : (c : X) (gs : List (Group S)) (f : ExecutionError S) → RunFails m object c gs f → Contains (serially m object c gs).outcome.failures f
    all-told _ _ _ (first c key xs gs f h) =
        let one = root_group m object c key xs in
        told-first key one one.outcome.value (serially m object one.after gs) f (root-told c key xs f h)
    all-told _ _ _ (later c key xs gs v f is h) =
        let one = root_group m object c key xs in
        told-later key one one.outcome.value v (serially m object one.after gs) f is (all-told one.after gs f h)

  -- ---- no data

  module _ (accounted : NoDataFails S N) where
    field-accounted : (c : X) (key : Bytes) (x : Found S) (xs : List (Found S)) (type : Option TypeOf)
        → IsAccounted (declared_step m object key (sets_below (x ∷ xs)) x.head c type).outcome
    field-accounted c key x xs None = λ none empty. cc
    field-accounted c key x xs (Some type) =
        let e : Engine S N = after_step m object c x in
        result-accounted (run_below c key x xs) (λ n. accounted e (key ∷ []) (e.concrete n) n (sets_below (x ∷ xs)))
        (blame_at (key ∷ []) x.head.place) type.name (e.is_leaf type.name) (λ n. e.is_possible type.name (e.concrete n)) (reverse type.modifiers)
        (step_of m object c x.head).answer

    group-accounted : (c : X) (key : Bytes) (xs : List (Found S)) → (xs ≡ [] → ⊥) → IsAccounted (root_group m object c key xs).outcome
    group-accounted c key [] h = absurd (h refl)
    group-accounted c key (x ∷ xs) h = field-accounted c key x xs ((m.engine c).declared object x.head.name)

    groups-accounted : (c : X) (found : List (Found S)) (ks : List Bytes) → All (HasField found) ks
        → IsAccounted (serially m object c (map (λ key. (key, under found key)) ks)).outcome
    groups-accounted c found [] h = λ none empty. cc
    groups-accounted c found (k ∷ ks) h =
        let one = root_group m object c k (under found k) in
        then-accounted k one one.outcome.value (serially m object one.after (map (λ key. (key, under found key)) ks)) refl
        (group-accounted c k (under found k) (All-head (HasField found) k ks h))
        (groups-accounted one.after found ks (All-tail (HasField found) k ks h))

module _ (S N X : Type 0) where
  pub runs-fit : DataFit S N → RunsFit S N X
  runs-fit fit m object c sets = groups-fit m object fit c (root_groups m object c sets)

  pub run-failures-exact : FailuresAreExact S N → RunFailuresAreExact S N X
  run-failures-exact exact m object c sets f =
      (λ h. only-fails m object exact c (root_groups m object c sets) f h, λ h. all-told m object exact c (root_groups m object c sets) f h)

  pub runs-without-data-fail : NoDataFails S N → RunsWithoutDataFail S N X
  runs-without-data-fail accounted m object c sets =
      let found = found_in (m.engine c) object sets in
      groups-accounted m object accounted c found (keys found) (keys-have_fields found)
