-- Failures stand below the path, and where there are no data something failed.
use Rattle.std.proofs.Common.{◌≡◌, refl, sym, ◌∙◌, ap, subst, ℕ, zero, suc, Bool, true, false, List, [], ◌∷◌, ◌++◌, map, append-nil, append_assoc, reverse, Option, Some, None, Result, Ok, Err}
use Rattle.std.specs.Prelude.{IfErr}
use Rattle.std.specs.List.{All}
use Rattle.std.specs.Option.{option_map}
use Rattle.std.proofs.lemmas.List.Elements.{All-nil, All-cons, All-head, All-tail, All-append}
use Rattle.graphql_names.specs.Names.{Bytes}
use Rattle.graphql_names.specs.declared.type_modifier.TypeModifier.{TypeModifier}
use Rattle.graphql_names.specs.declared.type_modifier.TypeModifier.TheVariants as modifier
use Rattle.graphql_schema.specs.Types.{TypeOf}
use Rattle.graphql_output_values.specs.declared.value.Value.{Value}
use Rattle.graphql_output_values.specs.declared.value.Value.TheVariants as value
use Rattle.graphql_output_values.specs.Objects.{Pair}
use Rattle.graphql_written_out.specs.Trees.{Head, Tree}
use Rattle.graphql_written_out.specs.Fields.{Found}
use Rattle.graphql_written_out.specs.Groups.{keys, under, groups}
use Rattle.graphql_field_results.specs.declared.execution_error.ExecutionError.{ExecutionError}
use Rattle.graphql_field_results.specs.declared.field_error.FieldError.{FieldError}
use Rattle.graphql_field_results.specs.declared.resolved.Resolved.{Resolved, out-Resolved}
use Rattle.graphql_field_results.specs.declared.resolved.Resolved.TheOpen.{Resolved-F}
use Rattle.graphql_semantics.specs.Engines.{Engine}
use Rattle.graphql_semantics.specs.Outcomes.{Outcome, both, fails, outcome_map, show_place, shown, together}
use Rattle.graphql_semantics.specs.Completion.{Members, at_list, at_name, at_required, blame_at, complete, complete_result, is_required, leaf_if, misfit_error, own_null, object_members, run_if}
use Rattle.graphql_semantics.specs.Evaluation.{Group, RunOfSets, field_outcome, at_declared, at_type, evaluate, found_in, group, highest, keyed, run, sets_below}
use Rattle.graphql_semantics.specs.Failing.{AreAt, IsAccounted, IsAt}
use Rattle.graphql_semantics.specs.Laws.{FailuresStandBelow, NoDataFails}
use Rattle.graphql_semantics.proofs.GroupKeys.{HasField, keys-have_fields}

-- what holds of all failures of parts holds of all failures
module _ {S : Type 0} (P : ExecutionError S → Type 0) where
  one : (x : ExecutionError S) → P x → All P (x ∷ [])
  one x h = All-cons P x [] h (All-nil P)

  pub all-together : {A B : Type 0} (f : A → Outcome S B) → ((x : A) → All P (f x).failures) → (xs : List A) → All P (together (map f xs)).failures
  all-together f h [] = All-nil P
  all-together f h (x ∷ xs) = All-append P (f x).failures (together (map f xs)).failures (h x) (all-together f h xs)

  module _ {N : Type 0} (run_on : N → Outcome S (Members S)) (runs : (m : N) → All P (run_on m).failures)
      (blame : FieldError S → ExecutionError S) (name : Bytes) (is_leaf : Bool) (is_possible : N → Bool)
      (misfits : (wraps : List TypeModifier) → P (blame (misfit_error name wraps))) (null : P (blame own_null)) where
    of-misfit : (wraps : List TypeModifier) → All P (blame (misfit_error name wraps) ∷ [])
    of-misfit wraps = one (blame (misfit_error name wraps)) (misfits wraps)

    of-leaf : (q : Bool) (s : S) → All P (leaf_if run_on blame name is_leaf is_possible q s).failures
    of-leaf true s = All-nil P
    of-leaf false s = of-misfit []

    of-node : (q : Bool) (m : N) → All P (run_if run_on blame name is_leaf is_possible q m).failures
    of-node true m = runs m
    of-node false m = of-misfit []

    of-name : (r : Resolved-F S N (Resolved S N)) → All P (at_name run_on blame name is_leaf is_possible r).failures
    of-name Resolved-F.Null = All-nil P
    of-name (Resolved-F.Scalar s) = of-leaf is_leaf s
    of-name (Resolved-F.List items) = of-misfit []
    of-name (Resolved-F.Node m) = of-node (is_possible m) m

    of-required : (o : Outcome S (Value S)) (r : Resolved-F S N (Resolved S N)) → All P o.failures → All P (at_required run_on blame name is_leaf is_possible o r).failures
    of-required o Resolved-F.Null h = one (blame own_null) null
    of-required o (Resolved-F.Scalar s) h = h
    of-required o (Resolved-F.List items) h = h
    of-required o (Resolved-F.Node m) h = h

    of-list : (wraps : List TypeModifier) (item : Resolved S N → Outcome S (Value S)) → ((x : Resolved S N) → All P (item x).failures) → (r : Resolved-F S N (Resolved S N))
        → All P (at_list run_on blame name is_leaf is_possible wraps item r).failures
    of-list wraps item h Resolved-F.Null = All-nil P
    of-list wraps item h (Resolved-F.Scalar s) = of-misfit wraps
    of-list wraps item h (Resolved-F.List items) = all-together item h items
    of-list wraps item h (Resolved-F.Node m) = of-misfit wraps

    of-complete : (wraps : List TypeModifier) (r : Resolved S N) → All P (complete run_on blame name is_leaf is_possible wraps r).failures
    of-complete [] r = of-name (out-Resolved S N r)
    of-complete (modifier.NonNull ∷ wraps) r = of-required (complete run_on blame name is_leaf is_possible wraps r) (out-Resolved S N r) (of-complete wraps r)
    of-complete (modifier.List size ∷ wraps) r =
        of-list (modifier.List size ∷ wraps) (λ x. show_place (is_required wraps) (complete run_on blame name is_leaf is_possible wraps x)) (of-complete wraps) (out-Resolved S N r)

    pub of-result : (wraps : List TypeModifier) (a : Result (Resolved S N) (FieldError S)) → IfErr a (λ x. P (blame x))
        → All P (complete_result run_on blame name is_leaf is_possible wraps a).failures
    of-result wraps (Ok r) h = of-complete wraps r
    of-result wraps (Err x) h = one (blame x) h

-- what holds of each error holds of the one that there is
if-any : {A E : Type 0} (a : Result A E) (P : E → Type 0) → ((x : E) → P x) → IfErr a P
if-any (Ok r) P h = tt
if-any (Err x) P h = h x

module _ {S N : Type 0} (e : Engine S N) where
  abbrev RunsStand : ℕ → Type 0
  RunsStand n = (path : List Bytes) (of : Bytes) (node : N) (sets : List (Tree S)) → AreAt path (run e n path of node sets).failures

  higher : (path : List Bytes) (key : Bytes) (failures : List (ExecutionError S)) → AreAt (path ++ key ∷ []) failures → AreAt path failures
  higher path key [] h = All-nil (IsAt path)
  higher path key (x ∷ xs) h =
      let first : IsAt (path ++ key ∷ []) x = All-head (IsAt (path ++ key ∷ [])) x xs h in
      All-cons (IsAt path) x xs (key ∷ first.0, first.1 ∙ append_assoc path (key ∷ []) first.0) (higher path key xs (All-tail (IsAt (path ++ key ∷ [])) x xs h))

  module _ (n : ℕ) (stand : RunsStand n) (path : List Bytes) (of : Bytes) (node : N) where
    declared-stands : (type : Option TypeOf) (here : List Bytes) (sets : List (Tree S)) (head : Head S)
        → AreAt here (at_declared e type (λ m. run e n here (e.concrete m) m sets) (blame_at here head.place) (e.answer node of head.name (e.arguments of head))).failures
    declared-stands None here sets head = All-nil (IsAt here)
    declared-stands (Some type) here sets head =
        let answer = e.answer node of head.name (e.arguments of head) in
        of-result (IsAt here) (λ m. run e n here (e.concrete m) m sets) (λ m. stand here (e.concrete m) m sets)
        (blame_at here head.place) type.name (e.is_leaf type.name) (λ m. e.is_possible type.name (e.concrete m))
        (λ wraps. ([], sym (append-nil here))) ([], sym (append-nil here)) (reverse type.modifiers) answer
        (if-any answer (λ x. IsAt here (blame_at here head.place x)) (λ x. ([], sym (append-nil here))))

    group-stands : (g : Group S) → AreAt path (keyed e (run e n) path of node g).failures
    group-stands (key, []) = All-nil (IsAt path)
    group-stands (key, x ∷ xs) = higher path key _ (declared-stands (e.declared of x.head.name) (path ++ key ∷ []) (sets_below (x ∷ xs)) x.head)

  runs-stand : (n : ℕ) → RunsStand n
  runs-stand zero path of node sets = All-nil (IsAt path)
  runs-stand (suc n) path of node sets = all-together (IsAt path) (keyed e (run e n) path of node) (group-stands n (runs-stand n) path of node) (groups (found_in e of sets))

pub failures-stand : (S N : Type 0) → FailuresStandBelow S N
failures-stand S N e path object node sets = runs-stand e (highest sets) path object node sets

first-fails : {A : Type 0} (xs ys : List A) → (xs ≡ [] → ⊥) → xs ++ ys ≡ [] → ⊥
first-fails [] ys h p = h refl
first-fails (x ∷ xs) ys h p = cc

later-fails : {A : Type 0} (xs ys : List A) → (ys ≡ [] → ⊥) → xs ++ ys ≡ [] → ⊥
later-fails [] ys h p = h p
later-fails (x ∷ xs) ys h p = cc

unmapped : {A B : Type 0} (f : A → B) (v : Option A) → option_map f v ≡ None → v ≡ None
unmapped f None p = refl
unmapped f (Some x) p = cc

-- outcomes with a value, or a failure
module _ {S : Type 0} where
  fails-accounted : {A : Type 0} (x : ExecutionError S) → IsAccounted {S = S} {A = A} (fails x)
  fails-accounted x = λ none empty. cc

  map-accounted : {A B : Type 0} (f : A → B) (o : Outcome S A) → IsAccounted o → IsAccounted (outcome_map f o)
  map-accounted f o h = λ none empty. h (unmapped f o.value none) empty

  by_values : {A : Type 0} (o : Outcome S A) (os : Outcome S (List A)) → IsAccounted o → IsAccounted os → o.failures ++ os.failures ≡ []
      → (v : Option A) (vs : Option (List A)) → o.value ≡ v → os.value ≡ vs → both (λ x xs. x ∷ xs) v vs ≡ None → ⊥
  by_values o os h k empty None vs p q r = first-fails o.failures os.failures (h p) empty
  by_values o os h k empty (Some x) None p q r = later-fails o.failures os.failures (k q) empty
  by_values o os h k empty (Some x) (Some xs) p q r = cc

  both-accounted : {A : Type 0} (o : Outcome S A) (os : Outcome S (List A)) → IsAccounted o → IsAccounted os
      → IsAccounted {S = S} {A = List A} (record { value = both (λ x xs. x ∷ xs) o.value os.value; failures = o.failures ++ os.failures })
  both-accounted o os h k = λ none empty. by_values o os h k empty o.value os.value refl refl none

  together-accounted : {A : Type 0} (os : List (Outcome S A)) → All IsAccounted os → IsAccounted (together os)
  together-accounted [] h = λ none empty. cc
  together-accounted (o ∷ os) h = both-accounted o (together os) (All-head IsAccounted o os h) (together-accounted os (All-tail IsAccounted o os h))

  all-mapped : {A B : Type 0} (f : A → Outcome S B) → ((x : A) → IsAccounted (f x)) → (xs : List A) → All IsAccounted (map f xs)
  all-mapped f h [] = All-nil IsAccounted
  all-mapped f h (x ∷ xs) = All-cons IsAccounted (f x) (map f xs) (h x) (all-mapped f h xs)

  -- a place that may be null always shows something
  always_shown : (v : Option (Value S)) → shown false v ≡ None → ⊥
  always_shown None p = cc
  always_shown (Some x) p = cc

  not_shown : (v : Option (Value S)) → shown true v ≡ None → v ≡ None
  not_shown None p = refl
  not_shown (Some x) p = cc

  nullable-accounted : (o : Outcome S (Value S)) → IsAccounted (show_place false o)
  nullable-accounted o = λ none empty. always_shown o.value none

  required-accounted : (o : Outcome S (Value S)) → IsAccounted o → IsAccounted (show_place true o)
  required-accounted o h = λ none empty. h (not_shown o.value none) empty

module _ {S N : Type 0} (run_on : N → Outcome S (Members S)) (runs : (m : N) → IsAccounted (run_on m)) (blame : FieldError S → ExecutionError S) (name : Bytes) (is_leaf : Bool) (is_possible : N → Bool) where
  abbrev come : List TypeModifier → Resolved S N → Outcome S (Value S)
  come = complete run_on blame name is_leaf is_possible

  abbrev place : List TypeModifier → Resolved S N → Outcome S (Value S)
  place wraps x = show_place (is_required wraps) (come wraps x)

  leaf-accounted : (q : Bool) (s : S) → IsAccounted (leaf_if run_on blame name is_leaf is_possible q s)
  leaf-accounted true s = λ none empty. cc
  leaf-accounted false s = fails-accounted (blame (misfit_error name []))

  node-accounted : (q : Bool) (m : N) → IsAccounted (run_if run_on blame name is_leaf is_possible q m)
  node-accounted true m = map-accounted object_members (run_on m) (runs m)
  node-accounted false m = fails-accounted (blame (misfit_error name []))

  -- an answer that is not null, and any answer at a place that shows it
  module _ (wraps : List TypeModifier) (places : (x : Resolved S N) → IsAccounted (place wraps x)) where
    list-accounted : (size : Option ℕ) (r : Resolved-F S N (Resolved S N)) → (r ≡ Resolved-F.Null → ⊥)
        → IsAccounted (at_list run_on blame name is_leaf is_possible (modifier.List size ∷ wraps) (place wraps) r)
    list-accounted size Resolved-F.Null h = absurd (h refl)
    list-accounted size (Resolved-F.Scalar s) h = fails-accounted (blame (misfit_error name (modifier.List size ∷ wraps)))
    list-accounted size (Resolved-F.List items) h = map-accounted value.List (together (map (place wraps) items)) (together-accounted (map (place wraps) items) (all-mapped (place wraps) places items))
    list-accounted size (Resolved-F.Node m) h = fails-accounted (blame (misfit_error name (modifier.List size ∷ wraps)))

  name-accounted : (r : Resolved-F S N (Resolved S N)) → (r ≡ Resolved-F.Null → ⊥) → IsAccounted (at_name run_on blame name is_leaf is_possible r)
  name-accounted Resolved-F.Null h = absurd (h refl)
  name-accounted (Resolved-F.Scalar s) h = leaf-accounted is_leaf s
  name-accounted (Resolved-F.List items) h = fails-accounted (blame (misfit_error name []))
  name-accounted (Resolved-F.Node m) h = node-accounted (is_possible m) m

  required-answer : (o : Outcome S (Value S)) (r : Resolved-F S N (Resolved S N)) → ((r ≡ Resolved-F.Null → ⊥) → IsAccounted o) → IsAccounted (at_required run_on blame name is_leaf is_possible o r)
  required-answer o Resolved-F.Null h = fails-accounted (blame own_null)
  required-answer o (Resolved-F.Scalar s) h = h (λ p. cc)
  required-answer o (Resolved-F.List items) h = h (λ p. cc)
  required-answer o (Resolved-F.Node m) h = h (λ p. cc)

  mutual
    answer-accounted : (wraps : List TypeModifier) (r : Resolved S N) → (out-Resolved S N r ≡ Resolved-F.Null → ⊥) → IsAccounted (come wraps r)
    answer-accounted [] r h = name-accounted (out-Resolved S N r) h
    answer-accounted (modifier.NonNull ∷ wraps) r h = required-answer (come wraps r) (out-Resolved S N r) (λ k. answer-accounted wraps r k)
    answer-accounted (modifier.List size ∷ wraps) r h = list-accounted wraps (place-accounted wraps) size (out-Resolved S N r) h

    place-accounted : (wraps : List TypeModifier) (r : Resolved S N) → IsAccounted (place wraps r)
    place-accounted [] r = nullable-accounted (come [] r)
    place-accounted (modifier.NonNull ∷ wraps) r = required-accounted (come (modifier.NonNull ∷ wraps) r) (required-answer (come wraps r) (out-Resolved S N r) (λ k. answer-accounted wraps r k))
    place-accounted (modifier.List size ∷ wraps) r = nullable-accounted (come (modifier.List size ∷ wraps) r)

  pub result-accounted : (wraps : List TypeModifier) (a : Result (Resolved S N) (FieldError S)) → IsAccounted (show_place (is_required wraps) (complete_result run_on blame name is_leaf is_possible wraps a))
  result-accounted wraps (Ok r) = place-accounted wraps r
  result-accounted wraps (Err x) = by_shown (is_required wraps)
    where
      by_shown : (q : Bool) → IsAccounted (show_place q (fails (blame x)))
      by_shown true = required-accounted (fails (blame x)) (fails-accounted (blame x))
      by_shown false = nullable-accounted (fails (blame x))

module _ {S N : Type 0} (e : Engine S N) where
  abbrev RunsAccount : ℕ → Type 0
  RunsAccount n = (path : List Bytes) (of : Bytes) (node : N) (sets : List (Tree S)) → IsAccounted (run e n path of node sets)

  module _ (n : ℕ) (account : RunsAccount n) (path : List Bytes) (of : Bytes) (node : N) where
    declared-accounted : (type : Option TypeOf) (here : List Bytes) (sets : List (Tree S)) (head : Head S)
        → IsAccounted (at_declared e type (λ m. run e n here (e.concrete m) m sets) (blame_at here head.place) (e.answer node of head.name (e.arguments of head)))
    declared-accounted None here sets head = λ none empty. cc
    declared-accounted (Some type) here sets head =
        result-accounted (λ m. run e n here (e.concrete m) m sets) (λ m. account here (e.concrete m) m sets) (blame_at here head.place) type.name (e.is_leaf type.name)
        (λ m. e.is_possible type.name (e.concrete m)) (reverse type.modifiers) (e.answer node of head.name (e.arguments of head))

    group-accounted : (key : Bytes) (xs : List (Found S)) → (xs ≡ [] → ⊥) → IsAccounted (keyed e (run e n) path of node (key, xs))
    group-accounted key [] h = absurd (h refl)
    group-accounted key (x ∷ xs) h =
        map-accounted (λ v. (key, v)) (group e (run e n) path of node key (x ∷ xs)) (declared-accounted (e.declared of x.head.name) (path ++ key ∷ []) (sets_below (x ∷ xs)) x.head)

    groups-accounted : (found : List (Found S)) (ks : List Bytes) → All (HasField found) ks → All IsAccounted (map (keyed e (run e n) path of node) (map (λ key. (key, under found key)) ks))
    groups-accounted found [] h = All-nil IsAccounted
    groups-accounted found (k ∷ ks) h =
        All-cons IsAccounted (keyed e (run e n) path of node (k, under found k)) (map (keyed e (run e n) path of node) (map (λ key. (key, under found key)) ks))
        (group-accounted k (under found k) (All-head (HasField found) k ks h)) (groups-accounted found ks (All-tail (HasField found) k ks h))

  runs-account : (n : ℕ) → RunsAccount n
  runs-account zero path of node sets = λ none empty. cc
  runs-account (suc n) path of node sets =
      let found : List (Found S) = found_in e of sets in
      together-accounted (map (keyed e (run e n) path of node) (groups found)) (groups-accounted n (runs-account n) path of node found (keys found) (keys-have_fields found))

pub no-data-fails : (S N : Type 0) → NoDataFails S N
no-data-fails S N e path object node sets = runs-account e (highest sets) path object node sets
