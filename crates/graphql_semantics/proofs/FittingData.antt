-- Data fit the selection sets.
use Rattle.std.proofs.Common.{◌≡◌, refl, sym, ◌∙◌, ap, subst, ℕ, zero, suc, ◌≤◌, arith, Bool, true, false, List, [], ◌∷◌, ◌++◌, map, reverse, Option, Some, None, Result, Ok, Err}
use Rattle.std.specs.Prelude.{IfSome}
use Rattle.std.specs.Option.{option_map}
use Rattle.graphql_names.specs.Names.{Bytes}
use Rattle.graphql_names.specs.declared.type_modifier.TypeModifier.{TypeModifier}
use Rattle.graphql_names.specs.declared.type_modifier.TypeModifier.TheVariants as modifier
use Rattle.graphql_schema.specs.Types.{TypeOf}
use Rattle.graphql_output_values.specs.declared.value.Value.{Value}
use Rattle.graphql_output_values.specs.declared.value.Value.TheVariants as value
use Rattle.graphql_written_out.specs.Trees.{Tree}
use Rattle.graphql_written_out.specs.Fields.{Found}
use Rattle.graphql_written_out.specs.Groups.{keys, under, groups}
use Rattle.graphql_field_results.specs.declared.execution_error.ExecutionError.{ExecutionError}
use Rattle.graphql_field_results.specs.declared.field_error.FieldError.{FieldError}
use Rattle.graphql_field_results.specs.declared.resolved.Resolved.{Resolved, out-Resolved}
use Rattle.graphql_field_results.specs.declared.resolved.Resolved.TheOpen.{Resolved-F}
use Rattle.graphql_semantics.specs.Engines.{Engine}
use Rattle.graphql_semantics.specs.Outcomes.{Outcome, both, outcome_map, show_place, shown, together}
use Rattle.graphql_semantics.specs.Completion.{Members, at_list, at_name, at_required, blame_at, complete, complete_result, is_required, leaf_if, object_members, run_if}
use Rattle.graphql_semantics.specs.Evaluation.{Group, at_declared, at_type, evaluate, found_in, group, highest, keyed, run, sets_below}
use Rattle.graphql_semantics.specs.Fitting.{Holds, leaf, object, list, required, Fits, holds, null, EachFits, no_items, more_items, FieldFits, declared, undeclared, MembersFit, no_members, more_members}
use Rattle.graphql_semantics.specs.Laws.{DataFit}
use Rattle.graphql_semantics.proofs.Heights.{no-found, top, top-found, top-under}

if-map : {A B : Type 0} (f : A → B) (P : A → Type 0) (Q : B → Type 0) → ((x : A) → P x → Q (f x)) → (o : Option A) → IfSome o P → IfSome (option_map f o) Q
if-map f P Q h None p = tt
if-map f P Q h (Some x) p = h x p

if-imp : {A : Type 0} (P Q : A → Type 0) → ((x : A) → P x → Q x) → (o : Option A) → IfSome o P → IfSome o Q
if-imp P Q h None p = tt
if-imp P Q h (Some x) p = h x p

if-both : {A B C : Type 0} (f : A → B → C) (P : A → Type 0) (Q : B → Type 0) (R : C → Type 0) → ((x : A) (y : B) → P x → Q y → R (f x y))
    → (o : Option A) (u : Option B) → IfSome o P → IfSome u Q → IfSome (both f o u) R
if-both f P Q R h None u p q = tt
if-both f P Q R h (Some x) None p q = tt
if-both f P Q R h (Some x) (Some y) p q = h x y p q

module _ {S N : Type 0} (e : Engine S N) (sets : List (Tree S)) (run_on : N → Outcome S (Members S))
    (runs : (m : N) → IfSome (run_on m).value (MembersFit e (e.concrete m) (groups (found_in e (e.concrete m) sets)))) (blame : FieldError S → ExecutionError S) (name : Bytes) where
  abbrev can_stand : N → Bool
  can_stand m = e.is_possible name (e.concrete m)

  abbrev come : List TypeModifier → Resolved S N → Outcome S (Value S)
  come = complete run_on blame name (e.is_leaf name) can_stand

  abbrev HeldAt : List TypeModifier → Value S → Type 0
  HeldAt = Holds e sets name

  abbrev FitAt : List TypeModifier → Value S → Type 0
  FitAt = Fits e sets name

  fit-shown : (wraps : List TypeModifier) (o : Option (Value S)) → IfSome o (HeldAt wraps) → IfSome (shown (is_required wraps) o) (FitAt wraps)
  fit-shown wraps (Some v) h = holds sets name wraps v h
  fit-shown wraps None h =
      let cases : (q : Bool) → is_required wraps ≡ q → IfSome (shown q None) (FitAt wraps) = elim [ true ↦ (λ t. tt) | false ↦ (λ t. null sets name wraps t) ]
      in cases (is_required wraps) refl

  held-leaf : (q : Bool) (s : S) → e.is_leaf name ≡ q → IfSome (leaf_if run_on blame name (e.is_leaf name) can_stand q s).value (HeldAt [])
  held-leaf true s t = leaf sets name s t
  held-leaf false s t = tt

  held-node : (q : Bool) (m : N) → can_stand m ≡ q → IfSome (run_if run_on blame name (e.is_leaf name) can_stand q m).value (HeldAt [])
  held-node true m t = if-map object_members (MembersFit e (e.concrete m) (groups (found_in e (e.concrete m) sets))) (HeldAt []) (λ ms fit. object sets name (e.concrete m) ms t fit) (run_on m).value (runs m)
  held-node false m t = tt

  held-name : (r : Resolved-F S N (Resolved S N)) → IfSome (at_name run_on blame name (e.is_leaf name) can_stand r).value (HeldAt [])
  held-name Resolved-F.Null = tt
  held-name (Resolved-F.Scalar s) = held-leaf (e.is_leaf name) s refl
  held-name (Resolved-F.List items) = tt
  held-name (Resolved-F.Node m) = held-node (can_stand m) m refl

  held-required : (wraps : List TypeModifier) (o : Outcome S (Value S)) (r : Resolved-F S N (Resolved S N)) → IfSome o.value (HeldAt wraps)
      → IfSome (at_required run_on blame name (e.is_leaf name) can_stand o r).value (HeldAt (modifier.NonNull ∷ wraps))
  held-required wraps o Resolved-F.Null h = tt
  held-required wraps o (Resolved-F.Scalar s) h = if-imp (HeldAt wraps) (HeldAt (modifier.NonNull ∷ wraps)) (λ v k. required sets name wraps v k) o.value h
  held-required wraps o (Resolved-F.List items) h = if-imp (HeldAt wraps) (HeldAt (modifier.NonNull ∷ wraps)) (λ v k. required sets name wraps v k) o.value h
  held-required wraps o (Resolved-F.Node m) h = if-imp (HeldAt wraps) (HeldAt (modifier.NonNull ∷ wraps)) (λ v k. required sets name wraps v k) o.value h

  abbrev place : List TypeModifier → Resolved S N → Outcome S (Value S)
  place wraps x = show_place (is_required wraps) (come wraps x)

  each-fits : (wraps : List TypeModifier) → ((x : Resolved S N) → IfSome (come wraps x).value (HeldAt wraps)) → (items : List (Resolved S N))
      → IfSome (together (map (place wraps) items)).value (EachFits e sets name wraps)
  each-fits wraps h [] = no_items sets name wraps
  each-fits wraps h (x ∷ xs) =
      if-both (λ v vs. v ∷ vs) (FitAt wraps) (EachFits e sets name wraps) (EachFits e sets name wraps) (λ v vs p q. more_items sets name wraps v vs p q)
      (place wraps x).value (together (map (place wraps) xs)).value (fit-shown wraps (come wraps x).value (h x)) (each-fits wraps h xs)

  held-list : (size : Option ℕ) (wraps : List TypeModifier) → ((x : Resolved S N) → IfSome (come wraps x).value (HeldAt wraps)) → (r : Resolved-F S N (Resolved S N))
      → IfSome (at_list run_on blame name (e.is_leaf name) can_stand (modifier.List size ∷ wraps) (place wraps) r).value (HeldAt (modifier.List size ∷ wraps))
  held-list size wraps h Resolved-F.Null = tt
  held-list size wraps h (Resolved-F.Scalar s) = tt
  held-list size wraps h (Resolved-F.List items) =
      if-map value.List (EachFits e sets name wraps) (HeldAt (modifier.List size ∷ wraps)) (λ vs each. list sets name size wraps vs each) (together (map (place wraps) items)).value (each-fits wraps h items)
  held-list size wraps h (Resolved-F.Node m) = tt

  held : (wraps : List TypeModifier) (r : Resolved S N) → IfSome (come wraps r).value (HeldAt wraps)
  held [] r = held-name (out-Resolved S N r)
  held (modifier.NonNull ∷ wraps) r = held-required wraps (come wraps r) (out-Resolved S N r) (held wraps r)
  held (modifier.List size ∷ wraps) r = held-list size wraps (held wraps) (out-Resolved S N r)

  held-result : (wraps : List TypeModifier) (a : Result (Resolved S N) (FieldError S))
      → IfSome (complete_result run_on blame name (e.is_leaf name) can_stand wraps a).value (HeldAt wraps)
  held-result wraps (Ok r) = held wraps r
  held-result wraps (Err x) = tt

  pub fit-result : (wraps : List TypeModifier) (a : Result (Resolved S N) (FieldError S))
      → IfSome (show_place (is_required wraps) (complete_result run_on blame name (e.is_leaf name) can_stand wraps a)).value (FitAt wraps)
  fit-result wraps a = fit-shown wraps (complete_result run_on blame name (e.is_leaf name) can_stand wraps a).value (held-result wraps a)

module _ {S N : Type 0} (e : Engine S N) where
  abbrev RunsFit : ℕ → Type 0
  RunsFit n = (path : List Bytes) (of : Bytes) (node : N) (sets : List (Tree S)) → highest sets ≤ n → IfSome (run e n path of node sets).value (MembersFit e of (groups (found_in e of sets)))

  module _ (n : ℕ) (fit : RunsFit n) (path : List Bytes) (of : Bytes) (node : N) where
    field-fits : (key : Bytes) (x : Found S) (xs : List (Found S)) → top (x ∷ xs) ≤ n → (type : Option TypeOf) → e.declared of x.head.name ≡ type
        → IfSome (at_declared e type (λ m. run e n (path ++ key ∷ []) (e.concrete m) m (sets_below (x ∷ xs))) (blame_at (path ++ key ∷ []) x.head.place) (e.answer node of x.head.name (e.arguments of x.head))).value
        (FieldFits e of (x ∷ xs))
    field-fits key x xs low None p = undeclared of x xs p
    field-fits key x xs low (Some type) p =
        if-imp (Fits e (sets_below (x ∷ xs)) type.name (reverse type.modifiers)) (FieldFits e of (x ∷ xs)) (λ v h. declared of x xs type v p h) _
        (fit-result e (sets_below (x ∷ xs)) (λ m. run e n (path ++ key ∷ []) (e.concrete m) m (sets_below (x ∷ xs)))
        (λ m. fit (path ++ key ∷ []) (e.concrete m) m (sets_below (x ∷ xs)) low) (blame_at (path ++ key ∷ []) x.head.place) type.name (reverse type.modifiers)
        (e.answer node of x.head.name (e.arguments of x.head)))

    group-fits : (key : Bytes) (xs : List (Found S)) → top xs ≤ n → IfSome (group e (run e n) path of node key xs).value (FieldFits e of xs)
    group-fits key [] low = tt
    group-fits key (x ∷ xs) low = field-fits key x xs low (e.declared of x.head.name) refl

    groups-fit : (found : List (Found S)) → top found ≤ n → (ks : List Bytes)
        → IfSome (together (map (keyed e (run e n) path of node) (map (λ key. (key, under found key)) ks))).value (MembersFit e of (map (λ key. (key, under found key)) ks))
    groups-fit found low [] = no_members of
    groups-fit found low (k ∷ ks) =
        let one : IfSome (group e (run e n) path of node k (under found k)).value (FieldFits e of (under found k)) = group-fits k (under found k) (omega (arith, top-under found k, low)) in
        if-both (λ x xs. x ∷ xs) (λ m. (m.0 ≡ k) × FieldFits e of (under found k) m.1) (MembersFit e of (map (λ key. (key, under found key)) ks)) (MembersFit e of (map (λ key. (key, under found key)) (k ∷ ks)))
        (λ m ms p q. subst (λ key. MembersFit e of (map (λ key. (key, under found key)) (k ∷ ks)) ((key, m.1) ∷ ms)) (sym p.0) (more_members of k (under found k) m.1 (map (λ key. (key, under found key)) ks) ms p.1 q))
        (keyed e (run e n) path of node (k, under found k)).value (together (map (keyed e (run e n) path of node) (map (λ key. (key, under found key)) ks))).value
        (if-map (λ v. (k, v)) (FieldFits e of (under found k)) (λ m. (m.0 ≡ k) × FieldFits e of (under found k) m.1) (λ v h. (refl, h)) (group e (run e n) path of node k (under found k)).value one)
        (groups-fit found low ks)

  runs-fit : (n : ℕ) → RunsFit n
  runs-fit zero path of node sets low = subst (λ xs. MembersFit e of (groups xs) []) (sym (no-found e.drops (e.is_below of) sets low)) (no_members of)
  runs-fit (suc n) path of node sets low =
      groups-fit n (runs-fit n) path of node (found_in e of sets) (top-found e.drops (e.is_below of) sets n low) (keys (found_in e of sets))

pub data-fit : (S N : Type 0) → DataFit S N
data-fit S N e path of node sets = runs-fit e (highest sets) path of node sets (omega arith)
