-- Each object in the data of a mutation has distinct keys, and so has what is told beside its failures.
use Rattle.std.proofs.Common.{◌≡◌, refl, sym, ap, subst, Bool, true, false, List, [], ◌∷◌, map, reverse, Option, Some, None, Result, Ok, Err}
use Rattle.std.specs.Prelude.{IfSome}
use Rattle.std.specs.List.{All, IsDistinct}
use Rattle.std.specs.Map.{keys_of, values_of}
use Rattle.std.specs.Option.{option_map}
use Rattle.std.specs.Str.{bytes_eq}
use Rattle.std.proofs.lemmas.List.Elements.{All-nil, All-cons, All-append}
use Rattle.graphql_names.specs.Names.{Bytes}
use Rattle.graphql_names.specs.declared.type_modifier.TypeModifier.{TypeModifier}
use Rattle.graphql_names.specs.declared.type_modifier.TypeModifier.TheVariants as modifier
use Rattle.graphql_schema.specs.Types.{TypeOf}
use Rattle.graphql_output_values.specs.DistinctKeys.{HasDistinctKeysThroughout}
use Rattle.graphql_output_values.specs.declared.value.Value.{Value}
use Rattle.graphql_output_values.specs.declared.value.Value.TheVariants as value
use Rattle.graphql_output_values.proofs.DistinctKeyLaws.{by_forms}
use Rattle.graphql_written_out.specs.Trees.{Head, Tree}
use Rattle.graphql_written_out.specs.Fields.{Found}
use Rattle.graphql_written_out.specs.Groups.{groups}
use Rattle.graphql_field_results.specs.declared.execution_error.ExecutionError.{ExecutionError}
use Rattle.graphql_field_results.specs.declared.field_error.FieldError.{FieldError}
use Rattle.graphql_field_results.specs.declared.resolved.Resolved.{Resolved, out-Resolved}
use Rattle.graphql_field_results.specs.declared.resolved.Resolved.TheOpen.{Resolved-F}
use Rattle.graphql_semantics.specs.Engines.{Engine}
use Rattle.graphql_semantics.specs.Outcomes.{Outcome, both, show_place, shown, together}
use Rattle.graphql_semantics.specs.Completion.{Members, at_list, at_name, at_required, blame_at, complete, complete_result, is_required, leaf_if, object_members, run_if}
use Rattle.graphql_semantics.specs.Evaluation.{Group, evaluate, found_in, sets_below}
use Rattle.graphql_semantics.specs.Laws.{DataHaveDistinctKeys, FailuresTellDistinctKeys, TellsDistinctKeys}
use Rattle.graphql_semantics.proofs.GroupKeys.{distinct-groups}
use Rattle.graphql_semantics.proofs.ToldErrors.{type-tells}
use Rattle.graphql_mutation.specs.Laws.{RunsHaveDistinctKeys, StepsTellDistinctKeys}
use Rattle.graphql_mutation.specs.Serial.{Mutation, Run, RootStep, completed_step, declared_step, mutate, root_group, root_groups, serially, step_of, unless_null}

abbrev Distinct : {S : Type 0} → Value S → Type 0
Distinct v = HasDistinctKeysThroughout v

abbrev IfDistinct : {S : Type 0} → Option (Value S) → Type 0
IfDistinct v = IfSome v HasDistinctKeysThroughout

-- the value of an answer at a type, by the data of the nodes in it
module _ {S N : Type 0} (run_on : N → Outcome S (Members S))
    (runs : (n : N) → IfSome (run_on n).value (λ ms. HasDistinctKeysThroughout (object_members ms)))
    (blame : FieldError S → ExecutionError S) (name : Bytes) (is_leaf : Bool) (is_possible : N → Bool) where
  of-leaf : (q : Bool) (s : S) → IfDistinct (leaf_if run_on blame name is_leaf is_possible q s).value
  of-leaf true s = (by_forms {S = S}).1 s
  of-leaf false s = tt

  as-object : (v : Option (Members S)) → IfSome v (λ ms. HasDistinctKeysThroughout (object_members ms))
      → IfDistinct (option_map object_members v)
  as-object None h = tt
  as-object (Some ms) h = h

  of-node : (q : Bool) (n : N) → IfDistinct (run_if run_on blame name is_leaf is_possible q n).value
  of-node true n = as-object (run_on n).value (runs n)
  of-node false n = tt

  of-name : (r : Resolved-F S N (Resolved S N)) → IfDistinct (at_name run_on blame name is_leaf is_possible r).value
  of-name Resolved-F.Null = tt
  of-name (Resolved-F.Scalar s) = of-leaf is_leaf s
  of-name (Resolved-F.List items) = tt
  of-name (Resolved-F.Node n) = of-node (is_possible n) n

  of-required : (o : Outcome S (Value S)) (r : Resolved-F S N (Resolved S N)) → IfDistinct o.value
      → IfDistinct (at_required run_on blame name is_leaf is_possible o r).value
  of-required o Resolved-F.Null h = tt
  of-required o (Resolved-F.Scalar s) h = h
  of-required o (Resolved-F.List items) h = h
  of-required o (Resolved-F.Node n) h = h

  with-item : (v : Option (Value S)) (vs : Option (List (Value S))) → IfDistinct v
      → IfSome vs (λ xs. All HasDistinctKeysThroughout xs)
      → IfSome (both (λ x xs. x ∷ xs) v vs) (λ xs. All HasDistinctKeysThroughout xs)
  with-item None vs h k = tt
  with-item (Some v) None h k = tt
  with-item (Some v) (Some vs) h k = All-cons HasDistinctKeysThroughout v vs h k

  module _ (item : Resolved S N → Outcome S (Value S)) (each : (x : Resolved S N) → IfDistinct (item x).value) where
    of-items : (items : List (Resolved S N))
        → IfSome (together (map item items)).value (λ xs. All HasDistinctKeysThroughout xs)
    of-items [] = All-nil HasDistinctKeysThroughout
    of-items (x ∷ xs) = with-item (item x).value (together (map item xs)).value (each x) (of-items xs)

    as-list : (vs : Option (List (Value S))) → IfSome vs (λ xs. All HasDistinctKeysThroughout xs)
        → IfDistinct (option_map value.List vs)
    as-list None h = tt
    as-list (Some vs) h = ((by_forms {S = S}).2 vs).1 h

    of-list : (wraps : List TypeModifier) (r : Resolved-F S N (Resolved S N))
        → IfDistinct (at_list run_on blame name is_leaf is_possible wraps item r).value
    of-list wraps Resolved-F.Null = tt
    of-list wraps (Resolved-F.Scalar s) = tt
    of-list wraps (Resolved-F.List items) = as-list (together (map item items)).value (of-items items)
    of-list wraps (Resolved-F.Node n) = tt

  of-shown : (q : Bool) (v : Option (Value S)) → IfDistinct v → IfDistinct (shown q v)
  of-shown true None h = tt
  of-shown false None h = (by_forms {S = S}).0
  of-shown q (Some v) h = h

  of-complete : (wraps : List TypeModifier) (r : Resolved S N)
      → IfDistinct (complete run_on blame name is_leaf is_possible wraps r).value
  of-complete [] r = of-name (out-Resolved S N r)
  of-complete (modifier.NonNull ∷ wraps) r =
      of-required (complete run_on blame name is_leaf is_possible wraps r) (out-Resolved S N r) (of-complete wraps r)
  of-complete (modifier.List size ∷ wraps) r =
      let item : Resolved S N → Outcome S (Value S) = λ x. show_place (is_required wraps) (complete run_on blame name is_leaf is_possible wraps x) in
      of-list item (λ x. of-shown (is_required wraps) (complete run_on blame name is_leaf is_possible wraps x).value (of-complete wraps x))
      (modifier.List size ∷ wraps) (out-Resolved S N r)

  of-result : (wraps : List TypeModifier) (a : Result (Resolved S N) (FieldError S))
      → IfDistinct (complete_result run_on blame name is_leaf is_possible wraps a).value
  of-result wraps (Ok r) = of-complete wraps r
  of-result wraps (Err x) = tt

  at-place : (q : Bool) (wraps : List TypeModifier) (a : Result (Resolved S N) (FieldError S))
      → IfDistinct (show_place q (complete_result run_on blame name is_leaf is_possible wraps a)).value
  at-place q wraps a = of-shown q (complete_result run_on blame name is_leaf is_possible wraps a).value (of-result wraps a)

-- the members have the keys of these groups, and values with distinct keys
record AreOf {S : Type 0} (gs : List (Group S)) (members : Members S) : Type 0 where
  keys : keys_of members ≡ map (λ (g : Group S). g.0) gs
  values : All HasDistinctKeysThroughout (values_of members)

module _ {S : Type 0} where
  one-more : (key : Bytes) (xs : List (Found S)) (gs : List (Group S)) (v : Value S) (o : Option (Members S))
      → HasDistinctKeysThroughout v → IfSome o (AreOf gs)
      → IfSome (option_map (λ ms. (key, v) ∷ ms) o) (AreOf ((key, xs) ∷ gs))
  one-more key xs gs v None h k = tt
  one-more key xs gs v (Some ms) h k = record {
    keys = ap (λ ks. key ∷ ks) k.keys;
    values = All-cons HasDistinctKeysThroughout v (values_of ms) h k.values;
  }

module _ {S X : Type 0} where
  then-others : (key : Bytes) (xs : List (Found S)) (gs : List (Group S)) (first : Run S X (Value S)) (v : Option (Value S))
      (others : Run S X (Members S)) → IfDistinct v → IfSome others.outcome.value (AreOf gs)
      → IfSome (unless_null key first v others).outcome.value (AreOf ((key, xs) ∷ gs))
  then-others key xs gs first None others h k = tt
  then-others key xs gs first (Some v) others h k = one-more key xs gs v others.outcome.value h k

  then-tell : (key : Bytes) (first : Run S X (Value S)) (v : Option (Value S)) (others : Run S X (Members S))
      → All TellsDistinctKeys first.outcome.failures → All TellsDistinctKeys others.outcome.failures
      → All TellsDistinctKeys (unless_null key first v others).outcome.failures
  then-tell key first None others h k = h
  then-tell key first (Some v) others h k =
      All-append TellsDistinctKeys first.outcome.failures others.outcome.failures h k

module _ {S N X : Type 0} (kept : DataHaveDistinctKeys S N) (told : FailuresTellDistinctKeys S N)
    (m : Mutation S N X) (tells : StepsTellDistinctKeys m) (object : Bytes) where
  completed : (key : Bytes) (sets : List (Tree S)) (head : Head S) (c : X) (type : TypeOf)
      → IfDistinct (completed_step m object key sets head type (step_of m object c head)).outcome.value
      × All TellsDistinctKeys (completed_step m object key sets head type (step_of m object c head)).outcome.failures
  completed key sets head c type =
      let step : RootStep S N X = step_of m object c head in
      let e : Engine S N = m.engine step.after in
      let run_on : N → Outcome S (Members S) = λ n. evaluate e (key ∷ []) (e.concrete n) n sets in (
        at-place run_on (λ n. kept e (key ∷ []) (e.concrete n) n sets) (blame_at (key ∷ []) head.place)
            type.name (e.is_leaf type.name) (λ n. e.is_possible type.name (e.concrete n)) (is_required (reverse type.modifiers))
            (reverse type.modifiers) step.answer,
        type-tells e run_on (λ n. told e (tells.below step.after) (key ∷ []) (e.concrete n) n sets) (key ∷ [])
            head.place type step.answer (tells.steps c object head.name ((m.engine c).arguments object head)),
      )

  declared : (key : Bytes) (sets : List (Tree S)) (head : Head S) (c : X) (type : Option TypeOf)
      → IfDistinct (declared_step m object key sets head c type).outcome.value
      × All TellsDistinctKeys (declared_step m object key sets head c type).outcome.failures
  declared key sets head c None = ((by_forms {S = S}).0, All-nil TellsDistinctKeys)
  declared key sets head c (Some type) = completed key sets head c type

  of-group : (c : X) (key : Bytes) (xs : List (Found S))
      → IfDistinct (root_group m object c key xs).outcome.value
      × All TellsDistinctKeys (root_group m object c key xs).outcome.failures
  of-group c key [] = (tt, All-nil TellsDistinctKeys)
  of-group c key (x ∷ xs) =
      declared key (sets_below (x ∷ xs)) x.head c ((m.engine c).declared object x.head.name)

  members-of : (c : X) (gs : List (Group S)) → IfSome (serially m object c gs).outcome.value (AreOf gs)
  members-of c [] = record { keys = refl; values = All-nil HasDistinctKeysThroughout }
  members-of c ((key, xs) ∷ gs) =
      let first = root_group m object c key xs in
      then-others key xs gs first first.outcome.value (serially m object first.after gs) (of-group c key xs).0
      (members-of first.after gs)

  told-of : (c : X) (gs : List (Group S)) → All TellsDistinctKeys (serially m object c gs).outcome.failures
  told-of c [] = All-nil TellsDistinctKeys
  told-of c ((key, xs) ∷ gs) =
      let first = root_group m object c key xs in
      then-tell key first first.outcome.value (serially m object first.after gs) (of-group c key xs).1
      (told-of first.after gs)

  of-members : (found : List (Found S)) (members : Option (Members S)) → IfSome members (AreOf (groups found))
      → IfSome members (λ ms. HasDistinctKeysThroughout (object_members ms))
  of-members found None h = tt
  of-members found (Some ms) h =
      ((by_forms {S = S}).3 (record { fields = ms })).1
      (subst (IsDistinct bytes_eq) (sym h.keys) (distinct-groups found), h.values)

pub distinct-runs : (S N X : Type 0) → DataHaveDistinctKeys S N → FailuresTellDistinctKeys S N → RunsHaveDistinctKeys S N X
distinct-runs S N X kept told m tells object c sets =
    let gs = root_groups m object c sets in
    let found = found_in (m.engine c) object sets in
    let run : Run S X (Members S) = mutate m object c sets in
    record {
      members = of-members kept told m tells object found run.outcome.value (members-of kept told m tells object c gs);
      failures = told-of kept told m tells object c gs;
    }
