-- An answer completed over joined runs.
use Rattle.std.proofs.Common.{◌≡◌, refl, Bool, true, false, List, [], ◌∷◌, map, Option, Some, None, Ok, Err, Result}
use Rattle.std.specs.Option.{option_map}
use Rattle.graphql_names.specs.Names.{Bytes}
use Rattle.graphql_names.specs.declared.type_modifier.TypeModifier.{TypeModifier}
use Rattle.graphql_names.specs.declared.type_modifier.TypeModifier.TheVariants as modifier
use Rattle.graphql_output_values.specs.declared.value.Value.{Value}
use Rattle.graphql_output_values.specs.declared.value.Value.TheVariants as value
use Rattle.graphql_field_results.specs.declared.execution_error.ExecutionError.{ExecutionError}
use Rattle.graphql_field_results.specs.declared.field_error.FieldError.{FieldError}
use Rattle.graphql_field_results.specs.declared.resolved.Resolved.{Resolved, out-Resolved}
use Rattle.graphql_field_results.specs.declared.resolved.Resolved.TheOpen.{Resolved-F}
use Rattle.graphql_semantics.specs.Outcomes.{Outcome, both, shown, show_place, together}
use Rattle.graphql_semantics.specs.Completion.{Members, object_members, is_required, run_if, leaf_if, at_name, at_list}
use Rattle.graphql_semantics.specs.Completion.{at_required, complete, complete_result}
use Rattle.graphql_joins.specs.Joins.{IsJoin, null_first, null_second, same_scalar, lists, objects, ItemsJoin, no_items}
use Rattle.graphql_joins.specs.Joins.{more_items, MembersJoin, JoinsIfThere, none_first, none_second, both_there}

module _ {S : Type 0} where
  abbrev pub ValuesJoin : Option (Value S) → Option (Value S) → Option (Value S) → Type 0
  ValuesJoin = JoinsIfThere IsJoin

  abbrev pub ObjectsJoin : Option (Members S) → Option (Members S) → Option (Members S) → Type 0
  ObjectsJoin = JoinsIfThere MembersJoin

  abbrev ListsJoin : Option (List (Value S)) → Option (List (Value S)) → Option (List (Value S)) → Type 0
  ListsJoin = JoinsIfThere ItemsJoin

  with-null : (q : Bool) (y : Option (Value S)) → ValuesJoin (shown q None) (shown q y) (shown q None)
  with-null true y = none_first (shown true y)
  with-null false None = both_there value.Null value.Null value.Null (null_first value.Null)
  with-null false (Some y) = both_there value.Null y value.Null (null_first y)

  null-with : (q : Bool) (x : Option (Value S)) → ValuesJoin (shown q x) (shown q None) (shown q None)
  null-with true x = none_second (shown true x)
  null-with false None = both_there value.Null value.Null value.Null (null_first value.Null)
  null-with false (Some x) = both_there x value.Null value.Null (null_second x)

  shown-joined : (q : Bool) {x y z : Option (Value S)} → ValuesJoin x y z
      → ValuesJoin (shown q x) (shown q y) (shown q z)
  shown-joined q (none_first y) = with-null q y
  shown-joined q (none_second x) = null-with q x
  shown-joined q (both_there x y z j) = both_there x y z j

  objects-joined : {x y z : Option (Members S)} → ObjectsJoin x y z
      → ValuesJoin (option_map object_members x) (option_map object_members y) (option_map object_members z)
  objects-joined (none_first y) = none_first (option_map object_members y)
  objects-joined (none_second x) = none_second (option_map object_members x)
  objects-joined (both_there x y z j) =
      both_there (object_members x) (object_members y) (object_members z) (objects x y z j)

  lists-joined : {x y z : Option (List (Value S))} → ListsJoin x y z
      → ValuesJoin (option_map value.List x) (option_map value.List y) (option_map value.List z)
  lists-joined (none_first y) = none_first (option_map value.List y)
  lists-joined (none_second x) = none_second (option_map value.List x)
  lists-joined (both_there x y z j) = both_there (value.List x) (value.List y) (value.List z) (lists x y z j)

  abbrev more : Option (Value S) → Option (List (Value S)) → Option (List (Value S))
  more = both (λ x xs. x ∷ xs)

  no-second : (x : Option (Value S)) → more x None ≡ None
  no-second None = refl
  no-second (Some x) = refl

  cons-joined : {a b c : Option (Value S)} {x y z : Option (List (Value S))} → ValuesJoin a b c → ListsJoin x y z
      → ListsJoin (more a x) (more b y) (more c z)
  cons-joined {x = x} {y = y} (none_first b) j = none_first (more b y)
  cons-joined {x = x} {y = y} (none_second a) j = none_second (more a x)
  cons-joined (both_there a b c i) (none_first y) = none_first (more (Some b) y)
  cons-joined (both_there a b c i) (none_second x) = none_second (more (Some a) x)
  cons-joined (both_there a b c i) (both_there x y z j) =
      both_there (a ∷ x) (b ∷ y) (c ∷ z) (more_items a b c x y z i j)

  together-joined : {X : Type 0} (f g h : X → Outcome S (Value S))
      → ((x : X) → ValuesJoin (f x).value (g x).value (h x).value)
      → (xs : List X) → ListsJoin (together (map f xs)).value (together (map g xs)).value (together (map h xs)).value
  together-joined f g h each [] = both_there [] [] [] no_items
  together-joined f g h each (x ∷ xs) = cons-joined (each x) (together-joined f g h each xs)

  -- `r`, `s`: what parts of a set give, `t`: what the whole gives
  module _ {N : Type 0} (r s t : N → Outcome S (Members S)) (b c d : FieldError S → ExecutionError S) (name : Bytes)
      (leaf : Bool) (possible : N → Bool)
      (nodes-join : (m : N) → possible m ≡ true → ObjectsJoin (r m).value (s m).value (t m).value) where
    at-node : (q : Bool) (m : N) → possible m ≡ q
        → ValuesJoin (run_if r b name leaf possible q m).value (run_if s c name leaf possible q m).value
        (run_if t d name leaf possible q m).value
    at-node true m e = objects-joined (nodes-join m e)
    at-node false m e = none_first None

    at-leaf : (q : Bool) (x : S)
        → ValuesJoin (leaf_if r b name leaf possible q x).value (leaf_if s c name leaf possible q x).value
        (leaf_if t d name leaf possible q x).value
    at-leaf true x = both_there (value.Scalar x) (value.Scalar x) (value.Scalar x) (same_scalar x)
    at-leaf false x = none_first None

    name-joined : (x : Resolved-F S N (Resolved S N))
        → ValuesJoin (at_name r b name leaf possible x).value (at_name s c name leaf possible x).value
        (at_name t d name leaf possible x).value
    name-joined Resolved-F.Null = none_first None
    name-joined (Resolved-F.Scalar x) = at-leaf leaf x
    name-joined (Resolved-F.List xs) = none_first None
    name-joined (Resolved-F.Node m) = at-node (possible m) m refl

    list-joined : (ws : List TypeModifier) (f g h : Resolved S N → Outcome S (Value S))
        → ((x : Resolved S N) → ValuesJoin (f x).value (g x).value (h x).value)
        → (x : Resolved-F S N (Resolved S N))
        → ValuesJoin (at_list r b name leaf possible ws f x).value (at_list s c name leaf possible ws g x).value
        (at_list t d name leaf possible ws h x).value
    list-joined ws f g h each Resolved-F.Null = none_first None
    list-joined ws f g h each (Resolved-F.Scalar a) = none_first None
    list-joined ws f g h each (Resolved-F.List xs) = lists-joined (together-joined f g h each xs)
    list-joined ws f g h each (Resolved-F.Node m) = none_first None

    required-joined : (o p q : Outcome S (Value S)) → ValuesJoin o.value p.value q.value
        → (x : Resolved-F S N (Resolved S N))
        → ValuesJoin (at_required r b name leaf possible o x).value (at_required s c name leaf possible p x).value
        (at_required t d name leaf possible q x).value
    required-joined o p q j Resolved-F.Null = none_first None
    required-joined o p q j (Resolved-F.Scalar a) = j
    required-joined o p q j (Resolved-F.List xs) = j
    required-joined o p q j (Resolved-F.Node m) = j

    complete-joined : (ws : List TypeModifier) (a : Resolved S N)
        → ValuesJoin (complete r b name leaf possible ws a).value (complete s c name leaf possible ws a).value
        (complete t d name leaf possible ws a).value
    complete-joined [] a = name-joined (out-Resolved S N a)
    complete-joined (modifier.NonNull ∷ ws) a =
        required-joined (complete r b name leaf possible ws a) (complete s c name leaf possible ws a)
        (complete t d name leaf possible ws a) (complete-joined ws a) (out-Resolved S N a)
    complete-joined (modifier.List size ∷ ws) a =
        list-joined (modifier.List size ∷ ws) (λ x. show_place (is_required ws) (complete r b name leaf possible ws x))
        (λ x. show_place (is_required ws) (complete s c name leaf possible ws x))
        (λ x. show_place (is_required ws) (complete t d name leaf possible ws x))
        (λ x. shown-joined (is_required ws) (complete-joined ws x)) (out-Resolved S N a)

    result-joined : (ws : List TypeModifier) (a : Result (Resolved S N) (FieldError S))
        → ValuesJoin (complete_result r b name leaf possible ws a).value
        (complete_result s c name leaf possible ws a).value (complete_result t d name leaf possible ws a).value
    result-joined ws (Ok a) = complete-joined ws a
    result-joined ws (Err e) = none_first None

    pub place-joined : (q : Bool) (ws : List TypeModifier) (a : Result (Resolved S N) (FieldError S))
        → ValuesJoin (show_place q (complete_result r b name leaf possible ws a)).value
        (show_place q (complete_result s c name leaf possible ws a)).value
        (show_place q (complete_result t d name leaf possible ws a)).value
    place-joined q ws a = shown-joined q (result-joined ws a)

  -- a field without a declaration is null
  pub null-joined : ValuesJoin (Some value.Null) (Some value.Null) (Some value.Null)
  null-joined = both_there value.Null value.Null value.Null (null_first value.Null)
