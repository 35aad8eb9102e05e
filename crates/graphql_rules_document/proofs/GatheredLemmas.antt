-- What is gathered of operations and fragments over a document's events.
use Rattle.std.proofs.Common.{◌≡◌, true, List, [], ◌∷◌, ◌++◌, Option, Some, None, map, fold, refl, sym, ap, ◌∙◌, append-nil, append_assoc}
use Rattle.std.specs.List.{flat_map}
use Rattle.std.specs.Option.{option_map}
use Rattle.std.proofs.lemmas.Bool.{false≢true}
use Rattle.std.proofs.lemmas.List.{map-append}
use Rattle.graphql_text.specs.declared.text.Text.{Text}
use Rattle.graphql_text.specs.declared.position.SourcePosition.{SourcePosition}
use Rattle.graphql_values.specs.InputValues.{Placed, Pair}
use Rattle.graphql_values.specs.declared.input_value.InputValue.{InputValue, out-InputValue}
use Rattle.graphql_values.specs.declared.input_value.InputValue.TheOpen.{InputValue-F}
use Rattle.graphql_values.specs.declared.input_value.InputValue.TheVariants as value
use Rattle.graphql_tree.specs.declared.document.Definition.{Definition}
use Rattle.graphql_tree.specs.declared.document.Definition.TheVariants as definition
use Rattle.graphql_schema.specs.Declarations.{Declarations}
use Rattle.graphql_schema.specs.Lookups.{own_name}
use Rattle.graphql_occurrences.specs.Events.{events, definition_events, seen_event, top}
use Rattle.graphql_occurrences.specs.Lookups.{root_of}
use Rattle.graphql_occurrences.specs.Nodes.{Seen, Event, Enter, Leave, Inner, AtDocument, AtOperation, AtFragment, fragment_head, nulled, operation_head, placed_as, value_head, value_head_layer}
use Rattle.graphql_occurrences.specs.Parts.{InputPlace, Part, Use, VariableDefined, Condition, AField, ASpread, AnInline, ADirective, Given, ObjectOf, VariableUsed}
use Rattle.graphql_occurrences.specs.PartsOf.{parts_of, parts_of_value}
use Rattle.graphql_occurrences.proofs.Tells.{is_inner, AllInner, Tells}
use Rattle.graphql_occurrences.proofs.TellsDefinitions.{within_operation, within_fragment, operation_tells, fragment_tells}
use Rattle.graphql_tree.specs.Definitions.{operation_in, fragment_in, operations_of, fragments_of}
use Rattle.graphql_rules_document.specs.Gathered.{Gathered, closed, noted, with_event, nothing, scopes_gathered}
use Rattle.graphql_rules_document.specs.Scopes.{FragmentScope, OperationScope, Spread, fragment_scope, fragment_scopes, operation_scope, operation_scopes, scopes_in, spread_at, use_at}

-- ---- what a value adds

module _ {S C : Type 0} where
  abbrev of_layer : InputValue-F S (InputValue S) → SourcePosition → Option InputPlace → List (Part S C)
  of_layer m start here = parts_of_value (out-InputValue S (value_head_layer m)) start here

  -- what the head of a value tells
  abbrev of_head : InputValue S → SourcePosition → Option InputPlace → List (Part S C)
  of_head v start here = parts_of_value (out-InputValue S (value_head v)) start here

  pub head_null : (start : SourcePosition) (here : Option InputPlace) → of_head value.Null start here ≡ []
  head_null start here = ap (λ m. of_layer m start here) value.outs-Null ∙ ap (λ m. parts_of_value m start here) value.outs-Null

  pub head_scalar : (s : S) (start : SourcePosition) (here : Option InputPlace) → of_head (value.Scalar s) start here ≡ []
  head_scalar s start here = ap (λ m. of_layer m start here) (value.outs-Scalar s) ∙ ap (λ m. parts_of_value m start here) (value.outs-Scalar s)

  pub head_enum : (n : Text) (start : SourcePosition) (here : Option InputPlace) → of_head (value.Enum n) start here ≡ []
  head_enum n start here = ap (λ m. of_layer m start here) (value.outs-Enum n) ∙ ap (λ m. parts_of_value m start here) (value.outs-Enum n)

  pub head_variable : (n : Text) (start : SourcePosition) (here : Option InputPlace) → of_head (value.Variable n) start here ≡ VariableUsed (record { name = n; place = start; at = here }) ∷ []
  head_variable n start here = ap (λ m. of_layer m start here) (value.outs-Variable n) ∙ ap (λ m. parts_of_value m start here) (value.outs-Variable n)

  pub head_list : (xs : List (Placed (InputValue S))) (start : SourcePosition) (here : Option InputPlace) → of_head (value.List xs) start here ≡ []
  head_list xs start here = ap (λ m. of_layer m start here) (value.outs-List xs) ∙ ap (λ m. parts_of_value m start here) (value.outs-List (map nulled xs))

  pub head_object : (ps : List (Pair (InputValue S))) (start : SourcePosition) (here : Option InputPlace) → of_head (value.Object ps) start here ≡ ObjectOf (map (λ (p : Pair (InputValue S)). p.0) (map (λ (p : Pair (InputValue S)). (p.0, nulled p.1)) ps)) ∷ []
  head_object ps start here = ap (λ m. of_layer m start here) (value.outs-Object ps) ∙ ap (λ m. parts_of_value m start here) (value.outs-Object (map (λ p. (p.0, nulled p.1)) ps))

pub ruleset value_laws = (head_null, head_scalar, head_enum, head_variable, head_list, head_object)

-- ---- what parts add

fold_append : {A B : Type 0} (f : B → A → B) (z : B) (xs ys : List A) → fold f z (xs ++ ys) ≡ fold f (fold f z xs) ys
fold_append f z [] ys = refl
fold_append f z (x ∷ xs) ys = fold_append f (f z x) xs ys

-- with these uses and spreads
abbrev with_these : {S : Type 0} → Gathered S → List Use → List Spread → Gathered S
with_these g us ss = record { operations = g.operations; fragments = g.fragments; uses = g.uses ++ us; spreads = g.spreads ++ ss }

with_none : {S : Type 0} (g : Gathered S) → g ≡ with_these g [] []
with_none g = λ i. record { operations = g.operations; fragments = g.fragments; uses = sym (append-nil g.uses) i; spreads = sym (append-nil g.spreads) i }

module _ {S C : Type 0} where
  note_one : (g : Gathered S) (p : Part S C) → noted g p ≡ with_these g (use_at p) (spread_at p)
  note_one g (VariableUsed u) = λ i. record { operations = g.operations; fragments = g.fragments; uses = g.uses ++ u ∷ []; spreads = sym (append-nil g.spreads) i }
  note_one g (ASpread s) = λ i. record { operations = g.operations; fragments = g.fragments; uses = sym (append-nil g.uses) i; spreads = g.spreads ++ record { name = s.name.item; place = s.place } ∷ [] }
  note_one g (VariableDefined v) = with_none g
  note_one g (Condition c) = with_none g
  note_one g (AField f) = with_none g
  note_one g (AnInline i) = with_none g
  note_one g (ADirective d) = with_none g
  note_one g (Given x) = with_none g
  note_one g (ObjectOf ns) = with_none g

  note_all : (g : Gathered S) (ps : List (Part S C)) → fold noted g ps ≡ with_these g (flat_map use_at ps) (flat_map spread_at ps)
  note_all g [] = with_none g
  note_all g (p ∷ ps) =
      ap (λ w. fold noted w ps) (note_one g p) ∙ note_all (with_these g (use_at p) (spread_at p)) ps
      ∙ (λ i. record {
        operations = g.operations;
        fragments = g.fragments;
        uses = append_assoc g.uses (use_at p) (flat_map use_at ps) i;
        spreads = append_assoc g.spreads (spread_at p) (flat_map spread_at ps) i;
      })

-- ---- what events add

closed_inner : {S : Type 0} (g : Gathered S) (e : Event S) → is_inner e ≡ true → closed g e ≡ g
closed_inner g (Enter n) k = refl
closed_inner g (Leave (Inner p)) k = refl
closed_inner g (Leave (AtDocument d)) k = refl
closed_inner g (Leave (AtOperation o)) k = absurd (false≢true k)
closed_inner g (Leave (AtFragment f)) k = absurd (false≢true k)

module _ {S C : Type 0} where
  abbrev with_events : Gathered S → List (Seen S C) → Gathered S
  with_events = fold with_event

  within_inner : (es : List (Seen S C)) → AllInner es → (g : Gathered S) → with_events g es ≡ fold noted g (flat_map parts_of es)
  within_inner [] k g = refl
  within_inner (e ∷ es) k g =
      ap (λ w. with_events w es) (closed_inner (fold noted g (parts_of e)) e.event k.0)
      ∙ within_inner es k.1 (fold noted g (parts_of e)) ∙ sym (fold_append noted g (parts_of e) (flat_map parts_of es))

  within : (es : List (Seen S C)) (ps : List (Part S C)) → Tells es ps → (g : Gathered S) → with_events g es ≡ with_these g (flat_map use_at ps) (flat_map spread_at ps)
  within es ps t g = within_inner es t.inner g ∙ ap (fold noted g) t.told ∙ note_all g ps

-- between two definitions
abbrev between : {S : Type 0} → List (OperationScope S) → List FragmentScope → Gathered S
between os fs = record { operations = os; fragments = fs; uses = []; spreads = [] }

module _ {S C : Type 0} (schema : Declarations S C) where
  abbrev operations_here : Definition S → List (OperationScope S)
  operations_here d = map (operation_scope schema) (operation_in d)

  abbrev fragments_here : Definition S → List FragmentScope
  fragments_here d = map (fragment_scope schema) (fragment_in d)

  with_definition : (os : List (OperationScope S)) (fs : List FragmentScope) (d : Definition S) → with_events (between os fs) (definition_events schema d) ≡ between (os ++ operations_here d) (fs ++ fragments_here d)
  with_definition os fs (definition.Operation o) =
      let last = seen_event (top (option_map own_name (root_of schema o.item.operation_type))) (Leave (AtOperation (placed_as o (operation_head o.item)))) in
      fold_append with_event (between os fs) (within_operation schema o) (last ∷ [])
      ∙ ap (λ w. with_event w last) (within (within_operation schema o) _ (operation_tells schema o) (between os fs))
      ∙ ap (λ gs. between (os ++ operations_here (definition.Operation o)) gs) (sym (append-nil fs))
  with_definition os fs (definition.Fragment f) =
      let last = seen_event (top (Some f.item.type_condition.item)) (Leave (AtFragment (placed_as f (fragment_head f.item)))) in
      fold_append with_event (between os fs) (within_fragment schema f) (last ∷ [])
      ∙ ap (λ w. with_event w last) (within (within_fragment schema f) _ (fragment_tells schema f) (between os fs))
      ∙ ap (λ ps. between ps (fs ++ fragments_here (definition.Fragment f))) (sym (append-nil os))

  with_definitions : (os : List (OperationScope S)) (fs : List FragmentScope) (ds : List (Definition S)) →
      with_events (between os fs) (flat_map (definition_events schema) ds) ≡ between (os ++ operation_scopes schema ds) (fs ++ fragment_scopes schema ds)
  with_definitions os fs [] = λ i. between (sym (append-nil os) i) (sym (append-nil fs) i)
  with_definitions os fs (d ∷ ds) =
      fold_append with_event (between os fs) (definition_events schema d) (flat_map (definition_events schema) ds)
      ∙ ap (λ w. with_events w (flat_map (definition_events schema) ds)) (with_definition os fs d)
      ∙ with_definitions (os ++ operations_here d) (fs ++ fragments_here d) ds
      ∙ (λ i. between
      ((append_assoc os (operations_here d) (operation_scopes schema ds) ∙ ap (λ x. os ++ x) (sym (map-append (operation_scope schema) (operation_in d) (operations_of ds)))) i)
      ((append_assoc fs (fragments_here d) (fragment_scopes schema ds) ∙ ap (λ x. fs ++ x) (sym (map-append (fragment_scope schema) (fragment_in d) (fragments_of ds)))) i))

  -- what is gathered over a document's events
  pub gathered_is : (ds : List (Definition S)) → scopes_gathered (fold with_event nothing (events schema ds)) ≡ scopes_in schema ds
  unfolding events
  gathered_is ds =
      let last : Seen S C = seen_event (top None) (Leave (AtDocument ds)) in
      ap scopes_gathered (fold_append with_event (between [] []) (flat_map (definition_events schema) ds) (last ∷ []) ∙ ap (λ w. with_event w last) (with_definitions [] [] ds))
