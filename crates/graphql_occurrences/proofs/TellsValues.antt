-- What the events of values, arguments and directives tell of their parts.
use Rattle.std.proofs.Common.{◌≡◌, List, [], ◌∷◌, ◌++◌, Option, map, get_or, refl, sym, ap, ◌∙◌, append-nil}
use Rattle.std.specs.Prelude.{unwrap_or}
use Rattle.std.specs.List.{flat_map}
use Rattle.std.proofs.lemmas.Simd.{map-map}
use Rattle.graphql_text.specs.declared.position.Span.{Span}
use Rattle.graphql_text.specs.declared.position.SourcePosition.{SourcePosition}
use Rattle.graphql_values.specs.InputValues.{Placed}
use Rattle.graphql_values.specs.declared.input_value.InputValue.{InputValue, out-InputValue}
use Rattle.graphql_values.specs.declared.input_value.InputValue.TheOpen.{InputValue-F}
use Rattle.graphql_values.specs.declared.input_value.InputValue.TheVariants as value
use Rattle.graphql_values.proofs.InputValueInduction.{value_ind}
use Rattle.graphql_schema.specs.declared.directive_location.DirectiveLocation.{DirectiveLocation}
use Rattle.graphql_schema.specs.declared.meta.argument.Argument.{Argument as DeclaredArgument}
use Rattle.graphql_occurrences.specs.DeclaredLookups.{Declarations}
use Rattle.graphql_occurrences.specs.DeclaredLookups.{directive_named}
use Rattle.graphql_tree.specs.Arguments.{Argument}
use Rattle.graphql_tree.specs.declared.directive.Directive.{Directive}
use Rattle.graphql_occurrences.specs.Lookups.{argument_place, directive_arguments, field_place, item_place}
use Rattle.graphql_tree.specs.Documents.{arguments_in}
use Rattle.graphql_occurrences.specs.Parts.{InputPlace, Part, ObjectOf}
use Rattle.graphql_occurrences.specs.Occurrences.{value_parts, placed_parts, directive_parts, directives_parts}
use Rattle.graphql_occurrences.specs.Nodes.{Owner, OfDirective, Around, AtValue, AtObjectField, AtArgument, AtDirective, value_head, value_head_layer, nulled}
use Rattle.graphql_occurrences.specs.Events as walk
use Rattle.graphql_occurrences.specs.Events.{events, seen_event, through, through_each, asked, top}
use Rattle.graphql_occurrences.specs.PartsOf.{parts_of_value}
use Rattle.graphql_occurrences.proofs.OccurrenceEquations.{parts_null, parts_scalar, parts_enum, parts_variable, parts_list, parts_object}
use Rattle.graphql_occurrences.proofs.ValueEvents.{value_is, content_list, content_object, content_null, content_scalar, content_enum, content_variable}
use Rattle.graphql_occurrences.proofs.Tells.{Tells, tells_nil, tells_as, tells_it, tells_all, tells_each}

module _ {S C : Type 0} (schema : Declarations S C) where
  abbrev value_here : InputValue S → SourcePosition → Option InputPlace → List (Part S C)
  value_here = value_parts schema

  abbrev of_layer : InputValue-F S (InputValue S) → SourcePosition → Option InputPlace → List (Part S C)
  of_layer m start here = parts_of_value (out-InputValue S (value_head_layer m)) start here

  tells_value : (v : InputValue S) (span : Span) (around : Around S C) (ps qs all : List (Part S C)) → of_layer (out-InputValue S v) span.start around.input ≡ ps → ps ++ qs ≡ all →
      Tells (walk.content_events schema v around) qs → Tells (walk.value_within schema v span around) all
  tells_value v span around ps qs all head is h =
      tells_as _ _ _ _ (sym (value_is schema v span around)) (ap (λ x. x ++ qs) head ∙ is) (tells_it (AtValue (record { item = value_head v; span = span })) (walk.content_events schema v around) around qs h)

  abbrev ValueTells : InputValue S → Type 0
  ValueTells v = (span : Span) (around : Around S C) → Tells (walk.value_within schema v span around) (value_here v span.start around.input)

  leaf_tells : (v : InputValue S) (span : Span) (around : Around S C) (ps : List (Part S C)) → of_layer (out-InputValue S v) span.start around.input ≡ ps → value_here v span.start around.input ≡ ps →
      walk.content_events schema v around ≡ [] → Tells (walk.value_within schema v span around) (value_here v span.start around.input)
  leaf_tells v span around ps head is none = tells_value v span around ps [] _ head (append-nil ps ∙ sym is) (tells_as _ _ _ _ (sym none) refl tells_nil)

  pub value_tells : (v : InputValue S) → ValueTells v
  value_tells = value_ind ValueTells
      (λ span around. leaf_tells value.Null span around [] (ap (λ m. of_layer m span.start around.input) value.outs-Null ∙ ap (λ m. parts_of_value m span.start around.input) value.outs-Null) (parts_null schema span.start around.input) (content_null schema around))
      (λ s span around. leaf_tells (value.Scalar s) span around [] (ap (λ m. of_layer m span.start around.input) (value.outs-Scalar s) ∙ ap (λ m. parts_of_value m span.start around.input) (value.outs-Scalar s)) (parts_scalar schema s span.start around.input) (content_scalar schema s around))
      (λ n span around. leaf_tells (value.Enum n) span around [] (ap (λ m. of_layer m span.start around.input) (value.outs-Enum n) ∙ ap (λ m. parts_of_value m span.start around.input) (value.outs-Enum n)) (parts_enum schema n span.start around.input) (content_enum schema n around))
      (λ n span around. leaf_tells (value.Variable n) span around _ (ap (λ m. of_layer m span.start around.input) (value.outs-Variable n) ∙ ap (λ m. parts_of_value m span.start around.input) (value.outs-Variable n)) (parts_variable schema n span.start around.input) (content_variable schema n around))
      (λ xs h span around.
      let inside = asked around (item_place around.input) in
      tells_value (value.List xs) span around [] _ _
      (ap (λ m. of_layer m span.start around.input) (value.outs-List xs) ∙ ap (λ m. parts_of_value m span.start around.input) (value.outs-List (map nulled xs)))
      (sym (parts_list schema xs span.start around.input))
      (tells_as _ _ _ _ (sym (content_list schema xs around)) refl
      (tells_all (λ x. walk.item_events schema x around) (λ x. value_here x.item x.span.start (item_place around.input)) xs (λ k d l. h k d l (get_or xs k d).span inside))))
      (λ ps h span around.
      tells_value (value.Object ps) span around (ObjectOf (map (λ p. p.0) ps) ∷ []) _ _
      (ap (λ m. of_layer m span.start around.input) (value.outs-Object ps) ∙ ap (λ m. parts_of_value m span.start around.input) (value.outs-Object (map (λ p. (p.0, nulled p.1)) ps)) ∙ ap (λ ns. ObjectOf ns ∷ []) (map-map (λ p. p.0) (λ p. (p.0, nulled p.1)) ps))
      (sym (parts_object schema ps span.start around.input))
      (tells_as _ _ _ _ (sym (content_object schema ps around)) refl
      (tells_all (λ p. walk.pair_events schema p around) (λ p. value_here p.1.item p.1.span.start (field_place schema around.input p.0.item)) ps
      (λ k d l. let p = get_or ps k d in
      let inside = asked around (field_place schema around.input p.0.item) in
      tells_it (AtObjectField p.0) (walk.value_events schema p.1 inside) inside _ (h k d l p.1.span inside)))))

  argument_tells : (owner : Owner) (known : Option (List (DeclaredArgument S))) (around : Around S C) (a : Argument S) → Tells (walk.argument_events schema owner known a around) (placed_parts schema (argument_place known a.0.item) a.1)
  argument_tells owner known around a =
      let inside = asked around (argument_place known a.0.item) in
      tells_it (AtArgument owner known a) (walk.value_events schema a.1 inside) inside _ (value_tells a.1.item a.1.span inside)

  pub arguments_tell : (owner : Owner) (known : Option (List (DeclaredArgument S))) (around : Around S C) (xs : List (Argument S)) →
      Tells (walk.arguments_events schema owner known xs around) (flat_map (λ a. placed_parts schema (argument_place known a.0.item) a.1) xs)
  arguments_tell owner known around xs = tells_each (λ a. walk.argument_events schema owner known a around) (λ a. placed_parts schema (argument_place known a.0.item) a.1) (argument_tells owner known around) xs

  directive_tells : (place : DirectiveLocation) (around : Around S C) (d : Placed (Directive S)) → Tells (walk.directive_events schema place d around) (directive_parts schema place d)
  directive_tells place around d =
      let known = directive_named schema.directives d.item.name.item in
      tells_it (AtDirective place known d) (walk.arguments_events schema (OfDirective d.item.name.item) (directive_arguments known) (arguments_in d.item.arguments) around) around _
      (arguments_tell (OfDirective d.item.name.item) (directive_arguments known) around (arguments_in d.item.arguments))

  pub directives_tell : (place : DirectiveLocation) (around : Around S C) (ds : Option (List (Placed (Directive S)))) → Tells (walk.directives_events schema place (unwrap_or ds []) around) (directives_parts schema place ds)
  directives_tell place around ds = tells_each (λ d. walk.directive_events schema place d around) (directive_parts schema place) (directive_tells place around) (unwrap_or ds [])
