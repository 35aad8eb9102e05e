-- What holds of the parts of a set that is written out holds of those of its plain set.
use Rattle.std.proofs.Common.{◌≡◌, refl, sym, ◌∙◌, ap, subst, Bool, true, false, not, List, [], ◌∷◌, ◌++◌, map, Option, Some, None, cond, codes}
use Rattle.std.specs.Prelude.{unwrap_or}
use Rattle.std.specs.List.{AllByRecursion as Each}
use Rattle.std.specs.Option.{option_map, option_to_list, is_some}
use Rattle.graphql_names.specs.Names.{Bytes}
use Rattle.graphql_text.specs.Position.{origin}
use Rattle.graphql_values.specs.InputValues.{Placed, unplaced}
use Rattle.graphql_tree.specs.Arguments.{Argument}
use Rattle.graphql_tree.specs.Documents.{arguments_in}
use Rattle.graphql_tree.specs.declared.selection.Field.{Field}
use Rattle.graphql_tree.specs.declared.selection.InlineFragment.{InlineFragment}
use Rattle.graphql_tree.specs.declared.selection.Selection.{Selection}
use Rattle.graphql_tree.specs.declared.selection.Selection.TheVariants as selection
use Rattle.graphql_schema.specs.declared.directive_location.DirectiveLocation.{DirectiveLocation}
use Rattle.graphql_schema.specs.declared.directive_location.DirectiveLocation.TheVariants as location
use Rattle.graphql_schema.specs.declared.meta.MetaType.{MetaType}
use Rattle.graphql_schema.specs.Declarations.{Declarations}
use Rattle.graphql_occurrences.specs.DeclaredLookups.{directive_arguments, directive_named}
use Rattle.graphql_occurrences.specs.Lookups.{argument_place, field_arguments, field_in}
use Rattle.graphql_occurrences.specs.Occurrences.{directives_parts, given_parts, selection_parts, set_parts, type_inside, parts_under}
use Rattle.graphql_occurrences.specs.Parts.{Part, Condition, AField, AnInline, ADirective, Given}
use Rattle.graphql_occurrences.proofs.OccurrenceEquations.{parts_field, parts_inline, parts_scalar}
use Rattle.graphql_written_out.specs.Trees.{Directives, Head, Tree, none, field, inline, is_empty, IsFilled}
use Rattle.graphql_plain_tree.specs.Plain.{drops_all, plain_set, plain}
use Rattle.graphql_plain_tree.specs.PlainDocuments.{alias_if, arguments_as, directives_as, list_unless, selections_of}
use Rattle.graphql_plain_tree.specs.StandIns.{skip_true}
use Rattle.graphql_plain_tree.proofs.FilledSets.{same-empty}
use Rattle.graphql_plain_validity.specs.StemmingParts.{skip_at, skip_given}
use Rattle.graphql_plain_validity.proofs.EachItem.{each-append}
use Rattle.graphql_plain_validity.proofs.WrittenParts.{AtCondition, AtField, HoldsIn, below_field, field_part, inline_part, inside}

module _ {S : Type 0} where
  -- what a field and an inline fragment of a plain set are in its document
  abbrev pub field_as : Head S → Directives S → Tree S → Placed (Field S)
  field_as head directives below = unplaced (record {
    alias = alias_if head.is_aliased head.key;
    name = unplaced head.name;
    arguments = arguments_as head.arguments;
    directives = directives_as directives;
    selection_set = list_unless (is_empty below) (selections_of below);
  })

  abbrev pub inline_as : Option Bytes → Directives S → Tree S → Placed (InlineFragment S)
  inline_as on directives below = unplaced (record {
    type_condition = option_map unplaced on;
    directives = directives_as directives;
    selection_set = selections_of below;
  })

  pub arguments-back : (xs : List (Argument S)) → arguments_in (arguments_as xs) ≡ xs
  arguments-back [] = refl
  arguments-back (x ∷ xs) = refl

module _ {S C : Type 0} (schema : Declarations S C) (of_bool : Bool → S) where
  -- the parts of a stand-in's directive
  pub skip-parts : (at : DirectiveLocation)
      → directives_parts schema at (Some (skip_true of_bool))
      ≡ ADirective (skip_at schema at) ∷ (Given (skip_given schema of_bool) ∷ [])
  skip-parts at =
      ap (λ ps. ADirective (skip_at schema at) ∷
      (Given (skip_given schema of_bool) ∷ ((ps ++ []) ++ [])))
      (parts_scalar schema (of_bool true) origin
      (argument_place (directive_arguments (directive_named schema.directives (codes "skip")))
      (codes "if")))

  module _ (Q : Part S C → Type 0) where
    abbrev At : DirectiveLocation → Directives S → Type 0
    At at ds = Each Q (directives_parts schema at (directives_as ds))

    -- it holds of the directives of stand-ins
    pub record HoldsOfStandIns : Type 0 where
      pub at_field : Q (ADirective (skip_at schema location.Field))
      pub at_inline : Q (ADirective (skip_at schema location.InlineFragment))
      pub given : Q (Given (skip_given schema of_bool))

    skip-holds : (at : DirectiveLocation) → Q (ADirective (skip_at schema at))
        → Q (Given (skip_given schema of_bool)) → At at (skip_true of_bool)
    skip-holds at h g = subst (Each Q) (sym (skip-parts at)) (h, (g, tt))

    abbrev parts : Option (MetaType S C) → Tree S → List (Part S C)
    parts scope t = set_parts schema scope (selections_of t)

    set-unless : (scope : Option (MetaType S C)) (b : Bool) (xs : List (Selection S))
        → Each Q (set_parts schema scope xs)
        → Each Q (parts_under schema scope (unwrap_or (option_map (map (selection_parts schema)) (list_unless b xs)) []))
    set-unless None b xs h = tt
    set-unless (Some parent) true xs h = tt
    set-unless (Some parent) false xs h = h

    has-set : (b : Bool) (xs : List (Selection S))
        → is_some (option_map (map (selection_parts schema)) (list_unless b xs)) ≡ not b
    has-set true xs = refl
    has-set false xs = refl

    -- a field, and what follows it
    field-first : (parent : MetaType S C) (head : Head S) (ds : Directives S) (below rest : Tree S)
        → At location.Field ds → head.has_set ≡ not (is_empty below) → AtField schema Q parent head
        → Each Q (parts (below_field schema parent head) below) → Each Q (parts (Some parent) rest)
        → Each Q (parts (Some parent) (field head ds below rest))
    field-first parent head ds below rest marks right at b r =
        let declared = field_in parent head.name in
        let x = field_as head ds below in
        let given =
        given_parts schema origin (field_arguments declared)
        (arguments_in (arguments_as head.arguments)) in
        each-append Q (selection_parts schema (selection.Field x) parent) (parts (Some parent) rest)
        (subst (Each Q) (sym (parts_field schema x parent)) (
          subst (λ q. Q (AField (record (field_part schema parent head) { has_set = q })))
              (right ∙ sym (has-set (is_empty below) (selections_of below))) at.0,
          each-append Q (given ++ directives_parts schema location.Field (directives_as ds)) _
              (each-append Q given (directives_parts schema location.Field (directives_as ds))
              (subst (λ xs. Each Q (given_parts schema origin (field_arguments declared) xs))
              (sym (arguments-back head.arguments)) at.1) marks)
              (set-unless (below_field schema parent head) (is_empty below)
              (selections_of below) b),
        )) r

    same-scope : (parent : MetaType S C) (on : Option Bytes)
        → inside schema parent on ≡ type_inside schema parent (option_map unplaced on)
    same-scope parent None = refl
    same-scope parent (Some n) = refl

    conditions : (on : Option Bytes) → AtCondition schema Q on
        → Each Q (map Condition (option_to_list (option_map unplaced on)))
    conditions None h = tt
    conditions (Some n) h = (h, tt)

    -- an inline fragment, and what follows it
    inline-first : (parent : MetaType S C) (on : Option Bytes) (ds : Directives S)
        (below rest : Tree S)
        → At location.InlineFragment ds → Q (AnInline (inline_part schema parent on))
        → AtCondition schema Q on
        → Each Q (parts (inside schema parent on) below) → Each Q (parts (Some parent) rest)
        → Each Q (parts (Some parent) (inline on ds below rest))
    inline-first parent on ds below rest marks at condition b r =
        let x = inline_as on ds below in
        let front = map Condition (option_to_list (option_map unplaced on)) in
        each-append Q (selection_parts schema (selection.InlineFragment x) parent)
        (parts (Some parent) rest)
        (subst (Each Q) (sym (parts_inline schema x parent)) (
          at,
          each-append Q
              (front ++ directives_parts schema location.InlineFragment (directives_as ds)) _
              (each-append Q front
              (directives_parts schema location.InlineFragment (directives_as ds))
              (conditions on condition) marks)
              (subst (λ scope. Each Q (parts scope below)) (same-scope parent on) b),
        )) r

    module _ (stand : HoldsOfStandIns) (drops : Directives S → Bool) where
      abbrev set : Bool → Tree S → Tree S
      set = plain_set drops (skip_true of_bool)

      abbrev p : Tree S → Tree S
      p = plain drops (skip_true of_bool)

      still-filled : (b : Bool) (t : Tree S) → b ≡ not (is_empty t) → b ≡ not (is_empty (p t))
      still-filled b t h = h ∙ ap not (sym (same-empty drops (skip_true of_bool) t))

      holds : (t : Tree S) (out : Bool) (scope : Option (MetaType S C)) → HoldsIn schema Q t scope
          → IsFilled t → Each Q (parts scope (set out t))
      holds none out None h f = tt
      holds none out (Some parent) h f = tt
      holds (field head ds below rest) out None h f = tt
      holds (inline on ds below rest) out None h f = tt
      holds (field head ds below rest) true (Some parent) h f =
          field-first parent head (skip_true of_bool) (p below) none
          (skip-holds location.Field stand.at_field stand.given)
          (still-filled head.has_set below f.0) h.0
          (holds below (drops_all drops below) (below_field schema parent head) h.1 f.1) tt
      holds (inline on ds below rest) true (Some parent) h f =
          inline-first parent on (skip_true of_bool) (p below) none
          (skip-holds location.InlineFragment stand.at_inline stand.given) h.0.0 h.0.1
          (holds below (drops_all drops below) (inside schema parent on) h.1 f.1) tt
      holds (field head ds below rest) false (Some parent) h f =
          let after = holds rest false (Some parent) h.2 f.2 in
          elim (drops ds) as
          (λ d. Each Q
          (parts (Some parent)
          (cond d (set false rest) (field head [] (p below) (set false rest))))) [
            | true ↦ after
            | false ↦ field-first parent head [] (p below) (set false rest) tt
                (still-filled head.has_set below f.0) h.0
                (holds below (drops_all drops below) (below_field schema parent head) h.1 f.1) after
          ]
      holds (inline on ds below rest) false (Some parent) h f =
          let after = holds rest false (Some parent) h.2 f.2 in
          elim (drops ds) as
          (λ d. Each Q
          (parts (Some parent)
          (cond d (set false rest) (inline on [] (p below) (set false rest))))) [
            | true ↦ after
            | false ↦ inline-first parent on [] (p below) (set false rest) tt h.0.0 h.0.1
                (holds below (drops_all drops below) (inside schema parent on) h.1 f.1) after
          ]

      pub plain-holds : (t : Tree S) (scope : Option (MetaType S C)) → HoldsIn schema Q t scope
          → IsFilled t → Each Q (parts scope (p t))
      plain-holds t = holds t (drops_all drops t)
