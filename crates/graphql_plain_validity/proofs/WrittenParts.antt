-- What holds of the parts of a set that is written out.
use Rattle.std.proofs.Common.{◌≡◌, refl, sym, ap, subst, ℕ, zero, suc, false, List, [], ◌∷◌, ◌++◌, map, get_or, Option, Some, None}
use Rattle.std.specs.Prelude.{IfSome, unwrap_or}
use Rattle.std.specs.List.{All, AllByRecursion as Each, flat_map}
use Rattle.std.specs.Option.{option_map, option_to_list}
use Rattle.graphql_names.specs.Names.{Bytes}
use Rattle.graphql_text.specs.Position.{origin}
use Rattle.graphql_values.specs.InputValues.{Placed, unplaced}
use Rattle.graphql_tree.specs.Arguments.{Argument}
use Rattle.graphql_tree.specs.Documents.{arguments_in}
use Rattle.graphql_tree.specs.Unlocated.{unlocated_name}
use Rattle.graphql_tree.specs.declared.document.Fragment.{Fragment}
use Rattle.graphql_tree.specs.declared.selection.Field.{Field}
use Rattle.graphql_tree.specs.declared.selection.FragmentSpread.{FragmentSpread}
use Rattle.graphql_tree.specs.declared.selection.InlineFragment.{InlineFragment}
use Rattle.graphql_tree.specs.declared.selection.Selection.{Selection}
use Rattle.graphql_tree.specs.declared.selection.Selection.TheVariants as selection
use Rattle.graphql_tree.proofs.SelectionInduction.{selection_ind}
use Rattle.graphql_schema.specs.declared.directive_location.DirectiveLocation.TheVariants as location
use Rattle.graphql_schema.specs.declared.meta.MetaType.{MetaType}
use Rattle.graphql_schema.specs.declared.meta.argument.Argument.{Argument as Declared}
use Rattle.graphql_schema.specs.Declarations.{Declarations}
use Rattle.graphql_occurrences.specs.Lookups.{argument_place, field_arguments, field_in, field_type, known, referred}
use Rattle.graphql_occurrences.specs.Occurrences.{directives_parts, given_parts, placed_parts, selection_parts, set_parts, type_inside, parts_under}
use Rattle.graphql_occurrences.specs.Parts.{Part, FieldPart, InlinePart, SpreadPart, Condition, AField, ASpread, AnInline, Given}
use Rattle.graphql_occurrences.specs.Unlocated.{unlocated_part}
use Rattle.graphql_occurrences.proofs.OccurrenceEquations.{parts_field, parts_spread, parts_inline}
use Rattle.graphql_written_out.specs.Trees.{Head, Tree, none, field, inline}
use Rattle.graphql_written_out.specs.Written.{listed, fragment_meant, Before, chain, spread_as, write_with, write}
use Rattle.graphql_written_out.proofs.WrittenEquations.{same-some, write_field, write_spread, write_inline}
use Rattle.graphql_rules_document.proofs.ListItems.{all-first, all-after}
use Rattle.graphql_plain_validity.specs.StemmingParts.{inline_for, goes_away}
use Rattle.graphql_plain_validity.proofs.EachItem.{each-left, each-right}
use Rattle.graphql_plain_validity.proofs.ValueParts.{given-spread-none}

module _ {S C : Type 0} (schema : Declarations S C) where
  abbrev pub Scope : Type 0
  Scope = Option (MetaType S C)

  -- the part of a field that is selected of this type, at no place
  abbrev pub field_part : MetaType S C → Head S → FieldPart S C
  field_part parent head =
      record { name = head.name; place = origin; parent = parent; declared = field_in parent head.name; has_set = head.has_set }

  -- likewise of an inline fragment
  abbrev pub inline_part : MetaType S C → Option Bytes → InlinePart S C
  inline_part parent on =
      record { condition = option_map unplaced on; place = origin; parent = parent }

  -- what an inline fragment's set is selected of
  abbrev pub inside : MetaType S C → Option Bytes → Scope
  inside parent None = Some parent
  inside parent (Some on) = known schema on

  -- what a field's set is selected of
  abbrev pub below_field : MetaType S C → Head S → Scope
  below_field parent head = referred schema (field_type (field_in parent head.name))

  module _ (Q : Part S C → Type 0) where
    abbrev pub AtField : MetaType S C → Head S → Type 0
    AtField parent head =
        Q (AField (field_part parent head)) × Each Q
        (given_parts schema origin (field_arguments (field_in parent head.name)) head.arguments)

    abbrev pub AtCondition : Option Bytes → Type 0
    AtCondition None = Unit {0}
    AtCondition (Some on) = Q (Condition (unplaced on))

    -- it holds of the parts of the set's selections, directives aside, where the set is selected of a type
    abbrev pub HoldsIn : Tree S → Scope → Type 0
    HoldsIn none scope = Unit {0}
    HoldsIn (field head directives below rest) None = Unit {0}
    HoldsIn (field head directives below rest) (Some parent) =
        AtField parent head × HoldsIn below (below_field parent head) × HoldsIn rest (Some parent)
    HoldsIn (inline on directives below rest) None = Unit {0}
    HoldsIn (inline on directives below rest) (Some parent) =
        (Q (AnInline (inline_part parent on)) × AtCondition on) × HoldsIn below
        (inside parent on) × HoldsIn rest (Some parent)

  -- what holds of parts goes over from P to Q: of a part that is no spread, places aside, and from a spread to what stands for it
  pub record Carries (fragments : List (Fragment S)) (P Q : Part S C → Type 0) : Type 0 where
    pub kept : (x y : Part S C) → P x → goes_away x ≡ false → unlocated_part y ≡ unlocated_part x
        → Q y
    pub made : (s : SpreadPart S C) (f : Fragment S) → P (ASpread s)
        → fragment_meant fragments s.name.item ≡ Some f
        → Q (AnInline (inline_for s f)) × P (Condition f.type_condition)
        × Each P (set_parts schema (known schema f.type_condition.item) f.selection_set)

module _ {S C : Type 0} (schema : Declarations S C) (fragments : List (Fragment S))
    (P Q : Part S C → Type 0) (carries : Carries schema fragments P Q) where
  abbrev H : Tree S → Scope schema → Type 0
  H = HoldsIn schema Q

  unknown : (t : Tree S) → H t None
  unknown none = tt
  unknown (field head directives below rest) = tt
  unknown (inline on directives below rest) = tt

  pub each-kept : (xs : List (Part S C)) → Each P xs → Each (λ x. goes_away x ≡ false) xs
      → Each Q xs
  each-kept [] h g = tt
  each-kept (x ∷ xs) h g = (carries.kept x x h.0 g.0 refl, each-kept xs h.1 g.1)

  -- what a field is given, its place aside
  pub given-kept : (x : Part S C) (declared : Option (List (Declared S))) (xs : List (Argument S))
      → unlocated_part (Given (record { place = origin; given = xs; declared = declared }))
      ≡ unlocated_part x
      → goes_away x ≡ false → P x
      → Each P (flat_map (λ a. placed_parts schema (argument_place declared a.0.item) a.1) xs)
      → Each Q (given_parts schema origin declared xs)
  given-kept x declared xs same n h g = (
    carries.kept x
        (Given (record { place = origin; given = xs; declared = declared })) h n same,
    each-kept _ g
        (given-spread-none schema declared xs),
  )

  module _ (r : FragmentSpread S → Before S)
      (spread-holds : (x : Placed (FragmentSpread S)) (parent : MetaType S C)
      → P (ASpread (record { name = x.item.name; place = x.span.start; parent = parent }))
      → (rest : Tree S) → H rest (Some parent) → H (r x.item rest) (Some parent)) where
    abbrev w : Selection S → Before S
    w = write_with r

    -- the set that begins with the selection
    abbrev Of : Selection S → Type 0
    Of x =
        (parent : MetaType S C) → Each P (selection_parts schema x parent) →
        (rest : Tree S) → H rest (Some parent) → H (w x rest) (Some parent)

    in-set : (scope : Scope schema) (xs : List (Selection S)) → All Of xs
        → Each P (set_parts schema scope xs) → H (chain (map w xs) none) scope
    in-set None xs h each = unknown (chain (map w xs) none)
    in-set (Some parent) [] h each = tt
    in-set (Some parent) (x ∷ xs) h each =
        all-first Of x xs h parent (each-left P (selection_parts schema x parent) _ each)
        (chain (map w xs) none)
        (in-set (Some parent) xs (all-after Of x xs h)
        (each-right P (selection_parts schema x parent) _ each))

    in-option : (scope : Scope schema) (o : Option (List (Selection S))) → IfSome o (All Of)
        → Each P (parts_under schema scope (unwrap_or (option_map (map (selection_parts schema)) o) []))
        → H (chain (map w (listed o)) none) scope
    in-option scope None h each = tt
    in-option scope (Some xs) h each = in-set scope xs h each

    at-field : (x : Placed (Field S)) → IfSome x.item.selection_set (All Of)
        → Of (selection.Field x)
    at-field x h parent each rest good =
        let name = x.item.name.item in
        let declared = field_in parent name in
        let e = subst (Each P) (parts_field schema x parent) each in
        let given =
        given_parts schema x.span.start (field_arguments declared)
        (arguments_in x.item.arguments) in
        let directives = directives_parts schema location.Field x.item.directives in
        let below =
        parts_under schema (referred schema (field_type declared))
        (unwrap_or (option_map (map (selection_parts schema)) x.item.selection_set) []) in
        let g = each-left P given directives (each-left P (given ++ directives) below e.1) in
        let b = each-right P (given ++ directives) below e.1 in
        subst (λ t. H t (Some parent)) (sym (write_field r x rest)) (
          (
            carries.kept _ _ e.0 refl (λ i. AField (record {
              name =
                  name;
              place =
                  origin;
              parent =
                  parent;
              declared =
                  declared;
              has_set =
                  sym (same-some (selection_parts schema) x.item.selection_set) i;
            })),
            given-kept _ (field_arguments declared)
                (arguments_in x.item.arguments) refl refl g.0 g.1,
          ),
          in-option (referred schema (field_type declared)) x.item.selection_set h b,
          good,
        )

    at-spread : (x : Placed (FragmentSpread S)) → Of (selection.FragmentSpread x)
    at-spread x parent each rest good =
        let e = subst (Each P) (parts_spread schema x parent) each in
        subst (λ t. H t (Some parent)) (sym (write_spread r x rest))
        (spread-holds x parent e.0 rest good)

    at-condition : (c : Option (Placed Bytes)) → Each P (map Condition (option_to_list c))
        → AtCondition schema Q (option_map (λ n. n.item) c)
    at-condition None h = tt
    at-condition (Some n) h = carries.kept (Condition n) (Condition (unplaced n.item)) h.0 refl refl

    same-scope : (parent : MetaType S C) (c : Option (Placed Bytes))
        → type_inside schema parent c ≡ inside schema parent (option_map (λ n. n.item) c)
    same-scope parent None = refl
    same-scope parent (Some n) = refl

    same-condition : (c : Option (Placed Bytes))
        → option_map unlocated_name (option_map unplaced (option_map (λ n. n.item) c))
        ≡ option_map unlocated_name c
    same-condition None = refl
    same-condition (Some n) = refl

    at-inline : (x : Placed (InlineFragment S)) → All Of x.item.selection_set
        → Of (selection.InlineFragment x)
    at-inline x h parent each rest good =
        let c = x.item.type_condition in
        let e = subst (Each P) (parts_inline schema x parent) each in
        let directives = directives_parts schema location.InlineFragment x.item.directives in
        let below =
        parts_under schema (type_inside schema parent c)
        (map (selection_parts schema) x.item.selection_set) in
        let conditions = map Condition (option_to_list c) in
        subst (λ t. H t (Some parent)) (sym (write_inline r x rest)) (
          (
            carries.kept _ _ e.0 refl (ap (λ z. AnInline (record {
              condition =
                  z;
              place = origin;
              parent = parent;
            })) (same-condition c)),
            at-condition c
                (each-left P conditions directives (each-left P (conditions ++ directives) below e.1)),
          ),
          subst (H (chain (map w x.item.selection_set) none)) (same-scope parent c)
              (in-set (type_inside schema parent c) x.item.selection_set h
              (each-right P (conditions ++ directives) below e.1)),
          good,
        )

    of-selection : (x : Selection S) → Of x
    of-selection = selection_ind Of at-field at-spread at-inline

    of-set : (scope : Scope schema) (xs : List (Selection S)) → Each P (set_parts schema scope xs)
        → H (chain (map w xs) none) scope
    of-set scope xs = in-set scope xs (λ k d within. of-selection (get_or xs k d))

  -- ---- to a depth

  abbrev OfSet : ℕ → Type 0
  OfSet depth =
      (scope : Scope schema) (xs : List (Selection S)) → Each P (set_parts schema scope xs) → H
      (write depth fragments xs) scope

  spread-to : (depth : ℕ) → OfSet depth
      → (x : Placed (FragmentSpread S)) (parent : MetaType S C) (o : Option (Fragment S))
      → fragment_meant fragments x.item.name.item ≡ o
      → P (ASpread (record { name = x.item.name; place = x.span.start; parent = parent }))
      → (rest : Tree S) → H rest (Some parent)
      → H (spread_as (write depth fragments) (listed x.item.directives) rest o) (Some parent)
  spread-to depth ih x parent None is h rest good = good
  spread-to depth ih x parent (Some f) is h rest good =
      let m =
      carries.made (record { name = x.item.name; place = x.span.start; parent = parent }) f h is in (
        (
          m.0,
          carries.kept (Condition f.type_condition)
              (Condition (unplaced f.type_condition.item)) m.1 refl refl,
        ),
        ih
            (known schema f.type_condition.item) f.selection_set m.2,
        good,
      )

  pub written-holds : (depth : ℕ) → OfSet depth
  written-holds zero = of-set (λ x rest. rest) (λ x parent h rest good. good)
  written-holds (suc depth) =
      of-set
      (λ x rest. spread_as (write depth fragments) (listed x.directives) rest
      (fragment_meant fragments x.name.item))
      (λ x parent. spread-to depth (written-holds depth) x parent
      (fragment_meant fragments x.item.name.item) refl)
