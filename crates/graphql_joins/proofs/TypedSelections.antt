-- Of a document without a fault the selection sets, written out, stand under known types, and
-- arguments have distinct names.
use Rattle.std.proofs.Common.{◌≡◌, refl, sym, ◌∙◌, ap, subst, arith, ℕ, zero, suc, List, [], ◌∷◌, ◌++◌, map, get_or}
use Rattle.std.proofs.Common.{Option, Some, None}
use Rattle.std.specs.Prelude.{IfSome, unwrap_or}
use Rattle.std.specs.List.{All, Contains, flat_map}
use Rattle.std.specs.Option.{IsSome, is_some, option_map, option_to_list}
use Rattle.std.proofs.lemmas.List.Elements.{Contains-append_left, Contains-append_right}
use Rattle.graphql_names.specs.Names.{Bytes}
use Rattle.graphql_values.specs.InputValues.{Placed}
use Rattle.graphql_tree.specs.Documents.{arguments_in}
use Rattle.graphql_tree.specs.declared.document.Fragment.{Fragment}
use Rattle.graphql_tree.specs.declared.selection.Field.{Field}
use Rattle.graphql_tree.specs.declared.selection.FragmentSpread.{FragmentSpread}
use Rattle.graphql_tree.specs.declared.selection.InlineFragment.{InlineFragment}
use Rattle.graphql_tree.specs.declared.selection.Selection.{Selection}
use Rattle.graphql_tree.specs.declared.selection.Selection.TheVariants as selection
use Rattle.graphql_tree.proofs.SelectionInduction.{selection_ind}
use Rattle.graphql_schema.specs.declared.directive_location.DirectiveLocation.TheVariants as location
use Rattle.graphql_schema.specs.declared.meta.MetaType.{MetaType}
use Rattle.graphql_schema.specs.Declarations.{Declarations}
use Rattle.graphql_occurrences.specs.DeclaredLookups.{field_in, field_type, known, referred}
use Rattle.graphql_occurrences.specs.Lookups.{argument_place, field_arguments}
use Rattle.graphql_occurrences.specs.Occurrences.{directives_parts, placed_parts, selection_parts, set_parts}
use Rattle.graphql_occurrences.specs.Occurrences.{type_inside, parts_under}
use Rattle.graphql_occurrences.specs.Parts.{Part, AField, AnInline, Condition, FieldPart, Given, GivenPart, InlinePart}
use Rattle.graphql_occurrences.proofs.OccurrenceEquations.{parts_field, parts_inline}
use Rattle.graphql_written_out.specs.Trees.{Directives, Tree, none}
use Rattle.graphql_written_out.specs.Written.{Before, chain, fragment_meant, listed, spread_as, write, write_with}
use Rattle.graphql_written_out.proofs.WrittenEquations.{write_field, write_spread, write_inline}
use Rattle.graphql_rules.specs.Laws.{AreDistinct}
use Rattle.graphql_rules_document.specs.Counted.{AreKnown, FieldTypesAreKnown}
use Rattle.graphql_rules_document.proofs.CountedSpreads.{among-types, known-left, known-right, value-of}
use Rattle.graphql_rules_document.proofs.ListItems.{all-first, all-after}
use Rattle.graphql_merging.specs.Members.{inside}
use Rattle.graphql_joins.specs.Typed.{IsTyped}

module _ {S C : Type 0} (schema : Declarations S C) (closed : FieldTypesAreKnown schema) where
  -- fields are declared, conditions known, and what is given has distinct names
  abbrev pub Fine : List (Part S C) → Type 0
  Fine parts = AreKnown schema parts × ((g : GivenPart S) → Contains parts (Given g) → AreDistinct g)

  pub fine-left : (ps qs : List (Part S C)) → Fine (ps ++ qs) → Fine ps
  fine-left ps qs h = (known-left schema ps qs h.0, λ g i. h.1 g (Contains-append_left ps qs (Given g) i))

  pub fine-right : (ps qs : List (Part S C)) → Fine (ps ++ qs) → Fine qs
  fine-right ps qs h = (known-right schema ps qs h.0, λ g i. h.1 g (Contains-append_right ps qs (Given g) i))

  abbrev Typed : MetaType S C → Tree S → Type 0
  Typed parent = IsTyped schema.types (Some parent)

  -- for a way to write spreads that keeps a set typed
  module _ (r : FragmentSpread S → Before S)
      (spread-typed : (x : FragmentSpread S) (parent : MetaType S C) (rest : Tree S) → Typed parent rest
      → Typed parent (r x rest)) where
    abbrev w : Selection S → Before S
    w = write_with r

    abbrev Of : Selection S → Type 0
    Of x =
        (parent : MetaType S C) → Contains schema.types parent → Fine (selection_parts schema x parent)
        → (rest : Tree S) → Typed parent rest → Typed parent (w x rest)

    in-set : (parent : MetaType S C) → Contains schema.types parent → (xs : List (Selection S)) → All Of xs
        → Fine (set_parts schema (Some parent) xs) → Typed parent (chain (map w xs) none)
    in-set parent i [] h fine = tt
    in-set parent i (x ∷ xs) h fine =
        let rest = set_parts schema (Some parent) xs in
        all-first Of x xs h parent i (fine-left (selection_parts schema x parent) rest fine) (chain (map w xs) none)
        (in-set parent i xs (all-after Of x xs h) (fine-right (selection_parts schema x parent) rest fine))

    -- in a known type
    in-known : (o : Option (MetaType S C)) (m : MetaType S C) → o ≡ Some m → Contains schema.types m
        → (xs : List (Selection S)) → All Of xs → Fine (set_parts schema o xs)
        → IsTyped schema.types o (chain (map w xs) none)
    in-known o m e i xs h fine =
        subst (λ (s : Option (MetaType S C)). IsTyped schema.types s (chain (map w xs) none)) (sym e)
        (in-set m i xs h (subst (λ (s : Option (MetaType S C)). Fine (set_parts schema s xs)) e fine))

    in-option : (s : Option (MetaType S C)) (m : MetaType S C) → s ≡ Some m → Contains schema.types m
        → (o : Option (List (Selection S))) → IfSome o (All Of)
        → Fine (parts_under schema s (unwrap_or (option_map (map (selection_parts schema)) o) []))
        → IsTyped schema.types s (chain (map w (listed o)) none)
    in-option s m e i None h fine = subst (λ (t : Option (MetaType S C)). IsTyped schema.types t none) (sym e) tt
    in-option s m e i (Some xs) h fine = in-known s m e i xs h fine

    at-field : (x : Placed (Field S)) → IfSome x.item.selection_set (All Of) → Of (selection.Field x)
    at-field x h parent i fine rest typed =
        let name = x.item.name.item in
        let declared = field_in parent name in
        let here : FieldPart S C =
        record {
          name = name;
          place = x.span.start;
          parent = parent;
          declared = declared;
          has_set = is_some (option_map (map (selection_parts schema)) x.item.selection_set);
        } in
        let given : GivenPart S =
        record { place = x.span.start; given = arguments_in x.item.arguments; declared = field_arguments declared } in
        let values =
        flat_map (λ a. placed_parts schema (argument_place (field_arguments declared) a.0.item) a.1)
        (arguments_in x.item.arguments) in
        let directives = directives_parts schema location.Field x.item.directives in
        let below =
        parts_under schema (referred schema (field_type declared))
        (unwrap_or (option_map (map (selection_parts schema)) x.item.selection_set) []) in
        let parts : Fine (AField here ∷ (Given given ∷ ((values ++ directives) ++ below))) =
        subst Fine (parts_field schema x parent) fine in
        let own = value-of declared (parts.0.fields here (0, omega arith, refl)) in
        let type = value-of (known schema own.0.field_type.name) (closed parent name own.0 i own.1) in
        let scope : referred schema (field_type declared) ≡ Some type.0 =
        ap (λ d. referred schema (field_type d)) own.1 ∙ type.1 in
        subst (Typed parent) (sym (write_field r x rest)) (
          parts.1 given (1, omega arith, refl),
          in-option (referred schema (field_type declared)) type.0 scope
              (among-types schema own.0.field_type.name type.0 type.1) x.item.selection_set h
              (fine-right (values ++ directives) below
              (fine-right (AField here ∷ Given given ∷ []) ((values ++ directives) ++ below) parts)),
          typed,
        )

    at-spread : (x : Placed (FragmentSpread S)) → Of (selection.FragmentSpread x)
    at-spread x parent i fine rest typed =
        subst (Typed parent) (sym (write_spread r x rest)) (spread-typed x.item parent rest typed)

    at-inline : (x : Placed (InlineFragment S)) → All Of x.item.selection_set → Of (selection.InlineFragment x)
    at-inline x h parent i fine rest typed =
        let c = x.item.type_condition in
        let here : InlinePart S C = record { condition = c; place = x.span.start; parent = parent } in
        let conditions = map Condition (option_to_list c) in
        let directives = directives_parts schema location.InlineFragment x.item.directives in
        let below = parts_under schema (type_inside schema parent c) (map (selection_parts schema) x.item.selection_set) in
        let parts : Fine (AnInline here ∷ ((conditions ++ directives) ++ below)) =
        subst Fine (parts_inline schema x parent) fine in
        let after = fine-right (AnInline here ∷ []) ((conditions ++ directives) ++ below) parts in
        subst (Typed parent) (sym (write_inline r x rest)) (
          by-condition c (fine-left conditions directives (fine-left (conditions ++ directives) below after))
              (fine-right (conditions ++ directives) below after),
          typed,
        )
      where
        by-condition : (c : Option (Placed Bytes)) → Fine (map Condition (option_to_list c))
            → Fine (parts_under schema (type_inside schema parent c) (map (selection_parts schema) x.item.selection_set))
            → IsTyped schema.types (inside schema.types (Some parent) (option_map (λ n. n.item) c))
            (chain (map w x.item.selection_set) none)
        by-condition None k fine = in-set parent i x.item.selection_set h fine
        by-condition (Some n) k fine =
            let one : Fine (Condition n ∷ []) = k in
            let type = value-of (known schema n.item) (one.0.conditions n (0, omega arith, refl)) in
            in-known (known schema n.item) type.0 type.1
            (among-types schema n.item type.0 type.1) x.item.selection_set h fine

    of-set : (o : Option (MetaType S C)) (m : MetaType S C) → o ≡ Some m → Contains schema.types m
        → (xs : List (Selection S)) → Fine (set_parts schema o xs) → IsTyped schema.types o (chain (map w xs) none)
    of-set o m e i xs =
        in-known o m e i xs (λ k d within. selection_ind Of at-field at-spread at-inline (get_or xs k d))

  -- ---- to a depth

  module _ (fragments : List (Fragment S))
      (fragments-fine : (name : Bytes) (f : Fragment S) → fragment_meant fragments name ≡ Some f
      → IsSome (known schema f.type_condition.item)
      × Fine (set_parts schema (known schema f.type_condition.item) f.selection_set)) where
    abbrev OfSet : ℕ → Type 0
    OfSet depth =
        (o : Option (MetaType S C)) (m : MetaType S C) → o ≡ Some m → Contains schema.types m
        → (xs : List (Selection S)) → Fine (set_parts schema o xs) → IsTyped schema.types o (write depth fragments xs)

    spread-to : (depth : ℕ) → OfSet depth → (name : Bytes) (directives : Directives S) (o : Option (Fragment S))
        → fragment_meant fragments name ≡ o → (parent : MetaType S C) (rest : Tree S) → Typed parent rest
        → Typed parent (spread_as (write depth fragments) directives rest o)
    spread-to depth ih name directives None e parent rest typed = typed
    spread-to depth ih name directives (Some f) e parent rest typed =
        let h = fragments-fine name f e in
        let type = value-of (known schema f.type_condition.item) h.0 in (
          ih (known schema f.type_condition.item) type.0 type.1
              (among-types schema f.type_condition.item type.0 type.1) f.selection_set h.1,
          typed,
        )

    pub write-typed : (depth : ℕ) → OfSet depth
    write-typed zero = of-set (λ x rest. rest) (λ x parent rest typed. typed)
    write-typed (suc depth) =
        of-set (λ x rest. spread_as (write depth fragments) (listed x.directives) rest
        (fragment_meant fragments x.name.item))
        (λ x parent rest typed. spread-to depth (write-typed depth) x.name.item (listed x.directives)
        (fragment_meant fragments x.name.item) refl parent rest typed)
