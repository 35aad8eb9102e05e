-- What is written of selections over other scalars and at other places is what is written of them,
-- over those scalars and at those places.
use Rattle.std.proofs.Common.{◌≡◌, refl, sym, ◌∙◌, ap, ℕ, zero, suc, arith, true, false, List, [], ◌∷◌, map, length, cond, get_or, Option, Some, None}
use Rattle.std.specs.Prelude.{IfSome}
use Rattle.std.specs.List.{All}
use Rattle.std.specs.Option.{option_map, is_some}
use Rattle.std.specs.Str.{bytes_eq}
use Rattle.std.proofs.lemmas.List.{length-map}
use Rattle.graphql_names.specs.Names.{Bytes}
use Rattle.graphql_text.specs.declared.position.SourcePosition.{SourcePosition}
use Rattle.graphql_values.specs.InputValues.{Placed}
use Rattle.graphql_tree.specs.Definitions.{fragments_listed}
use Rattle.graphql_tree.specs.Documents.{arguments_in}
use Rattle.graphql_tree.specs.declared.document.Definition.{Definition}
use Rattle.graphql_tree.specs.declared.document.Definition.TheVariants as definition
use Rattle.graphql_tree.specs.declared.directive.Arguments.{Arguments}
use Rattle.graphql_tree.specs.declared.document.Fragment.{Fragment}
use Rattle.graphql_tree.specs.declared.selection.Field.{Field}
use Rattle.graphql_tree.specs.declared.selection.FragmentSpread.{FragmentSpread}
use Rattle.graphql_tree.specs.declared.selection.InlineFragment.{InlineFragment}
use Rattle.graphql_tree.specs.declared.selection.Selection.{Selection}
use Rattle.graphql_tree.specs.declared.selection.Selection.TheVariants as selection
use Rattle.graphql_tree.proofs.SelectionInduction.{selection_ind}
use Rattle.graphql_written_out.specs.Trees.{Directives, Tree, none, field, inline}
use Rattle.graphql_written_out.specs.Written.{listed, fragment_meant, response_key, Before, chain, spread_as, write_with, write_one, write, written}
use Rattle.graphql_written_out.proofs.WrittenEquations.{same-some, write_field, write_spread, write_inline}
use Rattle.graphql_moved.specs.Moved.{moved, moved_span, moved_name, moved_argument, moved_arguments, moved_directives, moved_spread, moved_selection, moved_fragment, moved_document}
use Rattle.graphql_moved.proofs.MovedEquations.{moved-selection-field, moved-selection-spread, moved-selection-inline, moved-in-field, moved-in-inline}
use Rattle.graphql_moved.specs.MovedTrees.{moved_marks, moved_tree}

key-moved : (at : SourcePosition → SourcePosition) (alias : Option (Placed Bytes))
    (name : Placed Bytes)
    → response_key (option_map (moved_name at) alias) (moved_name at name) ≡ response_key alias name
key-moved at None name = refl
key-moved at (Some a) name = refl

pub some-moved : {A B : Type 0} (g : A → B) (o : Option A) → is_some (option_map g o) ≡ is_some o
some-moved g None = refl
some-moved g (Some x) = refl

pub condition-moved : (at : SourcePosition → SourcePosition) (o : Option (Placed Bytes))
    → option_map (λ (n : Placed Bytes). n.item) (option_map (moved_name at) o)
    ≡ option_map (λ n. n.item) o
condition-moved at None = refl
condition-moved at (Some n) = refl

-- the way to write spreads to a depth
abbrev writer : {S : Type 0} → ℕ → List (Fragment S) → FragmentSpread S → Before S
writer zero fragments = λ x rest. rest
writer (suc depth) fragments =
    λ x rest. spread_as (λ set. chain (map (write_one depth fragments) set) none)
    (listed x.directives) rest (fragment_meant fragments x.name.item)

one-is : {S : Type 0} (depth : ℕ) (fragments : List (Fragment S)) → write_one depth fragments
    ≡ write_with (writer depth fragments)
one-is zero fragments = refl
one-is (suc depth) fragments = refl

module _ {S T : Type 0} (f : S → T) (at : SourcePosition → SourcePosition) where
  abbrev X : Selection S → Selection T
  X = moved_selection f at

  abbrev F : Fragment S → Fragment T
  F = moved_fragment f at

  abbrev M : Tree S → Tree T
  M = moved_tree f at

  pub marks-moved : (o : Option (Directives S)) → listed (moved_directives f at o)
      ≡ moved_marks f at (listed o)
  marks-moved None = refl
  marks-moved (Some ds) = refl

  pub arguments-moved : (o : Option (Placed (Arguments S)))
      → arguments_in (option_map (moved at (moved_arguments f at)) o)
      ≡ map (moved_argument f at) (arguments_in o)
  arguments-moved None = refl
  arguments-moved (Some x) = refl

  -- for two ways to write spreads, of which the one is the other's
  module _ (r : FragmentSpread S → Before S) (s : FragmentSpread T → Before T)
      (follow : (y : FragmentSpread S) (rest : Tree S) → s (moved_spread f at y) (M rest)
      ≡ M (r y rest)) where
    abbrev w : Selection S → Before S
    w = write_with r

    abbrev v : Selection T → Before T
    v = write_with s

    abbrev IsMoved : Selection S → Type 0
    IsMoved x = (rest : Tree S) → v (X x) (M rest) ≡ M (w x rest)

    chain-moved : (xs : List (Selection S)) → All IsMoved xs → (rest : Tree S)
        → chain (map v (map X xs)) (M rest) ≡ M (chain (map w xs) rest)
    chain-moved [] each rest = refl
    chain-moved (x ∷ xs) each rest =
        ap (v (X x)) (chain-moved xs (λ k d within. each (suc k) d (omega arith)) rest)
        ∙ each 0 x (omega arith) (chain (map w xs) rest)

    listed-moved : (o : Option (List (Selection S))) → IfSome o (All IsMoved)
        → chain (map v (listed (option_map (map X) o))) none ≡ M (chain (map w (listed o)) none)
    listed-moved None h = refl
    listed-moved (Some xs) h = chain-moved xs h none

    field-moved : (x : Placed (Field S)) → IfSome x.item.selection_set (All IsMoved)
        → IsMoved (selection.Field x)
    field-moved x h rest =
        let g : Field T = record {
          alias = option_map (moved_name at) x.item.alias;
          name = moved_name at x.item.name;
          arguments = option_map (moved at (moved_arguments f at)) x.item.arguments;
          directives = moved_directives f at x.item.directives;
          selection_set = option_map (map X) x.item.selection_set;
        } in
        let below = listed-moved x.item.selection_set h in
        ap (λ z. v z (M rest))
        (moved-selection-field f at x
        ∙ ap (λ (z : Field T). selection.Field (record { item = z; span = moved_span at x.span }))
        (moved-in-field f at x.item))
        ∙ write_field s (record { item = g; span = moved_span at x.span }) (M rest)
        ∙ (λ i. field (record {
          key = key-moved at x.item.alias x.item.name i;
          name = x.item.name.item;
          is_aliased = some-moved (moved_name at) x.item.alias i;
          arguments = arguments-moved x.item.arguments i;
          has_set = same-some X x.item.selection_set i;
          place = at x.span.start;
        }) (marks-moved x.item.directives i) (below i) (M rest))
        ∙ sym (ap M (write_field r x rest))

    spread-one-moved : (x : Placed (FragmentSpread S)) → IsMoved (selection.FragmentSpread x)
    spread-one-moved x rest =
        ap (λ z. v z (M rest)) (moved-selection-spread f at x)
        ∙ write_spread s (moved at (moved_spread f at) x) (M rest)
        ∙ follow x.item rest ∙ sym (ap M (write_spread r x rest))

    inline-moved : (x : Placed (InlineFragment S)) → All IsMoved x.item.selection_set
        → IsMoved (selection.InlineFragment x)
    inline-moved x h rest =
        let g : InlineFragment T = record {
          type_condition = option_map (moved_name at) x.item.type_condition;
          directives = moved_directives f at x.item.directives;
          selection_set = map X x.item.selection_set;
        } in
        let below = chain-moved x.item.selection_set h none in
        ap (λ z. v z (M rest))
        (moved-selection-inline f at x
        ∙ ap (λ (z : InlineFragment T). selection.InlineFragment
        (record { item = z; span = moved_span at x.span })) (moved-in-inline f at x.item))
        ∙ write_inline s (record { item = g; span = moved_span at x.span }) (M rest)
        ∙ (λ i. inline (condition-moved at x.item.type_condition i)
        (marks-moved x.item.directives i) (below i) (M rest))
        ∙ sym (ap M (write_inline r x rest))

    set-moved : (xs : List (Selection S)) → chain (map v (map X xs)) none
        ≡ M (chain (map w xs) none)
    set-moved xs =
        chain-moved xs
        (λ k d within. selection_ind IsMoved field-moved spread-one-moved inline-moved
        (get_or xs k d)) none

  meant-moved : (fs : List (Fragment S)) (name : Bytes) → fragment_meant (map F fs) name
      ≡ option_map F (fragment_meant fs name)
  meant-moved [] name = refl
  meant-moved (x ∷ fs) name =
      elim (bytes_eq x.name.item name) as
      (λ q. cond q (Some (F x)) (fragment_meant (map F fs) name)
      ≡ option_map F (cond q (Some x) (fragment_meant fs name)))
      [ true ↦ refl | false ↦ meant-moved fs name ]

  sets-moved : (depth : ℕ) (fs : List (Fragment S))
      → ((y : FragmentSpread S) (rest : Tree S)
      → writer depth (map F fs) (moved_spread f at y) (M rest) ≡ M (writer depth fs y rest))
      → (xs : List (Selection S)) → chain (map (write_one depth (map F fs)) (map X xs)) none
      ≡ M (chain (map (write_one depth fs) xs) none)
  sets-moved depth fs follow xs =
      (λ i. chain (map (one-is depth (map F fs) i) (map X xs)) none)
      ∙ set-moved (writer depth fs) (writer depth (map F fs)) follow xs
      ∙ sym (λ i. M (chain (map (one-is depth fs i) xs) none))

  spread-moved : (depth : ℕ) (fs : List (Fragment S))
      → ((xs : List (Selection S)) → chain (map (write_one depth (map F fs)) (map X xs)) none
      ≡ M (chain (map (write_one depth fs) xs) none))
      → (ds : Option (Directives S)) (rest : Tree S) (o : Option (Fragment S))
      → spread_as (λ set. chain (map (write_one depth (map F fs)) set) none)
      (listed (moved_directives f at ds)) (M rest) (option_map F o)
      ≡ M (spread_as (λ set. chain (map (write_one depth fs) set) none) (listed ds) rest o)
  spread-moved depth fs sets ds rest None = refl
  spread-moved depth fs sets ds rest (Some x) =
      λ i. inline (Some x.type_condition.item) (marks-moved ds i) (sets x.selection_set i) (M rest)

  follows : (depth : ℕ) (fs : List (Fragment S)) (y : FragmentSpread S) (rest : Tree S)
      → writer depth (map F fs) (moved_spread f at y) (M rest) ≡ M (writer depth fs y rest)
  follows zero fs y rest = refl
  follows (suc depth) fs y rest =
      ap (λ o. spread_as (λ set. chain (map (write_one depth (map F fs)) set) none)
      (listed (moved_directives f at y.directives)) (M rest) o)
      (meant-moved fs y.name.item)
      ∙ spread-moved depth fs (sets-moved depth fs (follows depth fs)) y.directives rest
      (fragment_meant fs y.name.item)

  pub fragments-moved : (d : List (Definition S)) → fragments_listed (moved_document f at d)
      ≡ map F (fragments_listed d)
  fragments-moved [] = refl
  fragments-moved (definition.Operation o ∷ d) = fragments-moved d
  fragments-moved (definition.Fragment x ∷ d) = ap (λ xs. F x.item ∷ xs) (fragments-moved d)

  -- what is written of a set and of its fragments
  pub written-moved : (fs : List (Fragment S)) (set : List (Selection S))
      → written (map F fs) (map X set) ≡ M (written fs set)
  unfolding written
  written-moved fs set =
      ap (λ n. write (suc n) (map F fs) (map X set)) (length-map fs F)
      ∙ sets-moved (suc (length fs)) fs (follows (suc (length fs)) fs) set
