-- The selections of a set, written out, are the set, each field at no place.
use Rattle.std.proofs.Common.{◌≡◌, refl, sym, ◌∙◌, Bool, true, false, not, List, [], ◌∷◌, map, length, Option, Some, None}
use Rattle.std.specs.Option.{option_map, is_some}
use Rattle.graphql_names.specs.Names.{Bytes}
use Rattle.graphql_text.specs.Position.{origin}
use Rattle.graphql_values.specs.InputValues.{unplaced}
use Rattle.graphql_scalars.specs.ScalarAnswers.{ScalarAnswer}
use Rattle.graphql_tree.specs.Arguments.{Argument}
use Rattle.graphql_tree.specs.Documents.{arguments_in}
use Rattle.graphql_tree.specs.declared.document.Fragment.{Fragment}
use Rattle.graphql_tree.specs.declared.selection.Field.{Field}
use Rattle.graphql_tree.specs.declared.selection.FragmentSpread.{FragmentSpread}
use Rattle.graphql_tree.specs.declared.selection.InlineFragment.{InlineFragment}
use Rattle.graphql_tree.specs.declared.selection.Selection.{Selection}
use Rattle.graphql_written_out.specs.Conditions.{left_out}
use Rattle.graphql_written_out.specs.Trees.{Directives, Tree, none, field, inline, is_empty, IsFilled}
use Rattle.graphql_written_out.specs.Written.{listed, response_key, Before, chain, spread_as, fragment_meant, write, write_with, written}
use Rattle.graphql_written_out.proofs.WrittenEquations.{write_field, write_inline}
use Rattle.graphql_plain_tree.specs.StandIns.{skip_true}
use Rattle.graphql_plain_tree.specs.PlainDocuments.{alias_if, arguments_as, directives_as, list_unless, selections_of}
use Rattle.graphql_plain_tree.specs.DocumentTrees.{unplaced_fields, IsKeyed}
use Rattle.graphql_plain_tree.specs.Laws.{DocumentIsItsTree}
use Rattle.graphql_plain_tree.proofs.FilledSets.{filled-plain}
use Rattle.graphql_plain_tree.proofs.KeyedSets.{keyed-written, keyed-plain}

-- ---- the parts of a field and of an inline fragment

key-is : (is_aliased : Bool) (key name : Bytes) → (is_aliased ≡ false → key ≡ name) → response_key (alias_if is_aliased key) (unplaced name) ≡ key
key-is true key name h = refl
key-is false key name h = sym (h refl)

is-aliased : (b : Bool) (key : Bytes) → is_some (alias_if b key) ≡ b
is-aliased true key = refl
is-aliased false key = refl

pub condition-is : (on : Option Bytes) → option_map (λ n. n.item) (option_map unplaced on) ≡ on
condition-is None = refl
condition-is (Some on) = refl

has-list : {A : Type 0} (b : Bool) (xs : List A) → is_some (list_unless b xs) ≡ not b
has-list true xs = refl
has-list false xs = refl

module _ {S : Type 0} where
  arguments-are : (xs : List (Argument S)) → arguments_in (arguments_as xs) ≡ xs
  arguments-are [] = refl
  arguments-are (x ∷ xs) = refl

  directives-are : (xs : Directives S) → listed (directives_as xs) ≡ xs
  directives-are [] = refl
  directives-are (x ∷ xs) = refl

  -- ---- written out, however spreads are written, since there are none

  module _ (r : FragmentSpread S → Before S) where
    abbrev w : Selection S → Before S
    w = write_with r

    abbrev all : List (Selection S) → Tree S
    all xs = chain (map w xs) none

    below-is : (t : Tree S) → all (selections_of t) ≡ unplaced_fields t → all (listed (list_unless (is_empty t) (selections_of t))) ≡ unplaced_fields t
    below-is none h = refl
    below-is (field head directives below rest) h = h
    below-is (inline on directives below rest) h = h

    pub selections-are : (t : Tree S) → IsFilled t → IsKeyed t → all (selections_of t) ≡ unplaced_fields t
    selections-are none f k = refl
    selections-are (field head directives below rest) f k =
        let x : Field S = record {
          alias = alias_if head.is_aliased head.key;
          name = unplaced head.name;
          arguments = arguments_as head.arguments;
          directives = directives_as directives;
          selection_set = list_unless (is_empty below) (selections_of below);
        } in
        let set = below-is below (selections-are below f.1 k.1) in
        let behind = selections-are rest f.2 k.2 in
        write_field r (unplaced x) (all (selections_of rest))
        ∙ (λ i. field (record {
          key = key-is head.is_aliased head.key head.name k.0 i;
          name = head.name;
          is_aliased = is-aliased head.is_aliased head.key i;
          arguments = arguments-are head.arguments i;
          has_set = (has-list (is_empty below) (selections_of below) ∙ sym f.0) i;
          place = origin;
        }) (directives-are directives i) (set i) (behind i))
    selections-are (inline on directives below rest) f k =
        let x : InlineFragment S = record {
          type_condition = option_map unplaced on;
          directives = directives_as directives;
          selection_set = selections_of below;
        } in
        let set = selections-are below f.1 k.0 in
        let behind = selections-are rest f.2 k.1 in
        write_inline r (unplaced x) (all (selections_of rest))
        ∙ (λ i. inline (condition-is on i) (directives-are directives i) (set i) (behind i))

  pub written-selections : (fragments : List (Fragment S)) (t : Tree S) → IsFilled t → IsKeyed t → written fragments (selections_of t) ≡ unplaced_fields t
  unfolding written
  written-selections fragments t =
      selections-are (λ x rest. spread_as (write (length fragments) fragments) (listed x.directives) rest (fragment_meant fragments x.name.item)) t

-- ---- of a plain operation

pub document-is-its-tree : {S : Type 0} (answer : S → ScalarAnswer) (of_bool : Bool → S) → DocumentIsItsTree answer of_bool
document-is-its-tree answer of_bool given fragments o filled =
    let set = written fragments o.selection_set in
    let drops = left_out answer given in
    let stand_in = skip_true of_bool in
    written-selections [] _ (filled-plain drops stand_in set filled) (keyed-plain drops stand_in set (keyed-written fragments o.selection_set))
