-- In a document that tokens spell each set that is written has a selection.
use Rattle.std.proofs.Common.{sym, subst, Bool, List, [], ◌∷◌, ◌++◌, Option, Result, inl, inr}
use Rattle.std.specs.List.{All}
use Rattle.std.proofs.lemmas.List.Elements.{Contains-append_cases}
use Rattle.graphql_text.specs.declared.token.ScalarToken.{ScalarToken}
use Rattle.graphql_text.specs.declared.parse_error.ParseError.{ParseError}
use Rattle.graphql_grammar.specs.Input.{At, Located}
use Rattle.graphql_grammar.specs.Relations.{AllFrom, none_more, one_more}
use Rattle.graphql_tree.specs.declared.document.Definition.{Definition}
use Rattle.graphql_tree.specs.declared.document.Fragment.{Fragment}
use Rattle.graphql_tree.specs.declared.document.Operation.{Operation}
use Rattle.graphql_tree.specs.declared.selection.Field.{Field}
use Rattle.graphql_tree.specs.declared.selection.InlineFragment.{InlineFragment}
use Rattle.graphql_tree.specs.declared.selection.Selection.{Selection}
use Rattle.graphql_language.specs.Selections.{SelectionOf, of_field, of_spread, of_inline, FieldOf, of_parts, InlineOf, of_inline_parts, MaybeSetOf, no_set, some_set, SetOf, of_set, SelectionsOf, one_selection, more_selections}
use Rattle.graphql_language.specs.Documents.{DocumentOf, DefinitionOf, FragmentOf, OperationOf}
use Rattle.graphql_rules_document.proofs.ListItems.{only-one, all-of, all-from}
use Rattle.graphql_plain_validity.specs.WholeSets as whole
use Rattle.graphql_plain_validity.specs.WholeSets.{IsWhole, IsWholeIfThere, IsWholeSet, definition_set}

module _ {S : Type 0} (reads : ScalarToken → Result S ParseError) (of_bool : Bool → S) where
  -- one more behind a set
  behind : {xs : List (Selection S)} {x : Selection S} → IsWholeSet xs → IsWhole x → IsWholeSet (xs ++ x ∷ [])
  behind (whole.one_selection y h) k = whole.more_selections y _ h (whole.one_selection _ k)
  behind (whole.more_selections y ys h k) l = whole.more_selections y _ h (behind k l)

  mutual
    selection-whole : {us : List Located} {x : Selection S} → SelectionOf S reads of_bool us x → IsWhole x
    selection-whole (of_field us x stands d) = whole.whole_field x (field-whole d)
    selection-whole (of_spread us x d) = whole.whole_spread x
    selection-whole (of_inline us x stands d) = whole.whole_inline x (inline-whole d)

    field-whole : {us : List Located} {x : Field S} → FieldOf S reads of_bool us x → IsWholeIfThere x.selection_set
    field-whole (of_parts ns gs ds ss x n g m p) = maybe-whole p

    inline-whole : {us : List Located} {x : InlineFragment S} → InlineOf S reads of_bool us x → IsWholeSet x.selection_set
    inline-whole (of_inline_parts ps cs ds ss x e c m p) = set-whole p

    maybe-whole : {us : List Located} {o : Option (List (Selection S))} → MaybeSetOf S reads of_bool us o → IsWholeIfThere o
    maybe-whole no_set = whole.no_set
    maybe-whole (some_set us xs d) = whole.whole_set xs (set-whole d)

    set-whole : {us : List Located} {xs : List (Selection S)} → SetOf S reads of_bool us xs → IsWholeSet xs
    set-whole (of_set a b us xs opens d closes) = selections-whole d

    selections-whole : {us : List Located} {xs : List (Selection S)} → SelectionsOf S reads of_bool us xs → IsWholeSet xs
    selections-whole (one_selection us x d) = whole.one_selection x (selection-whole d)
    selections-whole (more_selections vs us xs x d e) = behind (selections-whole d) (selection-whole e)

  -- ---- of definitions

  abbrev DefinitionIsWhole : Definition S → Type 0
  DefinitionIsWhole x = IsWholeSet (definition_set x)

  fragment-whole : (us : List Located) (x : At (Fragment S)) → FragmentOf S reads of_bool us x → IsWholeSet x.item.selection_set
  fragment-whole us x h = let made = h.spells.ends.ends.ends.ends in subst (λ (f : Fragment S). IsWholeSet f.selection_set) (sym made.is) (set-whole made.spells)

  operation-whole : (us : List Located) (x : At (Operation S)) → OperationOf S reads of_bool us x → IsWholeSet x.item.selection_set
  operation-whole us x h = elim h.spells [
    | inl m ↦ subst (λ (o : Operation S). IsWholeSet o.selection_set) (sym m.is) (set-whole m.spells)
    | inr one ↦ (let made = one.ends.ends.ends.ends in subst (λ (o : Operation S). IsWholeSet o.selection_set) (sym made.is) (set-whole made.spells))
  ]

  definition-whole : (us : List Located) (x : Definition S) → DefinitionOf S reads of_bool us x → DefinitionIsWhole x
  definition-whole us x (inl m) = subst DefinitionIsWhole (sym m.is) (fragment-whole us m.part m.spells)
  definition-whole us x (inr m) = subst DefinitionIsWhole (sym m.is) (operation-whole us m.part m.spells)

  all-push : (xs : List (Definition S)) (x : Definition S) → All DefinitionIsWhole xs → DefinitionIsWhole x → All DefinitionIsWhole (xs ++ x ∷ [])
  all-push xs x h one = all-from DefinitionIsWhole (xs ++ x ∷ []) (λ y i. elim (Contains-append_cases xs (x ∷ []) y i) [ inl j ↦ all-of DefinitionIsWhole xs h y j | inr j ↦ subst DefinitionIsWhole (only-one x y j) one ])

  whole-from : (found : List (Definition S)) (us : List Located) (xs : List (Definition S)) → All DefinitionIsWhole found → AllFrom (DefinitionOf S reads of_bool) found us xs → All DefinitionIsWhole xs
  whole-from found _ _ h none_more = h
  whole-from found _ _ h (one_more vs us xs x e one) = all-push xs x (whole-from found vs xs h e) (definition-whole us x one)

  pub document-whole : (us : List Located) (document : List (Definition S)) → DocumentOf S reads of_bool us document → All DefinitionIsWhole document
  document-whole us document h =
      whole-from (h.part ∷ []) h.back document (all-from DefinitionIsWhole (h.part ∷ []) (λ y i. subst DefinitionIsWhole (only-one h.part y i) (definition-whole h.front h.part h.begins))) h.ends
