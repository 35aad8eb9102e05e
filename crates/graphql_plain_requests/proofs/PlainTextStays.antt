-- A plain text, cut and parsed anew, has itself as its plain text.
use Rattle.std.proofs.Common.{◌≡◌, ℕ, refl, sym, ◌∙◌, ap, subst, not, Bool, false, List, [], map, Option, Result}
use Rattle.std.specs.List.{Contains}
use Rattle.std.specs.Str.{chars}
use Rattle.std.proofs.lemmas.Str.{scalars-chars}
use Rattle.graphql_names.specs.Names.{Bytes}
use Rattle.graphql_text.specs.declared.position.Span.{Span}
use Rattle.graphql_text.specs.declared.token.Token.{Token}
use Rattle.graphql_text.specs.declared.token.Token.TheVariants.{EndOfFile}
use Rattle.graphql_text.specs.declared.token.ScalarToken.{ScalarToken}
use Rattle.graphql_text.specs.declared.parse_error.ParseError.{ParseError}
use Rattle.graphql_lexer.proofs.GrammarLaws.{one_list}
use Rattle.graphql_scalars.specs.ScalarAnswers.{ScalarAnswer, boolean}
use Rattle.graphql_values.specs.InputValues.{Placed, unplaced}
use Rattle.graphql_values.specs.declared.input_value.InputValue.{InputValue}
use Rattle.graphql_grammar.specs.Alike.{tokens_of}
use Rattle.graphql_grammar.specs.Input.{Located}
use Rattle.graphql_tree.specs.Definitions.{fragments_listed}
use Rattle.graphql_tree.specs.Unlocated.{unlocated_document}
use Rattle.graphql_tree.specs.declared.document.Definition.{Definition}
use Rattle.graphql_tree.specs.declared.document.Definition.TheVariants as definition
use Rattle.graphql_tree.specs.declared.document.Fragment.{Fragment}
use Rattle.graphql_tree.specs.declared.document.Operation.{Operation}
use Rattle.graphql_language.specs.Documents.{DocumentOf}
use Rattle.graphql_language.specs.Texts.{IsCut, IsDocument}
use Rattle.graphql_language.proofs.TextLaws.{one_document}
use Rattle.graphql_written_out.specs.Conditions.{left_out}
use Rattle.graphql_written_out.specs.Trees.{Tree, none, field, inline, is_empty, IsFilled}
use Rattle.graphql_written_out.specs.Written.{written}
use Rattle.graphql_plain_tree.specs.DocumentTrees.{unplaced_fields}
use Rattle.graphql_plain_tree.specs.PlainDocuments.{document_of, operation_as}
use Rattle.graphql_plain_tree.specs.PlainOperations.{PlainOperation, plain_operation}
use Rattle.graphql_plain_tree.specs.StandIns.{skip_true}
use Rattle.graphql_plain_tree.proofs.DocumentSets.{document-is-its-tree}
use Rattle.graphql_plain_tree.proofs.FilledSets.{filled-plain, same-empty}
use Rattle.graphql_plain_tree.proofs.OperationsAgain.{operation-again}
use Rattle.graphql_plain_text.specs.PlainTexts.{parted_text}
use Rattle.graphql_plain_text.specs.SpanTokens.{tokens_within}
use Rattle.graphql_plain_text.specs.Spelt.{AreSpelt}
use Rattle.graphql_plain_text.specs.TreeTokens.{operation_tokens}
use Rattle.graphql_plain_text.proofs.OperationsAgain.{again_document}
use Rattle.graphql_plain_text.proofs.PartedTexts.{parted-is-cut, parted-utf8, tokens-spelt}
use Rattle.graphql_plain_text.proofs.RisingTokens.{same_push, tokens-rise}
use Rattle.graphql_moved.specs.Kept.{Kept, bare, of_bool_kept, reads_kept}
use Rattle.graphql_moved.specs.Moved.{here, moved, moved_definition, moved_document, moved_fragment, moved_operation}
use Rattle.graphql_moved.proofs.KeptDocuments.{kept-are-documents}
use Rattle.graphql_plain_text.proofs.PlainDocuments.{spells-own}
use Rattle.graphql_moved.proofs.UnlocatedWritten.{tree-is, unplaced-unlocated}
use Rattle.graphql_plain_requests.specs.Laws.{PlainTextStays}
use Rattle.graphql_moved.specs.MovedTrees.{moved_head, moved_marks, moved_plain, moved_tree}
use Rattle.graphql_rules_document.proofs.ListItems.{contains-map, only-one}
use Rattle.graphql_moved.proofs.MovedWritten.{fragments-moved}
use Rattle.graphql_plain_requests.proofs.KeptPlain.{kept-filled, kept-from, kept-operation, kept-some, kept-spelled, kept_answer, kept_plain, kept_values, same-tokens}
use Rattle.graphql_plain_requests.proofs.SamePlain.{same-plain}
use Rattle.graphql_moved.proofs.MovedOperations.{operation-moved}
use Rattle.graphql_moved.proofs.MovedPlain.{empty-moved, filled-back, filled-moved}
use Rattle.graphql_moved.proofs.MovedWritten.{written-moved}
use Rattle.graphql_moved.proofs.Unlocated.{document-is, nowhere, same}

-- the tokens of a text are one list
pub same-cut : (text : List ℕ) (ts us : List Located) (f g : Span) → IsCut text ts f
    → IsCut text us g → ts ≡ us
same-cut text ts us f g one other =
    let end : Span → Located = λ span. record { item = EndOfFile; span = span } in
    same_push ts us (end f) (end g) (one_list text _ _ one other)

module _ {S : Type 0} where
  abbrev N : Tree S → Tree S
  N = moved_tree same nowhere

  unplaced-nowhere : (t : Tree S) → N (unplaced_fields t) ≡ N t
  unplaced-nowhere t =
      sym (tree-is (unplaced_fields t)) ∙ unplaced-unlocated t ∙ tree-is t

  empty-unplaced : (t : Tree S) → is_empty (unplaced_fields t) ≡ is_empty t
  empty-unplaced none = refl
  empty-unplaced (field head directives below rest) = refl
  empty-unplaced (inline on directives below rest) = refl

  filled-unplaced : (t : Tree S) → IsFilled t → IsFilled (unplaced_fields t)
  filled-unplaced none h = tt
  filled-unplaced (field head directives below rest) h = (
    h.0 ∙ sym (ap not (empty-unplaced below)),
    filled-unplaced below h.1,
    filled-unplaced rest
        h.2,
  )
  filled-unplaced (inline on directives below rest) h =
      (empty-unplaced below ∙ h.0, filled-unplaced below h.1, filled-unplaced rest h.2)

-- ---- a document that is a plain operation's but for places

module _ {S : Type 0} (of_bool : Bool → S) (answer : S → ScalarAnswer)
    (answers : (b : Bool) → answer (of_bool b) ≡ boolean b)
    (values others : Bytes → Option (InputValue S)) (fragments : List (Fragment S))
    (o : Operation S)
    (filled : IsFilled (written fragments o.selection_set)) where
  abbrev p : PlainOperation S
  p = plain_operation answer of_bool values fragments o

  module _ (y : List (Definition S)) (is : unlocated_document y
      ≡ unlocated_document (document_of p))
      (x : Placed (Operation S)) (among : Contains y (definition.Operation x)) where
    documents-same : moved_document same nowhere y ≡ moved_document same nowhere (document_of p)
    documents-same = sym (document-is y) ∙ is ∙ document-is (document_of p)

    no-fragments : map (moved_fragment same nowhere) (fragments_listed y) ≡ []
    no-fragments = sym (fragments-moved same nowhere y) ∙ ap fragments_listed documents-same

    operation-same : moved_operation same nowhere (operation_as p)
        ≡ moved_operation same nowhere x.item
    operation-same =
        let one = only-one (definition.Operation
        (moved nowhere (moved_operation same nowhere) (unplaced (operation_as p))))
        (definition.Operation (moved nowhere (moved_operation same nowhere) x))
        (subst (λ (d : List (Definition S)). Contains d
        (definition.Operation (moved nowhere (moved_operation same nowhere) x))) documents-same
        (contains-map (moved_definition same nowhere) y (definition.Operation x) among)) in
        let at : moved nowhere (moved_operation same nowhere) (unplaced (operation_as p))
        ≡ moved nowhere (moved_operation same nowhere) x = cc in
        ap (λ (z : Placed (Operation S)). z.item) at

    -- its set is the plain one but for places
    set-same : N (written (fragments_listed y) x.item.selection_set) ≡ N (unplaced_fields p.set)
    set-same =
        sym (written-moved same nowhere (fragments_listed y) x.item.selection_set)
        ∙ (λ i. written (no-fragments i) (sym operation-same i).selection_set)
        ∙ written-moved same nowhere [] (operation_as p).selection_set
        ∙ ap N (document-is-its-tree answer of_bool values fragments o filled)

    plain-filled : IsFilled p.set
    plain-filled = filled-plain (left_out answer values) (skip_true of_bool)
        (written fragments o.selection_set) filled

    pub again-filled : IsFilled (written (fragments_listed y) x.item.selection_set)
    again-filled =
        filled-back same nowhere _
        (subst IsFilled (sym set-same) (filled-moved same nowhere (unplaced_fields p.set)
        (filled-unplaced p.set plain-filled)))

    pub again-some : is_empty (written fragments o.selection_set) ≡ false
        → is_empty (written (fragments_listed y) x.item.selection_set) ≡ false
    again-some some =
        sym (empty-moved same nowhere _) ∙ ap is_empty set-same
        ∙ empty-moved same nowhere (unplaced_fields p.set)
        ∙ empty-unplaced p.set ∙ same-empty (left_out answer values) (skip_true of_bool)
        (written fragments o.selection_set) ∙ some

    -- it is its own plain operation but for places
    pub plain-same : moved_plain same nowhere
        (plain_operation answer of_bool others (fragments_listed y) x.item)
        ≡ moved_plain same nowhere p
    plain-same =
        sym (operation-moved same nowhere refl of_bool of_bool (λ b. refl) answer others others
        (λ n. refl) (fragments_listed y) x.item)
        ∙ (λ i. plain_operation answer of_bool others (no-fragments i) (sym operation-same i))
        ∙ operation-moved same nowhere refl of_bool of_bool (λ b. refl) answer others others
        (λ n. refl) [] (operation_as p)
        ∙ ap (moved_plain same nowhere) (operation-again answer of_bool answers values others
        fragments o filled)
        ∙ (λ i. record (moved_plain same nowhere p) { set = unplaced-nowhere p.set i })

-- ---- the law

module _ {S : Type 0} (reads : ScalarToken → Result S ParseError) (of_bool : Bool → S)
    (answer : S → ScalarAnswer)
    (answers : (b : Bool) → answer (of_bool b) ≡ boolean b) where
  pub plain-text-stays : PlainTextStays S reads of_bool answer
  plain-text-stays source ts finish document o values utf8 cut is inside some filled =
      let rises = tokens-rise (chars source) ts _ cut in
      let spelt = tokens-spelt (chars source) ts _ (scalars-chars source utf8) cut in
      let k = kept-operation reads of_bool answer ts document
      (spells-own reads of_bool (chars source) ts finish document cut is) o inside in
      let p : PlainOperation (Kept S) = kept_plain reads of_bool answer ts document o k values in
      let some_kept = kept-some reads of_bool answer ts document o k values some in
      let filled_kept = kept-filled reads of_bool answer ts document o k values filled in
      let good = kept-spelled reads of_bool answer ts document o k values rises spelt some_kept
      filled_kept in
      let words : List Token = operation_tokens (tokens_within ts)
      (plain_operation answer of_bool values (fragments_listed document) o.item) in
      let same_words : words ≡ operation_tokens (tokens_within ts) p =
      same-tokens reads of_bool answer ts document o k values rises spelt some_kept filled_kept
      in
      let spelt_words : AreSpelt words = subst AreSpelt (sym same_words) good.1 in
      record {
        still = λ us end again x others cut_again is_again among.
            let c = parted-is-cut words spelt_words in
            let us_are : us ≡ c.tokens = same-cut (chars (parted_text words)) us c.tokens end
            c.finish
            cut_again c.cut in
            let told : tokens_of us ≡ words = ap tokens_of us_are ∙ c.same in
            let y = again_document (reads_kept reads) (of_bool_kept of_bool) (tokens_within ts) p
            good.0 us (told ∙ same_words) in
            let bare_is = one_document reads of_bool (chars (parted_text words))
            (moved_document bare here y.0) again
            (record {
              tokens = us;
              finish = end;
              cut = cut_again;
              spells = kept-are-documents reads
                  of_bool us y.0 y.1;
            }) is_again in
            let l = kept-from reads of_bool answer us y.0 y.1 again bare_is x among in
            let q : PlainOperation (Kept S) = kept_plain reads of_bool answer us again x l others
            in
            let utf8_again = parted-utf8 words spelt_words in
            let rises_again = tokens-rise (chars (parted_text words)) us _ cut_again in
            let spelt_again = tokens-spelt (chars (parted_text words)) us _
            (scalars-chars (parted_text words) utf8_again) cut_again in
            let filled_again = again-filled (of_bool_kept of_bool)
            (kept_answer reads of_bool answer)
            answers (kept_values reads of_bool answer values)
            (kept_values reads of_bool answer others) (fragments_listed k.d) k.x.item filled_kept
            y.0
            y.2 l.x l.among in
            let some_again = again-some (of_bool_kept of_bool) (kept_answer reads of_bool answer)
            answers (kept_values reads of_bool answer values)
            (kept_values reads of_bool answer others) (fragments_listed k.d) k.x.item filled_kept
            y.0
            y.2 l.x l.among some_kept in
            let alike : moved_plain same nowhere q ≡ moved_plain same nowhere p =
            plain-same (of_bool_kept of_bool) (kept_answer reads of_bool answer) answers
            (kept_values reads of_bool answer values)
            (kept_values reads of_bool answer others) (fragments_listed k.d) k.x.item filled_kept
            y.0
            y.2 l.x l.among in
            let r = same-plain reads of_bool answer ts us document again o x k l values others
            rises
            rises_again spelt spelt_again
            some_kept some_again filled_kept filled_again alike in
            (ap parted_text r.0, r.1);
      }
