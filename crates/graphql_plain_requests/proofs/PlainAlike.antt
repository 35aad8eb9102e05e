-- Requests whose texts have the same tokens have the same plain text.
use Rattle.std.proofs.Common.{◌≡◌, ◌≤◌, ◌<◌, refl, sym, ◌∙◌, ap, subst, ℕ, Bool, false, List, map, Option, Result, Ok}
use Rattle.std.specs.Str.{chars, IsUtf8}
use Rattle.std.proofs.lemmas.Str.{scalars-chars}
use Rattle.graphql_names.specs.Names.{Bytes}
use Rattle.graphql_text.specs.declared.position.Span.{Span}
use Rattle.graphql_text.specs.declared.token.ScalarToken.{ScalarToken}
use Rattle.graphql_text.specs.declared.parse_error.ParseError.{ParseError}
use Rattle.graphql_scalars.specs.ScalarAnswers.{ScalarAnswer}
use Rattle.graphql_values.specs.InputValues.{Placed}
use Rattle.graphql_values.specs.declared.input_value.InputValue.{InputValue}
use Rattle.graphql_grammar.specs.Input.{Located}
use Rattle.graphql_tree.specs.Definitions.{fragments_listed}
use Rattle.graphql_tree.specs.Documents.{variables_in}
use Rattle.graphql_tree.specs.Unlocated.{unlocated_document}
use Rattle.graphql_tree.specs.declared.document.Definition.{Definition}
use Rattle.graphql_tree.specs.declared.document.Operation.{Operation}
use Rattle.graphql_language.specs.Alike.{AreAlike}
use Rattle.graphql_language.specs.Documents.{DocumentOf}
use Rattle.graphql_language.specs.Texts.{IsCut}
use Rattle.graphql_language.proofs.AlikeTexts.{differ_in_places}
use Rattle.graphql_language.proofs.TextLaws.{one_document}
use Rattle.graphql_schema.specs.Declarations.{declarations_of}
use Rattle.graphql_schema.specs.declared.root_node.RootNode.{RootNode}
use Rattle.graphql_rules_document.proofs.KnownFieldTypes.{field-types-are-known}
use Rattle.graphql_written_out.specs.Trees.{is_empty, IsFilled}
use Rattle.graphql_written_out.specs.Written.{written}
use Rattle.graphql_plain_tree.specs.PlainOperations.{plain_operation}
use Rattle.graphql_plain_text.specs.PlainTexts.{parted_text, plain_text}
use Rattle.graphql_plain_text.proofs.PartedTexts.{tokens-spelt}
use Rattle.graphql_plain_text.proofs.RisingTokens.{tokens-rise}
use Rattle.graphql_plain_validity.proofs.ValidTexts.{full}
use Rattle.graphql_requests.specs.Asked.{Asking, IsExecutable}
use Rattle.graphql_requests.specs.Operations.{chosen}
use Rattle.graphql_schema.specs.Scalars.{Scalars}
use Rattle.graphql_requests.proofs.ChosenOperations.{chosen-in}
use Rattle.graphql_requests.proofs.Exclusive.{from-ok}
use Rattle.graphql_plain_requests.specs.PlainRequests.{IsLarger, IsPlainTextWithin, asked_at, plain_of, size_of, values_for}
use Rattle.graphql_moved.specs.Kept.{Kept, bare, of_bool_kept, reads_kept}
use Rattle.graphql_moved.specs.Moved.{here, moved, moved_document, moved_fragment, moved_operation}
use Rattle.graphql_moved.proofs.KeptDocuments.{documents-keep-tokens, kept-are-documents}
use Rattle.graphql_moved.specs.MovedTrees.{moved_plain}
use Rattle.graphql_plain_requests.proofs.KeptPlain.{KeptOperation, kept-filled, kept-some, kept_answer, kept_plain, kept_values, truths-kept}
use Rattle.graphql_moved.proofs.MovedConditions.{truth_in}
use Rattle.graphql_moved.proofs.MovedOperations.{operation-moved}
use Rattle.graphql_moved.proofs.MovedWritten.{fragments-moved}
use Rattle.graphql_plain_text.proofs.PlainDocuments.{spells-own}
use Rattle.graphql_plain_requests.proofs.SamePlain.{same-plain}
use Rattle.graphql_moved.proofs.Unlocated.{document-is, nowhere, same}
use Rattle.graphql_plain_requests.specs.Laws.{AreValidAlike}
use Rattle.graphql_plain_requests.proofs.AskedAlike.{ExecutedAgain, executed-again}
use Rattle.graphql_plain_requests.proofs.Choices.{carried, chosen-moved, ok-from}
use Rattle.graphql_plain_requests.proofs.TruthsAlike.{truths-alike, variables-same}
use Rattle.graphql_plain_requests.proofs.PlainDocuments.{root-known}

-- ---- plain operations of operations that differ in places alone

module _ {S : Type 0} (of_bool : Bool → S) (answer : S → ScalarAnswer)
    (values others : Bytes → Option (InputValue S))
    (truths : (name : Bytes) → truth_in answer (values name) ≡ truth_in answer (others name))
    (d e : List (Definition S)) (documents : unlocated_document d ≡ unlocated_document e)
    (o p : Operation S) (operations : moved_operation same nowhere o
    ≡ moved_operation same nowhere p) where
  fragments-same : map (moved_fragment same nowhere) (fragments_listed e)
      ≡ map (moved_fragment same nowhere) (fragments_listed d)
  fragments-same =
      sym (fragments-moved same nowhere e) ∙ ap fragments_listed
      (sym (document-is e) ∙ sym documents ∙ document-is d)
      ∙ fragments-moved same nowhere d

  pub plain-same-places : moved_plain same nowhere
      (plain_operation answer of_bool others (fragments_listed e) p)
      ≡ moved_plain same nowhere (plain_operation answer of_bool values (fragments_listed d) o)
  plain-same-places =
      sym (operation-moved same nowhere refl of_bool of_bool (λ b. refl) answer others values
      truths
      (fragments_listed e) p)
      ∙ (λ i. plain_operation answer of_bool values (fragments-same i) (sym operations i))
      ∙ operation-moved same nowhere refl of_bool of_bool (λ b. refl) answer values values
      (λ n. refl) (fragments_listed d) o

-- ---- where scalars keep their tokens

module _ {S : Type 0} (reads : ScalarToken → Result S ParseError) (of_bool : Bool → S)
    (answer : S → ScalarAnswer) where
  -- the operation that is chosen
  abbrev chosen_kept : (name : Option Bytes) (ts : List Located) (d : List (Definition (Kept S)))
      → DocumentOf (Kept S) (reads_kept reads) (of_bool_kept of_bool) ts d
      → (document : List (Definition S)) → moved_document bare here d ≡ document
      → (o : Placed (Operation S))
      → (y : Placed (Operation (Kept S))) → chosen name d ≡ Ok y
      → moved here (moved_operation bare here) y ≡ o
      → KeptOperation reads of_bool answer ts document o
  chosen_kept name ts d spells document is o y is_chosen bare_is =
      record {
        d = d;
        spells = spells;
        same = is;
        x = y;
        among = chosen-in name d y is_chosen;
        is = bare_is;
      }

  module _ (ts us : List Located) (document again : List (Definition S))
      (o x : Placed (Operation S))
      (k : KeptOperation reads of_bool answer ts document o)
      (l : KeptOperation reads of_bool answer us again x)
      (values others : Bytes → Option (InputValue S))
      (truths : (name : Bytes) → truth_in answer (values name) ≡ truth_in answer (others name))
      (documents : unlocated_document k.d ≡ unlocated_document l.d)
      (operations : moved_operation same nowhere k.x.item
      ≡ moved_operation same nowhere l.x.item)
    where
      kept-truths : (name : Bytes)
          → truth_in (kept_answer reads of_bool answer)
          (kept_values reads of_bool answer values name)
          ≡ truth_in (kept_answer reads of_bool answer)
          (kept_values reads of_bool answer others name)
      kept-truths name =
          sym (truths-kept reads of_bool answer values name) ∙ truths name
          ∙ truths-kept reads of_bool answer others name

      pub kept-same : moved_plain same nowhere
          (kept_plain reads of_bool answer us again x l others)
          ≡ moved_plain same nowhere (kept_plain reads of_bool answer ts document o k values)
      kept-same =
          plain-same-places (of_bool_kept of_bool) (kept_answer reads of_bool answer)
          (kept_values reads of_bool answer values)
          (kept_values reads of_bool answer others) kept-truths k.d l.d documents k.x.item
          l.x.item
          operations

-- ---- requests

module _ {S C : Type 0} (s : Scalars S C) (root : RootNode S C)
    (valid : AreValidAlike s (declarations_of root.schema))
    (name : Option Bytes) (given : Bytes → Option (InputValue S)) (one other : Bytes)
    (utf8 : IsUtf8 one) (utf8_other : IsUtf8 other)
    (alike : AreAlike (chars one) (chars other)) where
  abbrev a : Asking S C
  a = asked_at root (chars one) name given

  abbrev b : Asking S C
  b = asked_at root (chars other) name given

  -- sets stand where some were written
  full-of : (text : Bytes) (d : List (Definition S)) (o : Placed (Operation S))
      → IsExecutable s (asked_at root (chars text) name given) d o
      → (is_empty (written (fragments_listed d) o.item.selection_set) ≡ false)
      × IsFilled (written (fragments_listed d) o.item.selection_set)
  full-of text d o x =
      full s (declarations_of root.schema)
      (field-types-are-known (declarations_of root.schema) root.schema.faultless) d
      x.read.valid.valid.no_fault (chars text) x.read.spelled o
      (chosen-in name d o x.ready.chosen) (root-known root.schema o.item.operation_type
      x.ready.root
      x.ready.served)

  module _ (d : List (Definition S)) (o : Placed (Operation S)) (x : IsExecutable s a d o)
      (r : ExecutedAgain s root valid name given one other alike d o)
      (ts us : List Located) (f g : Span) (cut : IsCut (chars one) ts f)
      (cut_again : IsCut (chars other) us g) where
    abbrev R : ScalarToken → Result (Kept S) ParseError
    R = reads_kept s.reads

    abbrev B : Bool → Kept S
    B = of_bool_kept s.of_bool

    abbrev N : Placed (Operation (Kept S)) → Placed (Operation (Kept S))
    N = moved nowhere (moved_operation same nowhere)

    values-same : (n : Bytes) → truth_in s.answer (values_for s a o.item n)
        ≡ truth_in s.answer (values_for s b r.operation.item n)
    values-same =
        truths-alike s.answer given (variables_in o.item.variable_definitions)
        (variables_in r.operation.item.variable_definitions)
        (variables-same o.item r.operation.item
        (ap (λ (z : Placed (Operation S)). z.item) (sym r.operations)))

    module _ (kept_d kept_e : List (Definition (Kept S)))
        (spells : DocumentOf (Kept S) R B ts kept_d)
        (spells_again : DocumentOf (Kept S) R B us kept_e)
        (bare_is : moved_document bare here kept_d ≡ d)
        (bare_again : moved_document bare here kept_e ≡ r.again)
        (documents : unlocated_document kept_e ≡ unlocated_document kept_d) where
      -- the operations that are chosen of both
      chosen-here : (y : Placed (Operation (Kept S))) × (chosen name kept_d ≡ Ok y)
          × (moved here (moved_operation bare here) y ≡ o)
      chosen-here =
          ok-from (moved here (moved_operation bare here)) (chosen name kept_d) o
          (sym (chosen-moved bare here name kept_d) ∙ ap (chosen name) bare_is ∙ x.ready.chosen)

      chosen-there : (y : Placed (Operation (Kept S))) × (chosen name kept_e ≡ Ok y)
          × (moved here (moved_operation bare here) y ≡ r.operation)
      chosen-there =
          ok-from (moved here (moved_operation bare here)) (chosen name kept_e) r.operation
          (sym (chosen-moved bare here name kept_e) ∙ ap (chosen name) bare_again
          ∙ r.executable.ready.chosen)

      chosen-alike : (y z : Placed (Operation (Kept S))) → chosen name kept_d ≡ Ok y
          → chosen name kept_e ≡ Ok z → N z ≡ N y
      chosen-alike y z is is_again =
          let whole : carried N (chosen name kept_e) ≡ carried N (chosen name kept_d) =
          sym (chosen-moved same nowhere name kept_e)
          ∙ ap (chosen name) (sym (document-is kept_e) ∙ documents ∙ document-is kept_d)
          ∙ chosen-moved same nowhere name kept_d in
          ap (from-ok (N y)) (ap (carried N) (sym is_again) ∙ whole ∙ ap (carried N) is)

      pub texts-same : (plain_text us (plain_of s b r.again r.operation.item)
          ≡ plain_text ts (plain_of s a d o.item))
          × (size_of s b r.again r.operation.item ≡ size_of s a d o.item)
      texts-same =
          let h = chosen-here in
          let t = chosen-there in
          let k = chosen_kept s.reads s.of_bool s.answer name ts kept_d spells d bare_is o h.0
          h.1
          h.2 in
          let l = chosen_kept s.reads s.of_bool s.answer name us kept_e spells_again r.again
          bare_again r.operation t.0 t.1 t.2 in
          let va = values_for s a o.item in
          let vb = values_for s b r.operation.item in
          let full_a = full-of one d o x in
          let full_b = full-of other r.again r.operation r.executable in
          let both = same-plain s.reads s.of_bool s.answer ts us d r.again o r.operation k l va
          vb
          (tokens-rise (chars one) ts _ cut) (tokens-rise (chars other) us _ cut_again)
          (tokens-spelt (chars one) ts _ (scalars-chars one utf8) cut)
          (tokens-spelt (chars other) us _ (scalars-chars other utf8_other) cut_again)
          (kept-some s.reads s.of_bool s.answer ts d o k va full_a.0)
          (kept-some s.reads s.of_bool s.answer us r.again r.operation l vb full_b.0)
          (kept-filled s.reads s.of_bool s.answer ts d o k va full_a.1)
          (kept-filled s.reads s.of_bool s.answer us r.again r.operation l vb full_b.1)
          (kept-same s.reads s.of_bool s.answer ts us d r.again o r.operation k l va vb
          values-same
          (sym documents)
          (ap (λ (z : Placed (Operation (Kept S))). z.item)
          (sym (chosen-alike h.0 t.0 h.1 t.1))))
          in
          (ap parted_text both.0, both.1)

    -- the plain texts of both are the same, and as large
    pub plain-again : (plain_text us (plain_of s b r.again r.operation.item)
        ≡ plain_text ts (plain_of s a d o.item))
        × (size_of s b r.again r.operation.item ≡ size_of s a d o.item)
    plain-again =
        let kept = documents-keep-tokens s.reads s.of_bool ts d
        (spells-own s.reads s.of_bool (chars one) ts f d cut x.read.spelled) in
        let again = differ_in_places R B (chars one) (chars other) alike kept.0
        (record { tokens = ts; finish = f; cut = cut; spells = kept.1 }) in
        let spells_again = spells-own R B (chars other) us g again.0 cut_again again.1 in
        let bare_again = one_document s.reads s.of_bool (chars other)
        (moved_document bare here again.0) r.again
        (record {
          tokens = us;
          finish = g;
          cut = cut_again;
          spells = kept-are-documents s.reads
              s.of_bool us again.0 spells_again;
        }) r.executable.read.spelled in
        texts-same kept.0 again.0 kept.1 spells_again kept.2 bare_again again.2

  -- ---- what is plain, and what is larger

  pub plain-alike : (limit : ℕ) (bytes : Bytes) → IsPlainTextWithin s a limit bytes
      → IsPlainTextWithin s b limit bytes
  plain-alike limit bytes p =
      let t = p.plain in
      let r = executed-again s root valid name given one other alike t.document t.operation
      t.executable in
      let read = r.executable.read.spelled in
      let both = plain-again t.document t.operation t.executable r t.tokens read.tokens t.finish
      read.finish t.cut read.cut in
      record {
        plain = record {
          document = r.again;
          operation = r.operation;
          executable = r.executable;
          tokens = read.tokens;
          finish = read.finish;
          cut = read.cut;
          is = t.is ∙ sym both.0;
        };
        fits = subst (λ n. n ≤ limit) (sym both.1) p.fits;
      }

  pub larger-alike : (limit : ℕ) → IsLarger s a limit → IsLarger s b limit
  larger-alike limit l =
      let r = executed-again s root valid name given one other alike l.document l.operation
      l.executable in
      let here_read = l.executable.read.spelled in
      let read = r.executable.read.spelled in
      let both = plain-again l.document l.operation l.executable r here_read.tokens read.tokens
      here_read.finish read.finish here_read.cut read.cut in
      record {
        document = r.again;
        operation = r.operation;
        executable = r.executable;
        larger = subst (λ n. limit < n) (sym both.1) l.larger;
      }
