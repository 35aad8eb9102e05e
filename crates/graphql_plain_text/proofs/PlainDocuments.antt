-- The plain text of an operation of a document is a document, whose only tree is the plain
-- operation's, places aside.
use Rattle.std.proofs.Common.{◌≡◌, refl, ◌∙◌, subst, inl, inr, ℕ, suc, Bool, true, false, List, [], ◌∷◌, map, length, Result, cond}
use Rattle.std.specs.List.{All, filter, flat_map}
use Rattle.std.specs.Option.{option_map}
use Rattle.std.specs.Str.{chars}
use Rattle.std.proofs.lemmas.List.Elements.{All-head, All-tail}
use Rattle.std.proofs.lemmas.Str.{scalars-chars}
use Rattle.graphql_names.specs.Names.{Bytes, is_one_of}
use Rattle.graphql_text.specs.declared.position.Span.{Span}
use Rattle.graphql_text.specs.declared.token.Token.{Token}
use Rattle.graphql_text.specs.declared.token.Token.TheVariants.{EndOfFile}
use Rattle.graphql_text.specs.declared.token.ScalarToken.{ScalarToken}
use Rattle.graphql_text.specs.declared.parse_error.ParseError.{ParseError}
use Rattle.graphql_lexer.proofs.GrammarLaws.{one_list}
use Rattle.graphql_scalars.specs.ScalarAnswers.{ScalarAnswer}
use Rattle.graphql_grammar.specs.Alike.{tokens_of}
use Rattle.graphql_grammar.specs.Input.{At, Located}
use Rattle.graphql_tree.specs.Definitions.{fragments_of}
use Rattle.graphql_tree.specs.Documents.{variables_in}
use Rattle.graphql_tree.specs.Variables.{Variable}
use Rattle.graphql_tree.specs.declared.document.Definition.{Definition}
use Rattle.graphql_tree.specs.declared.document.Fragment.{Fragment}
use Rattle.graphql_tree.specs.declared.document.Operation.{Operation}
use Rattle.graphql_language.specs.Documents.{DocumentOf}
use Rattle.graphql_language.specs.Texts.{IsCut, IsDocument}
use Rattle.graphql_language.proofs.TextLaws.{one_document}
use Rattle.graphql_written_out.specs.Conditions.{left_out}
use Rattle.graphql_written_out.specs.Trees.{Directives, Tree, none, field, inline, is_empty, IsFilled}
use Rattle.graphql_written_out.specs.Written.{written}
use Rattle.graphql_plain_tree.specs.Plain.{drops_all, plain_set, plain}
use Rattle.graphql_plain_tree.specs.PlainOperations.{PlainOperation, without_directives, definitions_used, operation_with, plain_operation, variables_used}
use Rattle.graphql_plain_tree.specs.StandIns.{skip_true}
use Rattle.graphql_plain_tree.proofs.FilledSets.{same-empty}
use Rattle.graphql_plain_text.specs.Laws.{PlainTextIsDocument}
use Rattle.graphql_plain_text.specs.PlainTexts.{plain_text}
use Rattle.graphql_plain_text.specs.SpanTokens.{tokens_within}
use Rattle.graphql_plain_text.specs.SpelledTrees.{VariablesAreSpelled, IsShaped, TreeIsSpelled, IsSpelledOperation}
use Rattle.graphql_plain_text.specs.Spelt.{AreSpelt}
use Rattle.graphql_plain_text.specs.TreeTokens.{variable_tokens, operation_tokens}
use Rattle.graphql_plain_text.proofs.OperationsAgain.{again_document}
use Rattle.graphql_plain_text.proofs.PartedTexts.{parted-utf8, tokens-spelt, parted-is-cut}
use Rattle.graphql_plain_text.proofs.RisingTokens.{Climb, same_push, tokens-rise}
use Rattle.graphql_plain_text.proofs.SpelledDocuments.{VariableStands, OperationStands, fragments-stand, operations-stand}
use Rattle.graphql_plain_text.proofs.SpelledSets.{write-good}
use Rattle.graphql_plain_text.proofs.SpeltTrees.{spelt-append, within-spelt, variable-spelt, operation-spelt}

module _ {S : Type 0} (reads : ScalarToken → Result S ParseError) (of_bool : Bool → S)
    (drops : Directives S → Bool) where
  abbrev stand_in : Directives S
  stand_in = skip_true of_bool

  abbrev set : Bool → Tree S → Tree S
  set = plain_set drops stand_in

  abbrev p : Tree S → Tree S
  p = plain drops stand_in

  -- ---- plain sets are shaped

  abbrev Shaped : Tree S → Type 0
  Shaped = IsShaped S reads of_bool

  shaped : (x : Tree S) (out : Bool) → IsFilled x → Shaped (set out x)
  shaped none out h = tt
  shaped (field head ds below rest) true h =
      (inr refl, shaped below (drops_all drops below) h.1, tt)
  shaped (field head ds below rest) false h =
      elim (drops ds) as
      (λ b. Shaped (cond b (set false rest) (field head [] (p below) (set false rest)))) [
        | true ↦ shaped rest false h.2
        | false ↦ (inl refl, shaped below (drops_all drops below) h.1, shaped rest false h.2)
      ]
  shaped (inline on ds below rest) true h =
      let some = same-empty drops stand_in below ∙ h.0 in
      (inr refl, some, shaped below (drops_all drops below) h.1, tt)
  shaped (inline on ds below rest) false h =
      let some = same-empty drops stand_in below ∙ h.0 in
      let set_below = shaped below (drops_all drops below) h.1 in
      elim (drops ds) as
      (λ b. Shaped (cond b (set false rest) (inline on [] (p below) (set false rest)))) [
        | true ↦ shaped rest false h.2
        | false ↦ (inl refl, some, set_below, shaped rest false h.2)
      ]

  -- ---- and spelled where the sets are

  module _ (own : Span → List Token) where
    abbrev Spelled : Tree S → Type 0
    Spelled = TreeIsSpelled S reads of_bool own

    kept : (x : Tree S) (out : Bool) → Spelled x → Spelled (set out x)
    kept none out h = tt
    kept (field head ds below rest) true h = (h.0, kept below (drops_all drops below) h.1, tt)
    kept (field head ds below rest) false h =
        let set_below = kept below (drops_all drops below) h.1 in
        elim (drops ds) as
        (λ b. Spelled (cond b (set false rest) (field head [] (p below) (set false rest)))) [
          | true ↦ kept rest false h.2
          | false ↦ (h.0, set_below, kept rest false h.2)
        ]
    kept (inline on ds below rest) true h = (h.0, kept below (drops_all drops below) h.1, tt)
    kept (inline on ds below rest) false h =
        let set_below = kept below (drops_all drops below) h.1 in
        elim (drops ds) as
        (λ b. Spelled (cond b (set false rest) (inline on [] (p below) (set false rest)))) [
          | true ↦ kept rest false h.2
          | false ↦ (h.0, set_below, kept rest false h.2)
        ]

    pub kept-spelled : (x : Tree S) → Spelled x → Spelled (p x)
    kept-spelled x = kept x (drops_all drops x)

module _ {S : Type 0} (reads : ScalarToken → Result S ParseError) (of_bool : Bool → S)
    (ts : List Located) (rises : Climb 0 ts) (spelt : AreSpelt (tokens_of ts)) where
  abbrev own : Span → List Token
  own = tokens_within ts

  -- ---- the variables that are used

  abbrev stands : Variable S → Type 0
  stands = VariableStands reads of_bool ts rises spelt

  abbrev UsedWell : List (Variable S) → Type 0
  UsedWell xs =
      VariablesAreSpelled S reads of_bool own xs × AreSpelt (flat_map (variable_tokens own) xs)

  used-well : (used : List Bytes) (xs : List (Variable S)) → All stands xs
      → UsedWell (definitions_used used xs)
  used-well used [] h = (tt, tt)
  used-well used (x ∷ xs) h =
      let r = used-well used xs (All-tail stands x xs h) in
      let one = All-head stands x xs h in
      let others : List (Variable S) = filter (λ v. is_one_of used v.0.item) xs in
      let tokens =
      variable-spelt own (within-spelt ts spelt) reads of_bool (without_directives x) one.name in
      let first = spelt-append (variable_tokens own (without_directives x)) _ tokens r.1 in
      elim (is_one_of used x.0.item) as
      (λ b. UsedWell (map without_directives (cond b (x ∷ others) others))) [
        | true ↦ (((one.type, one.default, refl), r.0), first)
        | false ↦ r
      ]

  -- ---- the plain operation

  module _ (drops : Directives S → Bool) (document : List (Definition S))
      (r : DocumentOf S reads of_bool ts document) (o : At (Operation S))
      (stand : OperationStands reads of_bool ts rises spelt o.item) where
    abbrev fragments : List (Fragment S)
    fragments = map (λ (x : At (Fragment S)). x.item) (fragments_of document)

    abbrev plain_one : PlainOperation S
    plain_one =
        operation_with o.item.operation_type (option_map (λ n. n.item) o.item.name)
        (variables_in o.item.variable_definitions)
        (plain drops (skip_true of_bool) (written fragments o.item.selection_set))

    pub plain-spelled : is_empty (written fragments o.item.selection_set) ≡ false
        → IsFilled (written fragments o.item.selection_set)
        → IsSpelledOperation S reads of_bool own plain_one
        × AreSpelt (operation_tokens own plain_one)
    unfolding written
    plain-spelled some filled =
        let whole : Tree S = written fragments o.item.selection_set in
        let all : TreeIsSpelled S reads of_bool own whole =
        write-good reads of_bool ts rises spelt (suc (length fragments)) fragments
        (fragments-stand reads of_bool ts rises spelt document r) stand.set.2 stand.set.1 in
        let kept : TreeIsSpelled S reads of_bool own (plain drops (skip_true of_bool) whole) =
        kept-spelled reads of_bool drops own whole all in
        let used =
        used-well (variables_used (plain drops (skip_true of_bool) whole))
        (variables_in o.item.variable_definitions) stand.variables in (
          record {
            variables = used.0;
            some = same-empty drops (skip_true of_bool) whole ∙ some;
            shaped = shaped reads of_bool drops whole (drops_all drops whole) filled;
            tree = kept;
          },
          operation-spelt own (within-spelt ts spelt) reads of_bool plain_one stand.name used.1
              kept,
        )

-- ---- the law

module _ {S : Type 0} (reads : ScalarToken → Result S ParseError) (of_bool : Bool → S) where
  -- a document of a text is spelled by the tokens into which the text is cut, since it is cut into
  -- no others
  pub spells-own : (text : List ℕ) (tokens : List Located) (finish : Span)
      (document : List (Definition S))
      → IsCut text tokens finish
      → IsDocument S reads of_bool text document → DocumentOf S reads of_bool tokens document
  spells-own text tokens finish document cut d =
      let end : Span → Located = λ span. record { item = EndOfFile; span = span } in
      let same : d.tokens ≡ tokens =
      same_push d.tokens tokens (end d.finish) (end finish) (one_list text _ _ d.cut cut) in
      subst (λ l. DocumentOf S reads of_bool l document) same d.spells

  pub plain-document : (answer : S → ScalarAnswer) → PlainTextIsDocument S reads of_bool answer
  plain-document answer source tokens finish document o given utf8 cut is inside some filled =
      let fragments : List (Fragment S) = map (λ f. f.item) (fragments_of document) in
      let plain_one : PlainOperation S = plain_operation answer of_bool given fragments o.item in
      let spells = spells-own (chars source) tokens finish document cut is in
      let rises = tokens-rise (chars source) tokens _ cut in
      let spelt = tokens-spelt (chars source) tokens _ (scalars-chars source utf8) cut in
      let stand = operations-stand reads of_bool tokens rises spelt document spells o inside in
      let good =
      plain-spelled reads of_bool tokens rises spelt (left_out answer given) document spells o stand
      some filled in
      let c = parted-is-cut (operation_tokens (tokens_within tokens) plain_one) good.1 in
      let a =
      again_document reads of_bool (tokens_within tokens) plain_one good.0 c.tokens c.same in
      let again : IsDocument S reads of_bool (chars (plain_text tokens plain_one)) a.0 =
      record { tokens = c.tokens; finish = c.finish; cut = c.cut; spells = a.1 } in
      record {
        utf8 = parted-utf8 (operation_tokens (tokens_within tokens) plain_one) good.1;
        again = a.0;
        is = again;
        only =
            λ other h. one_document reads of_bool (chars (plain_text tokens plain_one)) other a.0 h
            again;
        same = a.2;
      }
