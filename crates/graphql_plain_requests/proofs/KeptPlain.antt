-- A document whose scalars keep their tokens, and the plain operation of one of its operations.
use Rattle.std.proofs.Common.{◌≡◌, refl, sym, ◌∙◌, ap, subst, Bool, true, false, List, Option, Result}
use Rattle.std.specs.List.{Contains}
use Rattle.std.specs.Option.{option_map}
use Rattle.graphql_names.specs.Names.{Bytes}
use Rattle.graphql_text.specs.declared.position.SourcePosition.{SourcePosition}
use Rattle.graphql_text.specs.declared.token.ScalarToken.{ScalarToken}
use Rattle.graphql_text.specs.declared.parse_error.ParseError.{ParseError}
use Rattle.graphql_scalars.specs.ScalarAnswers.{ScalarAnswer}
use Rattle.graphql_values.specs.InputValues.{Placed}
use Rattle.graphql_values.specs.declared.input_value.InputValue.{InputValue}
use Rattle.graphql_grammar.specs.Alike.{tokens_of}
use Rattle.graphql_grammar.specs.Input.{Located}
use Rattle.graphql_tree.specs.Definitions.{fragments_listed}
use Rattle.graphql_tree.specs.declared.document.Definition.{Definition}
use Rattle.graphql_tree.specs.declared.document.Definition.TheVariants as definition
use Rattle.graphql_tree.specs.declared.document.Fragment.{Fragment}
use Rattle.graphql_tree.specs.declared.document.Operation.{Operation}
use Rattle.graphql_language.specs.Documents.{DocumentOf}
use Rattle.graphql_written_out.specs.Conditions.{left_out}
use Rattle.graphql_written_out.specs.Trees.{Tree, is_empty, IsFilled}
use Rattle.graphql_written_out.specs.Written.{written}
use Rattle.graphql_plain_tree.specs.PlainOperations.{PlainOperation, plain_operation}
use Rattle.graphql_plain_text.specs.SpanTokens.{tokens_within}
use Rattle.graphql_plain_text.specs.SpelledTrees.{IsSpelledOperation}
use Rattle.graphql_plain_text.specs.Spelt.{AreSpelt}
use Rattle.graphql_plain_text.specs.TreeTokens.{operation_tokens}
use Rattle.graphql_plain_text.proofs.PlainDocuments.{plain-spelled}
use Rattle.graphql_plain_text.proofs.RisingTokens.{Climb}
use Rattle.graphql_plain_text.proofs.SpelledDocuments.{operations-stand}
use Rattle.graphql_moved.specs.Kept.{Kept, bare, of_bool_kept, of_word, reads_kept}
use Rattle.graphql_moved.specs.Moved.{here, moved, moved_definition, moved_document, moved_operation, moved_value}
use Rattle.graphql_moved.proofs.KeptDocuments.{documents-keep-tokens}
use Rattle.graphql_moved.specs.MovedTrees.{moved_plain, moved_tree}
use Rattle.graphql_rules_document.proofs.ListItems.{image-of}
use Rattle.graphql_plain_requests.proofs.KeptTokens.{operations-at, own-are, own_tokens}
use Rattle.graphql_moved.proofs.MovedConditions.{TruthsAlike, truths-moved}
use Rattle.graphql_moved.proofs.MovedOperations.{operation-moved}
use Rattle.graphql_moved.proofs.MovedPlain.{empty-moved, filled-back}
use Rattle.graphql_moved.proofs.MovedWritten.{fragments-moved, written-moved}

module _ {S T : Type 0} (f : S → T) (at : SourcePosition → SourcePosition) where
  module _ (d : List (Definition S)) (o : Placed (Operation T)) where
    abbrev Back : Type 0
    Back = (x : Placed (Operation S)) × Contains d (definition.Operation x)
        × (moved at (moved_operation f at) x ≡ o)

    back : (y : Definition S) → Contains d y → moved_definition f at y ≡ definition.Operation o
        → Back
    back (definition.Operation x) i e = (
      x,
      i,
      (let z : moved at (moved_operation f at) x ≡ o = cc
          in z),
    )
    back (definition.Fragment x) i e = absurd (cc)

    -- an operation of the one is that of the other
    pub operation-back : Contains (moved_document f at d) (definition.Operation o) → Back
    operation-back i = let r = image-of (moved_definition f at) d (definition.Operation o) i in back
        r.0 r.1 r.2

module _ {S : Type 0} (reads : ScalarToken → Result S ParseError) (of_bool : Bool → S)
    (answer : S → ScalarAnswer) where
  abbrev pub kept_answer : Kept S → ScalarAnswer
  kept_answer k = answer k.scalar

  abbrev hold : S → Kept S
  hold s = record { scalar = s; source = of_word true }

  abbrev pub kept_values : (Bytes → Option (InputValue S)) → Bytes → Option (InputValue (Kept S))
  kept_values values name = option_map (moved_value hold here) (values name)

  pub truths-kept : (values : Bytes → Option (InputValue S))
      → TruthsAlike kept_answer answer (kept_values values) values
  truths-kept values name = sym (truths-moved hold here kept_answer (values name))

  -- ---- a document, and one whose scalars keep their tokens

  module _ (ts : List Located) where
    pub record KeptOperation (document : List (Definition S)) (o : Placed (Operation S)) : Type 0
      where
        pub d : List (Definition (Kept S))
        pub spells : DocumentOf (Kept S) (reads_kept reads) (of_bool_kept of_bool) ts d
        pub same : moved_document bare here d ≡ document
        pub x : Placed (Operation (Kept S))
        pub among : Contains d (definition.Operation x)
        pub is : moved here (moved_operation bare here) x ≡ o

    abbrev pub kept-from : (d : List (Definition (Kept S)))
        → DocumentOf (Kept S) (reads_kept reads) (of_bool_kept of_bool) ts d
        → (document : List (Definition S)) → moved_document bare here d ≡ document
        → (o : Placed (Operation S)) → Contains document (definition.Operation o)
        → KeptOperation document o
    kept-from d spells document same o i =
        let b = operation-back bare here d o (subst (λ (z : List (Definition S)).
        Contains z (definition.Operation o)) (sym same) i) in
        record { d = d; spells = spells; same = same; x = b.0; among = b.1; is = b.2 }

    pub kept-operation : (document : List (Definition S)) → DocumentOf S reads of_bool ts document
        → (o : Placed (Operation S)) → Contains document (definition.Operation o)
        → KeptOperation document o
    kept-operation document r o i =
        let k = documents-keep-tokens reads of_bool ts document r in kept-from k.0 k.1 document k.2
        o i

    module _ (document : List (Definition S)) (o : Placed (Operation S))
        (k : KeptOperation document o)
        (values : Bytes → Option (InputValue S)) where
      abbrev pub kept_set : Tree (Kept S)
      kept_set = written (fragments_listed k.d) k.x.item.selection_set

      abbrev pub kept_plain : PlainOperation (Kept S)
      kept_plain = plain_operation kept_answer (of_bool_kept of_bool) (kept_values values)
          (fragments_listed k.d) k.x.item

      set-is : written (fragments_listed document) o.item.selection_set
          ≡ moved_tree bare here kept_set
      set-is =
          (λ i. written (fragments_listed (sym k.same i)) (sym k.is i).item.selection_set)
          ∙ ap (λ (fs : List (Fragment S)). written fs
          (moved_operation bare here k.x.item).selection_set) (fragments-moved bare here k.d)
          ∙ written-moved bare here (fragments_listed k.d) k.x.item.selection_set

      pub kept-some : is_empty (written (fragments_listed document) o.item.selection_set) ≡ false
          → is_empty kept_set ≡ false
      kept-some some = sym (empty-moved bare here kept_set) ∙ ap is_empty (sym set-is) ∙ some

      pub kept-filled : IsFilled (written (fragments_listed document) o.item.selection_set)
          → IsFilled kept_set
      kept-filled filled = filled-back bare here kept_set (subst IsFilled set-is filled)

      pub bare-plain : plain_operation answer of_bool values (fragments_listed document) o.item
          ≡ moved_plain bare here kept_plain
      bare-plain =
          (λ i. plain_operation answer of_bool values (fragments_listed (sym k.same i))
          (sym k.is i).item)
          ∙ ap (λ (fs : List (Fragment S)). plain_operation answer of_bool values fs
          (moved_operation bare here k.x.item)) (fragments-moved bare here k.d)
          ∙ operation-moved bare here refl (of_bool_kept of_bool) of_bool (λ b. refl) answer
          (kept_values values) values (truths-kept values)
          (fragments_listed k.d) k.x.item

      -- ---- its tokens

      module _ (rises : Climb 0 ts) (spelt : AreSpelt (tokens_of ts))
          (some : is_empty kept_set ≡ false) (filled : IsFilled kept_set) where
        pub kept-spelled : IsSpelledOperation (Kept S) (reads_kept reads) (of_bool_kept of_bool)
            (tokens_within ts) kept_plain
            × AreSpelt (operation_tokens (tokens_within ts) kept_plain)
        kept-spelled =
            plain-spelled (reads_kept reads) (of_bool_kept of_bool) ts rises spelt
            (left_out kept_answer (kept_values values)) k.d k.spells k.x
            (operations-stand (reads_kept reads) (of_bool_kept of_bool) ts rises spelt k.d k.spells
            k.x k.among) some filled

        pub same-tokens : operation_tokens (tokens_within ts)
            (plain_operation answer of_bool values (fragments_listed document) o.item)
            ≡ operation_tokens (tokens_within ts) kept_plain
        same-tokens =
            ap (operation_tokens (tokens_within ts)) bare-plain
            ∙ operations-at bare here (tokens_within ts) (tokens_within ts) (λ s. refl) kept_plain

        -- the tokens of the plain operation are those that the scalars keep
        pub tokens-kept : operation_tokens (tokens_within ts)
            (plain_operation answer of_bool values (fragments_listed document) o.item)
            ≡ own_tokens kept_plain
        tokens-kept = same-tokens ∙ sym (own-are reads of_bool (tokens_within ts) kept_plain
            kept-spelled.0)
