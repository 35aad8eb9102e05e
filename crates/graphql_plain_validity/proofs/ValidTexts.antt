-- The plain text of a valid text is valid.
use Rattle.std.proofs.Common.{◌≡◌, refl, ◌∙◌, ap, subst, ℕ, Bool, List, Option, Some, None}
use Rattle.std.specs.Cmp.{IsEquivalence}
use Rattle.std.specs.List.{Contains}
use Rattle.std.specs.Option.{IsSome, is_some, option_map}
use Rattle.std.specs.Str.{chars}
use Rattle.graphql_names.specs.Names.{Bytes}
use Rattle.graphql_scalars.specs.ScalarAnswers.{boolean}
use Rattle.graphql_values.specs.InputValues.{Placed}
use Rattle.graphql_values.specs.SameValue.{SameValue}
use Rattle.graphql_values.specs.declared.input_value.InputValue.{InputValue}
use Rattle.graphql_tree.specs.Definitions.{fragment_named, fragments_listed, fragments_of}
use Rattle.graphql_tree.specs.declared.document.Definition.{Definition}
use Rattle.graphql_tree.specs.declared.document.Definition.TheVariants as definition
use Rattle.graphql_tree.specs.declared.document.Fragment.{Fragment}
use Rattle.graphql_tree.specs.declared.document.Operation.{Operation}
use Rattle.graphql_language.specs.Texts.{IsDocument}
use Rattle.graphql_schema.specs.Scalars.{Scalars}
use Rattle.graphql_schema.specs.Declarations.{Declarations}
use Rattle.graphql_occurrences.specs.DeclaredLookups.{root_of}
use Rattle.graphql_occurrences.specs.Occurrences.{occurrences}
use Rattle.graphql_rules_document.specs.Scopes.{fragment_scopes}
use Rattle.graphql_visitors.specs.Subjects.{Subject}
use Rattle.graphql_rules_document.proofs.CycleLaws.{fragments_end}
use Rattle.graphql_rules.proofs.LawLemmas.{fields_declared, spreads_known, types_known}
use Rattle.graphql_rules_document.specs.Counted.{AreKnown, FieldTypesAreKnown, IsSpread}
use Rattle.graphql_written_out.specs.Written.{fragment_meant, written}
use Rattle.graphql_plain_validity.specs.Laws.{IsFull}
use Rattle.graphql_plain_validity.proofs.SpelledSets.{document-whole}
use Rattle.graphql_plain_validity.proofs.WrittenSets.{written-sets-are-filled}
use Rattle.graphql_validation.specs.Valid.{HasNoFault}
use Rattle.graphql_plain_text.proofs.PlainDocuments.{plain-document}
use Rattle.graphql_plain_validity.specs.PlainRequests.{IsPlainDocument}
use Rattle.graphql_plain_validity.proofs.SpelledDefaults.{spelled-defaults}
use Rattle.graphql_plain_validity.proofs.SpreadRules.{named-map}
use Rattle.graphql_plain_validity.specs.Laws.{PlainTextsAreValid}
use Rattle.graphql_plain_validity.proofs.PlainValidity.{plain-documents-stay-valid}

some-map : {A B : Type 0} (f : A → B) (o : Option A) → is_some (option_map f o) ≡ is_some o
some-map f None = refl
some-map f (Some x) = refl

module _ {S C : Type 0} (scalars : Scalars S C) (schema : Declarations S C) (closed : FieldTypesAreKnown schema)
    (document : List (Definition S))
    (no_fault : HasNoFault scalars (record { schema = schema; document = document })) where
  abbrev s : Subject S C
  s = record { schema = schema; document = document }

  known : AreKnown schema (occurrences schema document)
  known = record {
    fields = (fields_declared s (occurrences schema document)).0 no_fault.fields_on_correct_type;
    conditions = ((types_known s (occurrences schema document)).0 no_fault.known_type_names).1;
  }

  -- each spread means a fragment
  meant : (name : Bytes) → IsSpread (occurrences schema document) name
      → IsSome (fragment_meant (fragments_listed document) name)
  meant name h =
      let there : IsSome (fragment_named document h.0.name.item) =
      (spreads_known s (occurrences schema document)).0 no_fault.known_fragment_names h.0 h.1 in
      let same : is_some (fragment_meant (fragments_listed document) h.0.name.item) ≡ is_some
      (fragment_named document h.0.name.item) =
      ap is_some
      (named-map (λ (g : Fragment S). g.name.item) (λ (g : Placed (Fragment S)). g.item)
      (fragments_of document) h.0.name.item)
      ∙ some-map (λ (g : Placed (Fragment S)). g.item) (fragment_named document h.0.name.item) in
      subst (λ n. IsSome (fragment_meant (fragments_listed document) n)) h.2 (same ∙ there)

  -- an operation of a document that tokens spell has selections wherever a set was written
  pub full : (text : List ℕ) → IsDocument S scalars.reads scalars.of_bool text document → (o : Placed (Operation S))
      → Contains document (definition.Operation o) → IsSome (root_of schema o.item.operation_type)
      → IsFull (written (fragments_listed document) o.item.selection_set)
  full text is o among root =
      written-sets-are-filled schema closed document o
      (document-whole scalars.reads scalars.of_bool is.tokens document is.spells) among root known meant
      ((fragments_end (fragment_scopes schema document)).0 no_fault.in_scopes.no_fragment_cycles)

module _ {S C : Type 0} (scalars : Scalars S C) (laws : IsEquivalence scalars.eq) (answers : (b : Bool) → scalars.answer (scalars.of_bool b) ≡ boolean b)
    (respects : (c : C) (a b : InputValue S) → SameValue S scalars.eq a b → scalars.accepts c a → scalars.accepts c b)
    (schema : Declarations S C) (closed : FieldTypesAreKnown schema) where
  pub plain-texts-are-valid : PlainTextsAreValid scalars schema
  plain-texts-are-valid standard takes source tokens finish document o given utf8 cut is among root disabled valid =
      let filled =
      full scalars schema closed document valid.valid.no_fault
      (chars source) is o among root in
      let text =
      plain-document scalars.reads scalars.of_bool scalars.answer source tokens finish document o given utf8 cut is among filled.0 filled.1 in
      let plain : IsPlainDocument scalars.answer scalars.of_bool document text.again =
      record { operation = o; among = among; filled = filled.1; given = given; same = text.same } in
      record {
        utf8 = text.utf8;
        document = text.again;
        is = text.is;
        only = text.only;
        valid =
            plain-documents-stay-valid scalars laws answers respects schema closed standard takes document text.again plain root
            (spelled-defaults scalars.reads scalars.of_bool is.tokens document is.spells) disabled valid;
      }
