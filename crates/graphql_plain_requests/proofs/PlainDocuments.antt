-- The plain text of a request is a document.
use Rattle.std.proofs.Common.{◌≡◌, refl, sym, subst, Bool, true, false, cond, List, [], ◌∷◌, map, Option, Some, None, IfSome, Ok, option_and_then}
use Rattle.std.specs.Option.{IsSome}
use Rattle.std.specs.Str.{bytes_eq, chars}
use Rattle.graphql_names.specs.Names.{Bytes, named, passes}
use Rattle.graphql_values.specs.InputValues.{Placed}
use Rattle.graphql_tree.specs.Definitions.{fragments_listed, fragments_of}
use Rattle.graphql_tree.specs.declared.document.Fragment.{Fragment}
use Rattle.graphql_tree.specs.declared.document.OperationType.{OperationType}
use Rattle.graphql_tree.specs.declared.document.OperationType.TheVariants as kind
use Rattle.graphql_schema.specs.Declarations.{declarations_of}
use Rattle.graphql_schema.specs.Schemas.{roots_of}
use Rattle.graphql_schema.specs.declared.root_node.RootNode.{RootNode}
use Rattle.graphql_schema.specs.declared.schema.SchemaType.{SchemaType}
use Rattle.graphql_schema.proofs.RootLemmas.{mutation_is_object, query_is_object}
use Rattle.graphql_schema.specs.Lookups.{is_object, type_named}
use Rattle.graphql_occurrences.specs.DeclaredLookups.{root_of}
use Rattle.graphql_written_out.specs.Written.{fragment_meant}
use Rattle.graphql_visitors.specs.Subjects.{Subject}
use Rattle.graphql_validation.specs.Valid.{HasNoFault}
use Rattle.graphql_validation.specs.WellFormed.{IsWellFormed}
use Rattle.graphql_plain_validity.specs.Laws.{SpelledSetsAreWhole, WrittenSetsAreFilled}
use Rattle.graphql_plain_tree.specs.PlainDocuments.{document_of}
use Rattle.graphql_plain_text.specs.Laws.{IsTextOf, PlainTextIsDocument}
use Rattle.graphql_requests.specs.Operations.{mutation_root}
use Rattle.graphql_schema.specs.Scalars.{Scalars}
use Rattle.graphql_requests.proofs.ChosenOperations.{chosen-in}
use Rattle.graphql_plain_requests.specs.Laws.{PlainTextsAreDocuments}
use Rattle.graphql_plain_requests.specs.PlainRequests.{asked_at, plain_of, values_for}

some-where : {A : Type 0} (test : A → Bool) (o : Option A) → passes test o ≡ true → IsSome o
some-where test (Some x) e = refl
some-where test None e = absurd (cc)

some-of : {A : Type 0} (o : Option A) (a : A) → o ≡ Some a → IsSome o
some-of o a e = subst IsSome (sym e) refl

-- the root of an operation that is executed is a type of the schema
module _ {S C : Type 0} (schema : SchemaType S C) where
  of-mutation : (m root : Option Bytes) → IfSome m (λ n. passes is_object (type_named schema.types n) ≡ true)
      → mutation_root m kind.Mutation ≡ Ok root → IsSome (option_and_then (type_named schema.types) m)
  of-mutation (Some n) root object e = some-where is_object (type_named schema.types n) object
  of-mutation None root object e = absurd (cc)

  pub root-known : (type : OperationType) (root : Option Bytes) → mutation_root schema.mutation type ≡ Ok root
      → IsSome (root_of (declarations_of schema) type)
  root-known kind.Query root e =
      some-where is_object (type_named schema.types schema.query)
      (query_is_object schema.types (roots_of schema) schema.by_name schema.faultless)
  root-known kind.Mutation root e =
      of-mutation schema.mutation root
      (mutation_is_object schema.types schema.query schema.mutation schema.subscription schema.by_name schema.faultless) e
  root-known kind.Subscription root e = absurd (cc)

-- a fragment that is found is one without its place
module _ {S : Type 0} where
  found-first : (b : Bool) (f : Placed (Fragment S)) (named_rest : Option (Placed (Fragment S))) (meant_rest : Option (Fragment S))
      → (IsSome named_rest → IsSome meant_rest) → IsSome (cond b (Some f) named_rest) → IsSome (cond b (Some f.item) meant_rest)
  found-first true f n m later h = refl
  found-first false f n m later h = later h

  meant-where-named : (fs : List (Placed (Fragment S))) (name : Bytes)
      → IsSome (named (λ (f : Placed (Fragment S)). f.item.name.item) fs name)
      → IsSome (fragment_meant (map (λ (f : Placed (Fragment S)). f.item) fs) name)
  meant-where-named [] name h = h
  meant-where-named (f ∷ fs) name h =
      found-first (bytes_eq f.item.name.item name) f (named (λ (f : Placed (Fragment S)). f.item.name.item) fs name)
      (fragment_meant (map (λ (f : Placed (Fragment S)). f.item) fs) name) (meant-where-named fs name) h

module _ {S C : Type 0} (s : Scalars S C) (root : RootNode S C) (whole : SpelledSetsAreWhole S s.reads s.of_bool)
    (filled : WrittenSetsAreFilled (declarations_of root.schema))
    (well_formed : (subject : Subject S C) → HasNoFault s subject → IsWellFormed subject)
    (printed : PlainTextIsDocument S s.reads s.of_bool s.answer) where
  pub plain-texts-are-documents : PlainTextsAreDocuments s root
  plain-texts-are-documents source name given bytes utf8 p =
      let a = asked_at root (chars source) name given in
      let schema = declarations_of root.schema in
      let document = p.document in
      let o = p.operation in
      let read = p.executable.read in
      let ready = p.executable.ready in
      let well = well_formed (record { schema = schema; document = document }) read.valid.valid.no_fault in
      let among = chosen-in name document o ready.chosen in
      let full =
      filled document o (whole read.spelled.tokens document read.spelled.spells) among
      (root-known root.schema o.item.operation_type ready.root ready.served)
      (record {
        fields = λ f i. some-of f.declared (well.fields f i).0 (well.fields f i).1;
        conditions = λ n i. some-of _ (well.conditions n i).0 (well.conditions n i).1;
      })
      (λ n spread. subst (λ m. IsSome (fragment_meant (fragments_listed document) m)) spread.2
      (meant-where-named (fragments_of document) spread.0.name.item (well.spreads spread.0 spread.1)))
      well.fragments_end in
      record {
        document = document;
        operation = o;
        executable = p.executable;
        is =
            subst (λ b. IsTextOf S s.reads s.of_bool b (document_of (plain_of s a document o.item))) (sym p.is)
            (printed source p.tokens p.finish document o (values_for s a o.item) utf8 p.cut read.spelled among full.0 full.1);
        filled = full.1;
      }
