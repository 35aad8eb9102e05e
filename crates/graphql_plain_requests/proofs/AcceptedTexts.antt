-- The plain text of a request is executed in the request's place.
use Rattle.std.proofs.Common.{◌≡◌, refl, sym, ◌∙◌, ap, subst, arith, Bool, true, false, List, [], ◌∷◌, cond, reverse, Option, Some, None, Ok, Err}
use Rattle.std.specs.List.{Contains, find}
use Rattle.std.specs.Option.{option_map, option_map_or}
use Rattle.std.specs.Str.{bytes_eq, chars}
use Rattle.graphql_names.specs.Names.{Bytes, passes}
use Rattle.graphql_values.specs.InputValues.{Placed, unplaced}
use Rattle.graphql_tree.specs.Definitions.{operations_of}
use Rattle.graphql_tree.specs.Documents.{variables_in}
use Rattle.graphql_tree.specs.Unlocated.{unlocated_name, unlocated_operation}
use Rattle.graphql_tree.specs.declared.document.Definition.{Definition}
use Rattle.graphql_tree.specs.declared.document.Definition.TheVariants as definition
use Rattle.graphql_tree.specs.declared.document.Operation.{Operation}
use Rattle.graphql_schema.specs.Declarations.{declarations_of}
use Rattle.graphql_schema.specs.declared.root_node.RootNode.{RootNode}
use Rattle.graphql_rules_document.proofs.KnownFieldTypes.{field-types-are-known}
use Rattle.graphql_plain_tree.specs.PlainDocuments.{document_of, operation_as}
use Rattle.graphql_plain_tree.specs.PlainOperations.{PlainOperation, variables_used}
use Rattle.graphql_plain_text.specs.Laws.{IsTextOf, PlainTextIsDocument}
use Rattle.graphql_plain_validity.specs.PlainRequests.{IsPlainDocument}
use Rattle.graphql_plain_validity.proofs.OneOperation.{the-one}
use Rattle.graphql_plain_validity.specs.Laws.{IsValidText, PlainTextsAreValid}
use Rattle.graphql_plain_validity.proofs.ValidTexts.{full}
use Rattle.graphql_requests.specs.Operations.{chosen, operation_has_name, mutation_root}
use Rattle.graphql_requests.specs.Refusals.{IsValidIn}
use Rattle.graphql_schema.specs.Scalars.{Scalars}
use Rattle.graphql_requests.specs.declared.graphql_error.GraphQLError.TheVariants as error
use Rattle.graphql_requests.proofs.ChosenOperations.{chosen-in}
use Rattle.graphql_plain_requests.specs.PlainRequests.{asked_at, plain_of, values_for}
use Rattle.graphql_plain_requests.proofs.PlainDocuments.{root-known}
use Rattle.graphql_plain_requests.specs.Laws.{PlainTextsAreAccepted}
use Rattle.graphql_plain_requests.proofs.AcceptedValues.{accepted-again}

-- ---- the name of an operation

-- what is found passes
found-passes : {A E : Type 0} (test : A → Bool) (xs : List A) (x : A) (e : E)
    → option_map_or Ok (find test xs) (Err e) ≡ Ok x → test x ≡ true
found-passes test [] x e h = absurd (cc)
found-passes test (y ∷ ys) x e h =
    let cases : (b : Bool) → test y ≡ b
    → option_map_or Ok (cond b (Some y) (find test ys)) (Err e) ≡ Ok x → test x ≡ true =
    elim [
      | true ↦ (λ is j. let same : y ≡ x = cc in ap test (sym same) ∙ is)
      | false ↦ (λ is j. found-passes test ys x e j)
    ] in cases (test y) refl h

-- a test of a name sees no places
unlocated-passes : (test : Bytes → Bool) (o : Option (Placed Bytes))
    → passes (λ (n : Placed Bytes). test n.item) (option_map unlocated_name o) ≡ passes (λ (n : Placed Bytes). test n.item) o
unlocated-passes test None = refl
unlocated-passes test (Some n) = refl

plain-passes : (test : Bytes → Bool) (o : Option (Placed Bytes))
    → passes (λ (n : Placed Bytes). test n.item) (option_map unplaced (option_map (λ (n : Placed Bytes). n.item) o))
    ≡ passes (λ (n : Placed Bytes). test n.item) o
plain-passes test None = refl
plain-passes test (Some n) = refl

module _ {S : Type 0} where
  -- the one operation of a document is chosen, where it has the name that is asked for
  lone-chosen : (x : Placed (Operation S)) (name : Bytes) → operation_has_name name x ≡ true
      → chosen (Some name) (definition.Operation x ∷ []) ≡ Ok x
  lone-chosen x name has =
      ap (λ (b : Bool). option_map_or Ok (cond b (Some x) None) (Err error.UnknownOperationName)) has

  chosen-again : (p : PlainOperation S) (document : List (Definition S))
      (o x : Placed (Operation S)) → p.name ≡ option_map (λ (n : Placed Bytes). n.item) o.item.name
      → unlocated_operation x.item ≡ unlocated_operation (operation_as p)
      → (name : Option Bytes) → chosen name document ≡ Ok o
      → chosen name (definition.Operation x ∷ []) ≡ Ok x
  chosen-again p document o x named same None e = refl
  chosen-again p document o x named same (Some name) e =
      let test : Bytes → Bool = λ n. bytes_eq n name in
      let old : operation_has_name name o ≡ true =
      found-passes (operation_has_name name) (reverse (operations_of document)) o
      error.UnknownOperationName e in
      lone-chosen x name
      (sym (unlocated-passes test x.item.name)
      ∙ ap (λ (q : Operation S). passes (λ (n : Placed Bytes). test n.item) q.name) same
      ∙ unlocated-passes test (option_map unplaced p.name)
      ∙ ap (λ (n : Option Bytes). passes (λ (n : Placed Bytes). test n.item) (option_map unplaced n)) named
      ∙ plain-passes test o.item.name ∙ old)

-- ---- the text

module _ {S C : Type 0} (s : Scalars S C) (root : RootNode S C)
    (valid_texts : PlainTextsAreValid s (declarations_of root.schema))
    (printed : PlainTextIsDocument S s.reads s.of_bool s.answer) where
  pub plain-texts-are-accepted : PlainTextsAreAccepted s root
  plain-texts-are-accepted takes source name given bytes utf8 text =
      let a = asked_at root (chars source) name given in
      let schema = declarations_of root.schema in
      let document = text.document in
      let o = text.operation in
      let read = text.executable.read in
      let ready = text.executable.ready in
      let p : PlainOperation S = plain_of s a document o.item in
      let among = chosen-in name document o ready.chosen in
      let known = root-known root.schema o.item.operation_type ready.root ready.served in
      let filled =
      full s schema
      (field-types-are-known schema root.schema.faultless) document
      read.valid.valid.no_fault (chars source) read.spelled o among known in
      let spelled : IsTextOf S s.reads s.of_bool bytes (document_of p) =
      subst (λ b. IsTextOf S s.reads s.of_bool b (document_of p)) (sym text.is)
      (printed source text.tokens text.finish document o (values_for s a o.item) utf8 text.cut
      read.spelled among filled.0 filled.1) in
      let again : List (Definition S) = spelled.again in
      let valid_text : IsValidText s schema root.introspection_disabled bytes =
      subst
      (IsValidText s schema root.introspection_disabled)
      (sym text.is)
      (valid_texts takes.conditions takes.truth source text.tokens text.finish document o
      (values_for s a o.item) utf8 text.cut read.spelled among known root.introspection_disabled
      read.valid) in
      let valid =
      subst (λ (d : List (Definition S)). IsValidIn s schema root.introspection_disabled d)
      (spelled.only valid_text.document valid_text.is) valid_text.valid in
      let plain : IsPlainDocument s.answer s.of_bool document again = record {
        operation = o;
        among = among;
        filled = filled.1;
        given = values_for s a o.item;
        same = spelled.same;
      } in
      let x = the-one s.answer s.of_bool document again plain in
      record {
        document = document;
        operation = o;
        executable = text.executable;
        utf8 = spelled.utf8;
        again = again;
        other = x.0;
        accepted = record {
          read = record { spelled = spelled.is; alone = spelled.only; valid = valid };
          ready = record {
            chosen =
                ap (λ (d : List (Definition S)). chosen name d) x.1
                ∙ chosen-again p document o x.0 refl x.2 name ready.chosen;
            takes_values =
                accepted-again s root.schema.types given p (variables_used p.set)
                (variables_in o.item.variable_definitions) x.0.item refl x.2 ready.takes_values;
            root = ready.root;
            served =
                ap (λ (q : Operation S). mutation_root root.schema.mutation q.operation_type) x.2
                ∙ ready.served;
          };
        };
        pair = record {
          filled = filled.1;
          same = spelled.same;
          among =
              subst (λ (d : List (Definition S)). Contains (operations_of d) x.0) (sym x.1)
              (0, omega arith, refl);
        };
      }
