-- Requests whose texts have the same tokens are read alike, step by step.
use Rattle.std.proofs.Common.{◌≡◌, sym, ◌∙◌, ap, List, Option, Ok, Err}
use Rattle.std.specs.Str.{chars}
use Rattle.graphql_names.specs.Names.{Bytes}
use Rattle.graphql_values.specs.InputValues.{Placed}
use Rattle.graphql_values.specs.declared.input_value.InputValue.{InputValue}
use Rattle.graphql_tree.specs.Documents.{variables_in}
use Rattle.graphql_tree.specs.Unlocated.{unlocated_document, unlocated_operation}
use Rattle.graphql_tree.specs.declared.document.Definition.{Definition}
use Rattle.graphql_tree.specs.declared.document.Operation.{Operation}
use Rattle.graphql_language.specs.Alike.{AreAlike}
use Rattle.graphql_language.specs.Texts.{IsDocument}
use Rattle.graphql_language.proofs.AlikeTexts.{differ_in_places, refused_alike}
use Rattle.graphql_language.proofs.TextLaws.{one_document}
use Rattle.graphql_schema.specs.Declarations.{declarations_of}
use Rattle.graphql_schema.specs.declared.root_node.RootNode.{RootNode}
use Rattle.graphql_requests.specs.Asked.{Asking, IsExecutable, ReadsValid}
use Rattle.graphql_requests.specs.Operations.{chosen, mutation_root}
use Rattle.graphql_requests.specs.Refusals.{IsOnly, TakesValues}
use Rattle.graphql_schema.specs.Scalars.{Scalars}
use Rattle.graphql_requests.specs.declared.graphql_error.GraphQLError.{GraphQLError}
use Rattle.graphql_plain_requests.specs.PlainRequests.{asked_at}
use Rattle.graphql_moved.specs.Moved.{moved, moved_operation}
use Rattle.graphql_moved.proofs.Unlocated.{document-is, nowhere, same}
use Rattle.graphql_plain_requests.specs.Laws.{AreValidAlike}
use Rattle.graphql_requests.specs.Steps.{IsExecuted, IsRefusedAt, RequestStep, no_document, not_chosen, not_served, not_valid, takes_not}
use Rattle.graphql_plain_requests.proofs.Choices.{carried, chosen-moved, err-from, ok-from}
use Rattle.graphql_plain_requests.proofs.AcceptedValues.{accepted-alike}
use Rattle.graphql_plain_requests.proofs.TruthsAlike.{operations-same, variables-same}

module _ {S C : Type 0} (s : Scalars S C) (root : RootNode S C)
    (valid : AreValidAlike s (declarations_of root.schema))
    (name : Option Bytes) (given : Bytes → Option (InputValue S)) (one other : Bytes)
    (alike : AreAlike (chars one) (chars other)) where
  abbrev pub this : Asking S C
  this = asked_at root (chars one) name given

  abbrev pub that : Asking S C
  that = asked_at root (chars other) name given

  abbrev pub nowhere_operation : Placed (Operation S) → Placed (Operation S)
  nowhere_operation = moved nowhere (moved_operation same nowhere)

  -- ---- documents

  pub record Again (d : List (Definition S)) : Type 0 where
    pub again : List (Definition S)
    pub only : IsOnly s (chars other) again
    pub places : unlocated_document d ≡ unlocated_document again

  pub document-again : (d : List (Definition S)) → IsDocument S s.reads s.of_bool (chars one) d
      → Again d
  document-again d h =
      let r = differ_in_places s.reads s.of_bool (chars one) (chars other) alike d h in
      record {
        again = r.0;
        only = record {
          spelled = r.1;
          alone = λ z k. one_document s.reads s.of_bool (chars other) z
              r.0 k r.1;
        };
        places = sym r.2;
      }

  module _ (d e : List (Definition S)) (is : unlocated_document d ≡ unlocated_document e) where
    read-again : IsOnly s (chars other) e → ReadsValid s this d → ReadsValid s that e
    read-again only read = record {
      spelled = only.spelled;
      alone = only.alone;
      valid = valid d e is
          root.introspection_disabled read.valid;
    }

    choices-alike : carried nowhere_operation (chosen name e) ≡ carried nowhere_operation (chosen name d)
    choices-alike =
        sym (chosen-moved same nowhere name e)
        ∙ ap (chosen name) (sym (document-is e) ∙ sym is ∙ document-is d)
        ∙ chosen-moved same nowhere name d

    pub chosen-again : (o : Placed (Operation S)) → chosen name d ≡ Ok o
        → (p : Placed (Operation S)) × (chosen name e ≡ Ok p)
        × (nowhere_operation p ≡ nowhere_operation o)
    chosen-again o is_chosen = ok-from nowhere_operation (chosen name e) (nowhere_operation o)
        (choices-alike ∙ ap (carried nowhere_operation) is_chosen)

    unchosen-again : (why : GraphQLError) → chosen name d ≡ Err why → chosen name e ≡ Err why
    unchosen-again why is_chosen = err-from nowhere_operation (chosen name e) why
        (choices-alike ∙ ap (carried nowhere_operation) is_chosen)

  -- ---- values, and what is served

  module _ (o p : Placed (Operation S)) (is : nowhere_operation p ≡ nowhere_operation o) where
    same-item : moved_operation same nowhere o.item ≡ moved_operation same nowhere p.item
    same-item = ap (λ (z : Placed (Operation S)). z.item) (sym is)

    takes-again : TakesValues s root.schema given o → TakesValues s root.schema given p
    takes-again =
        accepted-alike s root.schema.types given
        (variables_in o.item.variable_definitions)
        (variables_in p.item.variable_definitions) (variables-same o.item p.item same-item)

    takes-before : TakesValues s root.schema given p → TakesValues s root.schema given o
    takes-before =
        accepted-alike s root.schema.types given
        (variables_in p.item.variable_definitions)
        (variables_in o.item.variable_definitions) (variables-same p.item o.item (sym same-item))

    served-alike : mutation_root root.schema.mutation p.item.operation_type
        ≡ mutation_root root.schema.mutation o.item.operation_type
    served-alike = ap (λ (z : Operation S). mutation_root root.schema.mutation z.operation_type)
        (sym same-item)

  -- ---- what is executed

  pub record ExecutedAgain (d : List (Definition S)) (o : Placed (Operation S)) : Type 0 where
    pub again : List (Definition S)
    pub operation : Placed (Operation S)
    pub executable : IsExecutable s that again operation
    pub documents : unlocated_document d ≡ unlocated_document again
    pub operations : nowhere_operation operation ≡ nowhere_operation o
    pub same_operations : unlocated_operation o.item ≡ unlocated_operation operation.item

  pub executed-again : (d : List (Definition S)) (o : Placed (Operation S))
      → IsExecutable s this d o → ExecutedAgain d o
  executed-again d o x =
      let a = document-again d x.read.spelled in
      let p = chosen-again d a.again a.places o x.ready.chosen in
      record {
        again = a.again;
        operation = p.0;
        executable = record {
          read = read-again d a.again a.places a.only x.read;
          ready = record {
            chosen = p.1;
            takes_values = takes-again o p.0 p.2 x.ready.takes_values;
            root = x.ready.root;
            served = served-alike o p.0 p.2 ∙ x.ready.served;
          };
        };
        documents = a.places;
        operations = p.2;
        same_operations =
            operations-same o.item p.0.item (ap (λ (z : Placed (Operation S)). z.item) (sym p.2));
      }

  pub executed-alike : IsExecuted s this → IsExecuted s that
  executed-alike x =
      let r = executed-again x.document x.operation x.executable in
      record { document = r.again; operation = r.operation; executable = r.executable }

  -- ---- what is refused

  pub refused-at-alike : (step : RequestStep) → IsRefusedAt s this step → IsRefusedAt s that step
  refused-at-alike _ (no_document fault r) =
      let f = refused_alike s.reads s.of_bool (chars one) (chars other) alike fault r in no_document
      f.0 f.1
  refused-at-alike _ (not_valid d only invalid) =
      let a = document-again d only.spelled in
      not_valid a.again a.only (λ v. invalid (valid a.again d (sym a.places)
      root.introspection_disabled v))
  refused-at-alike _ (not_chosen d why read is) =
      let a = document-again d read.spelled in
      not_chosen a.again why (read-again d a.again a.places a.only read)
      (unchosen-again d a.again a.places why is)
  refused-at-alike _ (takes_not d o read is takes) =
      let a = document-again d read.spelled in
      let p = chosen-again d a.again a.places o is in
      takes_not a.again p.0 (read-again d a.again a.places a.only read) p.1
      (λ t. takes (takes-before o p.0 p.2 t))
  refused-at-alike _ (not_served d o why read is takes unserved) =
      let a = document-again d read.spelled in
      let p = chosen-again d a.again a.places o is in
      not_served a.again p.0 why (read-again d a.again a.places a.only read) p.1
      (takes-again o p.0 p.2 takes)
      (served-alike o p.0 p.2 ∙ unserved)
