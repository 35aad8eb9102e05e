-- What is read of a line is what its request asks.
use Rattle.std.proofs.Common.{◌≡◌, ◌≤◌, ℕ, List, [], Option, inl, inr, option_map, refl, sym, ap, subst, ◌∙◌, string_bytes}
use Rattle.std.specs.HashMap.{get_by_text}
use Rattle.std.specs.List.Sorted.{IsSorted}
use Rattle.std.specs.Str.{chars}
use Rattle.graphql_names.specs.Names.{Bytes}
use Rattle.graphql_text.specs.Memory.{UnlessMemory}
use Rattle.graphql_text.specs.Refusals.{IsLexical, IsMemory}
use Rattle.graphql_values.specs.declared.input_value.InputValue.{InputValue}
use Rattle.graphql_grammar.specs.Input.{Fault}
use Rattle.graphql_lexer.specs.Records.{IsRecorded, Recorded}
use Rattle.graphql_tree.specs.Definitions.{fragments_listed}
use Rattle.graphql_tree.specs.Documents.{variables_in}
use Rattle.graphql_tree.specs.declared.document.Definition.{Definition}
use Rattle.graphql_written_out.specs.FinalValues.{final_value}
use Rattle.graphql_written_out.specs.Written.{Settled}
use Rattle.graphql_schema.specs.Declarations.{declarations_of}
use Rattle.graphql_schema.specs.declared.root_node.RootNode.{RootNode}
use Rattle.graphql_schema.specs.declared.schema.SchemaType.{SchemaType}
use Rattle.graphql_plain_tree.specs.Plain.{size}
use Rattle.graphql_plain_tree.specs.PlainOperations.{PlainOperation, plain_operation, variables_used}
use Rattle.graphql_plain_text.specs.PlainTexts.{plain_text}
use Rattle.graphql_plain_print.specs.NameSets.{AreSame}
use Rattle.graphql_requests.specs.Faults.{refusal_of}
use Rattle.graphql_requests.specs.Operations.{chosen}
use Rattle.graphql_requests.specs.Refusals.{IsRead, IsReady, IsStopped, IsUnread, errors_of}
use Rattle.graphql_requests.proofs.FaultLemmas.{fault-told}
use Rattle.graphql_executor.specs.Answered.{Asking, IsExecutable, IsRefused, ReadsValid}
use Rattle.graphql_executor.specs.Requests.{GraphQLError}
use Rattle.graphql_executor.specs.Requests as error
use Rattle.graphql_lines.specs.declared.request.GraphQLRequest.{GraphQLRequest}
use Rattle.graphql_service.specs.Answers.{Answerer, IsNotExecuted, asked_by}
use Rattle.graphql_service.specs.Reading.{Executes}
use Rattle.graphql_service.specs.declared.accepted.AcceptedRequest.{AcceptedRequest}
use Rattle.graphql_service.proofs.WrittenAnswers.{as_asked}
use Rattle.graphql_stores.specs.Laws.{HasPlainUsing}
use Rattle.graphql_stores.specs.Reading.{AsksRequest, ReadsAccepted, ReadsDocument, asking_of}

module _ {S C N X : Type 0} (a : Answerer S C N X) (line : Bytes) (request : GraphQLRequest S) where
  -- of the request that a line asks
  module _ (r : AsksRequest a line request) where
    at-line : (P : Asking S C → Type 0) → P (asking_of a request) → P (asked_by a line r.asked)
    at-line P h =
        as_asked a line r.asked request (string_bytes request.query)
        (option_map (λ t. string_bytes t) request.operation_name) r.holds refl refl r.asks P h

    pub refused-read : (why : GraphQLError) → IsRefused a.scalars (asking_of a request) a.by_rules why
        → (why ≡ error.Memory → ⊥) → IsNotExecuted a line why
    refused-read why due is = record {
      request = r.asked;
      asks = r.asks;
      is_refusal = is;
      due = at-line (λ q. IsRefused a.scalars q a.by_rules why) due;
    }

    -- its text has a lexical fault
    pub lexical-read : (fault : Fault)
        → UnlessMemory IsMemory fault (IsLexical (chars (string_bytes request.query)) fault)
        → IsSorted a.by_rules [] → (refusal_of fault ≡ error.Memory → ⊥)
        → IsNotExecuted a line (refusal_of fault)
    lexical-read fault h sorted =
        fault-told (IsLexical (chars (string_bytes request.query)))
        (λ why. (why ≡ error.Memory → ⊥) → IsNotExecuted a line why)
        (λ f lexical is. refused-read (error.ParseError f)
        (inl (record { unread = inl lexical; sorted = sorted })) is)
        (λ is. absurd (is refl)) fault.item fault h

    -- over a root node that is the service's
    module _ (node : RootNode S C) (its_schema : node.schema ≡ a.schema)
        (its_choice : node.introspection_disabled ≡ a.introspection_disabled) where
      -- its text is not read
      pub unread : (why : GraphQLError)
          → IsUnread a.scalars (declarations_of node.schema) node.introspection_disabled
          (chars (string_bytes request.query)) why
          → IsSorted a.by_rules (errors_of why) → (why ≡ error.Memory → ⊥) → IsNotExecuted a line why
      unread why h sorted is =
          refused-read why (inl (record {
            unread =
                subst (λ x. IsUnread a.scalars (declarations_of x) a.introspection_disabled
                (chars (string_bytes request.query)) why) its_schema
                (subst (λ b. IsUnread a.scalars (declarations_of node.schema) b
                (chars (string_bytes request.query)) why) its_choice h);
            sorted = sorted;
          })) is

      -- its text is read
      pub document-read : (records : Recorded) → IsRecorded (chars (string_bytes request.query)) records
          → (document lent : List (Definition S)) → lent ≡ document
          → IsRead a.scalars (declarations_of node.schema) node.introspection_disabled
          (chars (string_bytes request.query)) document
          → ReadsDocument a line request records lent
      document-read records recorded document lent same h = record {
        asks = r;
        recorded = recorded;
        read =
            subst (λ (x : List (Definition S)). ReadsValid a.scalars (asking_of a request) x) (sym same)
            (subst (λ x. IsRead a.scalars (declarations_of x) a.introspection_disabled
            (chars (string_bytes request.query)) document) its_schema
            (subst (λ b. IsRead a.scalars (declarations_of node.schema) b
            (chars (string_bytes request.query)) document) its_choice h));
      }

  -- of the document that is read of it, by a schema that is the service's, and a name that is the request's
  module _ (records : Recorded) (document : List (Definition S))
      (d : ReadsDocument a line request records document) (schema : SchemaType S C)
      (its_schema : schema ≡ a.schema) (name : Option Bytes)
      (its_name : name ≡ option_map (λ t. string_bytes t) request.operation_name) where
    -- why none of its operations is executed
    pub stopped-read : (why : GraphQLError)
        → IsStopped a.scalars schema (get_by_text request.variables) (chosen name document) why
        → IsSorted a.by_rules (errors_of why) → (why ≡ error.Memory → ⊥) → IsNotExecuted a line why
    stopped-read why h sorted is =
        refused-read d.asks why (inr (record {
          document = document;
          read = d.read;
          stopped =
              subst (λ x. IsStopped a.scalars x (get_by_text request.variables)
              (chosen (option_map (λ t. string_bytes t) request.operation_name) document) why) its_schema
              (subst (λ n. IsStopped a.scalars schema (get_by_text request.variables)
              (chosen n document) why) its_name h);
          sorted = sorted;
        })) is

    -- one of its operations is executed
    pub accepted-read : (accepted : AcceptedRequest S) → accepted.document.now ≡ document
        → accepted.variables.now ≡ request.variables → Settled (fragments_listed document)
        → IsReady a.scalars schema (get_by_text request.variables) (chosen name document)
        accepted.operation.now
        → ReadsAccepted a line accepted records
    accepted-read accepted its_document its_values settled h =
        let ready : IsReady a.scalars a.schema (get_by_text request.variables)
        (chosen (option_map (λ t. string_bytes t) request.operation_name) document)
        accepted.operation.now =
        subst (λ x. IsReady a.scalars x (get_by_text request.variables)
        (chosen (option_map (λ t. string_bytes t) request.operation_name) document)
        accepted.operation.now) its_schema
        (subst (λ n. IsReady a.scalars schema (get_by_text request.variables) (chosen n document)
        accepted.operation.now) its_name h) in
        let executable : IsExecutable a.scalars (asking_of a request) document accepted.operation.now =
        record { read = d.read; ready = ready } in
        record {
          asks = record {
            executes = record {
              request = d.asks.asked;
              asks = d.asks.asks;
              executable =
                  subst (λ (x : List (Definition S)). IsExecutable a.scalars
                  (asked_by a line d.asks.asked) x accepted.operation.now) (sym its_document)
                  (at-line d.asks (λ q. IsExecutable a.scalars q document accepted.operation.now)
                  executable);
              values = ap get_by_text its_values ∙ (λ i key. d.asks.holds.variables.values key i);
            };
            settled =
                subst (λ (x : List (Definition S)). Settled (fragments_listed x)) (sym its_document)
                settled;
          };
          recorded =
              subst (λ q. IsRecorded (chars q) records) d.asks.holds.query d.recorded;
        }

-- what is printed of a request that is accepted is its plain text, with the variables that it uses
pub has-plain : {S C N X : Type 0} (a : Answerer S C N X) (line : Bytes)
    (accepted : AcceptedRequest S) (records : Recorded)
    → (r : ReadsAccepted a line accepted records) → (size_limit own : ℕ) → size_limit ≡ own
    → (plain : Bytes) (names : List Bytes)
    → (let p = plain_operation a.scalars.answer a.scalars.of_bool
    (final_value (get_by_text accepted.variables.now)
    (variables_in accepted.operation.now.item.variable_definitions))
    (fragments_listed accepted.document.now) accepted.operation.now.item in
    ((plain ≡ plain_text records.tokens p) × (size p.set ≤ size_limit))
    → AreSame names (variables_used p.set) → HasPlainUsing a own line plain names)
has-plain {S} a line accepted records r size_limit own same plain names h uses =
    let x = r.asks.executes in
    let plain_by : (Bytes → Option (InputValue S)) → PlainOperation S = λ v.
    plain_operation a.scalars.answer a.scalars.of_bool
    (final_value v (variables_in accepted.operation.now.item.variable_definitions))
    (fragments_listed accepted.document.now) accepted.operation.now.item in
    let found : HasPlainUsing a size_limit line plain names = record {
      has = record {
        request = x.request;
        asks = x.asks;
        is = record {
          plain = record {
            document = accepted.document.now;
            operation = accepted.operation.now;
            executable = x.executable;
            tokens = records.tokens;
            finish = records.finish;
            cut = r.recorded;
            is = subst (λ v. plain ≡ plain_text records.tokens (plain_by v)) x.values h.0;
          };
          fits = subst (λ v. size (plain_by v).set ≤ size_limit) x.values h.1;
        };
      };
      uses = subst (λ v. AreSame names (variables_used (plain_by v).set)) x.values uses;
    } in
    subst (λ n. HasPlainUsing a n line plain names) same found
