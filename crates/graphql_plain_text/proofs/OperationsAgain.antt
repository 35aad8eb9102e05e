-- The tokens of a plain operation spell its document wherever they stand.
use Rattle.std.proofs.Common.{◌≡◌, refl, sym, ◌∙◌, ap, inr, Bool, true, false, List, [], ◌∷◌, ◌++◌, map, Option, Some, None, Result, append-nil}
use Rattle.std.specs.List.{flat_map}
use Rattle.std.specs.Option.{option_map}
use Rattle.graphql_names.specs.Names.{Bytes}
use Rattle.graphql_text.specs.declared.position.Span.{Span}
use Rattle.graphql_text.specs.declared.token.Token.{Token}
use Rattle.graphql_text.specs.declared.token.Token.TheVariants as t
use Rattle.graphql_text.specs.declared.token.ScalarToken.{ScalarToken}
use Rattle.graphql_text.specs.declared.parse_error.ParseError.{ParseError}
use Rattle.graphql_values.specs.declared.input_value.InputValue.{InputValue}
use Rattle.graphql_values.specs.InputValues.{Placed as Positioned, unplaced, unlocated}
use Rattle.graphql_grammar.specs.declared.kind.Kind.TheVariants as k
use Rattle.graphql_grammar.specs.Kinds.{kind, names}
use Rattle.graphql_grammar.specs.Steps.{name_of}
use Rattle.graphql_grammar.specs.Relations.{TokenOf, Then, Placed, OptionOf, none_more}
use Rattle.graphql_grammar.proofs.Cursors.{word_is_name}
use Rattle.graphql_tree.specs.Variables.{Variable}
use Rattle.graphql_tree.specs.declared.document.Operation.{Operation}
use Rattle.graphql_tree.specs.declared.document.OperationType.{OperationType}
use Rattle.graphql_tree.specs.declared.document.OperationType.TheVariants as operation
use Rattle.graphql_tree.specs.declared.document.Definition.TheVariants as d
use Rattle.graphql_tree.specs.Unlocated.{without_place, unlocated_name, unlocated_directives, unlocated_variable, unlocated_variables, unlocated_operation, unlocated_definition, unlocated_document}
use Rattle.graphql_value_syntax.specs.Values.{ValueOf}
use Rattle.graphql_value_syntax.specs.Types.{TypeOf}
use Rattle.graphql_value_syntax.specs.Directives.{Sign, NameOf, Named, DirectivesOf, DefaultOf, VariableDefinitionOf, VariableDefinitionsOf}
use Rattle.graphql_language.specs.ReadDocuments.{operation_words, operation_type_of}
use Rattle.graphql_language.specs.Selections.{SetOf}
use Rattle.graphql_language.specs.Documents.{OperationOf, DocumentOf}
use Rattle.graphql_plain_tree.specs.PlainDocuments.{definitions_as, selections_of, operation_as, document_of}
use Rattle.graphql_plain_tree.specs.PlainOperations.{PlainOperation}
use Rattle.graphql_plain_text.specs.Again.{Again, EachAgain}
use Rattle.graphql_plain_text.specs.TreeTokens.{in_parentheses, in_braces, keyword, name_token, default_tokens, selection_tokens, variable_tokens, operation_tokens}
use Rattle.graphql_plain_text.specs.SpelledTrees.{DefaultIsSpelled, VariableIsSpelled, VariablesAreSpelled, IsSpelledOperation}
use Rattle.graphql_plain_text.proofs.AgainSteps.{again_token, again_then, again_made, again_placed, again_absent, again_present, again_right, again_between, again_some, again_end}
use Rattle.graphql_plain_text.proofs.DirectivesAgain.{again_name, again_sign, no_directives}
use Rattle.graphql_plain_text.proofs.SelectionsAgain.{seen, again_set, both}

module _ {S : Type 0} (reads : ScalarToken → Result S ParseError) (of_bool : Bool → S) where
  -- ---- variables

  abbrev see_variable : Variable S → Variable S
  see_variable x = (unlocated_name x.0, unlocated_variable x.1)

  again_default : (spelled : Span → List Token) (o : Option (Positioned (InputValue S)))
      → DefaultIsSpelled S reads of_bool spelled o
      → Again (OptionOf (DefaultOf S reads of_bool)) (option_map (without_place unlocated))
      (default_tokens spelled o) (option_map (without_place unlocated) o)
  again_default spelled None good = again_absent _ _
  again_default spelled (Some x) good =
      again_present (DefaultOf S reads of_bool) (without_place unlocated) _ _
      (again_then (Sign k.Equals) (λ u. ValueOf S reads of_bool true) (λ u. u)
      (without_place unlocated) (t.Equals ∷ []) (spelled x.span) tt (unplaced (unlocated x.item))
      (again_sign k.Equals t.Equals refl) (λ u e. good))

  again_variable : (spelled : Span → List Token) (x : Variable S)
      → VariableIsSpelled S reads of_bool spelled x
      → Again (VariableDefinitionOf S reads of_bool) see_variable (variable_tokens spelled x)
      (see_variable x)
  again_variable spelled x good =
      let goal : Variable S = see_variable x in
      let defaults = default_tokens spelled x.1.default_value in
      again_then (Placed (Then (Sign k.Dollar) (λ u. NameOf))) _ unlocated_name see_variable
      ((t.Dollar ∷ []) ++ (t.Name x.0.item ∷ [])) ((t.Colon ∷ [])
      ++ (spelled x.1.var_type.span ++ defaults)) (unplaced x.0.item) goal
      (again_placed _ (λ m. m) t.Dollar (t.Name x.0.item ∷ []) x.0.item
      (again_then (Sign k.Dollar) (λ u. NameOf) (λ u. u) (λ m. m) (t.Dollar ∷ [])
      (t.Name x.0.item ∷ []) tt x.0.item (again_sign k.Dollar t.Dollar refl)
      (λ u e. again_token names name_of (t.Name x.0.item) (word_is_name x.0.item)))) (λ n e.
      again_then (Sign k.Colon) _ (λ u. u) see_variable (t.Colon ∷ [])
      (spelled x.1.var_type.span ++ defaults) tt goal (again_sign k.Colon t.Colon refl) (λ u f.
      again_then TypeOf _ (without_place (λ y. y)) see_variable (spelled x.1.var_type.span) defaults
      (unplaced x.1.var_type.item) goal good.0 (λ ty g.
      again_end _ see_variable defaults goal (
      again_then (OptionOf (DefaultOf S reads of_bool)) _ (option_map (without_place unlocated))
      see_variable defaults [] (option_map (without_place unlocated) x.1.default_value) goal
      (again_default spelled x.1.default_value good.1) (λ de l.
      again_made (λ ds. (n, record { var_type = ty; default_value = de; directives = ds }))
      (DirectivesOf S reads of_bool true) unlocated_directives see_variable [] None goal
      (no_directives reads of_bool true)
      (λ y m i. (
        e i,
        record {
          var_type = g i;
          default_value = l i;
          directives
              = (m ∙ sym (ap unlocated_directives good.2)) i;
        },
      )))))))

  each_variable : (spelled : Span → List Token) (xs : List (Variable S))
      → VariablesAreSpelled S reads of_bool spelled xs
      → EachAgain (VariableDefinitionOf S reads of_bool) see_variable (variable_tokens spelled)
      see_variable xs
  each_variable spelled [] good = tt
  each_variable spelled (x ∷ xs) good =
      (again_variable spelled x good.0, each_variable spelled xs good.1)

  again_variables : (spelled : Span → List Token) (xs : List (Variable S))
      → VariablesAreSpelled S reads of_bool spelled xs
      → Again (OptionOf (VariableDefinitionsOf S reads of_bool))
      (option_map (without_place unlocated_variables)) (in_parentheses (variable_tokens spelled) xs)
      (option_map (without_place unlocated_variables) (definitions_as xs))
  again_variables spelled [] good = again_absent _ _
  again_variables spelled (x ∷ xs) good =
      let inside = variable_tokens spelled x ++ flat_map (variable_tokens spelled) xs in
      again_present (VariableDefinitionsOf S reads of_bool) (without_place unlocated_variables) _ _
      (again_placed _ unlocated_variables t.ParenOpen (inside ++ (t.ParenClose ∷ []))
      (record { items = map see_variable (x ∷ xs) })
      (again_made (λ ps. record { items = ps }) _ (map see_variable) unlocated_variables _
      (map see_variable (x ∷ xs)) (record { items = map see_variable (x ∷ xs) })
      (again_between _ k.ParenOpen k.ParenClose (map see_variable) t.ParenOpen t.ParenClose inside _
      refl refl
      (again_some (VariableDefinitionOf S reads of_bool) see_variable (variable_tokens spelled)
      see_variable x xs (each_variable spelled (x ∷ xs) good)))
      (λ y h. ap (λ z. record { items = z }) h)))

  -- ---- the operation

  is_word : (o : OperationType) → operation_words (kind (t.Name (keyword o))) ≡ true
  is_word operation.Query = refl
  is_word operation.Mutation = refl
  is_word operation.Subscription = refl

  word_means : (o : OperationType) → operation_type_of (t.Name (keyword o)) ≡ o
  word_means operation.Query = refl
  word_means operation.Mutation = refl
  word_means operation.Subscription = refl

  again_type : (o : OperationType)
      → Again (TokenOf operation_words operation_type_of) (λ z. z) (t.Name (keyword o) ∷ []) o
  again_type o us h =
      let r = again_token operation_words operation_type_of (t.Name (keyword o)) (is_word o) us h in
      (r.0, r.1, r.2 ∙ word_means o)

  again_operation_name : (o : Option Bytes)
      → Again (OptionOf Named) (option_map unlocated_name) (name_token o)
      (option_map unlocated_name (option_map unplaced o))
  again_operation_name None = again_absent Named unlocated_name
  again_operation_name (Some n) = again_present Named unlocated_name _ (unplaced n) (again_name n)

  again_operation : (spelled : Span → List Token) (p : PlainOperation S)
      → IsSpelledOperation S reads of_bool spelled p
      → Again (OperationOf S reads of_bool) (without_place unlocated_operation)
      (operation_tokens spelled p) (unplaced (unlocated_operation (operation_as p)))
  again_operation spelled p good =
      let goal : Operation S = unlocated_operation (operation_as p) in
      let sets = in_braces (selection_tokens spelled p.set) in
      let variables = in_parentheses (variable_tokens spelled) p.variables in
      again_placed _ unlocated_operation (t.Name (keyword p.operation_type))
      (name_token p.name ++ (variables ++ ([] ++ sets))) goal
      (again_right _ _ unlocated_operation _ goal
      (again_then (TokenOf operation_words operation_type_of) _ (λ z. z) unlocated_operation
      (t.Name (keyword p.operation_type) ∷ []) (name_token p.name ++ (variables ++ ([] ++ sets)))
      p.operation_type goal (again_type p.operation_type) (λ ty e.
      again_then (OptionOf Named) _ (option_map unlocated_name) unlocated_operation
      (name_token p.name) (variables ++ ([] ++ sets))
      (option_map unlocated_name (option_map unplaced p.name)) goal (again_operation_name p.name)
      (λ n f.
      again_then (OptionOf (VariableDefinitionsOf S reads of_bool)) _
      (option_map (without_place unlocated_variables)) unlocated_operation variables ([] ++ sets)
      (option_map (without_place unlocated_variables) (definitions_as p.variables)) goal
      (again_variables spelled p.variables good.variables) (λ vs g.
      again_then (DirectivesOf S reads of_bool false) _ unlocated_directives unlocated_operation []
      sets None goal (no_directives reads of_bool false) (λ ds l.
      again_made (λ ss. record {
        operation_type = ty;
        name = n;
        variable_definitions = vs;
        directives = ds;
        selection_set = ss;
      }) (SetOf S reads of_bool) seen unlocated_operation sets
      (seen (selections_of p.set)) goal
      (again_set reads of_bool (selection_tokens spelled p.set) (seen (selections_of p.set))
      ((both reads of_bool spelled p.set good.shaped good.tree).0 good.some))
      (λ y m i. record {
        operation_type = e i;
        name = f i;
        variable_definitions = g i;
        directives
            = l i;
        selection_set = m i;
      })))))))

  pub again_document : (spelled : Span → List Token) (p : PlainOperation S)
      → IsSpelledOperation S reads of_bool spelled p
      → Again (DocumentOf S reads of_bool) unlocated_document (operation_tokens spelled p)
      (unlocated_document (document_of p))
  again_document spelled p good us h =
      let r =
      again_made d.Operation (OperationOf S reads of_bool) (without_place unlocated_operation)
      unlocated_definition (operation_tokens spelled p)
      (unplaced (unlocated_operation (operation_as p)))
      (unlocated_definition (d.Operation (unplaced (operation_as p))))
      (again_operation spelled p good) (λ y m. ap d.Operation m) us h in (
        r.0 ∷ [],
        record {
          front = us;
          back = [];
          is = sym (append-nil us);
          part = r.0;
          begins = inr
              r.1;
          ends = none_more;
        },
        ap (λ z. z ∷ []) r.2,
      )
