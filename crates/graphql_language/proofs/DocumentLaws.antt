-- Documents: the law of each production.
use Rattle.std.proofs.Common.{ℕ, Bool, true, false, List, [], ◌∷◌, ◌++◌, Result, ap, ◌∙◌, sym, refl, subst, arith}
use Rattle.std.proofs.lemmas.List.{append-nil}
use Rattle.std.specs.Prelude.{codes}
use Rattle.graphql_text.specs.declared.token.Token.TheVariants as t
use Rattle.graphql_text.specs.declared.token.ScalarToken.{ScalarToken}
use Rattle.graphql_text.specs.declared.parse_error.ParseError.{ParseError}
use Rattle.graphql_tree.specs.declared.document.Definition.{Definition}
use Rattle.graphql_tree.specs.declared.document.Definition.TheVariants as d
use Rattle.graphql_grammar.specs.declared.kind.Kind.TheVariants as k
use Rattle.graphql_grammar.specs.Kinds.{only, either, no_kind, names}
use Rattle.graphql_grammar.specs.Input.{Located, Fault}
use Rattle.graphql_grammar.specs.Relations.{Nothing, Then, AllFrom}
use Rattle.graphql_grammar.specs.Faults.{BadScalar, GoodScalar}
use Rattle.graphql_grammar.proofs.Law.{Law, law_bind, law_made, law_is, law_wider}
use Rattle.graphql_grammar.proofs.Choices.{law_token, law_expect, law_when, law_optional, law_located}
use Rattle.graphql_grammar.proofs.Loops.{Takes, law_all_from}
use Rattle.graphql_grammar.proofs.Recursion.{uses_law}
use Rattle.graphql_grammar.proofs.Ends.{not_end, law_finished}
use Rattle.graphql_language.specs.ReadDocuments.{operation_words, operation_type_of, definition_kinds, query_of, full_operation, operation, fragment, definition, document}
use Rattle.graphql_language.specs.Documents.{FullOperationOf, OperationOf, FragmentOf, DefinitionOf, DocumentOf}
use Rattle.graphql_value_syntax.proofs.ValueLaws.{law_placed_name}
use Rattle.graphql_value_syntax.proofs.DirectiveLaws.{law_directives, law_variables}
use Rattle.graphql_language.proofs.SelectionLaws.{law_fragment_name, law_condition, law_set}

module _ {S : Type 0} (reads : ScalarToken → Result S ParseError) (of_bool : Bool → S) where
  abbrev Bad : Located → Fault → Type 0
  Bad = BadScalar reads

  abbrev Good : Located → Type 0
  Good = GoodScalar reads

  law_full : (n : ℕ) → Law Bad Good true operation_words no_kind (FullOperationOf S reads of_bool) n (full_operation reads of_bool)
  unfolding full_operation
  law_full n = law_bind Bad Good refl (law_token operation_words operation_type_of Bad Good (t.Name (codes "query")) refl refl) (λ o.
      law_bind Bad Good refl (law_optional Bad Good names refl (law_placed_name Bad Good)) (λ m.
      law_bind Bad Good refl (law_optional Bad Good (only k.ParenOpen) refl (law_variables reads of_bool _)) (λ vs.
      law_bind Bad Good refl (law_directives reads of_bool false _) (λ ds.
      law_made Bad Good (λ ss. record { operation_type = o; name = m; variable_definitions = vs; directives = ds; selection_set = ss }) (law_set reads of_bool _)))))

  law_operation : (n : ℕ) → Law Bad Good true (either (only k.CurlyOpen) operation_words) no_kind (OperationOf S reads of_bool) n (operation reads of_bool)
  unfolding operation
  law_operation n = law_located Bad Good refl refl (law_when Bad Good (only k.CurlyOpen) refl refl (law_made Bad Good (query_of {S = S}) (law_set reads of_bool n)) (law_full n))

  law_fragment : (n : ℕ) → Law Bad Good true (only k.Fragment) no_kind (FragmentOf S reads of_bool) n (fragment reads of_bool)
  unfolding fragment
  law_fragment n = law_located Bad Good refl refl (law_bind Bad Good refl (law_expect Bad Good k.Fragment refl) (λ u.
      law_bind Bad Good refl (law_fragment_name Bad Good) (λ m.
      law_bind Bad Good refl (law_condition Bad Good) (λ c.
      law_bind Bad Good refl (law_directives reads of_bool false _) (λ ds.
      law_made Bad Good (λ ss. record { name = m; type_condition = c; directives = ds; selection_set = ss }) (law_set reads of_bool _))))))

  law_definition : (n : ℕ) → Law Bad Good true definition_kinds no_kind (DefinitionOf S reads of_bool) n (definition reads of_bool)
  unfolding definition
  law_definition n = law_wider Bad Good definition_kinds no_kind refl refl (law_when Bad Good (only k.Fragment) refl refl (law_made Bad Good d.Fragment (law_fragment n)) (law_made Bad Good d.Operation (law_operation n)))

  takes_definition : Takes (definition reads of_bool)
  takes_definition i x j r = let l = uses_law Bad Good law_definition i x j r in omega arith

  -- some definitions, and nothing behind them
  abbrev Whole : List Located → List (Definition S) → Type 0
  Whole = Then (DefinitionOf S reads of_bool) (λ x. Then (AllFrom (DefinitionOf S reads of_bool) (x ∷ [])) (λ xs. Nothing xs))

  there : (ts : List Located) (xs : List (Definition S)) → Whole ts xs → DocumentOf S reads of_bool ts xs
  there ts xs r = let m = r.ends in let e = m.ends in record {
    front = r.front;
    back = m.front;
    part = r.part;
    begins = r.begins;
    is = r.is ∙ ap (λ us. r.front ++ us) (m.is ∙ ap (λ us. m.front ++ us) e.empty ∙ append-nil m.front);
    ends = subst (λ ys. AllFrom (DefinitionOf S reads of_bool) (r.part ∷ []) m.front ys) (sym e.is) m.begins;
  }

  back : (ts : List Located) (xs : List (Definition S)) → DocumentOf S reads of_bool ts xs → Whole ts xs
  back ts xs r = record {
    front = r.front;
    back = r.back;
    is = r.is;
    part = r.part;
    begins = r.begins;
    ends = record { front = r.back; back = []; is = sym (append-nil r.back); part = xs; begins = r.ends; ends = record { empty = refl; is = refl } };
  }

  pub law_document : (n : ℕ) → Law Bad Good true definition_kinds not_end (DocumentOf S reads of_bool) n (document reads of_bool)
  unfolding document
  law_document n = law_is Bad Good there back (law_wider Bad Good definition_kinds not_end refl refl (law_bind Bad Good refl (law_definition n) (λ x.
      law_bind Bad Good refl (law_all_from definition_kinds (definition reads of_bool) refl takes_definition Bad Good definition_kinds no_kind (DefinitionOf S reads of_bool) refl refl _ (law_definition _) (x ∷ []))
      (λ xs. law_finished xs Bad Good))))
