-- The definitions of a document stand in its text, with their names, variables and sets.
use Rattle.std.proofs.Common.{◌≡◌, sym, ◌∙◌, ap, subst, inl, inr, Bool, true, false, List, [], ◌∷◌, ◌++◌, map, Option, Some, Result, cond, append-nil}
use Rattle.std.specs.List.{All, Contains}
use Rattle.std.specs.Option.{option_map}
use Rattle.std.specs.Str.{bytes_eq}
use Rattle.std.proofs.lemmas.List.Elements.{All-nil, All-cons, All-head, All-tail, All-push, All-contains}
use Rattle.graphql_names.specs.Names.{Bytes}
use Rattle.graphql_text.specs.declared.position.Span.{Span}
use Rattle.graphql_text.specs.declared.token.Token.{Token}
use Rattle.graphql_text.specs.declared.token.Token.TheVariants as t
use Rattle.graphql_text.specs.declared.token.ScalarToken.{ScalarToken}
use Rattle.graphql_text.specs.declared.parse_error.ParseError.{ParseError}
use Rattle.graphql_values.specs.declared.input_value.InputValue.{InputValue}
use Rattle.graphql_grammar.specs.Alike.{tokens_of}
use Rattle.graphql_grammar.specs.Input.{At, Located}
use Rattle.graphql_grammar.specs.Relations.{OptionOf, absent, present, AllFrom, none_more, one_more}
use Rattle.graphql_tree.specs.Definitions.{fragments_of}
use Rattle.graphql_tree.specs.Documents.{variables_in}
use Rattle.graphql_tree.specs.Variables.{Variable}
use Rattle.graphql_tree.specs.declared.document.Definition.{Definition}
use Rattle.graphql_tree.specs.declared.document.Definition.TheVariants as d
use Rattle.graphql_tree.specs.declared.document.Fragment.{Fragment}
use Rattle.graphql_tree.specs.declared.document.Operation.{Operation}
use Rattle.graphql_tree.specs.declared.variable.VariableDefinitions.{VariableDefinitions}
use Rattle.graphql_tree.specs.declared.selection.Selection.{Selection}
use Rattle.graphql_value_syntax.specs.Directives.{Named, DefaultOf, VariableDefinitionOf, VariableDefinitionsOf}
use Rattle.graphql_value_syntax.proofs.ValueLaws as values
use Rattle.graphql_language.specs.Selections.{SetOf}
use Rattle.graphql_language.specs.Documents.{OperationOf, FragmentOf, DefinitionOf, DocumentOf}
use Rattle.graphql_written_out.specs.Written.{fragment_meant}
use Rattle.graphql_plain_text.specs.SpanTokens.{tokens_within}
use Rattle.graphql_plain_text.specs.SpelledTrees.{TypeIsSpelled, DefaultIsSpelled, NameIsSpelt}
use Rattle.graphql_plain_text.specs.Spelt.{IsSpelt, AreSpelt}
use Rattle.graphql_plain_text.proofs.RisingTokens.{Climb}
use Rattle.graphql_plain_text.proofs.SpelledSets.{Inside, first-part, second-part, same-part, middle-part, token-spelt, named-spelt, value-spelled, type-spelled}

module _ {S : Type 0} (reads : ScalarToken → Result S ParseError) (of_bool : Bool → S)
    (ts : List Located) (rises : Climb 0 ts) (spelt : AreSpelt (tokens_of ts)) where
  abbrev own : Span → List Token
  own = tokens_within ts

  -- ---- variables

  pub record VariableStands (v : Variable S) : Type 0 where
    pub name : IsSpelt (t.Name v.0.item)
    pub type : TypeIsSpelled S reads of_bool own v.1.var_type
    pub default : DefaultIsSpelled S reads of_bool own v.1.default_value

  default-stands : (us : List Located) (o : Option (At (InputValue S))) → Inside ts us
      → OptionOf (DefaultOf S reads of_bool) us o → DefaultIsSpelled S reads of_bool own o
  default-stands _ _ h absent = tt
  default-stands _ _ h (present us x r) =
      value-spelled reads of_bool ts rises true r.back x
      (second-part ts r.front r.back (same-part ts us (r.front ++ r.back) r.is h)) r.ends

  variable-stands : (us : List Located) (v : Variable S) → Inside ts us
      → VariableDefinitionOf S reads of_bool us v → VariableStands v
  variable-stands us v h one =
      let name = one.part in
      let whole = same-part ts us (one.front ++ one.back) one.is h in
      let dollar_name = one.begins.spells in
      let m = dollar_name.ends in
      let at_name = second-part ts dollar_name.front dollar_name.back
      (same-part ts one.front (dollar_name.front ++ dollar_name.back) dollar_name.is
      (first-part ts one.front one.back whole)) in
      let is : m.at.item ≡ t.Name name.item =
      values.name_token m.at.item m.of_kind ∙ ap (λ z. t.Name z) (sym m.means) in
      let named : IsSpelt (t.Name name.item) =
      subst IsSpelt is (token-spelt ts m.at [] spelt
      (same-part ts dollar_name.back (m.at ∷ []) m.alone at_name)) in
      let two = one.ends in
      let at_two =
      same-part ts one.back (two.front ++ two.back) two.is
      (second-part ts one.front one.back whole) in
      let three = two.ends in
      let at_three =
      same-part ts two.back (three.front ++ three.back) three.is
      (second-part ts two.front two.back at_two) in
      let four = three.ends in
      let at_four =
      same-part ts three.back (four.front ++ four.back) four.is
      (second-part ts three.front three.back at_three) in
      subst VariableStands (sym four.ends.is) (record {
        name = named;
        type =
            type-spelled reads of_bool ts rises three.front three.part
            (first-part ts three.front three.back at_three) three.begins;
        default =
            default-stands four.front four.part (first-part ts four.front four.back at_four)
            four.begins;
      })

  variables-from : (found : List (Variable S)) (us : List Located) (xs : List (Variable S))
      → Inside ts us → All VariableStands found
      → AllFrom (VariableDefinitionOf S reads of_bool) found us xs → All VariableStands xs
  variables-from found _ _ h good none_more = good
  variables-from found _ _ h good (one_more vs us xs x r e) =
      All-push VariableStands xs x (variables-from found vs xs (first-part ts vs us h) good r)
      (variable-stands us x (second-part ts vs us h) e)

  variables-stand : (us : List Located) (o : Option (At (VariableDefinitions S))) → Inside ts us
      → OptionOf (VariableDefinitionsOf S reads of_bool) us o
      → All VariableStands (variables_in o)
  variables-stand _ _ h absent = All-nil VariableStands
  variables-stand _ _ h (present us x r) =
      let made = r.spells in
      let between = made.spells in
      let some = between.spells in
      let inside =
      same-part ts between.inside (some.front ++ some.back) some.is
      (middle-part ts us between.inside between.first between.last between.is h) in
      let one =
      variable-stands some.front some.part (first-part ts some.front some.back inside)
      some.begins in
      let all =
      variables-from (some.part ∷ []) some.back made.part
      (second-part ts some.front some.back inside)
      (All-cons VariableStands some.part [] one (All-nil VariableStands)) some.ends in
      subst (λ (z : VariableDefinitions S). All VariableStands z.items) (sym made.is) all

  -- ---- definitions

  abbrev pub SetStands : List (Selection S) → Type 0
  SetStands set = (us : List Located) × Inside ts us × SetOf S reads of_bool us set

  abbrev Stands : Definition S → Type 0
  Stands x = (us : List Located) × Inside ts us × DefinitionOf S reads of_bool us x

  stand-from : (found : List (Definition S)) (us : List Located) (xs : List (Definition S))
      → Inside ts us → All Stands found
      → AllFrom (DefinitionOf S reads of_bool) found us xs → All Stands xs
  stand-from found _ _ h good none_more = good
  stand-from found _ _ h good (one_more vs us xs x r e) =
      All-push Stands xs x (stand-from found vs xs (first-part ts vs us h) good r)
      (us, second-part ts vs us h, e)

  all-stand : (document : List (Definition S)) → DocumentOf S reads of_bool ts document
      → All Stands document
  all-stand document r =
      let whole : Inside ts (r.front ++ r.back) =
      record { front = []; back = []; is = r.is ∙ sym (append-nil (r.front ++ r.back)) } in
      stand-from (r.part ∷ []) r.back document (second-part ts r.front r.back whole)
      (All-cons Stands r.part [] (r.front, first-part ts r.front r.back whole, r.begins)
      (All-nil Stands)) r.ends

  no-operation : (x : At (Fragment S)) (y : At (Operation S))
      → Path (Definition S) (d.Fragment x) (d.Operation y) → ⊥
  no-operation x y e = cc

  -- ---- fragments

  abbrev FragmentStands : Fragment S → Type 0
  FragmentStands f = IsSpelt (t.Name f.type_condition.item) × SetStands f.selection_set

  fragment-stands : (us : List Located) (x : At (Fragment S)) → Inside ts us
      → FragmentOf S reads of_bool us x → FragmentStands x.item
  fragment-stands us x h r =
      let one = r.spells in
      let at_one = same-part ts us (one.front ++ one.back) one.is h in
      let two = one.ends in
      let at_two =
      same-part ts one.back (two.front ++ two.back) two.is
      (second-part ts one.front one.back at_one) in
      let three = two.ends in
      let at_three =
      same-part ts two.back (three.front ++ three.back) three.is
      (second-part ts two.front two.back at_two) in
      let on = three.begins in
      let at_on =
      same-part ts three.front (on.front ++ on.back) on.is
      (first-part ts three.front three.back at_three) in
      let condition =
      named-spelt ts on.back three.part spelt (second-part ts on.front on.back at_on) on.ends in
      let four = three.ends in
      let at_four =
      same-part ts three.back (four.front ++ four.back) four.is
      (second-part ts three.front three.back at_three) in
      let made = four.ends in
      subst FragmentStands (sym made.is) (
        condition,
        (four.back, second-part ts four.front four.back at_four, made.spells),
      )

  -- where its test is known
  found-stands : (b : Bool) (x f : Fragment S) (o : Option (Fragment S)) → FragmentStands x
      → (o ≡ Some f → FragmentStands f) → cond b (Some x) o ≡ Some f → FragmentStands f
  found-stands true x f o good h e = subst FragmentStands (let same : x ≡ f = cc in same) good
  found-stands false x f o good h e = h e

  abbrev FragmentIf : Definition S → Type 0
  FragmentIf (d.Fragment y) = FragmentStands y.item
  FragmentIf (d.Operation y) = Unit {0}

  defined-stands : (us : List Located) (x : At (Fragment S)) → Inside ts us
      → DefinitionOf S reads of_bool us (d.Fragment x) → FragmentStands x.item
  defined-stands us x h (inl m) = subst FragmentIf (sym m.is) (fragment-stands us m.part h m.spells)
  defined-stands us x h (inr m) = absurd (no-operation x m.part m.is)

  meant-stands : (document : List (Definition S)) → All Stands document
      → (f : Fragment S) (name : Bytes)
      → fragment_meant (map (λ (x : At (Fragment S)). x.item) (fragments_of document)) name ≡ Some f
      → FragmentStands f
  meant-stands [] h f name e = absurd (cc)
  meant-stands (d.Operation o ∷ ds) h f name e =
      meant-stands ds (All-tail Stands (d.Operation o) ds h) f name e
  meant-stands (d.Fragment x ∷ ds) h f name e =
      let st = All-head Stands (d.Fragment x) ds h in
      let good : FragmentStands x.item = defined-stands st.0 x st.1 st.2 in
      found-stands (bytes_eq x.item.name.item name) x.item f _ good
      (meant-stands ds (All-tail Stands (d.Fragment x) ds h) f name) e

  -- a fragment that is meant stands in the text
  pub fragments-stand : (document : List (Definition S)) → DocumentOf S reads of_bool ts document
      → (f : Fragment S) (name : Bytes)
      → fragment_meant (map (λ (x : At (Fragment S)). x.item) (fragments_of document)) name ≡ Some f
      → FragmentStands f
  fragments-stand document r = meant-stands document (all-stand document r)

  -- ---- operations

  pub record OperationStands (o : Operation S) : Type 0 where
    pub name : NameIsSpelt (option_map (λ n. n.item) o.name)
    pub variables : All VariableStands (variables_in o.variable_definitions)
    pub set : SetStands o.selection_set

  name-stands : (us : List Located) (o : Option (At Bytes)) → Inside ts us → OptionOf Named us o
      → NameIsSpelt (option_map (λ n. n.item) o)
  name-stands _ _ h absent = tt
  name-stands _ _ h (present us x r) = named-spelt ts us x spelt h r

  operation-stands : (us : List Located) (x : At (Operation S)) → Inside ts us
      → OperationOf S reads of_bool us x → OperationStands x.item
  operation-stands us x h r = elim r.spells [
    | inl m ↦ subst OperationStands (sym m.is) (record {
      name = tt;
      variables = All-nil
          VariableStands;
      set = (us, h, m.spells);
    })
    | inr one ↦ (let at_one = same-part ts us (one.front ++ one.back) one.is h in
        let two = one.ends in
        let at_two =
        same-part ts one.back (two.front ++ two.back) two.is
        (second-part ts one.front one.back at_one) in
        let three = two.ends in
        let at_three =
        same-part ts two.back (three.front ++ three.back) three.is
        (second-part ts two.front two.back at_two) in
        let four = three.ends in
        let at_four =
        same-part ts three.back (four.front ++ four.back) four.is
        (second-part ts three.front three.back at_three) in
        let made = four.ends in
        subst OperationStands (sym made.is) (record {
          name =
              name-stands two.front two.part (first-part ts two.front two.back at_two) two.begins;
          variables =
              variables-stand three.front three.part (first-part ts three.front three.back at_three)
              three.begins;
          set = (four.back, second-part ts four.front four.back at_four, made.spells);
        }))
  ]

  abbrev OperationIf : Definition S → Type 0
  OperationIf (d.Fragment y) = Unit {0}
  OperationIf (d.Operation y) = OperationStands y.item

  given-stands : (us : List Located) (x : At (Operation S)) → Inside ts us
      → DefinitionOf S reads of_bool us (d.Operation x) → OperationStands x.item
  given-stands us x h (inl m) = absurd (no-operation m.part x (sym m.is))
  given-stands us x h (inr m) = subst OperationIf (sym m.is) (operation-stands us m.part h m.spells)

  -- an operation of the document stands in the text
  pub operations-stand : (document : List (Definition S)) → DocumentOf S reads of_bool ts document
      → (o : At (Operation S)) → Contains document (d.Operation o)
      → OperationStands o.item
  operations-stand document r o inside =
      let st = All-contains Stands document (d.Operation o) (all-stand document r) inside in
      given-stands st.0 o st.1 st.2
