-- What a text's tokens spell is spelled by the tokens within its place.
use Rattle.std.proofs.Common.{◌≡◌, refl, sym, ◌∙◌, ap, subst, inl, inr, ℕ, zero, suc, Bool, false, List, [], ◌∷◌, ◌++◌, map, Option, Some, None, Result, append_assoc}
use Rattle.std.specs.Option.{option_map}
use Rattle.graphql_names.specs.Names.{Bytes}
use Rattle.graphql_text.specs.declared.position.Span.{Span}
use Rattle.graphql_text.specs.declared.token.Token.{Token}
use Rattle.graphql_text.specs.declared.token.Token.TheVariants as t
use Rattle.graphql_text.specs.declared.token.ScalarToken.{ScalarToken}
use Rattle.graphql_text.specs.declared.parse_error.ParseError.{ParseError}
use Rattle.graphql_values.specs.declared.input_value.InputValue.{InputValue}
use Rattle.graphql_values.specs.InputValues.{unplaced, unlocated}
use Rattle.graphql_grammar.specs.Input.{At, Located}
use Rattle.graphql_grammar.specs.Alike.{tokens_of}
use Rattle.graphql_grammar.specs.Relations.{span_of, OptionOf, absent, present, AllFrom, none_more, one_more}
use Rattle.graphql_tree.specs.Arguments.{Argument}
use Rattle.graphql_tree.specs.Documents.{arguments_in}
use Rattle.graphql_tree.specs.declared.directive.Arguments.{Arguments}
use Rattle.graphql_tree.specs.declared.document.Fragment.{Fragment}
use Rattle.graphql_tree.specs.declared.selection.Field.{Field}
use Rattle.graphql_tree.specs.declared.selection.FragmentSpread.{FragmentSpread}
use Rattle.graphql_tree.specs.declared.selection.InlineFragment.{InlineFragment}
use Rattle.graphql_tree.specs.declared.selection.Selection.{Selection}
use Rattle.graphql_tree.specs.Unlocated.{without_place}
use Rattle.graphql_value_syntax.specs.ReadTypes.{TypeRef}
use Rattle.graphql_value_syntax.specs.Values.{ValueOf, of_true, of_false, of_null, of_enum, of_scalar, of_variable, of_list, of_object}
use Rattle.graphql_value_syntax.specs.Types.{TypeOf, of_nullable, of_non_null}
use Rattle.graphql_value_syntax.specs.Directives.{Named, ArgumentOf, ArgumentsOf}
use Rattle.graphql_value_syntax.proofs.ValueLaws.{name_token, closed_end}
use Rattle.graphql_language.specs.Selections.{TypeConditionOf, NamesOf, SelectionOf, of_field, of_spread, of_inline, FieldOf, of_parts, InlineOf, of_inline_parts, MaybeSetOf, no_set, some_set, SetOf, of_set, SelectionsOf, one_selection, more_selections}
use Rattle.graphql_written_out.specs.Trees.{Directives, Tree, none}
use Rattle.graphql_written_out.specs.Written.{listed, fragment_meant, head_of, condition_of, response_key, Before, chain, spread_as, write_with, write_one, write}
use Rattle.graphql_written_out.proofs.WrittenEquations.{write_field, write_spread, write_inline}
use Rattle.graphql_plain_text.specs.Again.{Again}
use Rattle.graphql_plain_text.specs.Spelt.{IsSpelt, AreSpelt}
use Rattle.graphql_lexer.specs.Within.{within}
use Rattle.graphql_plain_text.specs.SpanTokens.{tokens_within}
use Rattle.graphql_plain_text.specs.SpelledTrees.{ValueIsSpelled, TypeIsSpelled, ArgumentsAreSpelled, NamesAreSpelt, NameIsSpelt, HeadIsSpelled, TreeIsSpelled}
use Rattle.graphql_plain_text.proofs.RisingTokens.{Climb, within-self}
use Rattle.graphql_plain_text.proofs.AgainParts.{again_value, again_type}

-- some tokens among those of a text
pub record Inside (ts us : List Located) : Type 0 where
  pub front : List Located
  pub back : List Located
  pub is : ts ≡ front ++ (us ++ back)

pub first-part : (ts us vs : List Located) → Inside ts (us ++ vs) → Inside ts us
first-part ts us vs h =
    record {
      front = h.front;
      back = vs ++ h.back;
      is = h.is ∙ ap (λ l. h.front ++ l)
          (append_assoc us vs h.back);
    }

pub second-part : (ts us vs : List Located) → Inside ts (us ++ vs) → Inside ts vs
second-part ts us vs h =
    record {
      front = h.front ++ us;
      back = h.back;
      is = h.is ∙ ap (λ l. h.front ++ l)
          (append_assoc us vs h.back) ∙ sym (append_assoc h.front us (vs ++ h.back));
    }

pub same-part : (ts us vs : List Located) → us ≡ vs → Inside ts us → Inside ts vs
same-part ts us vs e h = subst (Inside ts) e h

-- between a first and a last token
pub middle-part : (ts us inside : List Located) (a b : Located) → us ≡ a ∷ (inside ++ b ∷ [])
    → Inside ts us → Inside ts inside
middle-part ts us inside a b e h =
    first-part ts inside (b ∷ []) (second-part ts (a ∷ []) (inside ++ b ∷ [])
    (same-part ts us (a ∷ (inside ++ b ∷ [])) e h))

-- each token of a text is spelt
later-spelt : (front us : List Located) → AreSpelt (tokens_of (front ++ us))
    → AreSpelt (tokens_of us)
later-spelt [] us h = h
later-spelt (a ∷ front) us h = later-spelt front us h.1

pub token-spelt : (ts : List Located) (a : Located) (us : List Located) → AreSpelt (tokens_of ts)
    → Inside ts (a ∷ us) → IsSpelt a.item
token-spelt ts a us spelt h =
    (later-spelt h.front ((a ∷ us) ++ h.back) (subst (λ l. AreSpelt (tokens_of l)) h.is spelt)).0

pub named-spelt : (ts us : List Located) (n : At Bytes) → AreSpelt (tokens_of ts) → Inside ts us
    → Named us n → IsSpelt (t.Name n.item)
named-spelt ts us n spelt h d =
    let m = d.spells in
    let is : m.at.item ≡ t.Name n.item =
    name_token m.at.item m.of_kind ∙ ap (λ z. t.Name z) (sym m.means) in
    subst IsSpelt is (token-spelt ts m.at [] spelt (same-part ts us (m.at ∷ []) m.alone h))

module _ {S : Type 0} (reads : ScalarToken → Result S ParseError) (of_bool : Bool → S) where
  -- the place of a value begins with its first token and ends with its last
  starts : (c : Bool) (us : List Located) (x : At (InputValue S)) → ValueOf S reads of_bool c us x
      → (a : Located) × (rest : List Located) × (us ≡ a ∷ rest) × (x.span ≡ span_of a rest)
  starts c _ _ (of_true a h) = (a, [], refl, refl)
  starts c _ _ (of_false a h) = (a, [], refl, refl)
  starts c _ _ (of_null a h) = (a, [], refl, refl)
  starts c _ _ (of_enum a n is h) = (a, [], refl, refl)
  starts c _ _ (of_scalar a token s is r) = (a, [], refl, refl)
  starts c _ _ (of_variable a b n e h is) = (a, b ∷ [], refl, refl)
  starts c _ _ (of_list a b ts xs h m u) = (a, ts ++ b ∷ [], refl, sym (closed_end a b ts))
  starts c _ _ (of_object a b ts ps h m u) = (a, ts ++ b ∷ [], refl, sym (closed_end a b ts))

  type-starts : (us : List Located) (x : At TypeRef) → TypeOf us x
      → (a : Located) × (rest : List Located) × (us ≡ a ∷ rest) × (x.span ≡ span_of a rest)
  type-starts _ _ (of_nullable a ts x d) = (a, ts, refl, refl)
  type-starts _ _ (of_non_null a b ts x d h) = (a, ts ++ b ∷ [], refl, sym (closed_end a b ts))

  module _ (ts : List Located) (rises : Climb 0 ts) where
    abbrev spelled : Span → List Token
    spelled = tokens_within ts

    -- the tokens within the place of some of a text's tokens
    within-place : (us : List Located) (span : Span) → Inside ts us
        → (a : Located) × (rest : List Located) × (us ≡ a ∷ rest) × (span ≡ span_of a rest)
        → spelled span ≡ tokens_of us
    within-place us span h (a, rest, is, stands) =
        let whole : ts ≡ h.front ++ ((a ∷ rest) ++ h.back) =
        h.is ∙ ap (λ l. h.front ++ (l ++ h.back)) is in
        let found : within ts (span_of a rest) ≡ a ∷ rest =
        subst (λ l. within l (span_of a rest) ≡ a ∷ rest) (sym whole)
        (within-self h.front a rest h.back (subst (Climb 0) whole rises)) in
        ap (λ z. tokens_of (within ts z)) stands ∙ ap tokens_of found ∙ ap tokens_of (sym is)

    pub value-spelled : (c : Bool) (us : List Located) (x : At (InputValue S)) → Inside ts us
        → ValueOf S reads of_bool c us x → ValueIsSpelled S reads of_bool spelled c x
    value-spelled c us x h d =
        subst (λ l. Again (ValueOf S reads of_bool c) (without_place unlocated) l
        (unplaced (unlocated x.item))) (sym (within-place us x.span h (starts c us x d)))
        (again_value reads of_bool c us x d)

    pub type-spelled : (us : List Located) (x : At TypeRef) → Inside ts us → TypeOf us x
        → TypeIsSpelled S reads of_bool spelled x
    type-spelled us x h d =
        subst (λ l. Again TypeOf (without_place (λ t. t)) l (unplaced x.item))
        (sym (within-place us x.span h (type-starts us x d))) (again_type reads of_bool us x d)

    -- where each token of the text is spelt
    module _ (spelt : AreSpelt (tokens_of ts)) where
      -- ---- arguments

      abbrev GoodArguments : List (Argument S) → Type 0
      GoodArguments xs = NamesAreSpelt xs × ArgumentsAreSpelled S reads of_bool spelled xs

      pushed : (xs : List (Argument S)) (x : Argument S) → GoodArguments xs → GoodArguments (x ∷ [])
          → GoodArguments (xs ++ x ∷ [])
      pushed [] x h one = one
      pushed (y ∷ ys) x h one =
          let r = pushed ys x (h.0.1, h.1.1) one in ((h.0.0, r.0), (h.1.0, r.1))

      argument-good : (us : List Located) (x : Argument S) → Inside ts us
          → ArgumentOf S reads of_bool false us x → GoodArguments (x ∷ [])
      argument-good us x h d =
          let inner = d.ends in
          let made = inner.ends in
          let whole = same-part ts us (d.front ++ d.back) d.is h in
          let name =
          named-spelt ts d.front d.part spelt (first-part ts d.front d.back whole) d.begins in
          let rest =
          same-part ts d.back (inner.front ++ inner.back) inner.is
          (second-part ts d.front d.back whole) in
          let value =
          value-spelled false inner.back made.part (second-part ts inner.front inner.back rest)
          made.spells in
          subst (λ z. GoodArguments (z ∷ [])) (sym made.is) ((name, tt), (value, tt))

      arguments-from : (found : List (Argument S)) (us : List Located) (xs : List (Argument S))
          → Inside ts us → GoodArguments found
          → AllFrom (ArgumentOf S reads of_bool false) found us xs → GoodArguments xs
      arguments-from found _ _ h good none_more = good
      arguments-from found _ _ h good (one_more vs us xs x d r) =
          pushed xs x (arguments-from found vs xs (first-part ts vs us h) good d)
          (argument-good us x (second-part ts vs us h) r)

      arguments-good : (us : List Located) (o : Option (At (Arguments S))) → Inside ts us
          → OptionOf (ArgumentsOf S reads of_bool false) us o → GoodArguments (arguments_in o)
      arguments-good _ _ h absent = (tt, tt)
      arguments-good _ _ h (present us x d) =
          let made = d.spells in
          let between = made.spells in
          let some = between.spells in
          let inside =
          same-part ts between.inside (some.front ++ some.back) some.is
          (middle-part ts us between.inside between.first between.last between.is h) in
          let one =
          argument-good some.front some.part (first-part ts some.front some.back inside)
          some.begins in
          let all =
          arguments-from (some.part ∷ []) some.back made.part
          (second-part ts some.front some.back inside) one some.ends in
          subst (λ (z : Arguments S). GoodArguments z.items) (sym made.is) all

      -- ---- names

      pub record NamesGood (alias : Option (At Bytes)) (name : At Bytes) : Type 0 where
        pub key : IsSpelt (t.Name (response_key alias name))
        pub own : IsSpelt (t.Name name.item)

      names-good : (us : List Located) (x : Option (At Bytes) × At Bytes) → Inside ts us
          → NamesOf us x → NamesGood x.0 x.1
      names-good us x h d =
          let whole = same-part ts us (d.front ++ d.back) d.is h in
          let first =
          named-spelt ts d.front d.part spelt (first-part ts d.front d.back whole) d.begins in
          elim d.ends [
            | inl r ↦ (let behind =
                same-part ts d.back (r.front ++ r.back) r.is
                (second-part ts d.front d.back whole) in
                let made = r.ends in
                let own =
                named-spelt ts r.back made.part spelt (second-part ts r.front r.back behind)
                made.spells in
                subst (λ (z : Option (At Bytes) × At Bytes). NamesGood z.0 z.1) (sym made.is)
                (record { key = first; own = own }))
            | inr r ↦
                subst (λ (z : Option (At Bytes) × At Bytes). NamesGood z.0 z.1) (sym r.is)
                (record { key = first; own = first })
          ]

      condition-good : (us : List Located) (o : Option (At Bytes)) → Inside ts us
          → OptionOf TypeConditionOf us o → NameIsSpelt (option_map (λ n. n.item) o)
      condition-good _ _ h absent = tt
      condition-good _ _ h (present us x d) =
          named-spelt ts d.back x spelt (second-part ts d.front d.back
          (same-part ts us (d.front ++ d.back) d.is h)) d.ends

      -- ---- selections, with a way to write spreads that is good

      abbrev Good : Tree S → Type 0
      Good = TreeIsSpelled S reads of_bool spelled

      module _ (r : FragmentSpread S → Before S)
          (spread-good : (x : FragmentSpread S) (rest : Tree S) → Good rest → Good (r x rest)) where
        abbrev w : Selection S → Before S
        w = write_with r

        chain-push : (xs : List (Selection S)) (x : Selection S) (rest : Tree S)
            → chain (map w (xs ++ x ∷ [])) rest ≡ chain (map w xs) (w x rest)
        chain-push [] x rest = refl
        chain-push (y ∷ ys) x rest = ap (w y) (chain-push ys x rest)

        mutual
          selection-good : {us : List Located} {x : Selection S} → SelectionOf S reads of_bool us x
              → Inside ts us → (rest : Tree S) → Good rest → Good (w x rest)
          selection-good (of_field us x stands d) h rest good =
              subst Good (sym (write_field r x rest))
              (let f = field-good d h x.span in (f.0, f.1, good))
          selection-good (of_spread us x d) h rest good =
              subst Good (sym (write_spread r x rest)) (spread-good x.item rest good)
          selection-good (of_inline us x stands d) h rest good =
              subst Good (sym (write_inline r x rest)) (let f = inline-good d h in (f.0, f.1, good))

          field-good : {us : List Located} {x : Field S} → FieldOf S reads of_bool us x
              → Inside ts us → (at : Span)
              → HeadIsSpelled S reads of_bool spelled (head_of (record { item = x; span = at }))
              × Good (chain (map w (listed x.selection_set)) none)
          field-good (of_parts ns gs ds ss x n g m p) h at =
              let names =
              names-good ns (x.alias, x.name) (first-part ts ns (gs ++ (ds ++ ss)) h) n in
              let behind = second-part ts ns (gs ++ (ds ++ ss)) h in
              let arguments =
              arguments-good gs x.arguments (first-part ts gs (ds ++ ss) behind) g in
              let head : HeadIsSpelled S reads of_bool spelled
              (head_of (record { item = x; span = at })) =
              record {
                key = names.key;
                name = names.own;
                names = arguments.0;
                arguments = arguments.1;
              } in
              (head, maybe-good p (second-part ts ds ss (second-part ts gs (ds ++ ss) behind)))

          inline-good : {us : List Located} {x : InlineFragment S} → InlineOf S reads of_bool us x
              → Inside ts us
              → NameIsSpelt (condition_of x) × Good (chain (map w x.selection_set) none)
          inline-good (of_inline_parts ps cs ds ss x e c m p) h =
              let behind = second-part ts ps (cs ++ (ds ++ ss)) h in (
                condition-good cs x.type_condition (first-part ts cs (ds ++ ss) behind) c,
                set-good p (second-part ts ds ss (second-part ts cs (ds ++ ss) behind)),
              )

          maybe-good : {us : List Located} {o : Option (List (Selection S))}
              → MaybeSetOf S reads of_bool us o → Inside ts us
              → Good (chain (map w (listed o)) none)
          maybe-good no_set h = tt
          maybe-good (some_set us xs d) h = set-good d h

          pub set-good : {us : List Located} {xs : List (Selection S)} → SetOf S reads of_bool us xs
              → Inside ts us → Good (chain (map w xs) none)
          set-good (of_set a b us xs opens d closes) h =
              selections-good d (middle-part ts (a ∷ (us ++ b ∷ [])) us a b refl h) none tt

          selections-good : {us : List Located} {xs : List (Selection S)}
              → SelectionsOf S reads of_bool us xs → Inside ts us → (rest : Tree S) → Good rest
              → Good (chain (map w xs) rest)
          selections-good (one_selection us x d) h rest good = selection-good d h rest good
          selections-good (more_selections vs us xs x d e) h rest good =
              subst Good (sym (chain-push xs x rest))
              (selections-good d (first-part ts vs us h) (w x rest)
              (selection-good e (second-part ts vs us h) rest good))

      -- ---- to a depth

      -- the fragments stand in the text
      abbrev pub FragmentsStand : List (Fragment S) → Type 0
      FragmentsStand fragments =
          (f : Fragment S) (name : Bytes) → fragment_meant fragments name ≡ Some f
          → IsSpelt (t.Name f.type_condition.item)
          × ((us : List Located) × Inside ts us × SetOf S reads of_bool us f.selection_set)

      meant-good : (depth : ℕ) (fragments : List (Fragment S)) (ds : Directives S) (rest : Tree S)
          (o : Option (Fragment S))
          → ((f : Fragment S) → o ≡ Some f
          → IsSpelt (t.Name f.type_condition.item) × Good (write depth fragments f.selection_set))
          → Good rest
          → Good (spread_as (λ set. chain (map (write_one depth fragments) set) none) ds rest o)
      meant-good depth fragments ds rest None h good = good
      meant-good depth fragments ds rest (Some f) h good = let r = h f refl in (r.0, r.1, good)

      pub write-good : (depth : ℕ) (fragments : List (Fragment S)) → FragmentsStand fragments
          → {us : List Located} {xs : List (Selection S)} → SetOf S reads of_bool us xs
          → Inside ts us → Good (write depth fragments xs)
      write-good zero fragments stand d h = set-good (λ x rest. rest) (λ x rest good. good) d h
      write-good (suc depth) fragments stand d h =
          set-good
          (λ x rest. spread_as (λ set. chain (map (write_one depth fragments) set) none)
          (listed x.directives) rest (fragment_meant fragments x.name.item))
          (λ x rest good.
          meant-good depth fragments (listed x.directives) rest
          (fragment_meant fragments x.name.item)
          (λ f is.
          let st = stand f x.name.item is in
          (st.0, write-good depth fragments stand st.1.2 st.1.1)) good)
          d h
