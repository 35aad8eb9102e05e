-- Selections: the law of each production.
use Rattle.std.proofs.Common.{◌≡◌, ℕ, zero, suc, inl, inr, Bool, true, false, List, [], ◌∷◌, ◌++◌, Option, Some, None, Result, ap, ◌∙◌, sym, refl, subst, append_assoc, arith}
use Rattle.std.proofs.lemmas.List.{append-nil}
use Rattle.std.specs.Prelude.{codes}
use Rattle.graphql_text.specs.declared.token.Token.TheVariants as t
use Rattle.graphql_text.specs.declared.token.ScalarToken.{ScalarToken}
use Rattle.graphql_text.specs.declared.parse_error.ParseError.{ParseError}
use Rattle.graphql_tree.specs.declared.directive.Arguments.{Arguments}
use Rattle.graphql_tree.specs.declared.directive.Directive.{Directive}
use Rattle.graphql_tree.specs.declared.selection.Field.{Field}
use Rattle.graphql_tree.specs.declared.selection.InlineFragment.{InlineFragment}
use Rattle.graphql_tree.specs.declared.selection.Selection.{Selection}
use Rattle.graphql_tree.specs.declared.selection.Selection.TheVariants as s
use Rattle.graphql_grammar.specs.declared.kind.Kind.TheVariants as k
use Rattle.graphql_grammar.specs.Kinds.{Kinds, only, either, no_kind, names, fragment_names}
use Rattle.graphql_grammar.specs.Input.{At, Input, Located, Fault, peek, peek_kind, next}
use Rattle.graphql_grammar.specs.Steps.{sees, token, name_of, name_in, located, all_from, until_from}
use Rattle.graphql_grammar.specs.Ahead.{Free}
use Rattle.graphql_grammar.specs.Relations.{Then, Made, Placed, Between, AllFrom, none_more, one_more, SomeOf, OptionOf, absent, present, EitherOf}
use Rattle.graphql_grammar.specs.Faults.{BadScalar, GoodScalar}
use Rattle.graphql_grammar.proofs.Stops.{Sentence}
use Rattle.graphql_grammar.proofs.Law.{Law, law_bind, law_pure, law_made, law_is, law_fewer, law_same, law_zero, law_wider}
use Rattle.graphql_grammar.proofs.Choices.{law_token, law_expect, law_when, law_optional, law_located}
use Rattle.graphql_grammar.proofs.Loops.{law_some_between}
use Rattle.graphql_grammar.proofs.Begins.{BeginsWith, begins_token, begins_bind, begins_when, begins_located, begins_same}
use Rattle.graphql_value_syntax.specs.ReadDirectives.{directives}
use Rattle.graphql_language.specs.ReadSelections.{field_names, type_condition, Spread, spreads, inlines, made_spread, selection_of, fragment_spread, made_field, selection_set, inline_fragment, spread, field, selection_layer, selection_from, selection}
use Rattle.graphql_value_syntax.specs.Values.{spanned}
use Rattle.graphql_value_syntax.specs.Directives.{Sign, ArgumentsOf, DirectivesOf}
use Rattle.graphql_language.specs.Selections.{FragmentNamed, TypeConditionOf, NamesOf, Stands, SelectionOf, of_field, of_spread, of_inline, FieldOf, of_parts, InlineOf, of_inline_parts, MaybeSetOf, no_set, some_set, SetOf, of_set, SelectionsOf, one_selection, more_selections}
use Rattle.graphql_value_syntax.proofs.ValueDepth.{value_uses}
use Rattle.graphql_value_syntax.proofs.ValueLaws.{law_placed_name}
use Rattle.graphql_value_syntax.proofs.DirectiveLaws.{law_arguments, law_directives}
use Rattle.graphql_language.proofs.SelectionDepth.{selection_unfolds, takes_selection, selection_at_end}

-- what a selection begins with
abbrev pub selection_kinds : Kinds
selection_kinds = either (only k.Ellipsis) names

-- what can't follow a selection, as it would be part of it
abbrev pub selection_stops : Kinds
selection_stops k.Colon = true
selection_stops k.ParenOpen = true
selection_stops k.At = true
selection_stops k.CurlyOpen = true
selection_stops w = false

module _ (Bad : Located → Fault → Type 0) (Good : Located → Type 0) where
  law_names : {n : ℕ} → Law Bad Good true names (only k.Colon) NamesOf n field_names
  unfolding field_names
  law_names = law_wider Bad Good names (only k.Colon) refl refl (law_bind Bad Good refl (law_placed_name Bad Good) (λ a.
      law_when Bad Good (only k.Colon) refl refl (law_bind Bad Good refl (law_expect Bad Good k.Colon refl) (λ u. law_made Bad Good (λ b. (Some a, b)) (law_placed_name Bad Good))) (law_pure Bad Good (None, a))))

  pub law_fragment_name : {n : ℕ} → Law Bad Good true fragment_names no_kind FragmentNamed n (located (name_in fragment_names))
  law_fragment_name = law_located Bad Good refl refl (law_token fragment_names name_of Bad Good (t.Name []) refl refl)

  pub law_condition : {n : ℕ} → Law Bad Good true (only k.On) no_kind TypeConditionOf n type_condition
  unfolding type_condition
  law_condition = law_bind Bad Good refl (law_expect Bad Good k.On refl) (λ u. law_placed_name Bad Good)

module _ {S : Type 0} (reads : ScalarToken → Result S ParseError) (of_bool : Bool → S) where
  abbrev Bad : Located → Fault → Type 0
  Bad = BadScalar reads

  abbrev Good : Located → Type 0
  Good = GoodScalar reads

  abbrev Of : List Located → Selection S → Type 0
  Of = SelectionOf S reads of_bool

  abbrev Directed : List Located → Option (List (At (Directive S))) → Type 0
  Directed = DirectivesOf S reads of_bool false

  abbrev Given : List Located → Option (At (Arguments S)) → Type 0
  Given = OptionOf (ArgumentsOf S reads of_bool false)

  abbrev pub SelectionLaw : ℕ → Type 0
  SelectionLaw n = Law Bad Good true selection_kinds selection_stops Of n (selection reads of_bool)

  unfolds : (i : Input) → selection reads of_bool i ≡ selection_layer reads of_bool (selection reads of_bool) i
  unfolds = selection_unfolds reads of_bool (value_uses reads of_bool)

  -- ---- sets, and what stands behind three points

  abbrev SetIs : List Located → List (Selection S) → Type 0
  SetIs = Between (SomeOf Of) k.CurlyOpen k.CurlyClose

  law_set_of : (n : ℕ) → SelectionLaw n → Law Bad Good true (only k.CurlyOpen) no_kind SetIs (suc n) (selection_set reads of_bool (selection reads of_bool))
  unfolding selection_set
  law_set_of n l = law_some_between k.CurlyClose (selection reads of_bool) refl (takes_selection reads of_bool (value_uses reads of_bool)) (selection_at_end reads of_bool (value_uses reads of_bool)) Bad Good selection_kinds selection_stops Of refl refl
      k.CurlyOpen refl refl refl refl (suc n) (law_fewer Bad Good (omega arith) l)

  abbrev SpreadIs : List Located → Spread S → Type 0
  SpreadIs = Then FragmentNamed (λ m. Made (λ ds. spreads (record { name = m; directives = ds })) Directed)

  abbrev InlineIs : List Located → Spread S → Type 0
  InlineIs = Then (OptionOf TypeConditionOf) (λ c. Then Directed (λ ds. Made (λ ss. inlines (record { type_condition = c; directives = ds; selection_set = ss })) SetIs))

  law_fragment_spread : {n : ℕ} → Law Bad Good true fragment_names selection_stops SpreadIs n (fragment_spread reads of_bool)
  unfolding fragment_spread
  law_fragment_spread = law_wider Bad Good fragment_names selection_stops refl refl (law_bind Bad Good refl (law_fragment_name Bad Good) (λ m. law_made Bad Good (λ ds. spreads (record { name = m; directives = ds })) (law_directives reads of_bool false _)))

  inline_kinds : Kinds
  inline_kinds k.On = true
  inline_kinds k.At = true
  inline_kinds k.CurlyOpen = true
  inline_kinds w = false

  law_inline : (n : ℕ) → SelectionLaw n → Law Bad Good true inline_kinds selection_stops InlineIs (suc n) (inline_fragment reads of_bool (selection reads of_bool))
  unfolding inline_fragment inline_kinds
  law_inline n l = law_wider Bad Good inline_kinds selection_stops refl refl (law_bind Bad Good refl (law_optional Bad Good (only k.On) refl (law_condition Bad Good)) (λ c.
      law_bind Bad Good refl (law_directives reads of_bool false _) (λ ds. law_made Bad Good (λ ss. inlines (record { type_condition = c; directives = ds; selection_set = ss })) (law_fewer Bad Good (omega arith) (law_set_of n l)))))

  PointsIs : List Located → At (Spread S) → Type 0
  PointsIs = Placed (Then (Sign k.Ellipsis) (λ u. EitherOf SpreadIs InlineIs))

  law_spread : (n : ℕ) → SelectionLaw n → Law Bad Good true (only k.Ellipsis) selection_stops PointsIs (suc n) (spread reads of_bool (selection reads of_bool))
  unfolding spread PointsIs inline_kinds
  law_spread n l = law_located Bad Good refl refl (law_wider Bad Good (only k.Ellipsis) selection_stops refl refl (law_bind Bad Good refl (law_expect Bad Good k.Ellipsis refl) (λ u.
      law_when Bad Good fragment_names refl refl law_fragment_spread (law_fewer Bad Good (omega arith) (law_inline n l)))))

  -- ---- fields

  abbrev FieldIs : List Located → Field S → Type 0
  FieldIs = Then NamesOf (λ ns. Then Given (λ args. Then Directed (λ ds. Made (made_field ns args ds) (OptionOf SetIs))))

  law_field : (n : ℕ) → SelectionLaw n → Law Bad Good true names selection_stops FieldIs (suc n) (field reads of_bool (selection reads of_bool))
  unfolding field
  law_field n l = law_wider Bad Good names selection_stops refl refl (law_bind Bad Good refl (law_names Bad Good) (λ ns.
      law_bind Bad Good refl (law_optional Bad Good (only k.ParenOpen) refl (law_arguments reads of_bool false _)) (λ args.
      law_bind Bad Good refl (law_directives reads of_bool false _) (λ ds.
      law_made Bad Good (made_field ns args ds) (law_optional Bad Good (only k.CurlyOpen) refl (law_fewer Bad Good (omega arith) (law_set_of n l)))))))

  -- ---- a selection

  LayerIs : List Located → Selection S → Type 0
  LayerIs = EitherOf (Made selection_of PointsIs) (Made s.Field (Placed FieldIs))

  law_layer : (n : ℕ) → SelectionLaw n → Law Bad Good true selection_kinds selection_stops LayerIs (suc n) (selection_layer reads of_bool (selection reads of_bool))
  unfolding selection_layer LayerIs
  law_layer n l = law_wider Bad Good selection_kinds selection_stops refl refl (law_when Bad Good (only k.Ellipsis) refl refl (law_made Bad Good selection_of (law_spread n l)) (law_made Bad Good s.Field (law_located Bad Good refl refl (law_field n l))))

  begins_field : BeginsWith names (field reads of_bool (selection reads of_bool))
  unfolding field field_names
  begins_field = begins_bind _ (begins_bind _ (begins_located (begins_token names name_of)))

  selection_begins : BeginsWith selection_kinds (selection reads of_bool)
  unfolding selection_layer
  selection_begins = begins_same unfolds (begins_when (only k.Ellipsis) _ (begins_bind _ (begins_located begins_field)))

  selection_sentence : Sentence Bad Good (Free selection_stops) (selection reads of_bool)
  unfolding selection selection_from selection_layer spread inline_fragment selection_set field field_names directives all_from until_from sees peek_kind peek token next
  selection_sentence f e =
      let three : Located = record { item = t.Ellipsis; span = f } in let open_ : Located = record { item = t.CurlyOpen; span = f } in let a : Located = record { item = t.Name (codes "a"); span = f } in let close : Located = record { item = t.CurlyClose; span = f } in
      record {
        more = three ∷ open_ ∷ a ∷ close ∷ [];
        last = f.end;
        reads_on = λ zs h. refl;
        tree = s.InlineFragment (spanned three (record {
          type_condition = None;
          directives = None;
          selection_set = s.Field (spanned a (record { alias = None; name = spanned a (codes "a") a; arguments = None; directives = None; selection_set = None }) a) ∷ [];
        }) close);
      }

  -- ---- the grammar's own words

  some_there : (x : Selection S) (ts us : List Located) (xs : List (Selection S)) → Of ts x → AllFrom Of (x ∷ []) us xs → SelectionsOf S reads of_bool (ts ++ us) xs
  some_there x ts _ _ r none_more = subst (λ ws. SelectionsOf S reads of_bool ws (x ∷ [])) (sym (append-nil ts)) (one_selection ts x r)
  some_there x ts _ _ r (one_more us ws xs y m q) = subst (λ vs. SelectionsOf S reads of_bool vs (xs ++ y ∷ [])) (append_assoc ts us ws) (more_selections (ts ++ us) ws xs y (some_there x ts us xs r m) q)

  some_back : (ts : List Located) (xs : List (Selection S)) → SelectionsOf S reads of_bool ts xs → SomeOf Of ts xs
  some_back _ _ (one_selection ts x r) = record { front = ts; back = []; is = sym (append-nil ts); part = x; begins = r; ends = none_more }
  some_back _ _ (more_selections ts us xs x m r) = let h = some_back ts xs m in
      record { front = h.front; back = h.back ++ us; is = ap (λ ws. ws ++ us) h.is ∙ append_assoc h.front h.back us; part = h.part; begins = h.begins; ends = one_more h.back us xs x h.ends r }

  pub set_there : (ts : List Located) (xs : List (Selection S)) → SetIs ts xs → SetOf S reads of_bool ts xs
  set_there ts xs r = let m = r.spells in subst (λ us. SetOf S reads of_bool us xs) (sym r.is) (of_set r.first r.last r.inside xs r.opens
      (subst (λ us. SelectionsOf S reads of_bool us xs) (sym m.is) (some_there m.part m.front m.back xs m.begins m.ends)) r.closes)

  pub set_back : (ts : List Located) (xs : List (Selection S)) → SetOf S reads of_bool ts xs → SetIs ts xs
  set_back _ _ (of_set a b ts xs h m u) = record { first = a; inside = ts; last = b; is = refl; opens = h; closes = u; spells = some_back ts xs m }

  maybe_there : (ts : List Located) (o : Option (List (Selection S))) → OptionOf SetIs ts o → MaybeSetOf S reads of_bool ts o
  maybe_there _ _ absent = no_set
  maybe_there _ _ (present ts xs r) = some_set ts xs (set_there ts xs r)

  maybe_back : (ts : List Located) (o : Option (List (Selection S))) → MaybeSetOf S reads of_bool ts o → OptionOf SetIs ts o
  maybe_back _ _ no_set = absent
  maybe_back _ _ (some_set ts xs r) = present ts xs (set_back ts xs r)

  field_there : (ts : List Located) (x : Field S) → FieldIs ts x → FieldOf S reads of_bool ts x
  field_there ts x r = let g = r.ends in let d = g.ends in let m = d.ends in
      subst (λ us. FieldOf S reads of_bool us x) (sym (r.is ∙ ap (λ us. r.front ++ us) (g.is ∙ ap (λ us. g.front ++ us) d.is)))
      (subst (λ y. FieldOf S reads of_bool (r.front ++ (g.front ++ (d.front ++ d.back))) y) (sym m.is)
      (of_parts r.front g.front d.front d.back (made_field r.part g.part d.part m.part) r.begins g.begins d.begins (maybe_there d.back m.part m.spells)))

  field_back : (ts : List Located) (x : Field S) → FieldOf S reads of_bool ts x → FieldIs ts x
  field_back _ _ (of_parts ns gs ds ss x rn rg rd rs) = record {
    front = ns;
    back = gs ++ (ds ++ ss);
    is = refl;
    part = (x.alias, x.name);
    begins = rn;
    ends = record {
      front = gs;
      back = ds ++ ss;
      is = refl;
      part = x.arguments;
      begins = rg;
      ends = record { front = ds; back = ss; is = refl; part = x.directives; begins = rd; ends = record { part = x.selection_set; spells = maybe_back ss x.selection_set rs; is = refl } };
    };
  }

  inline_in : InlineFragment S → Spread S → InlineFragment S
  inline_in d (inlines x) = x
  inline_in d (spreads x) = d

  same_inline : (x y : InlineFragment S) → Path (Spread S) (inlines x) (inlines y) → x ≡ y
  unfolding inline_in
  same_inline x y h = ap (inline_in x) h

  inline_there : (ps ts : List Located) (x : InlineFragment S) (y : Spread S) → Sign k.Ellipsis ps tt → y ≡ inlines x → InlineIs ts y → InlineOf S reads of_bool (ps ++ ts) x
  inline_there ps ts x y sign is r = let d = r.ends in let m = d.ends in
      let same : x ≡ record { type_condition = r.part; directives = d.part; selection_set = m.part } = same_inline x _ (sym is ∙ m.is) in
      subst (λ us. InlineOf S reads of_bool (ps ++ us) x) (sym (r.is ∙ ap (λ us. r.front ++ us) d.is))
      (subst (λ z. InlineOf S reads of_bool (ps ++ (r.front ++ (d.front ++ d.back))) z) (sym same)
      (of_inline_parts ps r.front d.front d.back (record { type_condition = r.part; directives = d.part; selection_set = m.part }) sign r.begins d.begins (set_there d.back m.part m.spells)))

  inline_back : (ts : List Located) (x : InlineFragment S) → InlineOf S reads of_bool ts x → Then (Sign k.Ellipsis) (λ u. EitherOf SpreadIs InlineIs) ts (inlines x)
  inline_back _ _ (of_inline_parts ps cs ds ss x sign rc rd rs) = record {
    front = ps;
    back = cs ++ (ds ++ ss);
    is = refl;
    part = tt;
    begins = sign;
    ends = inr (record {
      front = cs;
      back = ds ++ ss;
      is = refl;
      part = x.type_condition;
      begins = rc;
      ends = record { front = ds; back = ss; is = refl; part = x.directives; begins = rd; ends = record { part = x.selection_set; spells = set_back ss x.selection_set rs; is = refl } };
    });
  }

  spread_there : (ts us : List Located) (x : At (Spread S)) → Stands (ts ++ us) x.span → Sign k.Ellipsis ts tt → EitherOf SpreadIs InlineIs us x.item → Of (ts ++ us) (selection_of x)
  spread_there ts us x st sign (inl r) = let m = r.ends in
      subst (λ z. Of (ts ++ us) (made_spread z x)) (sym m.is)
      (of_spread (ts ++ us) (record { item = record { name = r.part; directives = m.part }; span = x.span }) (record {
        head = st.head;
        tail = st.tail;
        is = st.is;
        stands = st.stands;
        spells = record { front = ts; back = us; is = refl; part = tt; begins = sign; ends = record { front = r.front; back = r.back; is = r.is; part = r.part; begins = r.begins; ends = record { part = m.part; spells = m.spells; is = refl } } };
      }))
  spread_there ts us x st sign (inr r) = let d = r.ends in let m = d.ends in
      subst (λ z. Of (ts ++ us) (made_spread z x)) (sym m.is)
      (of_inline (ts ++ us) (record { item = record { type_condition = r.part; directives = d.part; selection_set = m.part }; span = x.span }) st (inline_there ts us _ x.item sign m.is r))

  there : (ts : List Located) (x : Selection S) → LayerIs ts x → Of ts x
  unfolding LayerIs PointsIs
  there ts x (inl r) = let p = r.spells in let w = p.spells in
      subst (λ y. Of ts y) (sym r.is) (subst (λ us. Of us (selection_of r.part)) (sym w.is) (spread_there w.front w.back r.part
      (record { head = p.head; tail = p.tail; is = sym w.is ∙ p.is; stands = p.stands }) w.begins w.ends))
  there ts x (inr r) = let p = r.spells in
      subst (λ y. Of ts y) (sym r.is) (of_field ts r.part (record { head = p.head; tail = p.tail; is = p.is; stands = p.stands }) (field_there ts r.part.item p.spells))

  back : (ts : List Located) (x : Selection S) → Of ts x → LayerIs ts x
  unfolding LayerIs PointsIs
  back _ _ (of_field ts x st r) = inr (record { part = x; spells = record { head = st.head; tail = st.tail; is = st.is; stands = st.stands; spells = field_back ts x.item r }; is = refl })
  back _ _ (of_inline ts x st r) = inl (record {
    part = record { item = inlines x.item; span = x.span };
    spells = record { head = st.head; tail = st.tail; is = st.is; stands = st.stands; spells = inline_back ts x.item r };
    is = refl;
  })
  back _ _ (of_spread ts x p) = let w = p.spells in let r = w.ends in let m = r.ends in
      inl (record {
        part = record { item = spreads x.item; span = x.span };
        spells = record {
          head = p.head;
          tail = p.tail;
          is = p.is;
          stands = p.stands;
          spells = record { front = w.front; back = w.back; is = w.is; part = w.part; begins = w.begins; ends = inl (record { front = r.front; back = r.back; is = r.is; part = r.part; begins = r.begins; ends = record { part = m.part; spells = m.spells; is = ap spreads m.is } }) };
        };
        is = refl;
      })

  -- ---- the law of selections

  pub law_selection : (n : ℕ) → SelectionLaw n
  law_selection zero = law_zero Bad Good selection_sentence (λ i j x r. selection_begins.at i j x r)
  law_selection (suc n) = law_is Bad Good there back (law_same Bad Good unfolds (law_layer n (law_selection n)))

  pub law_set : (n : ℕ) → Law Bad Good true (only k.CurlyOpen) no_kind (SetOf S reads of_bool) n (selection_set reads of_bool (selection reads of_bool))
  law_set n = law_is Bad Good set_there set_back (law_fewer Bad Good (omega arith) (law_set_of n (law_selection n)))
