-- The tokens of selections and of sets spell them wherever they stand.
use Rattle.std.proofs.Common.{◌≡◌, refl, sym, ◌∙◌, ap, subst, Bool, true, false, List, [], ◌∷◌, ◌++◌, map, Option, Some, None, Result, append-nil, append_assoc}
use Rattle.std.specs.Option.{option_map}
use Rattle.graphql_names.specs.Names.{Bytes}
use Rattle.graphql_text.specs.declared.position.Span.{Span}
use Rattle.graphql_text.specs.declared.token.Token.{Token}
use Rattle.graphql_text.specs.declared.token.Token.TheVariants as t
use Rattle.graphql_text.specs.declared.token.ScalarToken.{ScalarToken}
use Rattle.graphql_text.specs.declared.parse_error.ParseError.{ParseError}
use Rattle.graphql_values.specs.InputValues.{unplaced}
use Rattle.graphql_grammar.specs.declared.kind.Kind.TheVariants as k
use Rattle.graphql_grammar.specs.Kinds.{kind, only}
use Rattle.graphql_grammar.specs.Input.{At, Located}
use Rattle.graphql_grammar.specs.Alike.{tokens_of}
use Rattle.graphql_grammar.specs.Relations.{span_of}
use Rattle.graphql_tree.specs.declared.selection.Field.{Field}
use Rattle.graphql_tree.specs.declared.selection.InlineFragment.{InlineFragment}
use Rattle.graphql_tree.specs.declared.selection.Selection.{Selection}
use Rattle.graphql_tree.specs.declared.selection.Selection.TheVariants as s
use Rattle.graphql_tree.specs.Unlocated.{without_place, unlocated_name, unlocated_arguments, unlocated_directives, unlocated_selection, unlocated_field, unlocated_inline}
use Rattle.graphql_tree.proofs.UnlocatedEquations.{unlocated_selection_field, unlocated_selection_inline, unlocated_in_field, unlocated_in_inline}
use Rattle.graphql_language.specs.ReadSelections.{AliasedName}
use Rattle.graphql_language.specs.Selections.{Stands, SelectionOf, of_field, of_inline, FieldOf, of_parts, InlineOf, of_inline_parts, MaybeSetOf, no_set, some_set, SetOf, of_set, SelectionsOf, one_selection, more_selections}
use Rattle.graphql_written_out.specs.Trees.{Directives, Head, Tree, none, field, inline, is_empty}
use Rattle.graphql_plain_tree.specs.PlainDocuments.{list_unless, alias_if, arguments_as, directives_as, selections_of}
use Rattle.graphql_plain_text.specs.Again.{Again}
use Rattle.graphql_plain_text.specs.TreeTokens.{in_parentheses, in_braces, in_braces_unless, name_tokens, condition_tokens, directive_tokens, argument_tokens, field_tokens, inline_tokens, selection_tokens}
use Rattle.graphql_plain_text.specs.SpelledTrees.{ArgumentsAreSpelled, IsMarked, IsShaped, TreeIsSpelled}
use Rattle.graphql_plain_text.proofs.AgainSteps.{split, joined_four, joined_behind, enclosed, no_token, one_token}
use Rattle.graphql_plain_text.proofs.DirectivesAgain.{again_sign, again_names, again_condition, again_arguments, again_marks}

-- what is seen of selections: all but their places
abbrev pub seen : {S : Type 0} → List (Selection S) → List (Selection S)
seen = map unlocated_selection

-- ---- fields and inline fragments that are the same, places aside

module _ {S : Type 0} where
  same_field : (x y : Field S)
      → option_map unlocated_name x.alias ≡ option_map unlocated_name y.alias
      → unlocated_name x.name ≡ unlocated_name y.name
      → option_map (without_place unlocated_arguments) x.arguments
      ≡ option_map (without_place unlocated_arguments) y.arguments
      → unlocated_directives x.directives ≡ unlocated_directives y.directives
      → option_map seen x.selection_set ≡ option_map seen y.selection_set
      → unlocated_field x ≡ unlocated_field y
  same_field x y alias name arguments directives set =
      unlocated_in_field x
      ∙ (λ i. record {
        alias = alias i;
        name = name i;
        arguments = arguments i;
        directives = directives i;
        selection_set = set i;
      })
      ∙ sym (unlocated_in_field y)

  field_again : (x : At (Field S)) (y : Field S) → unlocated_field x.item ≡ unlocated_field y
      → unlocated_selection (s.Field x) ≡ unlocated_selection (s.Field (unplaced y))
  field_again x y e =
      unlocated_selection_field x ∙ ap (λ z. s.Field (unplaced z)) e
      ∙ sym (unlocated_selection_field (unplaced y))

  same_inline : (x y : InlineFragment S)
      → option_map unlocated_name x.type_condition ≡ option_map unlocated_name y.type_condition
      → unlocated_directives x.directives ≡ unlocated_directives y.directives
      → seen x.selection_set ≡ seen y.selection_set → unlocated_inline x ≡ unlocated_inline y
  same_inline x y condition directives set =
      unlocated_in_inline x
      ∙ (λ i. record {
        type_condition = condition i;
        directives = directives i;
        selection_set = set i;
      })
      ∙ sym (unlocated_in_inline y)

  inline_again : (x : At (InlineFragment S)) (y : InlineFragment S)
      → unlocated_inline x.item ≡ unlocated_inline y
      → unlocated_selection (s.InlineFragment x)
      ≡ unlocated_selection (s.InlineFragment (unplaced y))
  inline_again x y e =
      unlocated_selection_inline x ∙ ap (λ z. s.InlineFragment (unplaced z)) e
      ∙ sym (unlocated_selection_inline (unplaced y))

module _ {S : Type 0} (reads : ScalarToken → Result S ParseError) (of_bool : Bool → S) where
  -- ---- selections

  abbrev Sel : List Located → Selection S → Type 0
  Sel = SelectionOf S reads of_bool

  abbrev Sels : List Located → List (Selection S) → Type 0
  Sels = SelectionsOf S reads of_bool

  pub again_set : (xs : List Token) (a : List (Selection S)) → Again Sels seen xs a
      → Again (SetOf S reads of_bool) seen (in_braces xs) a
  again_set xs a one us h =
      let o = split (t.CurlyOpen ∷ []) (xs ++ (t.CurlyClose ∷ [])) us h in
      let r = split xs (t.CurlyClose ∷ []) o.back o.second in
      let first = one_token t.CurlyOpen o.front o.first in
      let last = one_token t.CurlyClose r.back r.second in
      let p = one r.front r.first in
      let whole =
      enclosed us o.front o.back r.front r.back first.0 last.0 o.is first.1 r.is last.1 in
      let set =
      of_set first.0 last.0 r.front p.0 (ap (λ x. only k.CurlyOpen (kind x)) first.2) p.1
      (ap (λ x. only k.CurlyClose (kind x)) last.2) in
      (p.0, subst (λ l. SetOf S reads of_bool l p.0) (sym whole) set, p.2)

  again_maybe : (q : Bool) (xs : List Token) (sels : List (Selection S))
      → (q ≡ false → Again Sels seen xs (seen sels))
      → Again (MaybeSetOf S reads of_bool) (option_map seen) (in_braces_unless q xs)
      (option_map seen (list_unless q sels))
  again_maybe true xs sels one us h =
      (None, subst (λ l. MaybeSetOf S reads of_bool l None) (sym (no_token us h)) no_set, refl)
  again_maybe false xs sels one us h =
      let p = again_set xs (seen sels) (one refl) us h in
      (Some p.0, some_set us p.0 p.1, ap (λ z. Some z) p.2)

  begins : (x : Token) (xs : List Token) (us : List Located) → tokens_of us ≡ x ∷ xs
      → (a : Located) × (rest : List Located) × (us ≡ a ∷ rest)
  begins x xs [] h = absurd (cc)
  begins x xs (a ∷ us) h = (a, us, refl)

  names_begin : (b : Bool) (key name : Bytes) (ys : List Token) (us : List Located)
      → tokens_of us ≡ name_tokens b key name ++ ys
      → (a : Located) × (rest : List Located) × (us ≡ a ∷ rest)
  names_begin true key name ys us h = begins _ _ us h
  names_begin false key name ys us h = begins _ _ us h

  field_spelled : (us ns gs ds ss : List Located) (x : Field S) → us ≡ ns ++ (gs ++ (ds ++ ss))
      → FieldOf S reads of_bool (ns ++ (gs ++ (ds ++ ss))) x → FieldOf S reads of_bool us x
  field_spelled us ns gs ds ss x is d = subst (λ l. FieldOf S reads of_bool l x) (sym is) d

  inline_spelled : (us ps cs ds ss : List Located) (x : InlineFragment S)
      → us ≡ ps ++ (cs ++ (ds ++ ss)) → InlineOf S reads of_bool (ps ++ (cs ++ (ds ++ ss))) x
      → InlineOf S reads of_bool us x
  inline_spelled us ps cs ds ss x is d = subst (λ l. InlineOf S reads of_bool l x) (sym is) d

  abbrev field_as : Head S → Directives S → Option (List (Selection S)) → Field S
  field_as head ds set = record {
    alias = alias_if head.is_aliased head.key;
    name = unplaced head.name;
    arguments = arguments_as head.arguments;
    directives = directives_as ds;
    selection_set = set;
  }

  again_field : (spelled : Span → List Token) (head : Head S) (ds : Directives S) (xs : List Token)
      (set : Option (List (Selection S)))
      → ArgumentsAreSpelled S reads of_bool spelled head.arguments → IsMarked S reads of_bool ds
      → Again (MaybeSetOf S reads of_bool) (option_map seen) xs (option_map seen set)
      → Again Sel unlocated_selection (field_tokens spelled head ds xs)
      (unlocated_selection (s.Field (unplaced (field_as head ds set))))
  again_field spelled head ds xs set good mark one us h =
      let names = name_tokens head.is_aliased head.key head.name in
      let arguments = in_parentheses (argument_tokens spelled) head.arguments in
      let o = split names (arguments ++ (directive_tokens ds ++ xs)) us h in
      let q = split arguments (directive_tokens ds ++ xs) o.back o.second in
      let r = split (directive_tokens ds) xs q.back q.second in
      let n = again_names head.is_aliased head.key head.name o.front o.first in
      let g = again_arguments reads of_bool spelled head.arguments good q.front q.first in
      let m = again_marks reads of_bool ds mark r.front r.first in
      let p = one r.back r.second in
      let x : Field S =
      record {
        alias = n.0.0;
        name = n.0.1;
        arguments = g.0;
        directives = m.0;
        selection_set = p.0;
      } in
      let b = names_begin head.is_aliased head.key head.name _ us h in
      let at : At (Field S) = record { item = x; span = span_of b.0 b.1 } in
      let stands : Stands us at.span = record { head = b.0; tail = b.1; is = b.2; stands = refl } in
      let whole = joined_four us o.front o.back q.front q.back r.front r.back o.is q.is r.is in
      let spells = of_parts o.front q.front r.front r.back x n.1 g.1 m.1 p.1 in
      let same =
      same_field x (field_as head ds set) (ap (λ (z : AliasedName). z.0) n.2)
      (ap (λ (z : AliasedName). z.1) n.2) g.2 m.2 p.2 in (
        s.Field at,
        of_field us at stands (field_spelled us o.front q.front r.front r.back x whole spells),
        field_again at (field_as head ds set) same,
      )

  abbrev inline_as : Option Bytes → Directives S → List (Selection S) → InlineFragment S
  inline_as on ds set = record {
    type_condition = option_map unplaced on;
    directives = directives_as ds;
    selection_set = set;
  }

  again_inline : (on : Option Bytes) (ds : Directives S) (xs : List Token)
      (set : List (Selection S))
      → IsMarked S reads of_bool ds → Again Sels seen xs (seen set)
      → Again Sel unlocated_selection (inline_tokens on ds (in_braces xs))
      (unlocated_selection (s.InlineFragment (unplaced (inline_as on ds set))))
  again_inline on ds xs set mark one us h =
      let behind = directive_tokens ds ++ in_braces xs in
      let o = split (t.Ellipsis ∷ []) (condition_tokens on ++ behind) us h in
      let q = split (condition_tokens on) behind o.back o.second in
      let r = split (directive_tokens ds) (in_braces xs) q.back q.second in
      let n = again_sign k.Ellipsis t.Ellipsis refl o.front o.first in
      let g = again_condition on q.front q.first in
      let m = again_marks reads of_bool ds mark r.front r.first in
      let p = again_set xs (seen set) one r.back r.second in
      let x : InlineFragment S =
      record { type_condition = g.0; directives = m.0; selection_set = p.0 } in
      let b = begins _ _ us h in
      let at : At (InlineFragment S) = record { item = x; span = span_of b.0 b.1 } in
      let stands : Stands us at.span = record { head = b.0; tail = b.1; is = b.2; stands = refl } in
      let whole = joined_four us o.front o.back q.front q.back r.front r.back o.is q.is r.is in
      let spells = of_inline_parts o.front q.front r.front r.back x n.1 g.1 m.1 p.1 in
      let same = same_inline x (inline_as on ds set) g.2 m.2 p.2 in (
        s.InlineFragment at,
        of_inline us at stands (inline_spelled us o.front q.front r.front r.back x whole spells),
        inline_again at (inline_as on ds set) same,
      )

  -- ---- selection sets

  -- behind selections that were found, these tokens spell more of them
  abbrev More : List Token → List (Selection S) → Type 0
  More xs sels =
      (before us : List Located) (found : List (Selection S)) → Sels before found
      → tokens_of us ≡ xs
      → (ys : List (Selection S)) × Sels (before ++ us) (found ++ ys) × (seen ys ≡ sels)

  no_more : More [] []
  no_more before us found dd h =
      let none_left : before ++ us ≡ before =
      ap (λ l. before ++ l) (no_token us h) ∙ append-nil before in
      let spells = subst (λ l. Sels before l) (sym (append-nil found)) dd in
      ([], subst (λ l. Sels l (found ++ [])) (sym none_left) spells, refl)

  one_and_more : (xs ys : List Token) (a : Selection S) (as_seen : List (Selection S))
      → Again Sel unlocated_selection xs a → More ys as_seen → More (xs ++ ys) (a ∷ as_seen)
  one_and_more xs ys a as_seen one more before us found dd h =
      let o = split xs ys us h in
      let p = one o.front o.first in
      let r =
      more (before ++ o.front) o.back (found ++ p.0 ∷ [])
      (more_selections before o.front found p.0 dd p.1) o.second in
      let spells =
      subst (λ l. Sels ((before ++ o.front) ++ o.back) l) (append_assoc found (p.0 ∷ []) r.0) r.1 in
      let whole = joined_behind before us o.front o.back o.is in
      (p.0 ∷ r.0, subst (λ l. Sels l (found ++ (p.0 ∷ r.0))) whole spells, (λ i. p.2 i ∷ r.2 i))

  first_and_more : (xs ys : List Token) (a : Selection S) (as_seen : List (Selection S))
      → Again Sel unlocated_selection xs a → More ys as_seen
      → Again Sels seen (xs ++ ys) (a ∷ as_seen)
  first_and_more xs ys a as_seen one more us h =
      let o = split xs ys us h in
      let p = one o.front o.first in
      let r = more o.front o.back (p.0 ∷ []) (one_selection o.front p.0 p.1) o.second in
      (p.0 ∷ r.0, subst (λ l. Sels l (p.0 ∷ r.0)) (sym o.is) r.1, (λ i. p.2 i ∷ r.2 i))

  abbrev Both : (Span → List Token) → Tree S → Type 0
  Both spelled x =
      (is_empty x ≡ false → Again Sels seen (selection_tokens spelled x) (seen (selections_of x)))
      × More (selection_tokens spelled x) (seen (selections_of x))

  pub both : (spelled : Span → List Token) (x : Tree S) → IsShaped S reads of_bool x
      → TreeIsSpelled S reads of_bool spelled x → Both spelled x
  both spelled none shape good = (λ e. absurd (cc), no_more)
  both spelled (field head ds below rest) shape good =
      let b = both spelled below shape.1 good.1 in
      let r = both spelled rest shape.2 good.2 in
      let set = list_unless (is_empty below) (selections_of below) in
      let one =
      again_field spelled head ds
      (in_braces_unless (is_empty below) (selection_tokens spelled below)) set good.0.arguments
      shape.0
      (again_maybe (is_empty below) (selection_tokens spelled below) (selections_of below) b.0) in
      (λ e. first_and_more _ _ _ _ one r.1, one_and_more _ _ _ _ one r.1)
  both spelled (inline on ds below rest) shape good =
      let b = both spelled below shape.2 good.1 in
      let r = both spelled rest shape.3 good.2 in
      let one =
      again_inline on ds (selection_tokens spelled below) (selections_of below) shape.0
      (b.0 shape.1) in
      (λ e. first_and_more _ _ _ _ one r.1, one_and_more _ _ _ _ one r.1)
