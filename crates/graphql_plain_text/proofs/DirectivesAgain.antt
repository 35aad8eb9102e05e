-- The tokens of names, of arguments and of the directives of stand-ins spell them wherever they
-- stand.
use Rattle.std.proofs.Common.{◌≡◌, refl, sym, ◌∙◌, ap, subst, inl, inr, Bool, true, false, List, [], ◌∷◌, ◌++◌, map, Option, Some, None, Result, codes}
use Rattle.std.specs.List.{flat_map}
use Rattle.std.specs.Option.{option_map}
use Rattle.graphql_names.specs.Names.{Bytes}
use Rattle.graphql_text.specs.declared.position.Span.{Span}
use Rattle.graphql_text.specs.declared.token.Token.{Token}
use Rattle.graphql_text.specs.declared.token.Token.TheVariants as t
use Rattle.graphql_text.specs.declared.token.ScalarToken.{ScalarToken}
use Rattle.graphql_text.specs.declared.parse_error.ParseError.{ParseError}
use Rattle.graphql_values.specs.declared.input_value.InputValue.TheVariants as v
use Rattle.graphql_values.specs.declared.input_value.InputValue.{InputValue}
use Rattle.graphql_values.specs.InputValues.{unplaced, unlocated}
use Rattle.graphql_grammar.specs.declared.kind.Kind.{Kind}
use Rattle.graphql_grammar.specs.declared.kind.Kind.TheVariants as k
use Rattle.graphql_grammar.specs.Kinds.{kind, only, names}
use Rattle.graphql_grammar.specs.Input.{At}
use Rattle.graphql_grammar.specs.Steps.{name_of}
use Rattle.graphql_grammar.specs.Relations.{OptionOf, AllFrom, none_more, one_more}
use Rattle.graphql_grammar.proofs.Cursors.{word_is_name}
use Rattle.graphql_tree.specs.Arguments.{Argument}
use Rattle.graphql_tree.specs.declared.directive.Directive.{Directive}
use Rattle.graphql_tree.specs.Unlocated.{without_place, unlocated_name, unlocated_argument, unlocated_arguments, unlocated_directive, unlocated_directives}
use Rattle.graphql_value_syntax.specs.Values.{ValueOf, of_true, spanned}
use Rattle.graphql_value_syntax.specs.Directives.{Sign, NameOf, Named, ArgumentOf, ArgumentsOf, DirectiveOf, DirectivesOf}
use Rattle.graphql_language.specs.ReadSelections.{AliasedName}
use Rattle.graphql_language.specs.Selections.{TypeConditionOf, NamesOf}
use Rattle.graphql_written_out.specs.Trees.{Directives}
use Rattle.graphql_plain_tree.specs.PlainDocuments.{alias_if, arguments_as, directives_as}
use Rattle.graphql_plain_tree.specs.StandIns.{skip_true}
use Rattle.graphql_plain_text.specs.Again.{Again, EachAgain}
use Rattle.graphql_plain_text.specs.TreeTokens.{in_parentheses, name_tokens, condition_tokens, skip_tokens, directive_tokens, argument_tokens}
use Rattle.graphql_plain_text.specs.SpelledTrees.{ValueIsSpelled, ArgumentsAreSpelled, IsMarked}
use Rattle.graphql_plain_text.proofs.AgainSteps.{no_token, one_token, again_token, again_then, again_made, again_placed, again_absent, again_present, again_nothing, again_left, again_right, again_between, again_some}

pub again_name : (n : Bytes) → Again Named unlocated_name (t.Name n ∷ []) (unplaced n)
again_name n =
    again_placed NameOf (λ m. m) (t.Name n) [] n (again_token names name_of (t.Name n)
    (word_is_name n))

pub again_sign : (w : Kind) (x : Token) → only w (kind x) ≡ true
    → Again (Sign w) (λ u. u) (x ∷ []) tt
again_sign w x h = again_token (only w) (λ y. tt {0}) x h

abbrev pub unlocated_names : AliasedName → AliasedName
unlocated_names ns = (option_map unlocated_name ns.0, unlocated_name ns.1)

pub again_names : (b : Bool) (key name : Bytes)
    → Again NamesOf unlocated_names (name_tokens b key name)
    (option_map unlocated_name (alias_if b key), unplaced name)
again_names true key name =
    again_then Named _ unlocated_name unlocated_names (t.Name key ∷ [])
    ((t.Colon ∷ []) ++ (t.Name name ∷ [])) (unplaced key) (Some (unplaced key), unplaced name)
    (again_name key) (λ a e.
    again_left _ _ unlocated_names _ _ (again_then (Sign k.Colon) _ (λ u. u) unlocated_names
    (t.Colon ∷ []) (t.Name name ∷ []) tt (Some (unplaced key), unplaced name)
    (again_sign k.Colon t.Colon refl) (λ u f.
    again_made (λ b. (Some a, b)) Named unlocated_name unlocated_names (t.Name name ∷ [])
    (unplaced name) (Some (unplaced key), unplaced name) (again_name name)
    (λ y h i. (Some (e i), h i)))))
again_names false key name =
    again_then Named _ unlocated_name unlocated_names (t.Name name ∷ []) [] (unplaced name)
    (None, unplaced name) (again_name name) (λ a e.
    again_right _ _ unlocated_names [] (None, unplaced name)
    (λ us h. let r = again_nothing (None, a) unlocated_names us h in
    (r.0, r.1, r.2 ∙ (λ i. (None, e i)))))

pub again_condition : (on : Option Bytes)
    → Again (OptionOf TypeConditionOf) (option_map unlocated_name) (condition_tokens on)
    (option_map unlocated_name (option_map unplaced on))
again_condition None = again_absent TypeConditionOf unlocated_name
again_condition (Some on) = again_present TypeConditionOf unlocated_name _ (unplaced on)
    (again_then (Sign k.On) (λ u. Named) (λ u. u) unlocated_name (t.Name (codes "on") ∷ [])
    (t.Name on ∷ []) tt (unplaced on) (again_sign k.On (t.Name (codes "on")) refl)
    (λ u e. again_name on))

module _ {S : Type 0} (reads : ScalarToken → Result S ParseError) (of_bool : Bool → S) where
  -- ---- arguments

  again_argument : (spelled : Span → List Token) (a : Argument S)
      → ValueIsSpelled S reads of_bool spelled false a.1
      → Again (ArgumentOf S reads of_bool false) unlocated_argument (argument_tokens spelled a)
      (unlocated_argument a)
  again_argument spelled a good =
      again_then Named _ unlocated_name unlocated_argument (t.Name a.0.item ∷ [])
      ((t.Colon ∷ []) ++ spelled a.1.span) (unplaced a.0.item) (unlocated_argument a)
      (again_name a.0.item) (λ n e.
      again_then (Sign k.Colon) _ (λ u. u) unlocated_argument (t.Colon ∷ []) (spelled a.1.span) tt
      (unlocated_argument a) (again_sign k.Colon t.Colon refl) (λ u f.
      again_made (λ x. (n, x)) (ValueOf S reads of_bool false) (without_place unlocated)
      unlocated_argument (spelled a.1.span) (unplaced (unlocated a.1.item)) (unlocated_argument a)
      good (λ y h i. (e i, h i))))

  each_argument : (spelled : Span → List Token) (xs : List (Argument S))
      → ArgumentsAreSpelled S reads of_bool spelled xs
      → EachAgain (ArgumentOf S reads of_bool false) unlocated_argument (argument_tokens spelled)
      unlocated_argument xs
  each_argument spelled [] good = tt
  each_argument spelled (x ∷ xs) good =
      (again_argument spelled x good.0, each_argument spelled xs good.1)

  pub again_arguments : (spelled : Span → List Token) (xs : List (Argument S))
      → ArgumentsAreSpelled S reads of_bool spelled xs
      → Again (OptionOf (ArgumentsOf S reads of_bool false))
      (option_map (without_place unlocated_arguments)) (in_parentheses (argument_tokens spelled) xs)
      (option_map (without_place unlocated_arguments) (arguments_as xs))
  again_arguments spelled [] good = again_absent _ _
  again_arguments spelled (x ∷ xs) good =
      let inside = argument_tokens spelled x ++ flat_map (argument_tokens spelled) xs in
      again_present (ArgumentsOf S reads of_bool false) (without_place unlocated_arguments) _ _
      (again_placed _ unlocated_arguments t.ParenOpen (inside ++ (t.ParenClose ∷ []))
      (record { items = map unlocated_argument (x ∷ xs) })
      (again_made (λ ps. record { items = ps }) _ (map unlocated_argument) unlocated_arguments _
      (map unlocated_argument (x ∷ xs)) (record { items = map unlocated_argument (x ∷ xs) })
      (again_between _ k.ParenOpen k.ParenClose (map unlocated_argument) t.ParenOpen t.ParenClose
      inside _ refl refl
      (again_some (ArgumentOf S reads of_bool false) unlocated_argument (argument_tokens spelled)
      unlocated_argument x xs (each_argument spelled (x ∷ xs) good)))
      (λ y h. ap (λ z. record { items = z }) h)))

  -- ---- directives

  again_true : (span : Span)
      → Again (ValueOf S reads of_bool false) (without_place unlocated) (t.Name (codes "true") ∷ [])
      (unplaced (unlocated (v.Scalar (of_bool true))))
  again_true span us h =
      let o = one_token (t.Name (codes "true")) us h in
      let x : At (InputValue S) = spanned o.0 (v.Scalar (of_bool true)) o.0 in
      let spells : ValueOf S reads of_bool false (o.0 ∷ []) x =
      of_true o.0 (ap (λ y. only k.True (kind y)) o.2) in
      (x, subst (λ ts. ValueOf S reads of_bool false ts x) (sym o.1) spells, refl)

  abbrev skip_argument : Argument S
  skip_argument = (unplaced (codes "if"), unplaced (v.Scalar (of_bool true)))

  abbrev skip_directive : Directive S
  skip_directive =
      record { name = unplaced (codes "skip"); arguments = arguments_as (skip_argument ∷ []) }

  again_skip : Again (DirectiveOf S reads of_bool false)
      (without_place unlocated_directive) skip_tokens
      (unplaced (unlocated_directive skip_directive))
  again_skip =
      let true_tokens : Span → List Token = λ span. t.Name (codes "true") ∷ [] in
      let arguments = in_parentheses (argument_tokens true_tokens) (skip_argument ∷ []) in
      again_placed _ unlocated_directive t.At ((t.Name (codes "skip") ∷ []) ++ arguments)
      (unlocated_directive skip_directive)
      (again_then (Sign k.At) _ (λ u. u) unlocated_directive (t.At ∷ [])
      ((t.Name (codes "skip") ∷ []) ++ arguments) tt (unlocated_directive skip_directive)
      (again_sign k.At t.At refl) (λ u f.
      again_then Named _ unlocated_name unlocated_directive (t.Name (codes "skip") ∷ []) arguments
      (unplaced (codes "skip")) (unlocated_directive skip_directive) (again_name (codes "skip"))
      (λ n e.
      again_made (λ args. record { name = n; arguments = args }) _
      (option_map (without_place unlocated_arguments)) unlocated_directive arguments _
      (unlocated_directive skip_directive)
      (again_arguments true_tokens (skip_argument ∷ [])
      (again_true (unplaced (codes "if")).span, tt))
      (λ y h i. record { name = e i; arguments = h i }))))

  pub no_directives : (c : Bool)
      → Again (DirectivesOf S reads of_bool c) unlocated_directives [] None
  no_directives c us h =
      let none_left : us ≡ [] = no_token us h in
      let spells =
      subst (λ ts. AllFrom (DirectiveOf S reads of_bool c) [] ts []) (sym none_left) none_more in
      (None, record { part = []; spells = spells; is = refl }, refl)

  one_directive : Again (DirectivesOf S reads of_bool false) unlocated_directives skip_tokens
      (unlocated_directives (Some (skip_true of_bool)))
  one_directive us h =
      let p = again_skip us h in
      let spells = one_more [] us [] p.0 none_more p.1 in (
        Some (p.0 ∷ []),
        record { part = p.0 ∷ []; spells = spells; is = refl },
        ap (λ z. Some (z ∷ [])) p.2,
      )

  pub again_marks : (ds : Directives S) → IsMarked S reads of_bool ds
      → Again (DirectivesOf S reads of_bool false) unlocated_directives (directive_tokens ds)
      (unlocated_directives (directives_as ds))
  again_marks ds (inl is) =
      subst (λ x. Again (DirectivesOf S reads of_bool false) unlocated_directives
      (directive_tokens x) (unlocated_directives (directives_as x))) (sym is) (no_directives false)
  again_marks ds (inr is) =
      subst (λ x. Again (DirectivesOf S reads of_bool false) unlocated_directives
      (directive_tokens x) (unlocated_directives (directives_as x))) (sym is) one_directive
