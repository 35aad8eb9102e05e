-- What the parts of selections read, from what their own parts read.
use Rattle.std.proofs.Common.{◌≡◌, ℕ, Bool, true, false, List, Option, Some, None, Result, Ok, Err, sym, ap, ◌∙◌, subst}
use Rattle.graphql_text.specs.declared.position.SourcePosition.{SourcePosition}
use Rattle.graphql_text.specs.declared.token.ScalarToken.{ScalarToken}
use Rattle.graphql_text.specs.declared.parse_error.ParseError.{ParseError}
use Rattle.graphql_tree.specs.declared.directive.Arguments.{Arguments}
use Rattle.graphql_tree.specs.declared.directive.Directive.{Directive}
use Rattle.graphql_tree.specs.declared.selection.FragmentSpread.{FragmentSpread}
use Rattle.graphql_tree.specs.declared.selection.Selection.TheVariants as v
use Rattle.graphql_language.specs.declared.parse.selection.FieldHead.{FieldHead}
use Rattle.graphql_language.specs.declared.parse.selection.InlineHead.{InlineHead}
use Rattle.graphql_language.specs.declared.parse.selection.Head.TheVariants as h
use Rattle.graphql_grammar.specs.declared.kind.Kind.{Kind}
use Rattle.graphql_grammar.specs.declared.kind.Kind.TheVariants as k
use Rattle.graphql_grammar.specs.Kinds.{only, fragment_names}
use Rattle.graphql_grammar.specs.Input.{At, Input, Fault, Outcome, Parser, Reads, ◌>>=◌, pure, peek}
use Rattle.graphql_grammar.specs.Steps.{sees, when, expect, name, name_in, located, optional}
use Rattle.graphql_grammar.specs.Cursor.{after}
use Rattle.graphql_grammar.proofs.Cursors.{token_yes, after_yes, after_no}
use Rattle.graphql_grammar.proofs.Parts.{then_read, then_refused, when_yes, when_no}
use Rattle.graphql_value_syntax.specs.ReadDirectives.{arguments, directives}
use Rattle.graphql_language.specs.ReadSelections.{AliasedName, field_names, type_condition}
use Rattle.graphql_language.specs.declared.parse.selection.Begun.{Begun}
use Rattle.graphql_language.specs.declared.parse.selection.Begun.TheVariants as how
use Rattle.graphql_language.specs.ReadHeads.{head_with, field_with, spread_of, whole_ending, field_parts, field_head, spread_parts, inline_head, spread_begun, field_begun, selection_start}

-- parsers that answer the same
pub reads_same : {A : Type 0} {o p : Outcome A} (r : Result A Fault) (j : Input) → o ≡ p → Reads p r j → Reads o r j
reads_same {A} {o} {p} r j same h = let P : Outcome A → Type 0 = λ u. Reads u r j in subst P (sym same) h

eaten : (w : Kind) (i m : Input) → sees (only w) i ≡ true → m ≡ after (only w) i → expect w i ≡ Ok (tt {0}, m)
eaten w i m is moved = token_yes (only w) (λ x. tt {0}) i is ∙ ap (λ (z : Input). Ok (tt {0}, z)) (sym (moved ∙ after_yes (only w) i is))

-- ---- the names of a field

abbrev behind : At (List ℕ) → Parser AliasedName
behind a = when (only k.Colon) (expect k.Colon >>= (λ u. located name >>= (λ b. pure (Some a, b)))) (pure (None, a))

module _ (i : Input) where
  pub names_refused : {e : Fault} → located name i ≡ Err e → field_names i ≡ Err e
  unfolding field_names
  names_refused refused = then_refused (located name) behind refused

  module _ {a : At (List ℕ)} {j m : Input} (first : located name i ≡ Ok (a, j)) (moved : m ≡ after (only k.Colon) j) where
    pub names_alone : sees (only k.Colon) j ≡ false → field_names i ≡ Ok ((None, a), m)
    unfolding field_names
    names_alone is = then_read (located name) behind first ∙ when_no (only k.Colon) (expect k.Colon >>= (λ u. located name >>= (λ b. pure (Some a, b)))) (pure (None, a)) j is
        ∙ ap (λ (z : Input). Ok ((None, a), z)) (sym (moved ∙ after_no (only k.Colon) j is))

    module _ (is : sees (only k.Colon) j ≡ true) where
      second : field_names i ≡ (located name >>= (λ b. pure (Some a, b))) m
      unfolding field_names
      second = then_read (located name) behind first ∙ when_yes (only k.Colon) (expect k.Colon >>= (λ u. located name >>= (λ b. pure (Some a, b)))) (pure (None, a)) j is
          ∙ then_read (expect k.Colon) (λ u. located name >>= (λ b. pure (Some a, b))) (eaten k.Colon j m is moved)

      pub names_both : {b : At (List ℕ)} {n : Input} → located name m ≡ Ok (b, n) → field_names i ≡ Ok ((Some a, b), n)
      names_both read = second ∙ then_read (located name) (λ b. pure (Some a, b)) read

      pub names_second_refused : {e : Fault} → located name m ≡ Err e → field_names i ≡ Err e
      names_second_refused refused = second ∙ then_refused (located name) (λ b. pure (Some a, b)) refused

-- ---- type conditions

pub condition_refused : (i : Input) {e : Fault} → expect k.On i ≡ Err e → type_condition i ≡ Err e
unfolding type_condition
condition_refused i refused = then_refused (expect k.On) (λ u. located name) refused

pub condition_read : (i : Input) {j : Input} {u : Unit {0}} → expect k.On i ≡ Ok (u, j) → type_condition i ≡ located name j
unfolding type_condition
condition_read i read = then_read (expect k.On) (λ u. located name) read

module _ {S : Type 0} (reads : ScalarToken → Result S ParseError) (of_bool : Bool → S) where
  abbrev Args : Parser (Option (At (Arguments S)))
  Args = optional (only k.ParenOpen) (arguments reads of_bool false)

  abbrev Dirs : Parser (Option (List (At (Directive S))))
  Dirs = directives reads of_bool false

  -- ---- what stands before a field's selection set

  module _ (i : Input) where
    abbrev place : SourcePosition
    place = (peek i).span.start

    abbrev on_args : AliasedName → Option (At (Arguments S)) → Parser (FieldHead S)
    on_args ns args = Dirs >>= (λ ds. pure (head_with place ns args ds))

    abbrev on_names : AliasedName → Parser (FieldHead S)
    on_names ns = Args >>= on_args ns

    pub head_names_refused : {e : Fault} → field_names i ≡ Err e → field_head reads of_bool i ≡ Err e
    unfolding field_head field_parts
    head_names_refused refused = then_refused field_names on_names refused

    module _ {ns : AliasedName} {j : Input} (names_are : field_names i ≡ Ok (ns, j)) where
      pub head_arguments_refused : {e : Fault} → Args j ≡ Err e → field_head reads of_bool i ≡ Err e
      unfolding field_head field_parts
      head_arguments_refused refused = then_read field_names on_names names_are ∙ then_refused Args (on_args ns) refused

      module _ {args : Option (At (Arguments S))} {m : Input} (args_are : Args j ≡ Ok (args, m)) where
        pub head_directives_refused : {e : Fault} → Dirs m ≡ Err e → field_head reads of_bool i ≡ Err e
        unfolding field_head field_parts
        head_directives_refused refused = then_read field_names on_names names_are ∙ then_read Args (on_args ns) args_are ∙ then_refused Dirs (λ ds. pure (head_with place ns args ds)) refused

        pub head_read : {ds : Option (List (At (Directive S)))} {n : Input} {start : SourcePosition} → Dirs m ≡ Ok (ds, n) → start ≡ (peek i).span.start → field_head reads of_bool i ≡ Ok (head_with start ns args ds, n)
        unfolding field_head field_parts
        head_read {ds} {n} read begins = then_read field_names on_names names_are ∙ then_read Args (on_args ns) args_are ∙ then_read Dirs (λ ds. pure (head_with place ns args ds)) read
            ∙ ap (λ (p : SourcePosition). Ok (head_with p ns args ds, n)) (sym begins)

  -- ---- a spread

  abbrev FragmentName : Parser (At (List ℕ))
  FragmentName = located (name_in fragment_names)

  abbrev on_fragment : At (List ℕ) → Parser (FragmentSpread S)
  on_fragment n = Dirs >>= (λ ds. pure (record { name = n; directives = ds }))

  pub spread_name_refused : (i : Input) {e : Fault} → FragmentName i ≡ Err e → spread_parts reads of_bool i ≡ Err e
  unfolding spread_parts
  spread_name_refused i refused = then_refused FragmentName on_fragment refused

  module _ (i : Input) {j : Input} {n : At (List ℕ)} (name_is : FragmentName i ≡ Ok (n, j)) where
    pub spread_directives_refused : {e : Fault} → Dirs j ≡ Err e → spread_parts reads of_bool i ≡ Err e
    unfolding spread_parts
    spread_directives_refused refused = then_read FragmentName on_fragment name_is ∙ then_refused Dirs (λ ds. pure (record { name = n; directives = ds })) refused

    pub spread_read : {ds : Option (List (At (Directive S)))} {m : Input} → Dirs j ≡ Ok (ds, m) → spread_parts reads of_bool i ≡ Ok (record { name = n; directives = ds }, m)
    unfolding spread_parts
    spread_read read = then_read FragmentName on_fragment name_is ∙ then_read Dirs (λ ds. pure (record { name = n; directives = ds })) read

  -- ---- what stands before an inline fragment's selection set

  abbrev Condition : Parser (Option (At (List ℕ)))
  Condition = optional (only k.On) type_condition

  module _ (p : SourcePosition) where
    abbrev on_condition : Option (At (List ℕ)) → Parser (InlineHead S)
    on_condition c = Dirs >>= (λ ds. pure (record { start = p; type_condition = c; directives = ds }))

    pub inline_condition_refused : (i : Input) {e : Fault} → Condition i ≡ Err e → inline_head reads of_bool p i ≡ Err e
    unfolding inline_head
    inline_condition_refused i refused = then_refused Condition on_condition refused

    module _ (i : Input) {j : Input} {c : Option (At (List ℕ))} (condition_is : Condition i ≡ Ok (c, j)) where
      pub inline_directives_refused : {e : Fault} → Dirs j ≡ Err e → inline_head reads of_bool p i ≡ Err e
      unfolding inline_head
      inline_directives_refused refused = then_read Condition on_condition condition_is ∙ then_refused Dirs (λ ds. pure (record { start = p; type_condition = c; directives = ds })) refused

      pub inline_read : {ds : Option (List (At (Directive S)))} {m : Input} → Dirs j ≡ Ok (ds, m) → inline_head reads of_bool p i ≡ Ok (record { start = p; type_condition = c; directives = ds }, m)
      unfolding inline_head
      inline_read read = then_read Condition on_condition condition_is ∙ then_read Dirs (λ ds. pure (record { start = p; type_condition = c; directives = ds })) read

  -- ---- how a field begins

  abbrev on_head : FieldHead S → Parser (Begun S)
  on_head x = when (only k.CurlyOpen) (pure (how.Opens (h.Field x))) (whole_ending (field_with x None))

  module _ (i : Input) where
    pub field_refused : {e : Fault} → field_head reads of_bool i ≡ Err e → field_begun reads of_bool i ≡ Err e
    unfolding field_begun
    field_refused refused = then_refused (field_head reads of_bool) on_head refused

    module _ {x : FieldHead S} {j : Input} (head_is : field_head reads of_bool i ≡ Ok (x, j)) where
      pub field_opens : sees (only k.CurlyOpen) j ≡ true → field_begun reads of_bool i ≡ Ok (how.Opens (h.Field x), j)
      unfolding field_begun
      field_opens is = then_read (field_head reads of_bool) on_head head_is ∙ when_yes (only k.CurlyOpen) (pure (how.Opens (h.Field x))) (whole_ending (field_with x None)) j is

      pub field_whole : sees (only k.CurlyOpen) j ≡ false → field_begun reads of_bool i ≡ Ok (how.Whole (field_with x None j.end), j)
      unfolding field_begun
      field_whole is = then_read (field_head reads of_bool) on_head head_is ∙ when_no (only k.CurlyOpen) (pure (how.Opens (h.Field x))) (whole_ending (field_with x None)) j is

  -- ---- how what stands behind three points begins

  module _ (p : SourcePosition) where
    abbrev as_spread : Parser (Begun S)
    as_spread = spread_parts reads of_bool >>= (λ x. whole_ending (spread_of x p))

    abbrev as_inline : Parser (Begun S)
    as_inline = inline_head reads of_bool p >>= (λ x. pure (how.Opens (h.InlineFragment x)))

    pub points_refused : (i : Input) {e : Fault} → expect k.Ellipsis i ≡ Err e → spread_begun reads of_bool p i ≡ Err e
    unfolding spread_begun
    points_refused i refused = then_refused (expect k.Ellipsis) (λ u. when fragment_names as_spread as_inline) refused

    module _ (i : Input) {j : Input} {u : Unit {0}} (points : expect k.Ellipsis i ≡ Ok (u, j)) where
      behind_points : spread_begun reads of_bool p i ≡ when fragment_names as_spread as_inline j
      unfolding spread_begun
      behind_points = then_read (expect k.Ellipsis) (λ u. when fragment_names as_spread as_inline) points

      module _ (named : sees fragment_names j ≡ true) where
        pub begun_spread_refused : {e : Fault} → spread_parts reads of_bool j ≡ Err e → spread_begun reads of_bool p i ≡ Err e
        begun_spread_refused refused = behind_points ∙ when_yes fragment_names as_spread as_inline j named ∙ then_refused (spread_parts reads of_bool) (λ x. whole_ending (spread_of x p)) refused

        pub begun_spread : {x : FragmentSpread S} {m : Input} {y : At (FragmentSpread S)} {start : SourcePosition} → spread_parts reads of_bool j ≡ Ok (x, m) → start ≡ p
            → y ≡ record { item = x; span = record { start = start; end = m.end } } → spread_begun reads of_bool p i ≡ Ok (how.Whole (v.FragmentSpread y), m)
        begun_spread {x} {m} {y} {start} read begins is =
            behind_points ∙ when_yes fragment_names as_spread as_inline j named ∙ then_read (spread_parts reads of_bool) (λ x. whole_ending (spread_of x p)) read
            ∙ ap (λ (q : SourcePosition). Ok (how.Whole (spread_of x q m.end), m)) (sym begins) ∙ ap (λ (z : At (FragmentSpread S)). Ok (how.Whole (v.FragmentSpread z), m)) (sym is)

      module _ (is : sees fragment_names j ≡ false) where
        pub begun_inline_refused : {e : Fault} → inline_head reads of_bool p j ≡ Err e → spread_begun reads of_bool p i ≡ Err e
        begun_inline_refused refused = behind_points ∙ when_no fragment_names as_spread as_inline j is ∙ then_refused (inline_head reads of_bool p) (λ x. pure (how.Opens (h.InlineFragment x))) refused

        pub begun_inline : {x : InlineHead S} {m : Input} → inline_head reads of_bool p j ≡ Ok (x, m) → spread_begun reads of_bool p i ≡ Ok (how.Opens (h.InlineFragment x), m)
        begun_inline read = behind_points ∙ when_no fragment_names as_spread as_inline j is ∙ then_read (inline_head reads of_bool p) (λ x. pure (how.Opens (h.InlineFragment x))) read

  -- ---- how a selection begins

  pub begun_at_points : (i : Input) → sees (only k.Ellipsis) i ≡ true → selection_start reads of_bool i ≡ spread_begun reads of_bool (peek i).span.start i
  unfolding selection_start
  begun_at_points i is = when_yes (only k.Ellipsis) (λ i. spread_begun reads of_bool (peek i).span.start i) (field_begun reads of_bool) i is

  pub begun_at_name : (i : Input) → sees (only k.Ellipsis) i ≡ false → selection_start reads of_bool i ≡ field_begun reads of_bool i
  unfolding selection_start
  begun_at_name i is = when_no (only k.Ellipsis) (λ i. spread_begun reads of_bool (peek i).span.start i) (field_begun reads of_bool) i is
