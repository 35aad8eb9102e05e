-- What the parts of documents read, from what their own parts read.
use Rattle.std.proofs.Common.{◌≡◌, ◌≢◌, ℕ, Bool, true, false, List, [], ◌∷◌, ◌++◌, Option, Result, Ok, Err, refl, sym, ap, ◌∙◌}
use Rattle.graphql_text.specs.declared.position.SourcePosition.{SourcePosition}
use Rattle.graphql_text.specs.declared.token.ScalarToken.{ScalarToken}
use Rattle.graphql_text.specs.declared.parse_error.ParseError.{ParseError}
use Rattle.graphql_tree.specs.declared.directive.Directive.{Directive}
use Rattle.graphql_tree.specs.declared.variable.VariableDefinitions.{VariableDefinitions}
use Rattle.graphql_tree.specs.declared.selection.Selection.{Selection}
use Rattle.graphql_tree.specs.declared.document.OperationType.{OperationType}
use Rattle.graphql_tree.specs.declared.document.Operation.{Operation}
use Rattle.graphql_tree.specs.declared.document.Fragment as fragments
use Rattle.graphql_tree.specs.declared.document.Definition.{Definition}
use Rattle.graphql_tree.specs.declared.document.Definition.TheVariants as d
use Rattle.graphql_grammar.specs.declared.kind.Kind.{Kind}
use Rattle.graphql_grammar.specs.declared.kind.Kind.TheVariants as k
use Rattle.graphql_grammar.specs.Kinds.{only, fragment_names}
use Rattle.graphql_grammar.specs.Input.{At, Input, Fault, Outcome, Parser, and_then, ◌>>=◌, pure, refuse, refusal, peek, peek_kind, next}
use Rattle.graphql_grammar.specs.Steps.{sees, expect, name_in, located, optional, all, finished}
use Rattle.graphql_grammar.proofs.Cursors.{token_yes, token_no}
use Rattle.graphql_grammar.proofs.Parts.{then_read, then_refused, when_yes, when_no, located_read, located_refused}
use Rattle.graphql_grammar.proofs.Turns.{AllLeft, all_starts}
use Rattle.graphql_value_syntax.specs.ReadDirectives.{directives, variable_definitions}
use Rattle.graphql_language.specs.ReadSelections.{type_condition}
use Rattle.graphql_language.specs.ReadDocuments.{operation_words, operation_type_of, type_by, definition_kinds, set, query_of, full_operation, operation, fragment, definition, document}
use Rattle.graphql_language.specs.ReadDefinitions.{operation_type, operation_name, operation_parts, body, fragment_parts, definitions}

-- ---- the type of an operation

pub type_read : (i m : Input) (w : Kind) → peek_kind i ≡ w → operation_words w ≡ true → m ≡ next i → operation_type i ≡ Ok (type_by w, m)
unfolding sees peek_kind
type_read i m w is word moved = token_yes operation_words operation_type_of i (ap operation_words is ∙ word) ∙ ap (λ v. Ok (type_by v, next i)) is ∙ ap (λ (z : Input). Ok (type_by w, z)) (sym moved)

no_word : (w : Kind) → w ≢ k.Query → w ≢ k.Mutation → w ≢ k.Subscription → operation_words w ≡ false
no_word k.Query a b c = absurd (a refl)
no_word k.Mutation a b c = absurd (b refl)
no_word k.Subscription a b c = absurd (c refl)
no_word k.Name a b c = refl
no_word k.On a b c = refl
no_word k.Fragment a b c = refl
no_word k.True a b c = refl
no_word k.False a b c = refl
no_word k.Null a b c = refl
no_word k.Scalar a b c = refl
no_word k.ExclamationMark a b c = refl
no_word k.Dollar a b c = refl
no_word k.ParenOpen a b c = refl
no_word k.ParenClose a b c = refl
no_word k.BracketOpen a b c = refl
no_word k.BracketClose a b c = refl
no_word k.CurlyOpen a b c = refl
no_word k.CurlyClose a b c = refl
no_word k.Ellipsis a b c = refl
no_word k.Colon a b c = refl
no_word k.Equals a b c = refl
no_word k.At a b c = refl
no_word k.Pipe a b c = refl
no_word k.EndOfFile a b c = refl

pub type_refused : (i : Input) → peek_kind i ≢ k.Query → peek_kind i ≢ k.Mutation → peek_kind i ≢ k.Subscription → operation_type i ≡ Err (refusal i)
unfolding sees
type_refused i a b c = token_no operation_words operation_type_of i (no_word (peek_kind i) a b c)

module _ {S : Type 0} (reads : ScalarToken → Result S ParseError) (of_bool : Bool → S) where
  abbrev Vars : Parser (Option (At (VariableDefinitions S)))
  Vars = optional (only k.ParenOpen) (variable_definitions reads of_bool)

  abbrev Dirs : Parser (Option (List (At (Directive S))))
  Dirs = directives reads of_bool false

  abbrev Set : Parser (List (Selection S))
  Set = set reads of_bool

  -- ---- what ends a definition

  abbrev with_set : Option (List (At (Directive S))) → List (Selection S) → Parser (Option (List (At (Directive S))) × List (Selection S))
  with_set ds ss = pure (ds, ss)

  abbrev with_directives : Option (List (At (Directive S))) → Parser (Option (List (At (Directive S))) × List (Selection S))
  with_directives ds = Set >>= with_set ds

  module _ (i : Input) where
    pub body_directives_refused : {e : Fault} → Dirs i ≡ Err e → body reads of_bool i ≡ Err e
    unfolding body
    body_directives_refused refused = then_refused Dirs with_directives refused

    module _ {ds : Option (List (At (Directive S)))} {j : Input} (directives_are : Dirs i ≡ Ok (ds, j)) where
      pub body_set_refused : {e : Fault} → Set j ≡ Err e → body reads of_bool i ≡ Err e
      unfolding body
      body_set_refused refused = then_read Dirs with_directives directives_are ∙ then_refused Set (with_set ds) refused

      pub body_read : {ss : List (Selection S)} {m : Input} → Set j ≡ Ok (ss, m) → body reads of_bool i ≡ Ok ((ds, ss), m)
      unfolding body
      body_read read = then_read Dirs with_directives directives_are ∙ then_read Set (with_set ds) read

  module _ {B : Type 0} (f : Option (List (At (Directive S))) → List (Selection S) → B) where
    set_by : (ds : Option (List (At (Directive S)))) (o : Outcome (List (Selection S))) → and_then o (λ ss. pure (f ds ss)) ≡ and_then (and_then o (with_set ds)) (λ b. pure (f b.0 b.1))
    set_by ds (Ok q) = refl
    set_by ds (Err e) = refl

    body_by : (o : Outcome (Option (List (At (Directive S))))) → and_then o (λ ds. Set >>= (λ ss. pure (f ds ss))) ≡ and_then (and_then o with_directives) (λ b. pure (f b.0 b.1))
    body_by (Ok q) = set_by q.0 (Set q.1)
    body_by (Err e) = refl

    -- the two parts one by one
    body_is : (i : Input) → (Dirs >>= (λ ds. Set >>= (λ ss. pure (f ds ss)))) i ≡ (body reads of_bool >>= (λ b. pure (f b.0 b.1))) i
    unfolding body
    body_is i = body_by (Dirs i)

  -- ---- an operation that begins with its type

  abbrev made : OperationType → Option (At (List ℕ)) → Option (At (VariableDefinitions S)) → Option (List (At (Directive S))) → List (Selection S) → Operation S
  made t n vs ds ss = record { operation_type = t; name = n; variable_definitions = vs; directives = ds; selection_set = ss }

  abbrev on_directives : OperationType → Option (At (List ℕ)) → Option (At (VariableDefinitions S)) → Option (List (At (Directive S))) → Parser (Operation S)
  on_directives t n vs ds = Set >>= (λ ss. pure (made t n vs ds ss))

  abbrev on_variables : OperationType → Option (At (List ℕ)) → Option (At (VariableDefinitions S)) → Parser (Operation S)
  on_variables t n vs = Dirs >>= on_directives t n vs

  abbrev on_name : OperationType → Option (At (List ℕ)) → Parser (Operation S)
  on_name t n = Vars >>= on_variables t n

  abbrev on_type : OperationType → Parser (Operation S)
  on_type t = operation_name >>= on_name t

  module _ (i : Input) where
    pub full_type_refused : {e : Fault} → operation_type i ≡ Err e → full_operation reads of_bool i ≡ Err e
    unfolding full_operation
    full_type_refused refused = then_refused operation_type on_type refused

    module _ {t : OperationType} {j : Input} (type_is : operation_type i ≡ Ok (t, j)) where
      pub full_name_refused : {e : Fault} → operation_name j ≡ Err e → full_operation reads of_bool i ≡ Err e
      unfolding full_operation
      full_name_refused refused = then_read operation_type on_type type_is ∙ then_refused operation_name (on_name t) refused

      module _ {n : Option (At (List ℕ))} {l : Input} (name_is : operation_name j ≡ Ok (n, l)) where
        pub full_variables_refused : {e : Fault} → Vars l ≡ Err e → full_operation reads of_bool i ≡ Err e
        unfolding full_operation
        full_variables_refused refused = then_read operation_type on_type type_is ∙ then_read operation_name (on_name t) name_is ∙ then_refused Vars (on_variables t n) refused

        module _ {vs : Option (At (VariableDefinitions S))} {m : Input} (variables_are : Vars l ≡ Ok (vs, m)) where
          full_variables : full_operation reads of_bool i ≡ (Dirs >>= on_directives t n vs) m
          unfolding full_operation
          full_variables = then_read operation_type on_type type_is ∙ then_read operation_name (on_name t) name_is ∙ then_read Vars (on_variables t n) variables_are

          pub full_body_refused : {e : Fault} → body reads of_bool m ≡ Err e → full_operation reads of_bool i ≡ Err e
          full_body_refused refused = full_variables ∙ body_is (made t n vs) m ∙ then_refused (body reads of_bool) (λ b. pure (made t n vs b.0 b.1)) refused

          pub full_read : {ds : Option (List (At (Directive S)))} {ss : List (Selection S)} {p : Input} → body reads of_bool m ≡ Ok ((ds, ss), p) → full_operation reads of_bool i ≡ Ok (made t n vs ds ss, p)
          full_read read = full_variables ∙ body_is (made t n vs) m ∙ then_read (body reads of_bool) (λ b. pure (made t n vs b.0 b.1)) read

  -- ---- an operation

  abbrev short : Parser (Operation S)
  short = Set >>= (λ ss. pure (query_of ss))

  module _ (i : Input) (is : sees (only k.CurlyOpen) i ≡ true) where
    pub short_refused : {e : Fault} → Set i ≡ Err e → operation_parts reads of_bool i ≡ Err e
    unfolding operation_parts
    short_refused refused = when_yes (only k.CurlyOpen) short (full_operation reads of_bool) i is ∙ then_refused Set (λ ss. pure (query_of ss)) refused

    pub short_read : {ss : List (Selection S)} {j : Input} → Set i ≡ Ok (ss, j) → operation_parts reads of_bool i ≡ Ok (query_of ss, j)
    unfolding operation_parts
    short_read read = when_yes (only k.CurlyOpen) short (full_operation reads of_bool) i is ∙ then_read Set (λ ss. pure (query_of ss)) read

  pub long_form : (i : Input) → sees (only k.CurlyOpen) i ≡ false → operation_parts reads of_bool i ≡ full_operation reads of_bool i
  unfolding operation_parts
  long_form i is = when_no (only k.CurlyOpen) short (full_operation reads of_bool) i is

  operation_is : (i : Input) → operation reads of_bool i ≡ located (operation_parts reads of_bool) i
  unfolding operation operation_parts
  operation_is i = refl

  pub operation_refused : (i : Input) {e : Fault} → operation_parts reads of_bool i ≡ Err e → operation reads of_bool i ≡ Err e
  operation_refused i refused = operation_is i ∙ located_refused (operation_parts reads of_bool) refused

  pub operation_placed : (i : Input) {x : Operation S} {j : Input} {y : At (Operation S)} {start : SourcePosition} → operation_parts reads of_bool i ≡ Ok (x, j)
      → start ≡ (peek i).span.start → y ≡ record { item = x; span = record { start = start; end = j.end } } → operation reads of_bool i ≡ Ok (y, j)
  operation_placed i read begins is = operation_is i ∙ located_read (operation_parts reads of_bool) read begins is

  -- ---- a fragment

  abbrev fragment_of : At (List ℕ) → At (List ℕ) → Option (List (At (Directive S))) → List (Selection S) → fragments.Fragment S
  fragment_of n c ds ss = record { name = n; type_condition = c; directives = ds; selection_set = ss }

  abbrev behind_directives : At (List ℕ) → At (List ℕ) → Option (List (At (Directive S))) → Parser (fragments.Fragment S)
  behind_directives n c ds = Set >>= (λ ss. pure (fragment_of n c ds ss))

  abbrev behind_condition : At (List ℕ) → At (List ℕ) → Parser (fragments.Fragment S)
  behind_condition n c = Dirs >>= behind_directives n c

  abbrev behind_name : At (List ℕ) → Parser (fragments.Fragment S)
  behind_name n = type_condition >>= behind_condition n

  abbrev behind_word : Unit {0} → Parser (fragments.Fragment S)
  behind_word u = located (name_in fragment_names) >>= behind_name

  module _ (i : Input) where
    pub fragment_word_refused : {e : Fault} → expect k.Fragment i ≡ Err e → fragment_parts reads of_bool i ≡ Err e
    unfolding fragment_parts
    fragment_word_refused refused = then_refused (expect k.Fragment) behind_word refused

    module _ {u : Unit {0}} {j : Input} (word_is : expect k.Fragment i ≡ Ok (u, j)) where
      pub fragment_name_refused : {e : Fault} → located (name_in fragment_names) j ≡ Err e → fragment_parts reads of_bool i ≡ Err e
      unfolding fragment_parts
      fragment_name_refused refused = then_read (expect k.Fragment) behind_word word_is ∙ then_refused (located (name_in fragment_names)) behind_name refused

      module _ {n : At (List ℕ)} {l : Input} (name_is : located (name_in fragment_names) j ≡ Ok (n, l)) where
        fragment_named : fragment_parts reads of_bool i ≡ (type_condition >>= behind_condition n) l
        unfolding fragment_parts
        fragment_named = then_read (expect k.Fragment) behind_word word_is ∙ then_read (located (name_in fragment_names)) behind_name name_is

        pub fragment_condition_refused : {e : Fault} → type_condition l ≡ Err e → fragment_parts reads of_bool i ≡ Err e
        fragment_condition_refused refused = fragment_named ∙ then_refused type_condition (behind_condition n) refused

        module _ {c : At (List ℕ)} {m : Input} (condition_is : type_condition l ≡ Ok (c, m)) where
          fragment_headed : fragment_parts reads of_bool i ≡ (Dirs >>= behind_directives n c) m
          fragment_headed = fragment_named ∙ then_read type_condition (behind_condition n) condition_is

          pub fragment_body_refused : {e : Fault} → body reads of_bool m ≡ Err e → fragment_parts reads of_bool i ≡ Err e
          fragment_body_refused refused = fragment_headed ∙ body_is (fragment_of n c) m ∙ then_refused (body reads of_bool) (λ b. pure (fragment_of n c b.0 b.1)) refused

          pub fragment_read : {ds : Option (List (At (Directive S)))} {ss : List (Selection S)} {p : Input} → body reads of_bool m ≡ Ok ((ds, ss), p) → fragment_parts reads of_bool i ≡ Ok (fragment_of n c ds ss, p)
          fragment_read read = fragment_headed ∙ body_is (fragment_of n c) m ∙ then_read (body reads of_bool) (λ b. pure (fragment_of n c b.0 b.1)) read

  fragment_is : (i : Input) → fragment reads of_bool i ≡ located (fragment_parts reads of_bool) i
  unfolding fragment fragment_parts
  fragment_is i = refl

  pub fragment_refused : (i : Input) {e : Fault} → fragment_parts reads of_bool i ≡ Err e → fragment reads of_bool i ≡ Err e
  fragment_refused i refused = fragment_is i ∙ located_refused (fragment_parts reads of_bool) refused

  pub fragment_placed : (i : Input) {x : fragments.Fragment S} {j : Input} {y : At (fragments.Fragment S)} {start : SourcePosition} → fragment_parts reads of_bool i ≡ Ok (x, j)
      → start ≡ (peek i).span.start → y ≡ record { item = x; span = record { start = start; end = j.end } } → fragment reads of_bool i ≡ Ok (y, j)
  fragment_placed i read begins is = fragment_is i ∙ located_read (fragment_parts reads of_bool) read begins is

  -- ---- a definition

  abbrev as_fragment : Parser (Definition S)
  as_fragment = fragment reads of_bool >>= (λ x. pure (d.Fragment x))

  abbrev as_operation : Parser (Definition S)
  as_operation = operation reads of_bool >>= (λ x. pure (d.Operation x))

  module _ (i : Input) (is : sees (only k.Fragment) i ≡ true) where
    pub definition_fragment_refused : {e : Fault} → fragment reads of_bool i ≡ Err e → definition reads of_bool i ≡ Err e
    unfolding definition
    definition_fragment_refused refused = when_yes (only k.Fragment) as_fragment as_operation i is ∙ then_refused (fragment reads of_bool) (λ x. pure (d.Fragment x)) refused

    pub definition_fragment : {x : At (fragments.Fragment S)} {j : Input} → fragment reads of_bool i ≡ Ok (x, j) → definition reads of_bool i ≡ Ok (d.Fragment x, j)
    unfolding definition
    definition_fragment read = when_yes (only k.Fragment) as_fragment as_operation i is ∙ then_read (fragment reads of_bool) (λ x. pure (d.Fragment x)) read

  module _ (i : Input) (is : sees (only k.Fragment) i ≡ false) where
    pub definition_operation_refused : {e : Fault} → operation reads of_bool i ≡ Err e → definition reads of_bool i ≡ Err e
    unfolding definition
    definition_operation_refused refused = when_no (only k.Fragment) as_fragment as_operation i is ∙ then_refused (operation reads of_bool) (λ x. pure (d.Operation x)) refused

    pub definition_operation : {x : At (Operation S)} {j : Input} → operation reads of_bool i ≡ Ok (x, j) → definition reads of_bool i ≡ Ok (d.Operation x, j)
    unfolding definition
    definition_operation read = when_no (only k.Fragment) as_fragment as_operation i is ∙ then_read (operation reads of_bool) (λ x. pure (d.Operation x)) read

  -- ---- a document

  abbrev more : Definition S → Parser (List (Definition S))
  more x = all definition_kinds (definition reads of_bool) (x ∷ [])

  pub first_refused : (i : Input) {e : Fault} → definition reads of_bool i ≡ Err e → definitions reads of_bool i ≡ Err e
  unfolding definitions
  first_refused i refused = then_refused (definition reads of_bool) more refused

  pub first_read : (i : Input) {x : Definition S} {j : Input} {found : List (Definition S)} → definition reads of_bool i ≡ Ok (x, j) → found ≡ [] ++ x ∷ []
      → AllLeft definition_kinds (definition reads of_bool) (definitions reads of_bool i) found j
  unfolding definitions
  first_read i {x} {j} {found} read kept = all_starts definition_kinds (definition reads of_bool) found j
      (then_read (definition reads of_bool) more read ∙ ap (λ (xs : List (Definition S)). all definition_kinds (definition reads of_bool) xs j) (sym kept))

  document_by : (o : Outcome (Definition S)) → and_then o (λ x. more x >>= (λ xs. finished xs)) ≡ and_then (and_then o more) (λ xs. finished xs)
  document_by (Ok q) = refl
  document_by (Err e) = refl

  document_is : (i : Input) → document reads of_bool i ≡ (definitions reads of_bool >>= (λ xs. finished xs)) i
  unfolding document definitions
  document_is i = document_by (definition reads of_bool i)

  pub document_refused : (i : Input) {e : Fault} → definitions reads of_bool i ≡ Err e → document reads of_bool i ≡ Err e
  document_refused i refused = document_is i ∙ then_refused (definitions reads of_bool) (λ xs. finished xs) refused

  module _ (i : Input) {xs : List (Definition S)} {j : Input} (read : definitions reads of_bool i ≡ Ok (xs, j)) where
    pub document_read : sees (only k.EndOfFile) j ≡ true → document reads of_bool i ≡ Ok (xs, j)
    document_read ends = document_is i ∙ then_read (definitions reads of_bool) (λ xs. finished xs) read ∙ when_yes (only k.EndOfFile) (pure xs) refuse j ends

    pub document_goes_on : sees (only k.EndOfFile) j ≡ false → document reads of_bool i ≡ Err (refusal j)
    document_goes_on ends = document_is i ∙ then_read (definitions reads of_bool) (λ xs. finished xs) read ∙ when_no (only k.EndOfFile) (pure xs) refuse j ends
