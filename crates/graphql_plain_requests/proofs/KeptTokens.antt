-- A plain operation whose scalars keep their tokens tells its tokens: they are those that spell it,
-- and no place counts for them.
use Rattle.std.proofs.Common.{◌≡◌, refl, sym, ◌∙◌, ap, ℕ, Bool, true, false, List, [], ◌∷◌, ◌++◌, map, Option, Some, None, Result}
use Rattle.std.specs.List.{flat_map}
use Rattle.std.specs.Option.{option_map}
use Rattle.graphql_text.specs.declared.position.SourcePosition.{SourcePosition}
use Rattle.graphql_text.specs.declared.position.Span.{Span}
use Rattle.graphql_text.specs.declared.token.Token.{Token}
use Rattle.graphql_text.specs.declared.token.Token.TheVariants as t
use Rattle.graphql_text.specs.declared.token.ScalarToken.{ScalarToken}
use Rattle.graphql_text.specs.declared.parse_error.ParseError.{ParseError}
use Rattle.graphql_values.specs.InputValues.{Placed, unlocated, unplaced}
use Rattle.graphql_values.specs.declared.input_value.InputValue.{InputValue}
use Rattle.graphql_grammar.specs.Alike.{tokens_of}
use Rattle.graphql_tree.specs.Arguments.{Argument}
use Rattle.graphql_tree.specs.Variables.{Variable}
use Rattle.graphql_value_syntax.specs.ReadTypes.{TypeRef}
use Rattle.graphql_written_out.specs.Trees.{Directives, Head, Tree, none, field, inline, is_empty}
use Rattle.graphql_plain_tree.specs.PlainOperations.{PlainOperation}
use Rattle.graphql_plain_text.specs.SpelledTrees.{ArgumentsAreSpelled, DefaultIsSpelled, IsSpelledOperation, TreeIsSpelled, TypeIsSpelled, ValueIsSpelled, VariablesAreSpelled}
use Rattle.graphql_plain_text.specs.TreeTokens.{argument_tokens, default_tokens, directive_tokens, in_braces, in_braces_unless, in_parentheses, inline_tokens, keyword, name_token, name_tokens, operation_tokens, selection_tokens, variable_tokens}
use Rattle.graphql_moved.specs.Kept.{Kept, of_bool_kept, reads_kept, type_tokens, value_tokens}
use Rattle.graphql_moved.specs.Moved.{moved, moved_argument, moved_value, moved_variable}
use Rattle.graphql_moved.proofs.TypeTokens.{types-tell-tokens}
use Rattle.graphql_moved.proofs.ValueTokens.{tokens-blind, values-tell-tokens}
use Rattle.graphql_moved.specs.MovedTrees.{moved_marks, moved_plain, moved_tree}
use Rattle.graphql_moved.proofs.MovedPlain.{empty-moved}
use Rattle.graphql_moved.proofs.Unlocated.{nowhere, same, values-are}

-- ---- lists of tokens between parentheses

in-parentheses : {A B : Type 0} (g : A → B) (one : A → List Token) (other : B → List Token)
    (xs : List A)
    → flat_map other (map g xs) ≡ flat_map one xs → in_parentheses other (map g xs)
    ≡ in_parentheses one xs
in-parentheses g one other [] h = refl
in-parentheses g one other (x ∷ xs) h = ap (λ z. t.ParenOpen ∷ (z ++ t.ParenClose ∷ [])) h

same-parentheses : {A : Type 0} (one other : A → List Token) (xs : List A)
    → flat_map other xs ≡ flat_map one xs → in_parentheses other xs ≡ in_parentheses one xs
same-parentheses one other [] h = refl
same-parentheses one other (x ∷ xs) h = ap (λ z. t.ParenOpen ∷ (z ++ t.ParenClose ∷ [])) h

directives-moved : {S T : Type 0} (f : S → T) (at : SourcePosition → SourcePosition)
    (ds : Directives S)
    → directive_tokens (moved_marks f at ds) ≡ directive_tokens ds
directives-moved f at [] = refl
directives-moved f at (d ∷ ds) = refl

inline-moved : {S T : Type 0} (f : S → T) (at : SourcePosition → SourcePosition)
    (on : Option (List ℕ)) (ds : Directives S) (set : List Token)
    → inline_tokens on (moved_marks f at ds) set ≡ inline_tokens on ds set
inline-moved f at on [] set = refl
inline-moved f at on (d ∷ ds) set = refl

-- ---- tokens of what stands at the same places

module _ {S T : Type 0} (f : S → T) (at : SourcePosition → SourcePosition)
    (spelled : Span → List Token) (again : Span → List Token)
    (alike : (s : Span) → again (record { start = at s.start; end = at s.end }) ≡ spelled s) where
  arguments-at : (xs : List (Argument S)) → flat_map (argument_tokens again)
      (map (moved_argument f at) xs) ≡ flat_map (argument_tokens spelled) xs
  arguments-at [] = refl
  arguments-at (x ∷ xs) = λ i. (t.Name x.0.item ∷ t.Colon ∷ alike x.1.span i) ++ arguments-at xs i

  selections-at : (x : Tree S) → selection_tokens again (moved_tree f at x)
      ≡ selection_tokens spelled x
  selections-at none = refl
  selections-at (field head directives below rest) =
      λ i. (name_tokens head.is_aliased head.key head.name
      ++ (in-parentheses (moved_argument f at) (argument_tokens spelled) (argument_tokens again)
      head.arguments (arguments-at head.arguments) i
      ++ (directives-moved f at directives i ++ in_braces_unless (empty-moved f at below i)
      (selections-at below i)))) ++ selections-at rest i
  selections-at (inline on directives below rest) =
      λ i. inline-moved f at on directives (in_braces (selections-at below i)) i
      ++ selections-at rest i

  default-at : (o : Option (Placed (InputValue S)))
      → default_tokens again (option_map (moved at (moved_value f at)) o) ≡ default_tokens spelled o
  default-at None = refl
  default-at (Some x) = ap (λ z. t.Equals ∷ z) (alike x.span)

  variables-at : (vs : List (Variable S)) → flat_map (variable_tokens again)
      (map (moved_variable f at) vs) ≡ flat_map (variable_tokens spelled) vs
  variables-at [] = refl
  variables-at (v ∷ vs) =
      λ i. (t.Dollar ∷ t.Name v.0.item ∷ t.Colon ∷ (alike v.1.var_type.span i ++ default-at
      v.1.default_value i)) ++ variables-at vs i

  pub operations-at : (p : PlainOperation S) → operation_tokens again (moved_plain f at p)
      ≡ operation_tokens spelled p
  operations-at p =
      λ i. t.Name (keyword p.operation_type)
      ∷ (name_token p.name ++ (in-parentheses (moved_variable f at) (variable_tokens spelled)
      (variable_tokens again) p.variables (variables-at p.variables) i
      ++ in_braces (selections-at p.set i)))

module _ {S : Type 0} where
  -- ---- the tokens of a plain operation whose scalars keep their own

  abbrev own_argument : Argument (Kept S) → List Token
  own_argument a = t.Name a.0.item ∷ t.Colon ∷ value_tokens a.1.item

  abbrev own_default : Option (Placed (InputValue (Kept S))) → List Token
  own_default None = []
  own_default (Some x) = t.Equals ∷ value_tokens x.item

  abbrev own_variable : Variable (Kept S) → List Token
  own_variable v = t.Dollar ∷ t.Name v.0.item ∷ t.Colon ∷ (type_tokens v.1.var_type.item
      ++ own_default v.1.default_value)

  abbrev own_field : Head (Kept S) → Directives (Kept S) → List Token → List Token
  own_field head directives set =
      name_tokens head.is_aliased head.key head.name
      ++ (in_parentheses own_argument head.arguments ++ (directive_tokens directives ++ set))

  abbrev own_selections : Tree (Kept S) → List Token
  own_selections none = []
  own_selections (field head directives below rest) =
      own_field head directives (in_braces_unless (is_empty below) (own_selections below))
      ++ own_selections rest
  own_selections (inline on directives below rest) =
      inline_tokens on directives (in_braces (own_selections below)) ++ own_selections rest

  abbrev pub own_tokens : PlainOperation (Kept S) → List Token
  own_tokens p =
      t.Name (keyword p.operation_type)
      ∷ (name_token p.name ++ (in_parentheses own_variable p.variables
      ++ in_braces (own_selections p.set)))

  -- ---- they are those that spell it

  module _ (reads : ScalarToken → Result S ParseError) (of_bool : Bool → S)
      (spelled : Span → List Token) where
    abbrev R : ScalarToken → Result (Kept S) ParseError
    R = reads_kept reads

    abbrev b : Bool → Kept S
    b = of_bool_kept of_bool

    somewhere : (xs : List Token) → tokens_of (map unplaced xs) ≡ xs
    somewhere [] = refl
    somewhere (x ∷ xs) = ap (λ ys. x ∷ ys) (somewhere xs)

    value-is : (is_constant : Bool) (x : Placed (InputValue (Kept S)))
        → ValueIsSpelled (Kept S) R b spelled is_constant x
        → value_tokens x.item ≡ spelled x.span
    value-is is_constant x h =
        let r = h (map unplaced (spelled x.span)) (somewhere (spelled x.span)) in
        let alike : unlocated r.0.item ≡ unlocated x.item =
        ap (λ (y : Placed (InputValue (Kept S))). y.item) r.2 in
        sym (tokens-blind x.item) ∙ ap value_tokens (sym alike) ∙ tokens-blind r.0.item
        ∙ sym (values-tell-tokens reads of_bool is_constant (map unplaced (spelled x.span)) r.0 r.1)
        ∙ somewhere (spelled x.span)

    type-is : (x : Placed TypeRef) → TypeIsSpelled (Kept S) R b spelled x → type_tokens x.item
        ≡ spelled x.span
    type-is x h =
        let r = h (map unplaced (spelled x.span)) (somewhere (spelled x.span)) in
        ap type_tokens (sym (ap (λ (y : Placed TypeRef). y.item) r.2))
        ∙ sym (types-tell-tokens (map unplaced (spelled x.span)) r.0 r.1)
        ∙ somewhere (spelled x.span)

    arguments-are : (xs : List (Argument (Kept S))) → ArgumentsAreSpelled (Kept S) R b spelled xs
        → flat_map own_argument xs ≡ flat_map (argument_tokens spelled) xs
    arguments-are [] h = refl
    arguments-are (x ∷ xs) h =
        λ i. (t.Name x.0.item ∷ t.Colon ∷ value-is false x.1 h.0 i) ++ arguments-are xs h.1 i

    selections-are : (x : Tree (Kept S)) → TreeIsSpelled (Kept S) R b spelled x → own_selections x
        ≡ selection_tokens spelled x
    selections-are none h = refl
    selections-are (field head directives below rest) h =
        λ i. (name_tokens head.is_aliased head.key head.name
        ++ (same-parentheses (argument_tokens spelled) own_argument head.arguments
        (arguments-are head.arguments h.0.arguments) i
        ++ (directive_tokens directives ++ in_braces_unless (is_empty below)
        (selections-are below h.1 i)))) ++ selections-are rest h.2 i
    selections-are (inline on directives below rest) h =
        λ i. inline_tokens on directives (in_braces (selections-are below h.1 i))
        ++ selections-are rest h.2 i

    default-is : (o : Option (Placed (InputValue (Kept S))))
        → DefaultIsSpelled (Kept S) R b spelled o → own_default o ≡ default_tokens spelled o
    default-is None h = refl
    default-is (Some x) h = ap (λ z. t.Equals ∷ z) (value-is true x h)

    variables-are : (vs : List (Variable (Kept S))) → VariablesAreSpelled (Kept S) R b spelled vs
        → flat_map own_variable vs ≡ flat_map (variable_tokens spelled) vs
    variables-are [] h = refl
    variables-are (v ∷ vs) h =
        λ i. (t.Dollar ∷ t.Name v.0.item ∷ t.Colon ∷ (type-is v.1.var_type h.0.0 i ++ default-is
        v.1.default_value h.0.1 i)) ++ variables-are vs h.1 i

    pub own-are : (p : PlainOperation (Kept S)) → IsSpelledOperation (Kept S) R b spelled p
        → own_tokens p ≡ operation_tokens spelled p
    own-are p h =
        λ i. t.Name (keyword p.operation_type)
        ∷ (name_token p.name ++ (same-parentheses (variable_tokens spelled) own_variable p.variables
        (variables-are p.variables h.variables) i
        ++ in_braces (selections-are p.set h.tree i)))

  -- ---- no place counts

  abbrev N : InputValue (Kept S) → InputValue (Kept S)
  N = moved_value same nowhere

  value-blind : (x : InputValue (Kept S)) → value_tokens (N x) ≡ value_tokens x
  value-blind x = ap (λ (g : InputValue (Kept S) → InputValue (Kept S)). value_tokens (g x))
      (sym values-are) ∙ tokens-blind x

  arguments-blind : (xs : List (Argument (Kept S)))
      → flat_map own_argument (map (moved_argument same nowhere) xs) ≡ flat_map own_argument xs
  arguments-blind [] = refl
  arguments-blind (x ∷ xs) = λ i. (t.Name x.0.item ∷ t.Colon ∷ value-blind x.1.item i)
      ++ arguments-blind xs i

  selections-blind : (x : Tree (Kept S)) → own_selections (moved_tree same nowhere x)
      ≡ own_selections x
  selections-blind none = refl
  selections-blind (field head directives below rest) =
      λ i. (name_tokens head.is_aliased head.key head.name
      ++ (in-parentheses (moved_argument same nowhere) own_argument own_argument head.arguments
      (arguments-blind head.arguments) i
      ++ (directives-moved same nowhere directives i
      ++ in_braces_unless (empty-moved same nowhere below i) (selections-blind below i))))
      ++ selections-blind rest i
  selections-blind (inline on directives below rest) =
      λ i. inline-moved same nowhere on directives (in_braces (selections-blind below i)) i
      ++ selections-blind rest i

  default-blind : (o : Option (Placed (InputValue (Kept S))))
      → own_default (option_map (λ (x : Placed (InputValue (Kept S))). unplaced (N x.item)) o)
      ≡ own_default o
  default-blind None = refl
  default-blind (Some x) = ap (λ z. t.Equals ∷ z) (value-blind x.item)

  variables-blind : (vs : List (Variable (Kept S)))
      → flat_map own_variable (map (moved_variable same nowhere) vs) ≡ flat_map own_variable vs
  variables-blind [] = refl
  variables-blind (v ∷ vs) =
      λ i. (t.Dollar ∷ t.Name v.0.item ∷ t.Colon ∷ (type_tokens v.1.var_type.item ++ default-blind
      v.1.default_value i)) ++ variables-blind vs i

  pub own-blind : (p : PlainOperation (Kept S)) → own_tokens (moved_plain same nowhere p)
      ≡ own_tokens p
  own-blind p =
      λ i. t.Name (keyword p.operation_type)
      ∷ (name_token p.name ++ (in-parentheses (moved_variable same nowhere) own_variable
      own_variable p.variables (variables-blind p.variables) i
      ++ in_braces (selections-blind p.set i)))
