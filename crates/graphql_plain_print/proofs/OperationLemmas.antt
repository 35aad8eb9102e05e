-- The parts of an operation's text, one behind another.
use Rattle.std.specs.Option.{option_map}
use Rattle.std.proofs.Common.{Bool, Option, ◌≡◌, refl, sym, ◌∙◌, ap, ℕ, ◌+◌, ◌<◌, true, false, List, [], ◌∷◌, ◌++◌, append-nil, append_assoc, length, get_or, map, take}
use Rattle.std.specs.List.{filter, flat_map}
use Rattle.std.proofs.lemmas.Grind.{flat_map-append}
use Rattle.std.proofs.lemmas.List.{map-append, take_more}
use Rattle.std.proofs.lemmas.List.Elements.{filter-append}
use Rattle.graphql_names.specs.Names.{Bytes, is_one_of}
use Rattle.graphql_text.specs.declared.token.Token.{Token}
use Rattle.graphql_text.specs.declared.token.Token.TheVariants as t
use Rattle.graphql_text.specs.Tokens.{Located}
use Rattle.graphql_scalars.specs.ScalarAnswers.{ScalarAnswer}
use Rattle.graphql_values.specs.declared.input_value.InputValue.{InputValue}
use Rattle.graphql_tree.specs.Documents.{variables_in}
use Rattle.graphql_tree.specs.Variables.{Variable}
use Rattle.graphql_tree.specs.declared.document.Fragment.{Fragment}
use Rattle.graphql_tree.specs.declared.document.Operation.{Operation}
use Rattle.graphql_written_out.specs.Written.{written}
use Rattle.graphql_plain_tree.specs.PlainOperations.{definitions_used, plain_by, plain_operation, variables_used, without_directives}
use Rattle.graphql_plain_text.specs.PlainTexts.{plain_text, spaced}
use Rattle.graphql_plain_text.specs.SpanTokens.{tokens_within}
use Rattle.graphql_plain_text.specs.TreeTokens.{in_braces, in_parentheses, keyword, name_token, selection_tokens, variable_tokens}
use Rattle.graphql_plain_print.specs.NameSets.{AreSame, is_nothing}
use Rattle.graphql_plain_print.proofs.NameLemmas.{filter-same}
use Rattle.graphql_plain_print.proofs.TokenLemmas.{spaced-append}

pub whole-text : (word named defined set : Bytes) (ns vs ss : List Token) → named ≡ word ++ spaced ns → defined ≡ named ++ spaced vs → set ≡ spaced ss
    → defined ++ set ≡ word ++ spaced (ns ++ (vs ++ ss))
whole-text word named defined set ns vs ss p q r =
    (λ i. q i ++ r i) ∙ append_assoc named (spaced vs) (spaced ss) ∙ ap (λ l. l ++ (spaced vs ++ spaced ss)) p ∙ append_assoc word (spaced ns) (spaced vs ++ spaced ss)
    ∙ ap (λ l. word ++ l) (ap (λ l. spaced ns ++ l) (sym (spaced-append vs ss)) ∙ sym (spaced-append ns (vs ++ ss)))

pub used-same : {S : Type 0} (xs ys : List Bytes) → AreSame xs ys → (definitions : List (Variable S)) → definitions_used xs definitions ≡ definitions_used ys definitions
used-same xs ys same definitions = ap (map without_directives) (filter-same (λ v. v.0.item) xs ys same definitions)

-- ---- the definitions of variables

module _ {S : Type 0} (names : List Bytes) where
  pub used-first : (v : Variable S) (vs : List (Variable S)) → is_one_of names v.0.item ≡ true → is_nothing (definitions_used names (v ∷ vs)) ≡ false
  used-first v vs h = rw h refl

  pub used-not : (v : Variable S) (vs : List (Variable S)) → is_one_of names v.0.item ≡ false → definitions_used names (v ∷ vs) ≡ definitions_used names vs
  used-not v vs h = rw h refl

  pub used-alone : (f : Variable S → List Token) (v : Variable S) → is_one_of names v.0.item ≡ true → flat_map f (definitions_used names (v ∷ [])) ≡ f (without_directives v)
  used-alone f v h = rw h (append-nil (f (without_directives v)))

  pub used-more : (f : Variable S → List Token) (vs : List (Variable S)) (k : ℕ) (v : Variable S) → k < length vs → v ≡ get_or vs k v
      → flat_map f (definitions_used names (take (k + 1) vs)) ≡ flat_map f (definitions_used names (take k vs)) ++ flat_map f (definitions_used names (v ∷ []))
  used-more f vs k v within is =
      ap (λ l. flat_map f (definitions_used names l)) (take_more vs k v within ∙ ap (λ z. take k vs ++ z ∷ []) (sym is))
      ∙ ap (λ l. flat_map f (map without_directives l)) (filter-append (λ w. is_one_of names w.0.item) (take k vs) (v ∷ []))
      ∙ ap (flat_map f) (map-append without_directives (filter (λ w. is_one_of names w.0.item) (take k vs)) (filter (λ w. is_one_of names w.0.item) (v ∷ [])))
      ∙ flat_map-append f (definitions_used names (take k vs)) (definitions_used names (v ∷ []))

-- between parentheses, where there is something
pub parenthesized : {A : Type 0} (f : A → List Token) (xs : List A) (b0 b1 b2 b3 : Bytes) → is_nothing xs ≡ false → b1 ≡ b0 ++ spaced (t.ParenOpen ∷ [])
    → b2 ≡ b1 ++ spaced (flat_map f xs) → b3 ≡ b2 ++ spaced (t.ParenClose ∷ []) → b3 ≡ b0 ++ spaced (in_parentheses f xs)
parenthesized f [] b0 b1 b2 b3 h p q r = cc
parenthesized f (x ∷ xs) b0 b1 b2 b3 h p q r =
    let inner = flat_map f (x ∷ xs) in
    let first = spaced (t.ParenOpen ∷ []) in
    let last = spaced (t.ParenClose ∷ []) in
    r ∙ ap (λ l. l ++ last) (q ∙ ap (λ l. l ++ spaced inner) p) ∙ append_assoc (b0 ++ first) (spaced inner) last ∙ append_assoc b0 first (spaced inner ++ last)
    ∙ ap (λ l. b0 ++ (first ++ l)) (sym (spaced-append inner (t.ParenClose ∷ [])))

pub nothing-parenthesized : {A : Type 0} (f : A → List Token) (xs : List A) → is_nothing xs ≡ true → in_parentheses f xs ≡ []
nothing-parenthesized f [] h = refl
nothing-parenthesized f (x ∷ xs) h = cc

-- after one turn more of a loop that adds tokens
pub adds-next : (start text new : Bytes) (done more after : List Token) → text ≡ start ++ spaced done → new ≡ text ++ spaced more → done ++ more ≡ after
    → new ≡ start ++ spaced after
adds-next start text new done more after p q e =
    q ∙ ap (λ l. l ++ spaced more) p ∙ append_assoc start (spaced done) (spaced more) ∙ ap (λ l. start ++ l) (sym (spaced-append done more) ∙ ap spaced e)

-- ---- the whole operation

module _ {S : Type 0} (answer : S → ScalarAnswer) (of_bool : Bool → S) (given : Bytes → Option (InputValue S)) where
  pub operation-text : (tokens : List Located) (fragments : List (Fragment S)) (o : Operation S) (names : List Bytes) (definitions : List (Variable S))
      (word named defined set : Bytes) → word ≡ keyword o.operation_type → named ≡ word ++ spaced (name_token (option_map (λ n. n.item) o.name))
      → defined ≡ named ++ spaced (in_parentheses (variable_tokens (tokens_within tokens)) (definitions_used names definitions)) → definitions ≡ variables_in o.variable_definitions
      → AreSame names (variables_used (plain_by answer of_bool given (written fragments o.selection_set)))
      → set ≡ spaced (in_braces (selection_tokens (tokens_within tokens) (plain_by answer of_bool given (written fragments o.selection_set))))
      → defined ++ set ≡ plain_text tokens (plain_operation answer of_bool given fragments o)
  operation-text tokens fragments o names definitions word named defined set w n d e same s =
      let tree = plain_by answer of_bool given (written fragments o.selection_set) in
      let f = variable_tokens (tokens_within tokens) in
      let vs : definitions_used names definitions ≡ definitions_used (variables_used tree) (variables_in o.variable_definitions) =
      used-same names (variables_used tree) same definitions ∙ ap (definitions_used (variables_used tree)) e in
      whole-text (keyword o.operation_type) named defined set (name_token (option_map (λ m. m.item) o.name))
      (in_parentheses f (definitions_used (variables_used tree) (variables_in o.variable_definitions))) (in_braces (selection_tokens (tokens_within tokens) tree))
      (n ∙ ap (λ l. l ++ spaced (name_token (option_map (λ m. m.item) o.name))) w) (d ∙ ap (λ l. named ++ spaced (in_parentheses f l)) vs) s
