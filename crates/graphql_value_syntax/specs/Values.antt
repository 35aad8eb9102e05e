-- Values, production by production: which tokens spell which value (GraphQL October 2021, 2.9 Input
-- Values).
use Rattle.std.specs.Prelude.{◌≡◌, ℕ, Bool, true, false, List, [], ◌∷◌, ◌++◌, Result, Ok}
use Rattle.graphql_text.specs.declared.token.Token.TheVariants as t
use Rattle.graphql_text.specs.declared.token.ScalarToken.{ScalarToken}
use Rattle.graphql_text.specs.declared.parse_error.ParseError.{ParseError}
use Rattle.graphql_values.specs.declared.input_value.InputValue.{InputValue}
use Rattle.graphql_values.specs.declared.input_value.InputValue.TheVariants as v
use Rattle.graphql_grammar.specs.declared.kind.Kind.{Kind}
use Rattle.graphql_grammar.specs.declared.kind.Kind.TheVariants as k
use Rattle.graphql_grammar.specs.Kinds.{kind, only, enum_names}
use Rattle.graphql_grammar.specs.Input.{At, Located}

-- a token of this kind
abbrev pub Is : Kind → Located → Type 0
Is w a = only w (kind a.item) ≡ true

-- from the first token to the last
abbrev pub spanned : {A : Type 0} → Located → A → Located → At A
spanned a x b = record { item = x; span = record { start = a.span.start; end = b.span.end } }

-- Of a constant no part is a variable. A scalar is what the scalar type reads of its token.
mutual
  pub data ValueOf (S : Type 0) (reads : ScalarToken → Result S ParseError) (of_bool : Bool → S)
      (is_const : Bool) : List Located → At (InputValue S) → Type 0 where
    of_true : (a : Located) → Is k.True a
        → ValueOf S reads of_bool is_const (a ∷ []) (spanned a (v.Scalar (of_bool true)) a)
    of_false : (a : Located) → Is k.False a
        → ValueOf S reads of_bool is_const (a ∷ []) (spanned a (v.Scalar (of_bool false)) a)
    of_null : (a : Located) → Is k.Null a
        → ValueOf S reads of_bool is_const (a ∷ []) (spanned a v.Null a)
    of_enum : (a : Located) (n : List ℕ) → a.item ≡ t.Name n → enum_names (kind a.item) ≡ true
        → ValueOf S reads of_bool is_const (a ∷ []) (spanned a (v.Enum n) a)
    of_scalar : (a : Located) (token : ScalarToken) (s : S) → a.item ≡ t.Scalar token
        → reads token ≡ Ok s → ValueOf S reads of_bool is_const (a ∷ []) (spanned a (v.Scalar s) a)
    of_variable : (a b : Located) (n : List ℕ) → is_const ≡ false → Is k.Dollar a
        → b.item
        ≡ t.Name n → ValueOf S reads of_bool is_const (a ∷ b ∷ []) (spanned a (v.Variable n) b)
    of_list : (a b : Located) (ts : List Located) (xs : List (At (InputValue S)))
        → Is k.BracketOpen a → ItemsOf S reads of_bool is_const ts xs → Is k.BracketClose b
        → ValueOf S reads of_bool is_const (a ∷ (ts ++ b ∷ [])) (spanned a (v.List xs) b)
    of_object : (a b : Located) (ts : List Located) (ps : List (At (List ℕ) × At (InputValue S)))
        → Is k.CurlyOpen a → FieldsOf S reads of_bool is_const ts ps → Is k.CurlyClose b
        → ValueOf S reads of_bool is_const (a ∷ (ts ++ b ∷ [])) (spanned a (v.Object ps) b)

  pub data ItemsOf (S : Type 0) (reads : ScalarToken → Result S ParseError) (of_bool : Bool → S)
      (is_const : Bool) : List Located → List (At (InputValue S)) → Type 0 where
    no_items : ItemsOf S reads of_bool is_const [] []
    more_items : (ts us : List Located) (xs : List (At (InputValue S))) (x : At (InputValue S))
        → ItemsOf S reads of_bool is_const ts xs → ValueOf S reads of_bool is_const us x
        → ItemsOf S reads of_bool is_const (ts ++ us) (xs ++ x ∷ [])

  pub data FieldsOf (S : Type 0) (reads : ScalarToken → Result S ParseError) (of_bool : Bool → S)
      (is_const : Bool) : List Located → List (At (List ℕ) × At (InputValue S)) → Type 0 where
    no_fields : FieldsOf S reads of_bool is_const [] []
    more_fields : (ts us : List Located) (ps : List (At (List ℕ) × At (InputValue S)))
        (a b : Located) (n : List ℕ) (x : At (InputValue S))
        → FieldsOf S reads of_bool is_const ts ps
        → a.item ≡ t.Name n → Is k.Colon b → ValueOf S reads of_bool is_const us x
        → FieldsOf S reads of_bool is_const (ts ++ (a ∷ b ∷ us)) (ps ++ (spanned a n a, x) ∷ [])
