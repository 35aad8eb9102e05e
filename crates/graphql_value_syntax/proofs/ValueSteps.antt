-- What stands at a value's first token, and what is read there.
use Rattle.std.proofs.Common.{◌≡◌, ◌≢◌, Bool, true, false, List, Result, Ok, Err, ℕ, refl, sym, ap, ◌∙◌, subst}
use Rattle.graphql_text.specs.declared.token.Token.{Token}
use Rattle.graphql_text.specs.declared.token.Token.TheVariants as t
use Rattle.graphql_text.specs.declared.token.ScalarToken.{ScalarToken}
use Rattle.graphql_text.specs.declared.parse_error.ParseError.{ParseError}
use Rattle.graphql_values.specs.declared.input_value.InputValue.TheVariants as v
use Rattle.graphql_grammar.specs.declared.kind.Kind.{Kind}
use Rattle.graphql_grammar.specs.declared.kind.Kind.TheVariants as k
use Rattle.graphql_grammar.specs.Kinds.{only, names}
use Rattle.graphql_grammar.specs.Input.{At, Input, Located, Fault, Parser, Outcome, and_then, ◌>>=◌, pure, Reads, refusal, peek, peek_kind, next}
use Rattle.graphql_grammar.specs.Steps.{expect, sees, name, name_of, located, any_scalar, scalar_by, read_by}
use Rattle.graphql_grammar.proofs.Sets.{is_kind}
use Rattle.graphql_grammar.proofs.Cursors.{token_yes, token_no}
use Rattle.graphql_grammar.proofs.Parts.{then_read, then_refused, when_yes, when_no}
use Rattle.graphql_value_syntax.specs.ReadParts.{key, by_name, by_scalar}
use Rattle.graphql_value_syntax.specs.ReadValues.{name_and, word_by, word_of, word_literal, word_or_scalar, variable, variable_or}

-- parsers that answer the same
pub reads_as : {A : Type 0} {o p : Outcome A} (r : Result A Fault) (j : Input) → o ≡ p → Reads p r j → Reads o r j
reads_as r j same h = subst (λ x. Reads x r j) (sym same) h

not_only : (b : Bool) (w u : Kind) → only w u ≡ b → u ≢ w → b ≡ false
not_only true w u e h = absurd (h (is_kind u w e))
not_only false w u e h = refl

pub sees_only : (w : Kind) (i : Input) → peek_kind i ≡ w → only w w ≡ true → sees (only w) i ≡ true
unfolding sees
sees_only w i e same = ap (only w) e ∙ same

pub sees_other : (w : Kind) (i : Input) → peek_kind i ≢ w → sees (only w) i ≡ false
unfolding sees
sees_other w i h = not_only (only w (peek_kind i)) w (peek_kind i) refl h

module _ {S : Type 0} (reads : ScalarToken → Result S ParseError) where
  -- ---- scalars

  scalar_is : (i : Input) (p : Located) (s : ScalarToken) (r : Result S ParseError) → p ≡ peek i → p.item ≡ t.Scalar s → reads s ≡ r → any_scalar reads i ≡ read_by reads r i
  unfolding any_scalar
  scalar_is i p s r at is means = ap (λ (q : Located). scalar_by reads q.item i) (sym at) ∙ ap (λ y. scalar_by reads y i) is ∙ ap (λ x. read_by reads x i) means

  pub scalar_taken : {A : Type 0} (make : S → A) (i : Input) (p : Located) (s : ScalarToken) (x : S) → p ≡ peek i → p.item ≡ t.Scalar s → reads s ≡ Ok x → by_scalar reads make i ≡ Ok (make x, next i)
  scalar_taken make i p s x at is means = ap (λ (o : Outcome S). and_then o (λ y. pure (make y))) (scalar_is i p s (Ok x) at is means)

  pub scalar_refused : {A : Type 0} (make : S → A) (i : Input) (p : Located) (s : ScalarToken) (e : ParseError) → p ≡ peek i → p.item ≡ t.Scalar s → reads s ≡ Err e → by_scalar reads make i ≡ Err (record { item = e; span = p.span })
  scalar_refused make i p s e at is means =
      ap (λ (o : Outcome S). and_then o (λ y. pure (make y))) (scalar_is i p s (Err e) at is means) ∙ ap (λ (q : Located). Err (record { item = e; span = q.span })) (sym at)

  no_scalar : (i : Input) (x : Token) → ((s : ScalarToken) → x ≢ t.Scalar s) → scalar_by reads x i ≡ Err (refusal i)
  no_scalar i (t.Scalar s) h = absurd (h s refl)
  no_scalar i (t.Name n) h = refl
  no_scalar i t.ExclamationMark h = refl
  no_scalar i t.Dollar h = refl
  no_scalar i t.ParenOpen h = refl
  no_scalar i t.ParenClose h = refl
  no_scalar i t.BracketOpen h = refl
  no_scalar i t.BracketClose h = refl
  no_scalar i t.CurlyOpen h = refl
  no_scalar i t.CurlyClose h = refl
  no_scalar i t.Ellipsis h = refl
  no_scalar i t.Colon h = refl
  no_scalar i t.Equals h = refl
  no_scalar i t.At h = refl
  no_scalar i t.Pipe h = refl
  no_scalar i t.EndOfFile h = refl

  pub scalar_missing : {A : Type 0} (make : S → A) (i : Input) (p : Located) → p ≡ peek i → ((s : ScalarToken) → p.item ≢ t.Scalar s) → by_scalar reads make i ≡ Err (refusal i)
  unfolding any_scalar
  scalar_missing make i p at h = ap (λ (o : Outcome S). and_then o (λ y. pure (make y))) (ap (λ (q : Located). scalar_by reads q.item i) (sym at) ∙ no_scalar i p.item h)

  module _ (of_bool : Bool → S) where
    -- ---- words

    pub word_taken : (i : Input) (w : Kind) → peek_kind i ≡ w → names w ≡ true → word_literal reads of_bool i ≡ Ok (word_by reads of_bool w (name_of (peek i).item), next i)
    unfolding sees peek_kind
    word_taken i w e named = token_yes names (word_of reads of_bool) i (ap names e ∙ named) ∙ ap (λ (u : Kind). Ok (word_by reads of_bool u (name_of (peek i).item), next i)) e

    word_enum : (w : Kind) (n : _) → w ≢ k.True → w ≢ k.False → w ≢ k.Null → word_by reads of_bool w n ≡ v.Enum n
    word_enum k.True n a b c = absurd (a refl)
    word_enum k.False n a b c = absurd (b refl)
    word_enum k.Null n a b c = absurd (c refl)
    word_enum k.Name n a b c = refl
    word_enum k.On n a b c = refl
    word_enum k.Query n a b c = refl
    word_enum k.Mutation n a b c = refl
    word_enum k.Subscription n a b c = refl
    word_enum k.Fragment n a b c = refl
    word_enum k.Scalar n a b c = refl
    word_enum k.ExclamationMark n a b c = refl
    word_enum k.Dollar n a b c = refl
    word_enum k.ParenOpen n a b c = refl
    word_enum k.ParenClose n a b c = refl
    word_enum k.BracketOpen n a b c = refl
    word_enum k.BracketClose n a b c = refl
    word_enum k.CurlyOpen n a b c = refl
    word_enum k.CurlyClose n a b c = refl
    word_enum k.Ellipsis n a b c = refl
    word_enum k.Colon n a b c = refl
    word_enum k.Equals n a b c = refl
    word_enum k.At n a b c = refl
    word_enum k.Pipe n a b c = refl
    word_enum k.EndOfFile n a b c = refl

    enum_by : (b : Bool) (i : Input) → sees names i ≡ b → peek_kind i ≢ k.True → peek_kind i ≢ k.False → peek_kind i ≢ k.Null → word_literal reads of_bool i ≡ by_name v.Enum i
    unfolding peek_kind
    enum_by true i e a b c =
        token_yes names (word_of reads of_bool) i e ∙ ap (λ x. Ok (x, next i)) (word_enum (peek_kind i) (name_of (peek i).item) a b c)
        ∙ sym (ap (λ (o : Outcome _). and_then o (λ n. pure (v.Enum n))) (token_yes names name_of i e))
    enum_by false i e a b c =
        token_no names (word_of reads of_bool) i e ∙ sym (ap (λ (o : Outcome _). and_then o (λ n. pure (v.Enum n))) (token_no names name_of i e))

    -- any other name is an enum's value
    pub word_other : (i : Input) → peek_kind i ≢ k.True → peek_kind i ≢ k.False → peek_kind i ≢ k.Null → word_literal reads of_bool i ≡ by_name v.Enum i
    word_other i a b c = enum_by (sees names i) i refl a b c

    -- ---- what holds no other value

    plain_scalar : (i : Input) → peek_kind i ≡ k.Scalar → word_or_scalar reads of_bool i ≡ by_scalar reads v.Scalar i
    plain_scalar i e = when_yes (only k.Scalar) (by_scalar reads v.Scalar) (word_literal reads of_bool) i (sees_only k.Scalar i e refl)

    plain_word : (i : Input) → peek_kind i ≢ k.Scalar → word_or_scalar reads of_bool i ≡ word_literal reads of_bool i
    plain_word i h = when_no (only k.Scalar) (by_scalar reads v.Scalar) (word_literal reads of_bool) i (sees_other k.Scalar i h)

    no_variable : (is_const : Bool) (i : Input) → (is_const ≡ false → peek_kind i ≢ k.Dollar) → variable_or reads of_bool is_const i ≡ word_or_scalar reads of_bool i
    no_variable true i h = refl
    no_variable false i h = when_no (only k.Dollar) (variable reads of_bool) (word_or_scalar reads of_bool) i (sees_other k.Dollar i (h refl))

    pub single_variable : (is_const : Bool) (i : Input) → is_const ≡ false → peek_kind i ≡ k.Dollar → variable_or reads of_bool is_const i ≡ variable reads of_bool i
    single_variable is_const i open_ e = ap (λ b. variable_or reads of_bool b i) open_ ∙ when_yes (only k.Dollar) (variable reads of_bool) (word_or_scalar reads of_bool) i (sees_only k.Dollar i e refl)

    pub single_scalar : (is_const : Bool) (i : Input) → peek_kind i ≡ k.Scalar → variable_or reads of_bool is_const i ≡ by_scalar reads v.Scalar i
    single_scalar is_const i e = no_variable is_const i (λ c d. let q : k.Scalar ≡ k.Dollar = sym e ∙ d in cc) ∙ plain_scalar i e

    pub single_word : (is_const : Bool) (i : Input) → (is_const ≡ false → peek_kind i ≢ k.Dollar) → peek_kind i ≢ k.Scalar → variable_or reads of_bool is_const i ≡ word_literal reads of_bool i
    single_word is_const i h d = no_variable is_const i h ∙ plain_word i d

-- ---- a name, a colon and what stands behind

abbrev pub pair_with : {A : Type 0} → Parser A → At (List ℕ) → Parser (At (List ℕ) × A)
pair_with inner n = inner >>= (λ x. pure (n, x))

then_pair : {A : Type 0} (inner : Parser A) (n : At (List ℕ)) (o : Outcome (Unit {0})) → and_then o (λ u. pair_with inner n) ≡ and_then (and_then o (λ u. pure n)) (pair_with inner)
then_pair inner n (Ok p) = refl
then_pair inner n (Err e) = refl

then_named : {A : Type 0} (inner : Parser A) (o : Outcome (At (List ℕ))) → and_then o (λ n. expect k.Colon >>= (λ u. pair_with inner n)) ≡ and_then (and_then o (λ n. expect k.Colon >>= (λ u. pure n))) (pair_with inner)
then_named inner (Ok p) = then_pair inner p.0 (expect k.Colon p.1)
then_named inner (Err e) = refl

pub named_is : {A : Type 0} (inner : Parser A) (i : Input) → name_and inner i ≡ (key >>= (pair_with inner)) i
named_is inner i = then_named inner (located name i)

pub named_read : {A : Type 0} (inner : Parser A) (i : Input) {j m : Input} {n : At (List ℕ)} {x : A} → key i ≡ Ok (n, j) → inner j ≡ Ok (x, m) → name_and inner i ≡ Ok ((n, x), m)
named_read inner i {n = n} first second = named_is inner i ∙ then_read key (pair_with inner) first ∙ then_read inner (λ x. pure (n, x)) second

pub named_fails_first : {A : Type 0} (inner : Parser A) (i : Input) {e : Fault} → key i ≡ Err e → name_and inner i ≡ Err e
named_fails_first inner i fails = named_is inner i ∙ then_refused key (pair_with inner) fails

pub named_fails : {A : Type 0} (inner : Parser A) (i : Input) {j : Input} {n : At (List ℕ)} {e : Fault} → key i ≡ Ok (n, j) → inner j ≡ Err e → name_and inner i ≡ Err e
named_fails inner i {n = n} first fails = named_is inner i ∙ then_read key (pair_with inner) first ∙ then_refused inner (λ x. pure (n, x)) fails
