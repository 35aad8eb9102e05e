-- Readings made of others: one that refuses in words that no parser has, and one that takes each scalar of another sort than one.
use Rattle.std.proofs.Common.{◌≡◌, Bool, true, false, [], ◌∷◌, Result, Ok, Err, ap, refl}
use Rattle.graphql_text.specs.declared.token.Token.{Token}
use Rattle.graphql_text.specs.declared.token.Token.TheVariants as t
use Rattle.graphql_text.specs.declared.token.ScalarToken.{ScalarToken}
use Rattle.graphql_text.specs.declared.token.ScalarToken.TheVariants as s
use Rattle.graphql_text.specs.declared.parse_error.ParseError.{ParseError}
use Rattle.graphql_text.specs.declared.parse_error.ParseError.TheVariants.{ExpectedScalarError}
use Rattle.graphql_grammar.specs.Input.{unexpected}
use Rattle.graphql_grammar.specs.Faults.{Reading}

-- ---- a refusal by which its token is known

abbrev pub told : ScalarToken → ParseError
told (s.String x) = ExpectedScalarError (0 ∷ x)
told (s.Float x) = ExpectedScalarError (1 ∷ x)
told (s.Int x) = ExpectedScalarError (2 ∷ x)

abbrev pub is_told : ParseError → Bool
is_told (ExpectedScalarError x) = true
is_told e = false

pub told_is : (x : ScalarToken) → is_told (told x) ≡ true
told_is (s.String x) = refl
told_is (s.Float x) = refl
told_is (s.Int x) = refl

pub unexpected_is : (x : Token) → is_told (unexpected x) ≡ false
unexpected_is (t.Name n) = refl
unexpected_is (t.Scalar x) = refl
unexpected_is t.ExclamationMark = refl
unexpected_is t.Dollar = refl
unexpected_is t.ParenOpen = refl
unexpected_is t.ParenClose = refl
unexpected_is t.BracketOpen = refl
unexpected_is t.BracketClose = refl
unexpected_is t.CurlyOpen = refl
unexpected_is t.CurlyClose = refl
unexpected_is t.Ellipsis = refl
unexpected_is t.Colon = refl
unexpected_is t.Equals = refl
unexpected_is t.At = refl
unexpected_is t.Pipe = refl
unexpected_is t.EndOfFile = refl

pub same_told : (x y : ScalarToken) → told x ≡ told y → x ≡ y
same_told (s.String x) (s.String y) h = cc
same_told (s.String x) (s.Float y) h = absurd (cc)
same_told (s.String x) (s.Int y) h = absurd (cc)
same_told (s.Float x) (s.String y) h = absurd (cc)
same_told (s.Float x) (s.Float y) h = cc
same_told (s.Float x) (s.Int y) h = absurd (cc)
same_told (s.Int x) (s.String y) h = absurd (cc)
same_told (s.Int x) (s.Float y) h = absurd (cc)
same_told (s.Int x) (s.Int y) h = cc

module _ {S : Type 0} where
  abbrev mark : ScalarToken → Result S ParseError → Result S ParseError
  mark x (Ok y) = Ok y
  mark x (Err e) = Err (told x)

  -- the same, but that it refuses in those words
  abbrev pub marked : Reading S → Reading S
  marked r x = mark x (r x)

  pub marked_refuses : (r : Reading S) (x : ScalarToken) (e : ParseError) → r x ≡ Err e → marked r x ≡ Err (told x)
  marked_refuses r x e is = ap (mark x) is

  pub marked_refused : (r : Reading S) (x : ScalarToken) (e : ParseError) → marked r x ≡ Err e → (e ≡ told x) × ((f : ParseError) × (r x ≡ Err f))
  marked_refused r x e is = on (r x) refl is
    where
      on : (a : Result S ParseError) → r x ≡ a → mark x a ≡ Err e → (e ≡ told x) × ((f : ParseError) × (r x ≡ Err f))
      on (Ok y) at h = absurd (cc)
      on (Err f) at h = let same : e ≡ told x = cc in (same, (f, at))

-- ---- scalars of two sorts: strings, and numbers

abbrev pub differs : ScalarToken → ScalarToken → Bool
differs (s.String x) (s.String y) = false
differs (s.String x) y = true
differs x (s.String y) = true
differs x y = false

-- one of the other sort
abbrev pub other : ScalarToken → ScalarToken
other (s.String x) = s.Int x
other x = s.String []

differs_self : (x : ScalarToken) → differs x x ≡ false
differs_self (s.String x) = refl
differs_self (s.Float x) = refl
differs_self (s.Int x) = refl

differs_other : (x : ScalarToken) → differs x (other x) ≡ true
differs_other (s.String x) = refl
differs_other (s.Float x) = refl
differs_other (s.Int x) = refl

module _ {S : Type 0} (some : S) where
  abbrev pick : Bool → Result S ParseError → Result S ParseError
  pick true a = Ok some
  pick false a = a

  -- the same, but that it takes each scalar of the other sort
  abbrev pub opened : ScalarToken → Reading S → Reading S
  opened x r y = pick (differs x y) (r y)

  pub opened_self : (x : ScalarToken) (r : Reading S) → opened x r x ≡ r x
  opened_self x r = ap (λ b. pick b (r x)) (differs_self x)

  pub opened_other : (x : ScalarToken) (r : Reading S) → opened x r (other x) ≡ Ok some
  opened_other x r = ap (λ b. pick b (r (other x))) (differs_other x)

  pub opened_refused : (x : ScalarToken) (r : Reading S) (y : ScalarToken) (e : ParseError) → opened x r y ≡ Err e → r y ≡ Err e
  opened_refused x r y e is = on (differs x y) is
    where
      on : (b : Bool) → pick b (r y) ≡ Err e → r y ≡ Err e
      on true h = absurd (cc)
      on false h = h
