-- By two readings of scalars a parser answers alike, up to the first scalar that one of them refuses.
use Rattle.std.proofs.Common.{◌≡◌, ℕ, zero, suc, Bool, true, false, if◌then◌else◌, List, [], ◌∷◌, ◌++◌, Result, Ok, Err, Some, None, ap, ◌∙◌, sym, refl, subst}
use Rattle.graphql_text.specs.declared.position.Span.{Span}
use Rattle.graphql_text.specs.declared.token.Token.{Token}
use Rattle.graphql_text.specs.declared.token.Token.TheVariants as t
use Rattle.graphql_text.specs.declared.token.ScalarToken.{ScalarToken}
use Rattle.graphql_text.specs.declared.parse_error.ParseError.{ParseError}
use Rattle.graphql_grammar.specs.declared.kind.Kind.{Kind}
use Rattle.graphql_grammar.specs.declared.kind.Kind.TheVariants as k
use Rattle.graphql_grammar.specs.Kinds.{Kinds, only}
use Rattle.graphql_grammar.specs.Input.{Input, Parser, Outcome, and_then, ◌>>=◌, pure, refuse, refusal, peek, next, left}
use Rattle.graphql_grammar.specs.Steps.{sees, when, token, expect, any_scalar, scalar_by, read_by, with_place, located, optional, all, all_from, until, until_from, items_between, some_between, finished}

module _ {S : Type 0} (q r : ScalarToken → Result S ParseError) where
  -- one of them refuses this token
  pub data OneRefuses (x : ScalarToken) : Type 0 where
    the_first : (e : ParseError) → q x ≡ Err e → OneRefuses x
    the_second : (e : ParseError) → r x ≡ Err e → OneRefuses x

  -- Trees, with the same left; or the refusal of the same token; or of a scalar there what each reading that refuses it says.
  pub data Twin {A : Type 0} (o u : Outcome A) : Type 0 where
    both_read : (x y : A) (j : Input) → o ≡ Ok (x, j) → u ≡ Ok (y, j) → Twin o u
    both_refused : (j : Input) → o ≡ Err (refusal j) → u ≡ Err (refusal j) → Twin o u
    parted : (x : ScalarToken) (s : Span) → OneRefuses x → ((e : ParseError) → q x ≡ Err e → o ≡ Err (record { item = e; span = s })) → ((e : ParseError) → r x ≡ Err e → u ≡ Err (record { item = e; span = s })) → Twin o u

  pub record Twins {A : Type 0} (p w : Parser A) : Type 0 where
    pub at : (i : Input) → Twin (p i) (w i)

  twin_as : {A : Type 0} (o u v w : Outcome A) → o ≡ v → u ≡ w → Twin v w → Twin o u
  twin_as {A} o u v w a b one =
      let P : Outcome A → Type 0 = λ z. Twin z w in
      let Q : Outcome A → Type 0 = λ z. Twin o z in
      subst Q (sym b) (subst P (sym a) one)

  pub twins_pure : {A : Type 0} (x y : A) → Twins (pure x) (pure y)
  twins_pure x y = record { at = λ i. both_read x y i refl refl }

  pub twins_refuse : {A : Type 0} → Twins {A = A} refuse refuse
  twins_refuse = record { at = λ i. both_refused i refl refl }

  -- ---- one part, then another

  twin_then : {A B : Type 0} (o u : Outcome A) (g h : A → Parser B) → Twin o u → ((x y : A) → Twins (g x) (h y)) → Twin (and_then o g) (and_then u h)
  twin_then o u g h (both_read x y j a b) behind = twin_as (and_then o g) (and_then u h) (g x j) (h y j) (ap (λ w. and_then w g) a) (ap (λ w. and_then w h) b) ((behind x y).at j)
  twin_then o u g h (both_refused j a b) behind = both_refused j (ap (λ w. and_then w g) a) (ap (λ w. and_then w h) b)
  twin_then o u g h (parted x s one a b) behind = parted x s one (λ e is. ap (λ w. and_then w g) (a e is)) (λ e is. ap (λ w. and_then w h) (b e is))

  pub twins_bind : {A B : Type 0} {p w : Parser A} {g h : A → Parser B} → Twins p w → ((x y : A) → Twins (g x) (h y)) → Twins (p >>= g) (w >>= h)
  twins_bind {p = p} {w = w} {g = g} {h = h} one behind = record { at = λ i. twin_then (p i) (w i) g h (one.at i) behind }

  -- a tree made of what is read
  pub twins_made : {A B : Type 0} {p w : Parser A} (make again : A → B) → Twins p w → Twins (p >>= (λ x. pure (make x))) (w >>= (λ x. pure (again x)))
  twins_made make again one = twins_bind one (λ x y. twins_pure (make x) (again y))

  pub twins_located : {A : Type 0} {p w : Parser A} → Twins p w → Twins (located p) (located w)
  twins_located {p = p} {w = w} one = record { at = λ i. twin_then (p i) (w i) (with_place i) (with_place i) (one.at i) (λ x y. record { at = λ j. both_read _ _ j refl refl }) }

  -- ---- choices and tokens

  twin_if : {A : Type 0} (b : Bool) (o u v w : Outcome A) → Twin o v → Twin u w → Twin (if b then o else u) (if b then v else w)
  twin_if true o u v w one two = one
  twin_if false o u v w one two = two

  pub twins_when : {A : Type 0} {p w o u : Parser A} (kinds : Kinds) → Twins p o → Twins w u → Twins (when kinds p w) (when kinds o u)
  twins_when {p = p} {w = w} {o = o} {u = u} kinds one two = record { at = λ i. twin_if (sees kinds i) (p i) (w i) (o i) (u i) (one.at i) (two.at i) }

  pub twins_token : {A : Type 0} (kinds : Kinds) (meaning : Token → A) → Twins (token kinds meaning) (token kinds meaning)
  unfolding token
  twins_token kinds meaning = twins_when kinds (record { at = λ i. both_read _ _ (next i) refl refl }) twins_refuse

  pub twins_expect : (w : Kind) → Twins (expect w) (expect w)
  twins_expect w = twins_token (only w) (λ x. tt {0})

  pub twins_optional : {A : Type 0} {p w : Parser A} (kinds : Kinds) → Twins p w → Twins (optional kinds p) (optional kinds w)
  twins_optional kinds one = twins_when kinds (twins_made Some Some one) (twins_pure None None)

  pub twins_finished : {A : Type 0} (x y : A) → Twins (finished x) (finished y)
  twins_finished x y = twins_when (only k.EndOfFile) (twins_pure x y) twins_refuse

  -- ---- a scalar, by what each reads

  twin_read : (x : ScalarToken) (i : Input) (a b : Result S ParseError) → q x ≡ a → r x ≡ b → Twin (read_by q a i) (read_by r b i)
  twin_read x i (Ok s) (Ok u) is at = both_read s u (next i) refl refl
  twin_read x i (Err e) b is at = parted x (peek i).span (the_first e is) (λ f also. let same : e ≡ f = (let z : Err e ≡ Err f = sym is ∙ also in cc) in ap (λ z. Err (record { item = z; span = (peek i).span })) same) (λ f also. ap (λ z. read_by r z i) (sym at ∙ also))
  twin_read x i (Ok s) (Err f) is at = parted x (peek i).span (the_second f at) (λ e also. absurd (let z : Ok s ≡ Err e = sym is ∙ also in cc)) (λ e also. let same : f ≡ e = (let z : Err f ≡ Err e = sym at ∙ also in cc) in ap (λ z. Err (record { item = z; span = (peek i).span })) same)

  twin_scalar : (x : Token) (i : Input) → Twin (scalar_by q x i) (scalar_by r x i)
  twin_scalar (t.Scalar x) i = twin_read x i (q x) (r x) refl refl
  twin_scalar _ i = both_refused i refl refl

  pub twins_scalar : Twins (any_scalar q) (any_scalar r)
  unfolding any_scalar
  twins_scalar = record { at = λ i. twin_scalar (peek i).item i }

  -- ---- loops

  module _ {A : Type 0} {p w : Parser A} (one : Twins p w) where
    twins_all_from : (kinds : Kinds) (n : ℕ) (xs ys : List A) → Twins (all_from kinds p n xs) (all_from kinds w n ys)
    unfolding all_from
    twins_all_from kinds zero xs ys = twins_pure xs ys
    twins_all_from kinds (suc n) xs ys = twins_when kinds (twins_bind one (λ x y. twins_all_from kinds n (xs ++ x ∷ []) (ys ++ y ∷ []))) (twins_pure xs ys)

    pub twins_all : (kinds : Kinds) (xs ys : List A) → Twins (all kinds p xs) (all kinds w ys)
    twins_all kinds xs ys = record { at = λ i. (twins_all_from kinds (left i) xs ys).at i }

    module _ (close : Kind) where
      twins_until_from : (n : ℕ) (xs ys : List A) → Twins (until_from close p n xs) (until_from close w n ys)
      unfolding until_from
      twins_until_from zero xs ys = twins_refuse
      twins_until_from (suc n) xs ys = twins_when (only close) (record { at = λ i. both_read xs ys (next i) refl refl }) (twins_bind one (λ x y. twins_until_from n (xs ++ x ∷ []) (ys ++ y ∷ [])))

      twins_until : (xs ys : List A) → Twins (until close p xs) (until close w ys)
      twins_until xs ys = record { at = λ i. (twins_until_from (left i) xs ys).at i }

      pub twins_between : (v : Kind) → Twins (items_between v close p) (items_between v close w)
      twins_between v = twins_bind (twins_expect v) (λ u z. twins_until [] [])

      pub twins_some_between : (v : Kind) → Twins (some_between v close p) (some_between v close w)
      twins_some_between v = twins_bind (twins_expect v) (λ u z. twins_bind one (λ x y. twins_until (x ∷ []) (y ∷ [])))

  -- ---- a parser that calls itself, with as many levels as tokens are left, and one more

  pub twins_levels : {A : Type 0} (from again : ℕ → Parser A) → ((n : ℕ) → Twins (from n) (again n)) → Twins (λ i. from (suc (left i)) i) (λ i. again (suc (left i)) i)
  twins_levels from again one = record { at = λ i. (one (suc (left i))).at i }
