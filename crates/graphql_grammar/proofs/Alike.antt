-- Parsers do not see places: what they read of the same tokens differs in places alone, and so does the fault.
use Rattle.std.proofs.Common.{◌≡◌, ℕ, zero, suc, Bool, true, false, if◌then◌else◌, List, [], ◌∷◌, ◌++◌, length, drop, map, Result, Ok, Err, Some, ap, ◌∙◌, sym, refl, subst}
use Rattle.std.specs.Option.{option_map}
use Rattle.std.proofs.lemmas.List.{length-map, map-append}
use Rattle.graphql_text.specs.declared.position.Span.{Span}
use Rattle.graphql_text.specs.declared.token.Token.{Token}
use Rattle.graphql_text.specs.declared.token.Token.TheVariants as t
use Rattle.graphql_text.specs.declared.token.ScalarToken.{ScalarToken}
use Rattle.graphql_text.specs.declared.parse_error.ParseError.{ParseError}
use Rattle.graphql_grammar.specs.declared.kind.Kind.{Kind}
use Rattle.graphql_grammar.specs.declared.kind.Kind.TheVariants as k
use Rattle.graphql_grammar.specs.Kinds.{Kinds, kind, only}
use Rattle.graphql_grammar.specs.Input.{Input, Located, Parser, Outcome, first, and_then, ◌>>=◌, pure, unexpected, refuse, refusal, peek, peek_kind, next, left}
use Rattle.graphql_grammar.specs.Steps.{sees, when, token, any_scalar, scalar_by, read_by, located, optional, all, all_from, until, until_from, items_between, some_between, finished}
use Rattle.graphql_grammar.specs.Alike.{tokens_of, SameTokens, SameOutcome}

-- what stands next, and what is left behind it
first_token : List Token → Token
first_token [] = t.EndOfFile
first_token (x ∷ xs) = x

first_is : (f : Span) (xs : List Located) → (first f xs).item ≡ first_token (tokens_of xs)
unfolding first_token
first_is f [] = refl
first_is f (x ∷ xs) = refl

drop_is : (xs : List Located) → tokens_of (drop 1 xs) ≡ drop 1 (tokens_of xs)
drop_is [] = refl
drop_is (x ∷ xs) = refl

pub same_first : (f g : Span) (xs ys : List Located) → SameTokens xs ys → (first f xs).item ≡ (first g ys).item
same_first f g xs ys h = first_is f xs ∙ ap first_token h ∙ sym (first_is g ys)

same_peek : (i j : Input) → SameTokens i.ahead j.ahead → (peek i).item ≡ (peek j).item
unfolding peek
same_peek i j h = same_first i.finish j.finish i.ahead j.ahead h

same_next : (i j : Input) → SameTokens i.ahead j.ahead → SameTokens (next i).ahead (next j).ahead
unfolding next
same_next i j h = drop_is i.ahead ∙ ap (λ xs. drop 1 xs) h ∙ sym (drop_is j.ahead)

same_sees : (kinds : Kinds) (i j : Input) → SameTokens i.ahead j.ahead → sees kinds i ≡ sees kinds j
unfolding sees peek_kind
same_sees kinds i j h = ap (λ x. kinds (kind x)) (same_peek i j h)

pub same_length : (ts us : List Located) → SameTokens ts us → length ts ≡ length us
same_length ts us h = sym (length-map ts (λ (a : Located). a.item)) ∙ ap length h ∙ length-map us (λ (a : Located). a.item)

-- ---- what differs in places alone is read by both, as see sees it

pub record Even {A B : Type 0} (see : A → B) (p q : Parser A) : Type 0 where
  pub at : (i j : Input) → SameTokens i.ahead j.ahead → SameOutcome see (p i) (q j)

-- one that sees less
weaker_outcome : {A B C : Type 0} (see : A → B) (other : A → C) (o u : Outcome A) → ((x y : A) → see x ≡ see y → other x ≡ other y) → SameOutcome see o u → SameOutcome other o u
weaker_outcome see other (Ok p) (Ok q) less h = (less p.0 q.0 h.0, h.1)
weaker_outcome see other (Err e) (Err f) less h = h
weaker_outcome see other (Ok p) (Err f) less h = absurd h
weaker_outcome see other (Err e) (Ok q) less h = absurd h

pub even_weaker : {A B C : Type 0} {see : A → B} {other : A → C} {p q : Parser A} → ((x y : A) → see x ≡ see y → other x ≡ other y) → Even see p q → Even other p q
even_weaker {see = see} {other = other} {p = p} {q = q} less one = record { at = λ i j h. weaker_outcome see other (p i) (q j) less (one.at i j h) }

pub even_pure : {A B : Type 0} {see : A → B} {x y : A} → see x ≡ see y → Even see (pure x) (pure y)
even_pure same = record { at = λ i j h. (same, h) }

pub even_refuse : {A B : Type 0} {see : A → B} → Even see refuse refuse
unfolding refusal
even_refuse = record { at = λ i j h. ap unexpected (same_peek i j h) }

-- ---- one part, then another

then_outcome : {A B C D : Type 0} (see : A → C) (other : B → D) (o u : Outcome A) (g h : A → Parser B) → SameOutcome see o u → ((x y : A) → see x ≡ see y → Even other (g x) (h y)) → SameOutcome other (and_then o g) (and_then u h)
then_outcome see other (Ok p) (Ok q) g h same next = (next p.0 q.0 same.0).at p.1 q.1 same.1
then_outcome see other (Err e) (Err f) g h same next = same
then_outcome see other (Ok p) (Err f) g h same next = absurd same
then_outcome see other (Err e) (Ok q) g h same next = absurd same

pub even_bind : {A B C D : Type 0} {see : A → C} {other : B → D} {p q : Parser A} {g h : A → Parser B} → Even see p q → ((x y : A) → see x ≡ see y → Even other (g x) (h y)) → Even other (p >>= g) (q >>= h)
even_bind {see = see} {other = other} {p = p} {q = q} {g = g} {h = h} one two = record { at = λ i j s. then_outcome see other (p i) (q j) g h (one.at i j s) two }

-- a tree made of what is read
pub even_made : {A B C D : Type 0} {see : A → C} {other : B → D} {p q : Parser A} (make again : A → B) → ((x y : A) → see x ≡ see y → other (make x) ≡ other (again y)) → Even see p q → Even other (p >>= (λ x. pure (make x))) (q >>= (λ x. pure (again x)))
even_made make again same one = even_bind one (λ x y h. even_pure (same x y h))

-- it sees what stands at the place
pub even_located : {A B : Type 0} {see : A → B} {p q : Parser A} → Even see p q → Even (λ a. see a.item) (located p) (located q)
even_located {see = see} {p = p} {q = q} one = record { at = λ i j s. then_outcome see (λ a. see a.item) (p i) (q j) _ _ (one.at i j s) (λ x y h. record { at = λ m n l. (h, l) }) }

-- ---- choices and tokens

if_outcome : {A B : Type 0} (see : A → B) (b c : Bool) (o u v w : Outcome A) → b ≡ c → SameOutcome see o v → SameOutcome see u w → SameOutcome see (if b then o else u) (if c then v else w)
if_outcome see true true o u v w e h l = h
if_outcome see false false o u v w e h l = l
if_outcome see true false o u v w e h l = absurd (cc)
if_outcome see false true o u v w e h l = absurd (cc)

pub even_when : {A B : Type 0} {see : A → B} {p q r s : Parser A} (kinds : Kinds) → Even see p r → Even see q s → Even see (when kinds p q) (when kinds r s)
even_when {see = see} {p = p} {q = q} {r = r} {s = s} kinds one two = record {
  at = λ i j h.
      if_outcome see (sees kinds i) (sees kinds j) (p i) (q i) (r j) (s j) (same_sees kinds i j h) (one.at i j h) (two.at i j h);
}

pub even_token : {A B : Type 0} {see : A → B} (kinds : Kinds) (meaning : Token → A) → Even see (token kinds meaning) (token kinds meaning)
unfolding token
even_token {see = see} kinds meaning = even_when kinds (record { at = λ i j h. (ap (λ x. see (meaning x)) (same_peek i j h), same_next i j h) }) even_refuse

pub even_optional : {A B : Type 0} {see : A → B} {p q : Parser A} (kinds : Kinds) → Even see p q → Even (option_map see) (optional kinds p) (optional kinds q)
even_optional kinds one = even_when kinds (even_made Some Some (λ x y h. ap Some h) one) (even_pure refl)

-- nothing is left
pub even_finished : {A B : Type 0} {see : A → B} (x y : A) → see x ≡ see y → Even see (finished x) (finished y)
even_finished x y same = even_when (only k.EndOfFile) (even_pure same) even_refuse

-- ---- a scalar, by what its type reads

module _ {S B : Type 0} (reads : ScalarToken → Result S ParseError) where
  read_outcome : (see : S → B) (r : Result S ParseError) (i j : Input) → SameTokens i.ahead j.ahead → SameOutcome see (read_by reads r i) (read_by reads r j)
  read_outcome see (Ok s) i j h = (refl, same_next i j h)
  read_outcome see (Err e) i j h = refl

  scalar_outcome : (see : S → B) (x : Token) (i j : Input) → SameTokens i.ahead j.ahead → SameOutcome see (scalar_by reads x i) (scalar_by reads x j)
  scalar_outcome see (t.Scalar s) i j h = read_outcome see (reads s) i j h
  scalar_outcome see _ i j h = (even_refuse {see = see}).at i j h

  pub even_scalar : {see : S → B} → Even see (any_scalar reads) (any_scalar reads)
  unfolding any_scalar
  even_scalar {see = see} = record { at = λ i j h. subst (λ x. SameOutcome see (scalar_by reads (peek i).item i) (scalar_by reads x j)) (same_peek i j h) (scalar_outcome see (peek i).item i j h) }

-- ---- loops

module _ {A B : Type 0} {see : A → B} {p q : Parser A} (one : Even see p q) where
  -- one item more
  same_more : (xs ys : List A) (x y : A) → map see xs ≡ map see ys → see x ≡ see y → map see (xs ++ x ∷ []) ≡ map see (ys ++ y ∷ [])
  same_more xs ys x y h e = map-append see xs (x ∷ []) ∙ ap (λ z. z ++ see x ∷ []) h ∙ ap (λ z. map see ys ++ z ∷ []) e ∙ sym (map-append see ys (y ∷ []))

  even_all_from : (kinds : Kinds) (n : ℕ) (xs ys : List A) → map see xs ≡ map see ys → Even (map see) (all_from kinds p n xs) (all_from kinds q n ys)
  unfolding all_from
  even_all_from kinds zero xs ys h = even_pure h
  even_all_from kinds (suc n) xs ys h = even_when kinds (even_bind one (λ x y e. even_all_from kinds n (xs ++ x ∷ []) (ys ++ y ∷ []) (same_more xs ys x y h e))) (even_pure h)

  pub even_all : (kinds : Kinds) (xs ys : List A) → map see xs ≡ map see ys → Even (map see) (all kinds p xs) (all kinds q ys)
  even_all kinds xs ys h = record { at = λ i j s. subst (λ n. SameOutcome (map see) (all kinds p xs i) (all_from kinds q n ys j)) (same_length i.ahead j.ahead s) ((even_all_from kinds (left i) xs ys h).at i j s) }

  module _ (close : Kind) where
    even_until_from : (n : ℕ) (xs ys : List A) → map see xs ≡ map see ys → Even (map see) (until_from close p n xs) (until_from close q n ys)
    unfolding until_from
    even_until_from zero xs ys h = even_refuse
    even_until_from (suc n) xs ys h = even_when (only close) (record { at = λ i j s. (h, same_next i j s) })
        (even_bind one (λ x y e. even_until_from n (xs ++ x ∷ []) (ys ++ y ∷ []) (same_more xs ys x y h e)))

    even_until : (xs ys : List A) → map see xs ≡ map see ys → Even (map see) (until close p xs) (until close q ys)
    even_until xs ys h = record { at = λ i j s. subst (λ n. SameOutcome (map see) (until close p xs i) (until_from close q n ys j)) (same_length i.ahead j.ahead s) ((even_until_from (left i) xs ys h).at i j s) }

    pub even_between : (w : Kind) → Even (map see) (items_between w close p) (items_between w close q)
    even_between w = even_bind {see = λ u. u} (even_token (only w) (λ x. tt {0})) (λ u v e. even_until [] [] refl)

    pub even_some_between : (w : Kind) → Even (map see) (some_between w close p) (some_between w close q)
    even_some_between w = even_bind {see = λ u. u} (even_token (only w) (λ x. tt {0})) (λ u v e. even_bind one (λ x y h. even_until (x ∷ []) (y ∷ []) (ap (λ z. z ∷ []) h)))

-- ---- a parser that calls itself, with as many levels as tokens are left, and one more

pub even_levels : {A B : Type 0} {see : A → B} (from : ℕ → Parser A) → ((n : ℕ) → Even see (from n) (from n)) → Even see (λ i. from (suc (left i)) i) (λ i. from (suc (left i)) i)
even_levels {see = see} from one = record { at = λ i j s. subst (λ n. SameOutcome see (from (suc (left i)) i) (from (suc n) j)) (same_length i.ahead j.ahead s) ((one (suc (left i))).at i j s) }
