-- What a parser begins with, whatever its parts read.
use Rattle.std.proofs.Common.{◌≡◌, Bool, true, false, Ok, ◌∙◌, sym, refl}
use Rattle.graphql_text.specs.declared.token.Token.{Token}
use Rattle.graphql_grammar.specs.Kinds.{Kinds, either, are_among}
use Rattle.graphql_grammar.specs.Input.{Input, Parser, ◌>>=◌}
use Rattle.graphql_grammar.specs.Steps.{when, token, located, with_place}
use Rattle.graphql_grammar.specs.Ahead.{In, kind_ahead}
use Rattle.graphql_grammar.proofs.Sets.{in_left, in_right, within_is}
use Rattle.graphql_grammar.proofs.Stops.{ran_before}
use Rattle.graphql_grammar.proofs.Choices.{when_else, token_begins}

-- where it reads, one of these kinds stands next
pub record BeginsWith {A : Type 0} (kinds : Kinds) (p : Parser A) : Type 0 where
  pub at : (i j : Input) (x : A) → p i ≡ Ok (x, j) → In kinds i.ahead

pub begins_token : {A : Type 0} (kinds : Kinds) (meaning : Token → A) → BeginsWith kinds (token kinds meaning)
begins_token kinds meaning = record { at = λ i j x r. token_begins kinds meaning (kinds (kind_ahead i.ahead)) i j x refl r }

pub begins_bind : {A B : Type 0} {kinds : Kinds} {p : Parser A} (g : A → Parser B) → BeginsWith kinds p → BeginsWith kinds (p >>= g)
begins_bind {p = p} g h = record { at = λ i j y r. let u = ran_before (p i) g (y, j) r in h.at i u.0.1 u.0.0 u.1 }

pub begins_located : {A : Type 0} {kinds : Kinds} {p : Parser A} → BeginsWith kinds p → BeginsWith kinds (located p)
begins_located {p = p} h = record { at = λ i j y r. let u = ran_before (p i) (with_place i) (y, j) r in h.at i u.0.1 u.0.0 u.1 }

begins_by : {A : Type 0} (c kinds : Kinds) (p q : Parser A) (b : Bool) → BeginsWith kinds q → (i j : Input) (x : A) → c (kind_ahead i.ahead) ≡ b → when c p q i ≡ Ok (x, j) → In (either c kinds) i.ahead
begins_by c kinds p q true h i j x is r = in_left (c (kind_ahead i.ahead)) (kinds (kind_ahead i.ahead)) is
begins_by c kinds p q false h i j x is r = in_right (c (kind_ahead i.ahead)) (kinds (kind_ahead i.ahead)) (h.at i j x (sym (when_else c p q i is) ∙ r))

pub begins_when : {A : Type 0} (c : Kinds) (p : Parser A) {kinds : Kinds} {q : Parser A} → BeginsWith kinds q → BeginsWith (either c kinds) (when c p q)
begins_when c p {kinds = kinds} {q = q} h = record { at = λ i j x r. begins_by c kinds p q (c (kind_ahead i.ahead)) h i j x refl r }

pub begins_wider : {A : Type 0} (kinds wider : Kinds) {p : Parser A} → are_among kinds wider ≡ true → BeginsWith kinds p → BeginsWith wider p
begins_wider kinds wider sub h = record { at = λ i j x r. within_is kinds wider sub (kind_ahead i.ahead) (h.at i j x r) }

pub begins_same : {A : Type 0} {kinds : Kinds} {p q : Parser A} → ((i : Input) → q i ≡ p i) → BeginsWith kinds p → BeginsWith kinds q
begins_same same h = record { at = λ i j x r. h.at i j x (sym (same i) ∙ r) }
