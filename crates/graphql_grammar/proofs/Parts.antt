-- What parsers made of others read, from what these read.
use Rattle.std.proofs.Common.{◌≡◌, ◌≢◌, Result, true, false, if◌then◌else◌, Some, None, Ok, Err, sym, ap, ◌∙◌}
use Rattle.std.specs.Result.{IsErrAnd}
use Rattle.graphql_text.specs.declared.position.SourcePosition.{SourcePosition}
use Rattle.graphql_text.specs.declared.parse_error.ParseError.TheVariants.{Memory}
use Rattle.graphql_grammar.specs.Kinds.{Kinds}
use Rattle.graphql_grammar.specs.Input.{At, Input, Fault, Parser, Outcome, Reads, and_then, ◌>>=◌, pure, peek}
use Rattle.graphql_grammar.specs.Steps.{sees, when, with_place, located, optional}

-- ---- the exit of a `?`

-- it answers the fault that a part answered
pub exits : {A : Type 0} {o : Outcome A} {e : Fault} (r : Result A Fault) (new : Input) → IsErrAnd r (λ f. f ≡ e) → (e.item ≢ Memory → o ≡ Err e) → Reads o r new
exits {A} {o} {e} (Ok x) new is refused = absurd is
exits {A} {o} {e} (Err f) new is refused = λ told. refused (λ memory. told (ap (λ (g : Fault). g.item) is ∙ memory)) ∙ ap Err (sym is)

-- the same outcome for the whole as for the part
pub exits_with : {A B : Type 0} {o : Outcome A} {p : Outcome B} {e : Fault} (r : Result A Fault) (new : Input) → IsErrAnd r (λ f. f ≡ e)
    → (e.item ≢ Memory → p ≡ Err e) → (p ≡ Err e → o ≡ Err e) → Reads o r new
exits_with {A} {B} {o} {p} {e} r new is refused whole = exits {o = o} r new is (λ told. whole (refused told))

-- ---- one part, then another

pub then_read : {A B : Type 0} (p : Parser A) (f : A → Parser B) {i j : Input} {a : A} → p i ≡ Ok (a, j) → (p >>= f) i ≡ f a j
then_read {A} {B} p f {i} {j} {a} read = ap (λ (o : Outcome A). and_then o f) read

pub then_refused : {A B : Type 0} (p : Parser A) (f : A → Parser B) {i : Input} {e : Fault} → p i ≡ Err e → (p >>= f) i ≡ Err e
then_refused {A} {B} p f {i} {e} refused = ap (λ (o : Outcome A). and_then o f) refused

-- ---- choices

pub when_yes : {A : Type 0} (kinds : Kinds) (p q : Parser A) (i : Input) → sees kinds i ≡ true → when kinds p q i ≡ p i
when_yes kinds p q i e = ap (λ b. if b then p i else q i) e

pub when_no : {A : Type 0} (kinds : Kinds) (p q : Parser A) (i : Input) → sees kinds i ≡ false → when kinds p q i ≡ q i
when_no kinds p q i e = ap (λ b. if b then p i else q i) e

pub optional_none : {A : Type 0} (kinds : Kinds) (p : Parser A) (i : Input) → sees kinds i ≡ false → optional kinds p i ≡ Ok (None, i)
optional_none kinds p i e = when_no kinds (p >>= (λ x. pure (Some x))) (pure None) i e

pub optional_read : {A : Type 0} (kinds : Kinds) (p : Parser A) {i j : Input} {x : A} → sees kinds i ≡ true → p i ≡ Ok (x, j) → optional kinds p i ≡ Ok (Some x, j)
optional_read kinds p {i} {j} {x} e read = when_yes kinds (p >>= (λ y. pure (Some y))) (pure None) i e ∙ then_read p (λ y. pure (Some y)) read

pub optional_refused : {A : Type 0} (kinds : Kinds) (p : Parser A) {i : Input} {f : Fault} → sees kinds i ≡ true → p i ≡ Err f → optional kinds p i ≡ Err f
optional_refused kinds p {i} {f} e refused = when_yes kinds (p >>= (λ y. pure (Some y))) (pure None) i e ∙ then_refused p (λ y. pure (Some y)) refused

-- ---- places
--     let start = parser.start(); let item = p(parser)?; Ok(parser.closed(start, item))

pub located_read : {A : Type 0} (p : Parser A) {i j : Input} {x : A} {y : At A} {start : SourcePosition} → p i ≡ Ok (x, j)
    → start ≡ (peek i).span.start → y ≡ record { item = x; span = record { start = start; end = j.end } } → located p i ≡ Ok (y, j)
located_read {A} p {i} {j} {x} {y} {start} read begins is =
    ap (λ (o : Outcome A). and_then o (with_place i)) read
    ∙ ap (λ (s : SourcePosition). Ok (record { item = x; span = record { start = s; end = j.end } }, j)) (sym begins)
    ∙ ap (λ (z : At A). Ok (z, j)) (sym is)

pub located_refused : {A : Type 0} (p : Parser A) {i : Input} {e : Fault} → p i ≡ Err e → located p i ≡ Err e
located_refused {A} p {i} {e} refused = ap (λ (o : Outcome A). and_then o (with_place i)) refused
