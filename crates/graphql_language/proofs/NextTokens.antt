-- Single tokens that stand next.
use Rattle.std.proofs.Common.{◌≡◌, ◌≢◌, ℕ, Bool, true, false, Option, Some, None, List, [], ◌∷◌, drop, Ok, Err, MatchOption, ap, ◌∙◌, sym, refl, subst}
use Rattle.graphql_text.specs.declared.position.SourcePosition.{SourcePosition}
use Rattle.graphql_text.specs.declared.position.Span.{Span}
use Rattle.graphql_text.specs.declared.token.Token.{Token}
use Rattle.graphql_text.specs.declared.token.Token.TheVariants.{EndOfFile}
use Rattle.graphql_text.specs.declared.token.Token.TheVariants as t
use Rattle.graphql_grammar.specs.Kinds.{names}
use Rattle.graphql_grammar.specs.Input.{At, Input, Located, Fault, Reads, first, end_after, peek, peek_kind, next, refusal}
use Rattle.graphql_grammar.specs.Steps.{sees, name, name_of}
use Rattle.graphql_grammar.specs.Ahead.{mk}
use Rattle.graphql_grammar.proofs.Cursors.{token_yes, token_no}
use Rattle.graphql_grammar.proofs.FirstFaults.{same_pair}
use Rattle.graphql_value_syntax.proofs.ValueLaws.{name_token, name_kind}
use Rattle.graphql_language.specs.Parser.{State, Rule, CallsFresh, Calls, RefusesAgain, ReadsBy, ThisToken, MaybeToken, NextName}

-- a parser that answers has not failed
pub answered : {A : Type 0} (rule : Rule A) (s t : State) (x : A) → Calls rule s (Ok x) t → rule s.input (Ok x) t.input
answered {A} rule s t x calls = on s.refused calls
  where
    on : (o : Option Fault) → MatchOption o (CallsFresh rule s.input (Ok x) t) (λ e. RefusesAgain {A = A} e (Ok x) × (t ≡ s)) → rule s.input (Ok x) t.input
    on None gives = gives.0
    on (Some e) again = absurd again.0

-- a token that was read stood in front
pub record TokenRead (wanted : Token) (i : Input) (token : Located) (j : Input) : Type 0 where
  pub is : token.item ≡ wanted
  pub front : i.ahead ≡ token ∷ j.ahead
  pub after : j ≡ mk j.ahead i.finish token.span.end

first_next : (f : Span) (e : SourcePosition) (xs : List Located) → (first f xs).item ≢ EndOfFile → (xs ≡ first f xs ∷ drop 1 xs) × (end_after e xs ≡ (first f xs).span.end)
first_next f e [] h = absurd (h refl)
first_next f e (x ∷ xs) h = (refl, refl)

peek_next : (i : Input) → (peek i).item ≢ EndOfFile → TokenRead (peek i).item i (peek i) (next i)
unfolding peek next
peek_next i h = let r = first_next i.finish i.end i.ahead h in record { is = refl; front = r.0; after = ap (λ e. mk (drop 1 i.ahead) i.finish e) r.1 }

pub token_read : (wanted : Token) (i j : Input) (token : Located) → (peek i).item ≡ wanted → (peek i).item ≢ EndOfFile → token ≡ peek i → j ≡ next i → TokenRead wanted i token j
token_read wanted i j token is other same behind =
    let P : Token → Type 0 = λ w. TokenRead w i (peek i) (next i) in
    let Q : Located → Type 0 = λ x. TokenRead wanted i x (next i) in
    let R : Input → Type 0 = λ k. TokenRead wanted i token k in
    subst R (sym behind) (subst Q (sym same) (subst P is (peek_next i other)))

pub opened : (wanted : Token) (s t : State) (token : Located) → Calls (ThisToken wanted) s (Ok token) t → TokenRead wanted s.input token t.input
opened wanted s t token calls = let r = answered (ThisToken wanted) s t token calls in token_read wanted s.input t.input token r.0 r.1 r.2 r.3

pub last_read : (wanted : Token) (s t : State) (token : Located) → Calls (MaybeToken wanted) s (Ok (Some token)) t → TokenRead wanted s.input token t.input
last_read wanted s t token calls = let r = answered (MaybeToken wanted) s t (Some token) calls in token_read wanted s.input t.input token r.0 r.1 r.2 r.3

-- ---- names

name_next : (i j : Input) (n : List ℕ) (b : Bool) → sees names i ≡ b → name i ≡ Ok (n, j) → ((peek i).item ≡ t.Name n) × (j ≡ next i)
unfolding sees peek_kind
name_next i j n true seen read =
    let both = same_pair (name_of (peek i).item, next i) (n, j) (sym (token_yes names name_of i seen) ∙ read) in
    (name_token (peek i).item seen ∙ ap t.Name (ap (λ q. q.0) both), sym (ap (λ q. q.1) both))
name_next i j n false seen read = absurd (let q = sym (token_no names name_of i seen) ∙ read in cc)

no_name_next : (i : Input) (e : Fault) (b : Bool) → sees names i ≡ b → name i ≡ Err e → ((n : List ℕ) → (peek i).item ≢ t.Name n) × (e ≡ refusal i)
unfolding sees peek_kind
no_name_next i e true seen refused = absurd (let q = sym (token_yes names name_of i seen) ∙ refused in cc)
no_name_next i e false seen refused = (λ n is. let q = sym (name_kind (peek i).item n is) ∙ seen in cc, let q = sym (token_no names name_of i seen) ∙ refused in cc)

ends_there : (i j : Input) → (peek i).item ≢ EndOfFile → j ≡ next i → j.end ≡ (peek i).span.end
ends_there i j not_end is = ap (λ (k : Input). k.end) is ∙ ap (λ (k : Input). k.end) (peek_next i not_end).after

-- a name that was read, with its place
pub reads_by_name : (i j : Input) (n : List ℕ) (y : At (List ℕ)) (start : SourcePosition) → name i ≡ Ok (n, j) → start ≡ (peek i).span.start → y ≡ record { item = n; span = record { start = start; end = j.end } } → NextName i (Ok y) j
reads_by_name i j n y start read begins is =
    let r = name_next i j n (sees names i) refl read in
    let ends = ends_there i j (λ e. let q = sym e ∙ r.0 in cc) r.1 in (
      r.0 ∙ ap (λ (z : At (List ℕ)). t.Name z.item) (sym is),
      ap (λ (z : At (List ℕ)). z.span) is ∙ ap (λ z. record { start = z; end = j.end }) begins ∙ ap (λ z. record { start = (peek i).span.start; end = z }) ends,
      r.1,
    )

-- and one that was refused
pub reads_by_no_name : (i j : Input) (e : Fault) → Reads (name i) (Err e) j → j ≡ i → ReadsBy NextName i (Err e) j
unfolding refusal
reads_by_no_name i j e refused stays = λ told.
    let r = no_name_next i e (sees names i) refl (refused told) in
    ((r.0, r.1, stays), ap (λ (z : Input). (peek z).span) stays ∙ sym (ap (λ (z : Fault). z.span) r.1))
