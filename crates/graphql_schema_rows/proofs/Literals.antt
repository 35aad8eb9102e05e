-- What a description and the name of an enum's value read.
use Rattle.std.proofs.Common.{◌≡◌, ◌≢◌, true, false, if◌then◌else◌, List, [], ◌∷◌, Ok, Err, ap, refl}
use Rattle.graphql_text.specs.declared.position.Span.{Span}
use Rattle.graphql_text.specs.declared.position.SourcePosition.{SourcePosition}
use Rattle.graphql_grammar.specs.declared.kind.Kind.{Kind}
use Rattle.graphql_grammar.specs.declared.kind.Kind.TheVariants as k
use Rattle.graphql_grammar.specs.Ahead.{mk, kind_ahead}
use Rattle.graphql_grammar.specs.Input.{Input, Located, next, peek, peek_kind, refusal, refuse}
use Rattle.graphql_grammar.specs.Kinds.{enum_names, names, only}
use Rattle.graphql_grammar.specs.Steps.{name, name_in, name_of, sees, token}
use Rattle.graphql_grammar.proofs.Choices.{token_reads}
use Rattle.graphql_grammar.proofs.Parts.{located_read, when_no}
use Rattle.graphql_schema_rows.specs.ReadDefinitions.{literal}

literal_ahead : (f : Span) (e : SourcePosition) (xs : List Located) → only k.Scalar (kind_ahead xs) ≡ true → literal (mk xs f e) ≡ Ok (peek (mk xs f e), next (mk xs f e))
unfolding peek next
literal_ahead f e [] h = absurd (cc)
literal_ahead f e (a ∷ xs) h =
    located_read (token (only k.Scalar) (λ v. v)) {i = mk (a ∷ xs) f e} {j = mk xs f a.span.end} {x = a.item} {y = a} {start = a.span.start}
    (token_reads (only k.Scalar) (λ v. v) a xs f e h) refl refl

kind_sees : (f : Span) (e : SourcePosition) (xs : List Located) → sees (only k.Scalar) (mk xs f e) ≡ true → only k.Scalar (kind_ahead xs) ≡ true
unfolding sees peek_kind peek
kind_sees f e [] h = h
kind_sees f e (a ∷ xs) h = h

pub literal_read : (i : Input) → sees (only k.Scalar) i ≡ true → literal i ≡ Ok (peek i, next i)
literal_read i seen = literal_ahead i.finish i.end i.ahead (kind_sees i.finish i.end i.ahead seen)

enum_names_same : (w : Kind) → w ≢ k.True → w ≢ k.False → w ≢ k.Null → enum_names w ≡ names w
enum_names_same k.True not_true not_false not_null = absurd (not_true refl)
enum_names_same k.False not_true not_false not_null = absurd (not_false refl)
enum_names_same k.Null not_true not_false not_null = absurd (not_null refl)
enum_names_same k.Name not_true not_false not_null = refl
enum_names_same k.On not_true not_false not_null = refl
enum_names_same k.Query not_true not_false not_null = refl
enum_names_same k.Mutation not_true not_false not_null = refl
enum_names_same k.Subscription not_true not_false not_null = refl
enum_names_same k.Fragment not_true not_false not_null = refl
enum_names_same k.Scalar not_true not_false not_null = refl
enum_names_same k.ExclamationMark not_true not_false not_null = refl
enum_names_same k.Dollar not_true not_false not_null = refl
enum_names_same k.ParenOpen not_true not_false not_null = refl
enum_names_same k.ParenClose not_true not_false not_null = refl
enum_names_same k.BracketOpen not_true not_false not_null = refl
enum_names_same k.BracketClose not_true not_false not_null = refl
enum_names_same k.CurlyOpen not_true not_false not_null = refl
enum_names_same k.CurlyClose not_true not_false not_null = refl
enum_names_same k.Ellipsis not_true not_false not_null = refl
enum_names_same k.Colon not_true not_false not_null = refl
enum_names_same k.Equals not_true not_false not_null = refl
enum_names_same k.At not_true not_false not_null = refl
enum_names_same k.Pipe not_true not_false not_null = refl
enum_names_same k.EndOfFile not_true not_false not_null = refl

pub value_name_refused : (i : Input) → enum_names (peek_kind i) ≡ false → name_in enum_names i ≡ Err (refusal i)
unfolding sees token
value_name_refused i h = when_no enum_names (λ j. Ok (name_of (peek j).item, next j)) refuse i h

pub value_name_same : (i : Input) → peek_kind i ≢ k.True → peek_kind i ≢ k.False → peek_kind i ≢ k.Null → name_in enum_names i ≡ name i
unfolding sees token
value_name_same i not_true not_false not_null =
    ap (λ b. if b then Ok (name_of (peek i).item, next i) else Err (refusal i)) (enum_names_same (peek_kind i) not_true not_false not_null)
