-- The samples are read as they say.
use Rattle.std.proofs.Common.{◌≡◌, ℕ, List, [], ◌∷◌, refl, ap, Bool, false, true, codes}
use Rattle.std.proofs.lemmas.Bool.{true≢false}
use lib.Utf8.{encode}
use Rattle.graphql_text.specs.declared.position.SourcePosition.{SourcePosition}
use Rattle.graphql_text.specs.Reading.{Place, between}
use Rattle.graphql_text.specs.Tokens.{Tokens, FirstFault, cut, token, ahead, name_from}
use Rattle.graphql_text.specs.declared.token.Token.TheVariants.{Name, CurlyOpen, CurlyClose, EndOfFile}
use Rattle.graphql_text.specs.declared.token.LexerError.{LexerError}
use Rattle.graphql_text.specs.declared.token.LexerError.TheVariants.{UnknownCharacter, Memory}
use Rattle.graphql_lexer.specs.Laws.{GivesInTurn, HadMemory}
use Rattle.graphql_text.specs.Reading.{start_of}
use Rattle.graphql_law_rows.specs.SampleTokens.{answers, at, before_end, broken, done, ended, fault, token_at, one_line, opened, others, tokens, two_lines}

abbrev pub stands : SourcePosition → List ℕ → Place
stands position rest = record { at = position; rest = rest }

abbrev behind_opened : Place
behind_opened = stands (at 1 0 1) (10 ∷ 97 ∷ 125 ∷ [])

abbrev behind_named : Place
behind_named = stands (at 3 1 1) (125 ∷ [])

abbrev behind_closed : Place
behind_closed = stands (at 4 1 2) []

pub two_lines_are_read : Tokens two_lines tokens
unfolding cut token ahead name_from between encode
two_lines_are_read = record {
  front = before_end;
  last = ended;
  is = refl;
  before = behind_closed;
  after = behind_closed;
  runs = (behind_opened, refl, refl, (behind_named, refl, refl, (behind_closed, refl, refl, refl)));
  ends = refl;
  end = refl;
}

pub one_line_is_read : Tokens one_line others
unfolding cut token ahead name_from between encode
one_line_is_read = record {
  front =
      token_at CurlyOpen (at 0 0 0) (at 1 0 1) ∷ token_at (Name (codes "a")) (at 1 0 1) (at 2 0 2)
      ∷ token_at CurlyClose (at 2 0 2) (at 3 0 3) ∷ [];
  last = token_at EndOfFile (at 3 0 3) (at 3 0 3);
  is = refl;
  before = stands (at 3 0 3) [];
  after = stands (at 3 0 3) [];
  runs = (
    stands (at 1 0 1) (97 ∷ 125 ∷ []),
    refl,
    refl,
    (stands (at 2 0 2) (125 ∷ []), refl, refl, (stands (at 3 0 3) [], refl, refl, refl)),
  );
  ends = refl;
  end = refl;
}

abbrev behind_brace : Place
behind_brace = stands (at 1 0 1) (32 ∷ 63 ∷ [])

pub question_mark_refuses : FirstFault broken fault
unfolding cut token ahead
question_mark_refuses =
    record { front = opened ∷ []; before = behind_brace; runs = (behind_brace, refl, refl, refl); refuses = refl }

-- a lexer gives the brace, and then refuses the question mark
pub given_in_turn : GivesInTurn (record { place = start_of broken; is_done = false }) answers done
unfolding cut token ahead
given_in_turn = (
  record { place = behind_brace; is_done = false },
  (refl, refl, refl),
  (done, (refl, (λ _. refl), refl), refl),
)

abbrev is_unknown : LexerError → Bool
is_unknown (UnknownCharacter c) = true
is_unknown _ = false

pub had_memory : HadMemory answers
had_memory = (no_memory, tt)
  where
    no_memory : UnknownCharacter 63 ≡ Memory → ⊥
    no_memory e = true≢false (ap is_unknown e)
