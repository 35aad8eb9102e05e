-- The samples meet what laws ask of texts.
use Rattle.std.proofs.Common.{◌≡◌, List, [], ◌∷◌, refl, arith, inl, codes}
use lib.Utf8.{encode}
use Rattle.std.specs.Str.{chars}
use Rattle.graphql_scalars.specs.Laws.{HasFirstBadEscape}
use Rattle.graphql_scalars.specs.StringValue.{escape}
use Rattle.graphql_text.specs.Grammar.{ArePieces, IsName, Piece, character, code, escaped, spellings}
use Rattle.graphql_law_rows.specs.SampleScalars.{written, bad, unknown_escape}

pub id_is_a_name : IsName (codes "_id")
id_is_a_name = (refl, (refl, (refl, tt)))

abbrev pub pieces : List Piece
pieces = character 97 ∷ escaped 110 ∷ code 48 48 101 57 ∷ []

pub are_pieces : ArePieces pieces
are_pieces = (refl, (refl, (((refl, (refl, (refl, (refl, tt)))), inl (omega arith)), tt)))

written_characters : chars written ≡ written
unfolding chars
written_characters = refl

pub spell_written : chars written ≡ spellings pieces
spell_written = written_characters

bad_characters : chars bad ≡ bad
unfolding chars
bad_characters = refl

pub q_is_no_escape : HasFirstBadEscape (chars bad) unknown_escape
unfolding escape encode
q_is_no_escape =
    record { front = escaped 110 ∷ []; behind = 113 ∷ []; have = (refl, tt); is = bad_characters; bad = refl }
