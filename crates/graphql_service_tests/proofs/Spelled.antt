-- Two spellings of one query, as bytes and as characters.
use Rattle.std.proofs.Common.{◌≡◌, refl}
use Rattle.std.specs.Str.{chars, IsUtf8}
use Rattle.graphql_law_rows.specs.SampleTokens.{one_line, two_lines}
use lib.Utf8.{encode}

pub chars_of_two_lines : chars two_lines ≡ two_lines
unfolding chars
chars_of_two_lines = refl

pub chars_of_one_line : chars one_line ≡ one_line
unfolding chars
chars_of_one_line = refl

pub two_lines_are_utf8 : IsUtf8 two_lines
unfolding encode
two_lines_are_utf8 = (two_lines, (refl, refl))

pub one_line_is_utf8 : IsUtf8 one_line
unfolding encode
one_line_is_utf8 = (one_line, (refl, refl))
