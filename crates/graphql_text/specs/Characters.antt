-- Kinds of characters that crates above name too (GraphQL October 2021, 2.1 Source Text).
use Rattle.std.specs.Prelude.{ℕ, Bool, ◌||◌, ◌==◌}
use Rattle.std.specs.Char.{is_ascii_alphanumeric}

-- a space, a tab, a line end, a comma or U+FEFF, which are ignored (2.1.7 Ignored Tokens)
abbrev pub is_blank : ℕ → Bool
is_blank c = c == 32 || c == 9 || c == 10 || c == 13 || c == 44 || c == 0xFEFF

-- what may stand in a name behind its first character (2.1.9 Names)
abbrev pub continues_name : ℕ → Bool
continues_name c = c == 95 || is_ascii_alphanumeric c
