-- Reading a text of characters, from one place to the next.
use Rattle.std.specs.Prelude.{◌≡◌, ℕ, nat_le, false, ◌-◌, ◌||◌, Bool, List, [], ◌∷◌, ◌++◌, length}
use Rattle.std.specs.Prelude.{take, if◌then◌else◌, ◌==◌, Result, Err}
use Rattle.std.specs.Char.{is_ascii_digit, is_ascii_alphabetic}
use Rattle.std.specs.Str.{chars}
use Rattle.graphql_text.specs.declared.position.SourcePosition.{SourcePosition}
use Rattle.graphql_text.specs.declared.position.Span.{Span}
use Rattle.graphql_text.specs.declared.spanning.Spanning.{Spanning}
use Rattle.graphql_text.specs.declared.token.LexerError.{LexerError}
use Rattle.graphql_text.specs.declared.token.LexerError.TheVariants.{Memory}
use Rattle.graphql_text.specs.declared.cursor.Cursor.{Cursor}
use Rattle.graphql_text.specs.declared.class.Class.{Class}
use Rattle.graphql_text.specs.declared.class.Class.TheVariants as class
use Rattle.graphql_text.specs.Characters.{is_blank, continues_name}
use Rattle.graphql_text.specs.Position.{step, origin}
pub use Rattle.graphql_text.specs.Memory.{◌>>=◌}

-- a place in a text, and the characters from there on
pub record Place : Type 0 where
  pub at : SourcePosition
  pub rest : List ℕ

-- where a cursor stands
abbrev pub place_of : Cursor → Place
place_of c = record { at = c.at; rest = chars c.rest.now }

-- the start of a text
abbrev pub start_of : List ℕ → Place
start_of cs = record { at = origin; rest = cs }

-- the characters of each kind (2.1.1 Unicode to 2.1.9 Names, 2.9.1 Int Value, 2.9.2 Float Value)
abbrev pub is_in : Class → ℕ → Bool
is_in class.NameStart c = c == 95 || is_ascii_alphabetic c
is_in class.NameContinue c = continues_name c
is_in class.Digit c = is_ascii_digit c
is_in class.Minus c = c == 45
is_in class.Quote c = c == 34
is_in class.Point c = c == 46
is_in class.Exponent c = c == 101 || c == 69
is_in class.Sign c = c == 43 || c == 45
is_in class.Ignored c = is_blank c
is_in class.Comment c = nat_le 32 c || c == 9

-- whether a character of a kind comes next
unfoldable pub begins : Class → Place → Bool
begins k p = begins_with p.rest
  where
    begins_with : List ℕ → Bool
    begins_with [] = false
    begins_with (c ∷ cs) = is_in k c

-- the place behind one character of a kind, if it comes next
unfoldable pub past_one : Class → Place → Place
past_one k p = past_at p.at p.rest
  where
    past_at : SourcePosition → List ℕ → Place
    past_at at [] = record { at = at; rest = [] }
    past_at at (c ∷ cs) = if is_in k c then record { at = step at c; rest = cs }
        else record { at = at; rest = c ∷ cs }

-- the place behind the characters of a kind
abbrev pub past : Class → SourcePosition → List ℕ → Place
past k at [] = record { at = at; rest = [] }
past k at (c ∷ cs) = if is_in k c then past k (step at c) cs else record { at = at; rest = c ∷ cs }

-- what is left of a text
pub record IsTail (whole rest : List ℕ) : Type 0 where
  pub front : List ℕ
  pub is : whole ≡ front ++ rest

-- what stands in a text before its tail
unfoldable pub between : List ℕ → List ℕ → List ℕ
between whole rest = take (length whole - length rest) whole

-- ---- what reading answers

-- a fault, and where it is
abbrev pub Refusal : Type 0
Refusal = Spanning LexerError Span

-- a fault at a place
abbrev pub refused : {A : Type 0} → LexerError → SourcePosition → Result A Refusal
refused e at = Err (record { item = e; span = record { start = at; end = at } })

-- want of memory, which tells nothing of the text
abbrev pub IsMemory : Refusal → Type 0
IsMemory e = e.item ≡ Memory
