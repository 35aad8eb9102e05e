-- The tokens of a text, given one by one.
use Rattle.std.specs.Prelude.{◌≡◌, ℕ, ◌+◌, Bool, true, false, length, if◌then◌else◌, Option, Some}
use Rattle.std.specs.Prelude.{None, Result, Ok, Err}
use Rattle.graphql_text.specs.Memory.{UnlessMemory}
use Rattle.graphql_text.specs.Reading.{Place, Refusal, IsMemory}
use Rattle.graphql_text.specs.Tokens.{Located, cut, is_end}

-- where a lexer stands, and whether it gave its last answer
pub record Remains : Type 0 where
  pub place : Place
  pub is_done : Bool

abbrev pub TokenOrRefusal : Type 0
TokenOrRefusal = Result Located Refusal

-- what a lexer gives next: the next token, or what refuses it; nothing after the end or a refusal
abbrev pub GivesNext : Remains → Option TokenOrRefusal → Remains → Type 0
GivesNext s None t = (s.is_done ≡ true) × (t ≡ s)
GivesNext s (Some (Ok x)) t =
    (s.is_done ≡ false) × (cut s.place ≡ Ok (x, t.place)) × (t.is_done ≡ is_end x.item)
GivesNext s (Some (Err e)) t =
    (s.is_done ≡ false) × UnlessMemory IsMemory e (cut s.place ≡ Err e) × (t.is_done ≡ true)

-- no more answers than characters, and the end
abbrev pub items_left : Remains → ℕ
items_left s = if s.is_done then 0 else length s.place.rest + 1
