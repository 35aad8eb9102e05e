-- What a store allows once a line is taken.
use Rattle.std.proofs.Common.{◌≡◌, Bool, true, false, cond, ◌||◌, [], ◌∷◌, length, Option, Some, String, is_some, nat_eq, string_bytes, ap, sym, refl, ◌∙◌, arith}
use Rattle.std.specs.Prelude.{option_and_then}
use Rattle.std.specs.Option.{option_map_or}
use Rattle.std.specs.HashSet as bag
use Rattle.std.specs.Str.{bytes_eq}
use Rattle.std.specs.Cmp.Lexicographic.{nat_list_eq_equiv}
use Rattle.std.specs.String.{string_eq}
use Rattle.std.specs.declared.alloc.Global.{Global}
use Rattle.std.proofs.lemmas.Bool.{eqb-true, true≢false}
use Rattle.std.proofs.lemmas.Map.Text.{hash_set_updates_text}
use Rattle.graphql_names.specs.Names.{Bytes}
use Rattle.graphql_lines.specs.Request.{data_of}
use Rattle.graphql_stores.specs.Told.{IsFine, plain_in, text_in_line}
use Rattle.graphql_stores.specs.Stores.{AllowsMore, is_allowed}
use Rattle.graphql_stores.specs.declared.allowed_queries.AllowedQueries.{AllowedQueries}

or-false : (a : Bool) → a ≡ (a || false)
or-false true = refl
or-false false = refl

or-true : (a : Bool) → true ≡ (a || true)
or-true true = refl
or-true false = refl

-- an empty line adds nothing
pub empty-taken : (store : AllowedQueries) (line : Bytes) → true ≡ nat_eq (length line) 0
    → IsFine line × AllowsMore store line store
empty-taken store [] e = (tt, λ plain. or-false (is_allowed store plain))
empty-taken store (b ∷ bs) e = absurd (let none = eqb-true (length (b ∷ bs)) 0 (sym e) in omega (arith, none))

-- a line that tells a text is fine
told-fine : (line text : Bytes) → text_in_line line ≡ Some text → IsFine line
told-fine [] text e = tt
told-fine (b ∷ bs) text e = ap is_some e

line-told : (line : Bytes) (o : Option Bytes) → false ≡ nat_eq (length line) 0
    → o ≡ option_and_then plain_in (data_of line) → text_in_line line ≡ o
line-told [] o full e = absurd (true≢false (sym full))
line-told (b ∷ bs) o full e = sym e

-- and adds it
added : (plain text : Bytes) (old new : Bool) → new ≡ cond (bytes_eq text plain) true old
    → new ≡ (old || bytes_eq plain text)
added plain text old new e =
    e ∙ ap (λ q. cond q true old) (nat_list_eq_equiv.symm text plain) ∙ either (bytes_eq plain text)
  where
    either : (q : Bool) → cond q true old ≡ (old || q)
    either true = or-true old
    either false = or-false old

pub text-taken : (store new : AllowedQueries) (line : Bytes) (text : String Global) → false ≡ nat_eq (length line) 0
    → Some (string_bytes text) ≡ option_and_then plain_in (data_of line)
    → bag.UpdatesBy string_eq (λ k. bytes_eq (string_bytes text) (string_bytes k)) store.texts new.texts true
    → IsFine line × AllowsMore store line new
text-taken store new line text full e updates =
    let is : text_in_line line ≡ Some (string_bytes text) = line-told line (Some (string_bytes text)) full e in (
      told-fine line (string_bytes text) is,
      λ plain.
          added plain (string_bytes text) (is_allowed store plain) (is_allowed new plain)
          (hash_set_updates_text (string_bytes text) store.texts new.texts true updates plain)
          ∙ ap (λ o. is_allowed store plain || option_map_or (bytes_eq plain) o false) (sym is),
    )
