-- Strings, turn by turn.
use Rattle.std.proofs.Common.{◌≡◌, ℕ, Bool, true, false, cond, not, nat_lt, ◌==◌, ◌||◌, ◌&&◌, List, [], ◌∷◌, ◌++◌, append_assoc, sym, subst, ap, ◌∙◌, Result, Ok, Err, Option, Some, None}
use Rattle.std.specs.Char.{is_ascii_alphanumeric}
use Rattle.graphql_text.specs.declared.position.SourcePosition.{SourcePosition}
use Rattle.graphql_text.specs.Position.{step}
use Rattle.graphql_text.specs.Reading.{Place, Refusal, IsTail}
use Rattle.graphql_text.specs.Strings.{is_escape, is_code, Mode, plain, escape, code, turn_plain, turn_escape, turn_code, turn, turned, string_from}
use Rattle.graphql_lexer.specs.Modes.{IsModeAt}
use Rattle.graphql_lexer.proofs.Leading.{leads_refl, leads_one, Leads, same, leads_on, tail_of}

pub tail_next : (cs : List ℕ) (c : ℕ) (ds : List ℕ) → IsTail cs (c ∷ ds) → IsTail cs ds
tail_next cs c ds t = record { front = t.front ++ c ∷ []; is = t.is ∙ sym (append_assoc t.front (c ∷ []) ds) }

pub goes_on : (m k : Mode) (at to : SourcePosition) (c : ℕ) (cs rest : List ℕ) → rest ≡ c ∷ cs → to ≡ step at c → turn m at c cs ≡ Ok (Some k) → string_from k to cs ≡ string_from m at rest
goes_on m k at to c cs rest e p t =
    sym (ap (string_from m at) e ∙ ap (λ r. turned r (record { at = at; rest = c ∷ cs }) (λ j. string_from j (step at c) cs)) t ∙ ap (λ a. string_from k a cs) (sym p))

pub closing_leads : (m : Mode) (at : SourcePosition) (cs : List ℕ) → Leads (record { at = at; rest = cs }) same (string_from m at cs)
closing_leads m at [] = tt
closing_leads m at (c ∷ cs) =
    let p : Place = record { at = at; rest = c ∷ cs } in
    let q : Place = record { at = step at c; rest = cs } in
    elim (turn m at c cs) as (λ r. Leads p same (turned r p (λ k. string_from k (step at c) cs))) [
      | Ok o ↦ elim o as (λ o. Leads p same (turned (Ok o) p (λ k. string_from k (step at c) cs))) [
        | Some k ↦ leads_on p q same (string_from k (step at c) cs) (leads_one at c cs) (closing_leads k (step at c) cs)
        | None ↦ leads_refl p
      ]
      | Err e ↦ tt
    ]

abbrev pub ModeFits : List ℕ → Result (Option Mode) Refusal → Type 0
ModeFits cs (Ok None) = Unit {0}
ModeFits cs (Ok (Some k)) = IsModeAt k cs
ModeFits cs (Err e) = Unit {0}

fits_if : (cs : List ℕ) (b : Bool) (r s : Result (Option Mode) Refusal) → ModeFits cs r → ModeFits cs s → ModeFits cs (cond b r s)
fits_if cs true r s x y = x
fits_if cs false r s x y = y

turn_fits : (m : Mode) (at : SourcePosition) (c : ℕ) (cs : List ℕ) → IsModeAt m (c ∷ cs) → ModeFits cs (turn m at c cs)
unfolding turn turn_plain turn_escape turn_code
turn_fits plain at c cs h =
    fits_if cs (c == 34) _ _ tt (fits_if cs (c == 92) _ _ tt (fits_if cs (c == 10 || c == 13) _ _ tt (fits_if cs (nat_lt c 32 && not (c == 9)) _ _ tt tt)))
turn_fits escape at c cs h =
    let p : Place = record { at = at; rest = c ∷ cs } in
    let q : Place = record { at = step at c; rest = cs } in
    fits_if cs (is_escape c) _ _ tt (fits_if cs (c == 117) _ _ (tail_of p q (leads_one at c cs)) tt)
turn_fits (code from n) at c cs h =
    fits_if cs (is_ascii_alphanumeric c) _ _ (fits_if cs (nat_lt n 3) _ _ (tail_next from.rest c cs h) (fits_if cs (is_code from.rest) _ _ tt tt)) tt

pub mode_goes_on : (m k : Mode) (at : SourcePosition) (c : ℕ) (cs rest : List ℕ) → rest ≡ c ∷ cs → turn m at c cs ≡ Ok (Some k) → IsModeAt m rest → IsModeAt k cs
mode_goes_on m k at c cs rest e t h = subst (ModeFits cs) t (turn_fits m at c cs (subst (IsModeAt m) e h))
