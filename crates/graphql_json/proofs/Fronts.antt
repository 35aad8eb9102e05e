-- What stays in front of what is written, call after call.
use Rattle.std.proofs.Common.{◌≡◌, ℕ, List, [], ◌++◌, Result, Ok, Err, cond, is_ok, length, take, ap, sym, ◌∙◌, append-nil, append_assoc, arith}
use Rattle.std.proofs.lemmas.List.{take-append-le, take_all}
use Rattle.graphql_json.specs.Writing.{KeepsFront}

pub front_stays : (old : List ℕ) → KeepsFront old old
front_stays old = record { behind = []; is = sym (append-nil old) }

pub front_then : (old mid new : List ℕ) → KeepsFront old mid → KeepsFront mid new → KeepsFront old new
front_then old mid new h k = record {
  behind = h.behind ++ k.behind;
  is = k.is ∙ ap (λ xs. xs ++ k.behind) h.is ∙ append_assoc old h.behind k.behind;
}

-- a slice is added, or nothing is
pub front_extended : {A E : Type 0} (r : Result A E) (old new slice : List ℕ) → new ≡ cond (is_ok r) (old ++ slice) old → KeepsFront old new
front_extended (Ok x) old new slice is = record { behind = slice; is = is }
front_extended (Err x) old new slice is = record { behind = []; is = is ∙ sym (append-nil old) }

pub ruleset fronts = (front_stays, front_then, front_extended)

-- cut to the length of the old bytes, the new ones are these
pub front_cut : (old new : List ℕ) → KeepsFront old new → take (length old) new ≡ old
front_cut old new h =
    ap (take (length old)) h.is ∙ take-append-le (length old) old h.behind (omega arith) ∙ take_all (length old) old (omega arith)
