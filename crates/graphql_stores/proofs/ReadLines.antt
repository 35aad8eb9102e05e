-- Lines read one after another.
use Rattle.std.proofs.Common.{◌≡◌, ◌<◌, ◌≤◌, ◌+◌, ℕ, Bool, true, false, ◌||◌, List, [], ◌∷◌, ◌++◌, append_assoc, length, take, drop, Result, Err, ap, sym, subst, refl, ◌∙◌, arith}
use Rattle.std.specs.Prelude.{IsErrAnd}
use Rattle.std.specs.List.{All, list_any}
use Rattle.std.proofs.lemmas.List.{length-drop, length_push}
use Rattle.std.proofs.lemmas.List.Elements.{All-nil, All-push}
use Rattle.std.proofs.lemmas.List.Folds.{list_any-append}
use Rattle.std.proofs.lemmas.Result.{err_from_is_err_and}
use Rattle.graphql_names.specs.Names.{Bytes}
use Rattle.graphql_streams.specs.Lines.{EndsHere, EndsLater, lines}
use Rattle.graphql_stores.specs.Told.{FirstFault, IsFine, tells}
use Rattle.graphql_stores.specs.Stores.{AllowsMore, ReadsFile, TakesLine, is_allowed}
use Rattle.graphql_stores.specs.declared.allowed_fault.AllowedFault.{AllowedFault}
use Rattle.graphql_stores.specs.declared.allowed_fault.AllowedFault.TheVariants as fault
use Rattle.graphql_stores.specs.declared.allowed_queries.AllowedQueries.{AllowedQueries}

-- the store allows what these lines tell
abbrev pub Allows : AllowedQueries → List Bytes → Type 0
Allows store ls = (plain : Bytes) → is_allowed store plain ≡ list_any (tells plain) ls

-- the lines before the rest, so many, are fine, and the store allows what they tell
pub record ReadSoFar (file rest : Bytes) (before : ℕ) (store : AllowedQueries) : Type 0 where
  pub done : List Bytes
  pub is : lines file ≡ done ++ lines rest
  pub many : before ≡ length done
  pub room : before + length rest ≤ length file
  pub fine : All IsFine done
  pub holds : Allows store done

or-false : (a : Bool) → (a || false) ≡ a
or-false true = refl
or-false false = refl

lines-here : (bs : Bytes) (end : ℕ) → EndsHere bs end → lines bs ≡ take end bs ∷ lines (drop (end + 1) bs)
lines-here bs end here = (λ i. here.first [] i ++ here.last [] i ∷ [])

lines-later : (bs : Bytes) → EndsLater bs → lines bs ≡ bs ∷ []
lines-later bs later = (λ i. later.none [] i ++ later.last [] i ∷ [])

one-more : (store new : AllowedQueries) (done : List Bytes) (line : Bytes) → Allows store done
    → AllowsMore store line new → Allows new (done ++ line ∷ [])
one-more store new done line holds more plain =
    more plain ∙ ap (λ b. b || tells plain line) (holds plain)
    ∙ ap (λ b. list_any (tells plain) done || b) (sym (or-false (tells plain line)))
    ∙ sym (list_any-append (tells plain) done (line ∷ []))

pub read-first : (file : Bytes) (store : AllowedQueries) → ((plain : Bytes) → is_allowed store plain ≡ false)
    → ReadSoFar file file 0 store
read-first file store none = record {
  done = [];
  is = refl;
  many = refl;
  room = omega arith;
  fine = All-nil IsFine;
  holds = none;
}

pub read-more : (file rest : Bytes) (before : ℕ) (store new : AllowedQueries) (end : ℕ)
    → ReadSoFar file rest before store
    → EndsHere rest end → end < length rest → IsFine (take end rest) → AllowsMore store (take end rest) new
    → ReadSoFar file (drop (end + 1) rest) (before + 1) new
read-more file rest before store new end r here within fine more = record {
  done = r.done ++ take end rest ∷ [];
  is =
      r.is ∙ ap (λ ls. r.done ++ ls) (lines-here rest end here)
      ∙ sym (append_assoc r.done (take end rest ∷ []) (lines (drop (end + 1) rest)));
  many = ap (λ n. n + 1) r.many ∙ sym (length_push r.done (take end rest));
  room = omega (arith, r.room, within, length-drop (end + 1) rest);
  fine = All-push IsFine r.done (take end rest) r.fine fine;
  holds = one-more store new r.done (take end rest) r.holds more;
}

pub read-all : (file rest : Bytes) (before : ℕ) (store new : AllowedQueries) → ReadSoFar file rest before store
    → EndsLater rest → IsFine rest → AllowsMore store rest new → All IsFine (lines file) × Allows new (lines file)
read-all file rest before store new r later fine more =
    let all : r.done ++ rest ∷ [] ≡ lines file = sym (r.is ∙ ap (λ ls. r.done ++ ls) (lines-later rest later)) in (
      subst (All IsFine) all (All-push IsFine r.done rest r.fine fine),
      subst (Allows new) all (one-more store new r.done rest r.holds more),
    )

pub fault-here : (file rest : Bytes) (before : ℕ) (store : AllowedQueries) (end : ℕ) (number : ℕ)
    → ReadSoFar file rest before store
    → EndsHere rest end → number ≡ before + 1 → (IsFine (take end rest) → ⊥) → FirstFault (lines file) number
fault-here file rest before store end number r here place bad = record {
  before = r.done;
  line = take end rest;
  behind = lines (drop (end + 1) rest);
  is = r.is ∙ ap (λ ls. r.done ++ ls) (lines-here rest end here);
  place = place ∙ ap (λ n. n + 1) r.many;
  fine = r.fine;
  fault = bad;
}

pub fault-last : (file rest : Bytes) (before : ℕ) (store : AllowedQueries) (number : ℕ)
    → ReadSoFar file rest before store
    → EndsLater rest → number ≡ before + 1 → (IsFine rest → ⊥) → FirstFault (lines file) number
fault-last file rest before store number r later place bad = record {
  before = r.done;
  line = rest;
  behind = [];
  is = r.is ∙ ap (λ ls. r.done ++ ls) (lines-later rest later);
  place = place ∙ ap (λ n. n + 1) r.many;
  fine = r.fine;
  fault = bad;
}

-- a fault that is handed on
here-told : (file rest : Bytes) (before : ℕ) (store new : AllowedQueries) (end : ℕ) (why : AllowedFault)
    → ReadSoFar file rest before store
    → EndsHere rest end → TakesLine {A = Unit {0}} store (take end rest) before new (Err why) → ReadsFile file (Err why)
here-told file rest before store new end (fault.Line number) r here told =
    fault-here file rest before store end number r here told.0 told.1
here-told file rest before store new end fault.Memory r here told = tt

last-told : (file rest : Bytes) (before : ℕ) (store new : AllowedQueries) (why : AllowedFault)
    → ReadSoFar file rest before store
    → EndsLater rest → TakesLine {A = Unit {0}} store rest before new (Err why) → ReadsFile file (Err why)
last-told file rest before store new (fault.Line number) r later told =
    fault-last file rest before store number r later told.0 told.1
last-told file rest before store new fault.Memory r later told = tt

pub handed-here : (file rest : Bytes) (before : ℕ) (store new : AllowedQueries) (end : ℕ)
    (result : Result AllowedQueries AllowedFault)
    (why : AllowedFault) → IsErrAnd result (λ e. e ≡ why) → ReadSoFar file rest before store → EndsHere rest end
    → TakesLine {A = Unit {0}} store (take end rest) before new (Err why) → ReadsFile file result
handed-here file rest before store new end result why handed r here told =
    let is = err_from_is_err_and result handed in
    subst (ReadsFile file) (sym (is.1 ∙ ap (λ (e : AllowedFault). Err e) is.2))
    (here-told file rest before store new end why r here told)

pub handed-last : (file rest : Bytes) (before : ℕ) (store new : AllowedQueries)
    (result : Result AllowedQueries AllowedFault)
    (why : AllowedFault) → IsErrAnd result (λ e. e ≡ why) → ReadSoFar file rest before store → EndsLater rest
    → TakesLine {A = Unit {0}} store rest before new (Err why) → ReadsFile file result
handed-last file rest before store new result why handed r later told =
    let is = err_from_is_err_and result handed in
    subst (ReadsFile file) (sym (is.1 ∙ ap (λ (e : AllowedFault). Err e) is.2))
    (last-told file rest before store new why r later told)
