-- The turns of lists between two tokens.
use Rattle.std.proofs.Common.{◌≡◌, Option, Some, None, List, Result, Ok, MatchOption, sym, subst}
use Rattle.graphql_text.specs.declared.token.Token.{Token}
use Rattle.graphql_grammar.specs.Input.{At, Located, Fault}
use Rattle.graphql_language.specs.Parser.{State, RefusesAgain, CallsFresh, Calls, ThisToken, MaybeToken}
use Rattle.graphql_language.specs.Lists.{Call, Until, enclosed, Delimited, listed}

-- where the closing token does not stand, the parser stays
pub skipped_none : (wanted : Token) (s m : State) → Calls (MaybeToken wanted) s (Ok None) m → m.input ≡ s.input
skipped_none wanted s m calls = on s.refused calls
  where
    on : (o : Option Fault) → MatchOption o (CallsFresh (MaybeToken wanted) s.input (Ok None) m) (λ e. RefusesAgain {A = Option Located} e (Ok None) × (m ≡ s)) → m.input ≡ s.input
    on None gives = gives.0.2
    on (Some e) again = absurd again.0

-- the answer by its cases
pub skipped_as : (wanted : Token) (s m : State) {x : Option Located} (o : Option Located) → x ≡ o → Calls (MaybeToken wanted) s (Ok x) m → Calls (MaybeToken wanted) s (Ok o) m
skipped_as wanted s m {x} o is calls = let P : Option Located → Type 0 = λ z. Calls (MaybeToken wanted) s (Ok z) m in subst P is calls

-- the same items, in the same state
pub until_same : {A : Type 0} (closing : Token) (item : Call A) {xs ys : List A} {s n t : State} {r : Result (List A × Located) Fault} → xs ≡ ys → s ≡ n
    → Until closing item xs s r t → Until closing item ys n r t
until_same {A} closing item {xs} {ys} {s} {n} {t} {r} same stays u =
    let P : List A → Type 0 = λ zs. Until closing item zs s r t in
    let Q : State → Type 0 = λ z. Until closing item ys z r t in
    subst Q stays (subst P same u)

-- the list has its place
pub listed_as : {A : Type 0} (opening : Token) (items : Call (List A × Located)) {s m t : State} (first : Located) {y : At (List A)} (xs : List A × Located) → Calls (ThisToken opening) s (Ok first) m
    → items m (Ok xs) t → y ≡ enclosed first xs → Delimited opening items s (Ok y) t
listed_as {A} opening items {s} {m} {t} first {y} xs opened read is =
    let P : At (List A) → Type 0 = λ z. Delimited opening items s (Ok z) t in
    subst P (sym is) (listed s m t first xs opened read)
