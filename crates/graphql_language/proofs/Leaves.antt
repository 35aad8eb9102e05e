-- A list between two tokens leaves the rest of the input.
use Rattle.std.proofs.Common.{◌≡◌, Some, None, List, [], ◌∷◌, ◌++◌, Result, Ok, Err, ap, ◌∙◌, sym, subst}
use Rattle.std.proofs.lemmas.Option.{MatchOption-at_none}
use Rattle.graphql_text.specs.declared.token.Token.{Token}
use Rattle.graphql_grammar.specs.Input.{At, Input, Located, Fault, IsMemory, peek}
use Rattle.graphql_grammar.specs.Leaves.{Behind}
use Rattle.graphql_grammar.proofs.Leaves.{behind_same, behind_then}
use Rattle.graphql_language.specs.Parser.{State, Rule, CallsFresh, Calls, RefusesAgain, ThisToken, MaybeToken, KeepsRefusal}
use Rattle.graphql_language.specs.Lists.{Call, Function, Item, Full, Until, closed, unclosed, refused, more, full, SomeItems, first as first_item, no_first, no_room, Delimited, unopened, unlisted, listed, AnyItems}
use Rattle.graphql_language.specs.Leaves.{Stops, LeavesBehind, LeavesRest, ListsLeaveRest, SomeListsLeaveRest}
use Rattle.graphql_language.proofs.NextTokens.{TokenRead, opened, last_read}

-- ---- behind some tokens

pub behind_token : {wanted : Token} {i : Input} {token : Located} {j : Input} → TokenRead wanted i token j → Behind i j
behind_token {token = token} read = record { tokens = token ∷ []; front = read.front; after = read.after }

leaves_then : {A : Type 0} (i : Input) (m t : State) (r : Result A Fault) → Behind i m.input → LeavesBehind m.input r t → LeavesBehind i r t
leaves_then i m t (Ok x) before left = (behind_then before left.0, left.1)
leaves_then i m t (Err e) before left = λ told. let b = left told in (behind_then before b.0, b.1)

-- ---- single tokens

-- what stands for a fault that is no want of memory is that fault
not_memory : (e f : Fault) → e ≡ f → ¬ (IsMemory f) → ¬ (IsMemory e)
not_memory e f same told = λ memory. told (ap (λ (g : Fault). g.item) (sym same) ∙ memory)

pub fresh_call : {A : Type 0} (rule : Rule A) (s t : State) (r : Result A Fault) → s.refused ≡ None → Calls rule s r t → CallsFresh rule s.input r t
fresh_call rule s t r fresh calls = MatchOption-at_none (CallsFresh rule s.input r t) (λ e. RefusesAgain e r × (t ≡ s)) fresh calls

-- a refusal of the next token
pub stopped : {A : Type 0} (rule : Rule A) (s t : State) (e : Fault) → ((f : Fault) → rule s.input (Err f) t.input → t.input ≡ s.input) → s.refused ≡ None → Calls rule s (Err e) t → Stops s.input e t
stopped rule s t e stays fresh calls = λ told.
    let fails = fresh_call rule s t (Err e) fresh calls in
    let same = fails.told told in
    let known = not_memory fails.fault e same told in
    (behind_same (stays fails.fault (fails.refuses known)), fails.stands known ∙ ap (λ (g : Fault). g.span) same)

-- ---- items

kept_leaves : {A : Type 0} (i : Input) (answer r : Result A Fault) (after t : State) → KeepsRefusal answer after r t → LeavesBehind i answer after → LeavesBehind i r t
kept_leaves {A} i (Ok y) r after t (same, stays) left =
    let P : Result A Fault → Type 0 = λ z. LeavesBehind i z t in
    let Q : State → Type 0 = λ z. LeavesBehind i (Ok y) z in
    subst P (sym same) (subst Q (sym stays) left)
kept_leaves i (Err e) (Ok x) after t (again, failed) left = absurd again
kept_leaves i (Err e) (Err f) after t (again, failed) left = λ told.
    let same = again told in
    let b = left (not_memory e f same told) in
    let at : t.input ≡ after.input = ap (λ (z : State). z.input) failed in
    (subst (λ z. Behind i z) (sym at) b.0, ap (λ z. (peek z).span) at ∙ b.1 ∙ ap (λ (g : Fault). g.span) same)

full_stops : (i : Input) (n t : State) (e : Fault) → Full n e t → Stops i e t
full_stops i n t e h = λ told. absurd (not_memory h.fault e (h.keeps.0 told) told h.memory)

module _ {F A : Type 0} (function : Function F A) (f : F) (leaves : LeavesRest function f) where
  item_leaves : (s t : State) (r : Result A Fault) → s.refused ≡ None → Item function f s r t → LeavesBehind s.input r t
  item_leaves s t r fresh item =
      let left = leaves item.shown item.after item.answer (ap (λ (z : State). z.refused) item.shows ∙ fresh) item.met in
      let P : State → Type 0 = λ z. LeavesBehind z.input item.answer item.after.now in
      kept_leaves s.input item.answer r item.after.now t item.keeps (subst P item.shows left)

  module _ (closing : Token) where
    abbrev ListLeaves : Call (List A × Located) → Type 0
    ListLeaves items = (s t : State) (r : Result (List A × Located) Fault) → items s r t → s.refused ≡ None → LeavesBehind s.input r t

    until_leaves : (found : List A) → (s t : State) (r : Result (List A × Located) Fault) → Until closing (Item function f) found s r t → s.refused ≡ None → LeavesBehind s.input r t
    until_leaves _ _ _ _ (closed found s t last calls) fresh = (behind_token (last_read closing s t last calls), (fresh_call (MaybeToken closing) s t (Ok (Some last)) fresh calls).1)
    until_leaves _ _ _ _ (unclosed found s t e calls) fresh = stopped (MaybeToken closing) s t e (λ g h. h.2) fresh calls
    until_leaves _ _ _ _ (refused found s m t e none item) fresh =
        let skipped = fresh_call (MaybeToken closing) s m (Ok None) fresh none in
        leaves_then {A = A} s.input m t (Err e) (behind_same skipped.0.2) (item_leaves m t (Err e) skipped.1 item)
    until_leaves _ _ _ _ (more found s m n t x r none item rest) fresh =
        let skipped = fresh_call (MaybeToken closing) s m (Ok None) fresh none in
        let left = item_leaves m n (Ok x) skipped.1 item in
        leaves_then s.input n t r (behind_then (behind_same skipped.0.2) left.0) (until_leaves (found ++ x ∷ []) n t r rest left.1)
    until_leaves _ _ _ _ (full found s m n t x e none item memory) fresh = full_stops s.input n t e memory

    some_leaves : (s t : State) (r : Result (List A × Located) Fault) → SomeItems closing (Item function f) s r t → s.refused ≡ None → LeavesBehind s.input r t
    some_leaves _ _ _ (first_item s m t x r item rest) fresh =
        let left = item_leaves s m (Ok x) fresh item in
        leaves_then s.input m t r left.0 (until_leaves (x ∷ []) m t r rest left.1)
    some_leaves _ _ _ (no_first s t e item) fresh = item_leaves s t (Err e) fresh item
    some_leaves _ _ _ (no_room s m t x e item memory) fresh = full_stops s.input m t e memory

    delimited_leaves : (opening : Token) (items : Call (List A × Located)) → ListLeaves items → (s t : State) (r : Result (At (List A)) Fault) → Delimited opening items s r t → s.refused ≡ None → LeavesBehind s.input r t
    delimited_leaves opening items leave _ _ _ (unopened s t e calls) fresh = stopped (ThisToken opening) s t e (λ g h. h.2) fresh calls
    delimited_leaves opening items leave _ _ _ (unlisted s m t token e calls item) fresh =
        leaves_then {A = List A × Located} s.input m t (Err e) (behind_token (opened opening s m token calls)) (leave m t (Err e) item (fresh_call (ThisToken opening) s m (Ok token) fresh calls).1)
    delimited_leaves opening items leave _ _ _ (listed s m t token xs calls item) fresh =
        leaves_then {A = List A × Located} s.input m t (Ok xs) (behind_token (opened opening s m token calls)) (leave m t (Ok xs) item (fresh_call (ThisToken opening) s m (Ok token) fresh calls).1)

pub lists_leave_rest : {F A : Type 0} (function : Function F A) → ListsLeaveRest function
lists_leave_rest {F} {A} function opening closing f leaves s t r fresh list = delimited_leaves function f leaves closing opening (AnyItems closing (Item function f)) (until_leaves function f leaves closing []) s t r list fresh

pub some_lists_leave_rest : {F A : Type 0} (function : Function F A) → SomeListsLeaveRest function
some_lists_leave_rest {F} {A} function opening closing f leaves s t r fresh list = delimited_leaves function f leaves closing opening (SomeItems closing (Item function f)) (some_leaves function f leaves closing) s t r list fresh
