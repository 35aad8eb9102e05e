-- What functions that take a parser leave of its input.
use Rattle.std.specs.Prelude.{◌≡◌, List, None, Result, Ok, Err}
use Rattle.std.specs.Borrow.{MutBor}
use Rattle.graphql_text.specs.declared.token.Token.{Token}
use Rattle.graphql_text.specs.Memory.{UnlessMemory}
use Rattle.graphql_grammar.specs.Input.{At, Input, Fault, IsMemory}
use Rattle.graphql_grammar.specs.Leaves.{Behind, LeftAt}
use Rattle.graphql_language.specs.Parser.{State}
use Rattle.graphql_language.specs.Lists.{Function, Item, AnyItems, SomeItems, Delimited}

-- behind some tokens in front what is left begins with the token that the fault is about, want of
-- memory aside
abbrev pub Stops : Input → Fault → State → Type 0
Stops i e new = UnlessMemory IsMemory e (LeftAt i e new.input)

-- the rest is left: behind what was read, of a parser that has not failed, else from the faulty
-- token on
abbrev pub LeavesBehind : {A : Type 0} → Input → Result A Fault → State → Type 0
LeavesBehind i (Ok x) new = Behind i new.input × (new.refused ≡ None)
LeavesBehind i (Err e) new = Stops i e new

-- every call of the function with a parser that has not failed leaves the rest
abbrev pub LeavesRest : {F A : Type 0} → Function F A → F → Type 0
LeavesRest {F} {A} function f = (p q : MutBor State) (r : Result A Fault) → p.now.refused ≡ None
    → function.post f (p, tt) (r, (q, tt)) → LeavesBehind p.now.input r q.now

-- ---- laws

-- so does a list of any number of items that such a function reads
abbrev pub ListsLeaveRest : {F A : Type 0} → Function F A → Type 0
ListsLeaveRest {F} {A} function = (opening closing : Token) (f : F) → LeavesRest function f
    → (s t : State) (r : Result (At (List A)) Fault) → s.refused ≡ None
    → Delimited opening (AnyItems closing (Item function f)) s r t → LeavesBehind s.input r t

-- and one of one item at least
abbrev pub SomeListsLeaveRest : {F A : Type 0} → Function F A → Type 0
SomeListsLeaveRest {F} {A} function = (opening closing : Token) (f : F) → LeavesRest function f
    → (s t : State) (r : Result (At (List A)) Fault) → s.refused ≡ None
    → Delimited opening (SomeItems closing (Item function f)) s r t → LeavesBehind s.input r t
