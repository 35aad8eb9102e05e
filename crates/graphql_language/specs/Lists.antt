-- Lists between two tokens, by a function that reads an item.
use Rattle.std.specs.Prelude.{◌≡◌, Some, None, List, [], ◌∷◌, ◌++◌, Result, Ok, Err}
use Rattle.std.specs.Fn.{Shared}
use Rattle.std.specs.Borrow.{MutBor}
use Rattle.graphql_text.specs.declared.token.Token.{Token}
use Rattle.graphql_text.specs.declared.parse_error.ParseError.TheVariants.{Memory}
use Rattle.graphql_grammar.specs.Input.{At, Located, Fault}
use Rattle.graphql_language.specs.Parser.{State, Calls, ThisToken, MaybeToken, KeepsRefusal}

-- what a call may answer, from one state of the parser to another
abbrev pub Call : Type 0 → Type 1
Call A = State → Result A Fault → State → Type 0

-- a function that takes a parser
abbrev pub Function : Type 0 → Type 0 → Type 1
Function F A = Shared F (MutBor State × Unit {0}) (Result A Fault × (MutBor State × Unit {0}))

-- a call of the function; by a refusal the parser has failed
pub record Item {F A : Type 0} (function : Function F A) (f : F) (s : State) (r : Result A Fault)
    (t : State) : Type 0 where
  pub shown : MutBor State
  pub shows : shown.now ≡ s
  pub answer : Result A Fault
  pub after : MutBor State
  pub met : function.post f (shown, tt) (answer, (after, tt))
  pub keeps : KeepsRefusal answer after.now r t

-- want of memory, by which the parser has failed
pub record Full (s : State) (f : Fault) (t : State) : Type 0 where
  pub fault : Fault
  pub memory : fault.item ≡ Memory
  pub keeps : KeepsRefusal {A = Unit {0}} (Err fault) s (Err f) t

module _ {A : Type 0} (closing : Token) (item : Call A) where
  -- items up to the closing token, behind those that were found; with them the closing token
  pub data Until : List A → State → Result (List A × Located) Fault → State → Type 0 where
    closed : (found : List A) (s t : State) (last : Located)
        → Calls (MaybeToken closing) s (Ok (Some last)) t → Until found s (Ok (found, last)) t
    unclosed : (found : List A) (s t : State) (e : Fault) → Calls (MaybeToken closing) s (Err e) t
        → Until found s (Err e) t
    refused : (found : List A) (s m t : State) (e : Fault)
        → Calls (MaybeToken closing) s (Ok None) m → item m (Err e) t → Until found s (Err e) t
    more : (found : List A) (s m n t : State) (x : A) (r : Result (List A × Located) Fault)
        → Calls (MaybeToken closing) s (Ok None) m → item m (Ok x) n
        → Until (found ++ x ∷ []) n r t → Until found s r t
    full : (found : List A) (s m n t : State) (x : A) (f : Fault)
        → Calls (MaybeToken closing) s (Ok None) m → item m (Ok x) n → Full n f t
        → Until found s (Err f) t

  -- any number of items
  abbrev pub AnyItems : State → Result (List A × Located) Fault → State → Type 0
  AnyItems = Until []

  -- one item at least
  pub data SomeItems : State → Result (List A × Located) Fault → State → Type 0 where
    first : (s m t : State) (x : A) (r : Result (List A × Located) Fault) → item s (Ok x) m
        → Until (x ∷ []) m r t → SomeItems s r t
    no_first : (s t : State) (e : Fault) → item s (Err e) t → SomeItems s (Err e) t
    no_room : (s m t : State) (x : A) (f : Fault) → item s (Ok x) m → Full m f t
        → SomeItems s (Err f) t

-- from the opening token to the closing one
abbrev pub enclosed : {A : Type 0} → Located → List A × Located → At (List A)
enclosed opening items =
    record { item = items.0; span = record { start = opening.span.start; end = items.1.span.end } }

-- the opening token, and then items with the closing token
pub data Delimited {A : Type 0} (opening : Token) (items : Call (List A × Located)) : State
    → Result
    (At (List A)) Fault → State → Type 0 where
  unopened : (s t : State) (e : Fault) → Calls (ThisToken opening) s (Err e) t
      → Delimited opening items s (Err e) t
  unlisted : (s m t : State) (first : Located) (e : Fault)
      → Calls (ThisToken opening) s (Ok first) m → items m (Err e) t
      → Delimited opening items s (Err e) t
  listed : (s m t : State) (first : Located) (xs : List A × Located)
      → Calls (ThisToken opening) s (Ok first) m → items m (Ok xs) t
      → Delimited opening items s (Ok (enclosed first xs)) t
