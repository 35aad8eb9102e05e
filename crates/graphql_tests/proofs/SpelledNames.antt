-- Names as the items of lists.
use Rattle.std.proofs.Common.{◌≡◌, ◌≢◌, ℕ, None, List, [], ◌∷◌, Result, Ok, Err, IfOk, refl, sym, ◌∙◌}
use Rattle.std.specs.Borrow.{MutBor}
use Rattle.graphql_text.specs.declared.token.Token.{Token}
use Rattle.graphql_text.specs.declared.token.Token.TheVariants.{Name, EndOfFile}
use Rattle.graphql_grammar.specs.Input.{At, Fault, peek}
use Rattle.graphql_grammar.proofs.Leaves.{behind_next}
use Rattle.graphql_language.specs.Leaves.{LeavesBehind, ListsLeaveRest}
use Rattle.graphql_language.specs.Lists.{Function, Item, AnyItems, Delimited}
use Rattle.graphql_language.specs.Parser.{State, Calls, NextName}
use Rattle.graphql_language.specs.SpelledLists.{InFront, ListOf, ListsAreSpelled}
use Rattle.graphql_language.proofs.Leaves.{fresh_call, stopped}
use Rattle.graphql_language.proofs.NextTokens.{answered, token_read}
use Rattle.graphql_tests.specs.SpelledNames.{NameAt}

name_in_front : (s t : State) (name : At (List ℕ)) → Calls NextName s (Ok name) t → InFront NameAt s.input name t.input
name_in_front s t name calls =
    let r = answered NextName s t name calls in
    let other : (peek s.input).item ≢ EndOfFile = λ ends. let e = sym r.0 ∙ ends in cc in
    let read = token_read (Name name.item) s.input t.input (peek s.input) r.0 other refl r.2 in
    record {
      tokens = peek s.input ∷ [];
      front = read.front;
      spells = record { token = peek s.input; is = refl; named = r.0; stands = r.1 };
      after = read.after;
    }

name_leaves : (s t : State) (r : Result (At (List ℕ)) Fault) → s.refused ≡ None → Calls NextName s r t → LeavesBehind s.input r t
name_leaves s t (Ok name) fresh calls = (behind_next (answered NextName s t name calls).2, (fresh_call NextName s t (Ok name) fresh calls).1)
name_leaves s t (Err e) fresh calls = stopped NextName s t e (λ f told. told.2) fresh calls

module _ {F : Type 0} (function : Function F (At (List ℕ))) (f : F) where
  -- each call of the function reads a name
  abbrev pub ReadsNames : Type 0
  ReadsNames = (p q : MutBor State) (r : Result (At (List ℕ)) Fault) → function.post f (p, tt) (r, (q, tt)) → Calls NextName p.now r q.now

  module _ (reads : ReadsNames) (opening closing : Token) (s t : State) where
    pub names_spelled :
        ListsAreSpelled function NameAt
        → (r : Result (At (List (At (List ℕ)))) Fault) → Delimited opening (AnyItems closing (Item function f)) s r t → IfOk r (λ names. InFront (ListOf opening closing NameAt) s.input names t.input)
    names_spelled law (Ok names) list = law opening closing f (λ p q name met. name_in_front p.now q.now name (reads p q (Ok name) met)) s t names list
    names_spelled law (Err e) list = tt

    pub names_leave :
        ListsLeaveRest function → s.refused ≡ None
        → (r : Result (At (List (At (List ℕ)))) Fault) → Delimited opening (AnyItems closing (Item function f)) s r t → LeavesBehind s.input r t
    names_leave law fresh r list = law opening closing f (λ p q answer unfailed met. name_leaves p.now q.now answer unfailed (reads p q answer met)) s t r fresh list
