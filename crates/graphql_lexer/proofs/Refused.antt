-- A lexical fault, as a call that reads a text tells it.
use Rattle.std.proofs.Common.{◌≡◌, ℕ, List, Result, Ok, Err, IfErr, ap, ◌∙◌}
use Rattle.std.specs.Prelude.{IsErrAnd}
use Rattle.graphql_text.specs.Memory.{UnlessMemory}
use Rattle.graphql_text.specs.Reading as lexical
use Rattle.graphql_text.specs.Grammar.{IsBroken}
use Rattle.graphql_text.specs.Refusals.{Fault, IsMemory, IsLexical, parse_error_of}

-- a lexical fault as the reason why a text can't be read
lexical_told : (source : List ℕ) (fault : lexical.Refusal) (e : Fault) → UnlessMemory lexical.IsMemory fault (IsBroken source fault)
    → e ≡ record { item = parse_error_of fault.item; span = fault.span } → UnlessMemory IsMemory e (IsLexical source e)
lexical_told source fault e told is = λ (known : ¬ (IsMemory e)).
    (fault, told (λ (lacks : lexical.IsMemory fault). known (ap (λ (f : Fault). f.item) is ∙ ap parse_error_of lacks)), is)

-- a call that fails by it
pub lexical_refused : {A : Type 0} (source : List ℕ) (fault : lexical.Refusal) (result : Result A Fault) → UnlessMemory lexical.IsMemory fault (IsBroken source fault)
    → IsErrAnd result (λ e. e ≡ record { item = parse_error_of fault.item; span = fault.span }) → IfErr result (λ e. UnlessMemory IsMemory e (IsLexical source e))
lexical_refused source fault (Ok x) told is = tt
lexical_refused source fault (Err e) told is = lexical_told source fault e told is
