-- That there is too much, handed on.
use Rattle.std.proofs.Common.{◌≡◌, sym, subst, Result, Ok, Err}
use Rattle.std.specs.Prelude.{IsErrAnd}
use Rattle.graphql_plain_print.specs.declared.print_error.PrintError.{PrintError}
use Rattle.graphql_plain_print.specs.declared.print_error.PrintError.TheVariants as error
use Rattle.graphql_plain_print.specs.Faults.{IfTooLarge}

pub too-large : {A : Type 0} (B : Type 0) (result : Result A PrintError) (e : PrintError) (P Q : Type 0) → IsErrAnd result (λ y. y ≡ e)
    → IfTooLarge {A = B} (Err e) P → (P → Q) → IfTooLarge result Q
too-large B (Ok x) e P Q h p f = tt
too-large B (Err error.TooLarge) e P Q h p f = f (subst (λ y. IfTooLarge {A = B} (Err y) P) (sym h) p)
too-large B (Err error.Memory) e P Q h p f = tt
