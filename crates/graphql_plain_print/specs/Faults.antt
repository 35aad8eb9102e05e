-- Why nothing is printed.
use Rattle.std.specs.Prelude.{Result, Ok, Err}
use Rattle.graphql_plain_print.specs.declared.print_error.PrintError.{PrintError}
use Rattle.graphql_plain_print.specs.declared.print_error.PrintError.TheVariants as error

-- the fact holds where the error is that there is too much
abbrev pub IfTooLarge : {A : Type 0} → Result A PrintError → Type 0 → Type 0
IfTooLarge (Ok x) P = Unit {0}
IfTooLarge (Err error.TooLarge) P = P
IfTooLarge (Err error.Memory) P = Unit {0}
