-- Why a request has no plain text, by what was told.
use Rattle.graphql_plain_print.specs.declared.print_error.PrintError.{PrintError}
use Rattle.graphql_plain_print.specs.declared.print_error.PrintError.TheVariants as print
use Rattle.graphql_requests.specs.declared.graphql_error.GraphQLError.{GraphQLError}
use Rattle.graphql_requests.specs.declared.graphql_error.GraphQLError.TheVariants as refusal
use Rattle.graphql_plain_requests.specs.declared.plain_error.PlainError.{PlainError}
use Rattle.graphql_plain_requests.specs.declared.plain_error.PlainError.TheVariants as error

abbrev pub of_refusal : GraphQLError → PlainError
of_refusal refusal.Memory = error.Memory
of_refusal why = error.Refused why

abbrev pub of_print : PrintError → PlainError
of_print print.TooLarge = error.TooLarge
of_print print.Memory = error.Memory

-- an operation has no plain text for its size alone; want of memory tells nothing
abbrev pub IsForSize : Type 0 → PlainError → Type 0
IsForSize larger (error.Refused why) = ⊥
IsForSize larger error.TooLarge = larger
IsForSize larger error.Memory = Unit {0}
