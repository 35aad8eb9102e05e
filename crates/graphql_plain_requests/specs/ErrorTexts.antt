-- Why a request has no plain text, as a user is shown it.
use Rattle.std.specs.Prelude.{ℕ, List, codes}
use Rattle.graphql_requests.specs.ErrorTexts.{error_text}
use Rattle.graphql_requests.specs.declared.graphql_error.GraphQLError.TheVariants as refusal
use Rattle.graphql_plain_requests.specs.declared.plain_error.PlainError.{PlainError}
use Rattle.graphql_plain_requests.specs.declared.plain_error.PlainError.TheVariants as error

-- a refusal and want of memory have the words of where the request is executed
abbrev pub plain_error_text : PlainError → List ℕ
plain_error_text (error.Refused why) = error_text why
plain_error_text error.TooLarge = codes "Plain text has too many selections"
plain_error_text error.Memory = error_text refusal.Memory
