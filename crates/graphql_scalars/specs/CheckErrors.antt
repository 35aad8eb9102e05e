-- What is said of a value that is none of a type (GraphQL October 2021, 3.5 Scalars, input
-- coercion).
use Rattle.std.specs.Prelude.{ℕ, List, [], ◌++◌, codes}
use Rattle.graphql_scalars.specs.declared.check_error.CheckError.{CheckError}
use Rattle.graphql_scalars.specs.declared.check_error.CheckError.TheVariants.{Message, Memory}

-- what is said of the value; want of memory says nothing of it
abbrev pub message : CheckError → List ℕ
message (Message text) = text
message Memory = []

-- the text of the error
abbrev pub error_text : CheckError → List ℕ
error_text (Message text) = text
error_text Memory = codes "Out of memory"

-- what is said of a scalar that is none of the type of this name, by the text of the scalar
abbrev pub wrong_type : List ℕ → List ℕ → List ℕ
wrong_type type_name found = codes "Expected `" ++ type_name ++ codes "`, found: " ++ found
