-- The text of a scalar, by what it answers (GraphQL October 2021, 2.9.1 Int Value, 2.9.3 Boolean
-- Value, 2.9.4 String Value).
use Rattle.std.specs.Prelude.{ℕ, Bool, List, ◌++◌, if◌then◌else◌, codes}
use Rattle.std.specs.Fmt.{signed_decimal}
use Rattle.graphql_scalars.specs.ScalarAnswers.{ScalarAnswer, integer, boolean, text}

-- a boolean in letters
abbrev pub boolean_text : Bool → List ℕ
boolean_text b = if b then codes "true" else codes "false"

-- a text between quotes, as it stands: nothing in it is escaped
abbrev pub quoted_text : List ℕ → List ℕ
quoted_text t = codes "\"" ++ t ++ codes "\""

-- a text stands between quotes
abbrev pub scalar_text : ScalarAnswer → List ℕ
scalar_text (integer n) = signed_decimal n
scalar_text (boolean b) = boolean_text b
scalar_text (text t) = quoted_text t

-- the same, a text as it stands
abbrev pub plain_text : ScalarAnswer → List ℕ
plain_text (integer n) = signed_decimal n
plain_text (boolean b) = boolean_text b
plain_text (text t) = t
