-- What a scalar answers (GraphQL October 2021, 3.5.1 Int, 3.5.3 String, 3.5.4 Boolean).
use Rattle.std.specs.Prelude.{ℕ, ℤ, Bool, Option, Some, None, List}

-- an integer, a boolean or the bytes of a text
pub data ScalarAnswer : Type 0 where
  integer : ℤ → ScalarAnswer
  boolean : Bool → ScalarAnswer
  text : List ℕ → ScalarAnswer

-- the integer, if it is one
abbrev pub as_int : ScalarAnswer → Option ℤ
as_int (integer n) = Some n
as_int (boolean b) = None
as_int (text t) = None

-- the boolean, if it is one
abbrev pub as_bool : ScalarAnswer → Option Bool
as_bool (integer n) = None
as_bool (boolean b) = Some b
as_bool (text t) = None

-- the text, if it is one
abbrev pub as_text : ScalarAnswer → Option (List ℕ)
as_text (integer n) = None
as_text (boolean b) = None
as_text (text t) = Some t
