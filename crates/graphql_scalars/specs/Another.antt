-- A scalar of another type.
use Rattle.std.specs.Prelude.{ℕ, ℤ, Bool, List}
use Rattle.graphql_scalars.specs.ScalarAnswers.{ScalarAnswer, integer, boolean, text}

-- the scalar that is made of an answer
abbrev pub of_answer : {T : Type 0} → (ℤ → T) → (Bool → T) → (List ℕ → T) → ScalarAnswer → T
of_answer of_int of_bool of_text (integer n) = of_int n
of_answer of_int of_bool of_text (boolean b) = of_bool b
of_answer of_int of_bool of_text (text t) = of_text t
