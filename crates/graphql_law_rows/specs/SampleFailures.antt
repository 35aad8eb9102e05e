-- What fails of a selection set where each field is answered by an error.
use Rattle.std.specs.Prelude.{ℕ, List, [], ◌∷◌, Bool, true, false, Some, Err, codes}
use Rattle.std.specs.Str.{bytes_eq}
use Rattle.graphql_names.specs.Names.{Bytes}
use Rattle.graphql_schema.specs.Types.{reference_to}
use Rattle.graphql_written_out.specs.Trees.{Head, Tree, none, field}
use Rattle.graphql_field_results.specs.declared.execution_error.ExecutionError.{ExecutionError}
use Rattle.graphql_field_results.specs.declared.field_error.FieldError.{FieldError}
use Rattle.graphql_semantics.specs.Completion.{blame_at, reason}
use Rattle.graphql_semantics.specs.Engines.{Engine}
use Rattle.graphql_semantics.specs.Evaluation.{evaluate}
use Rattle.graphql_law_rows.specs.SampleTokens.{at}

abbrev pub no_answer : FieldError ℕ
no_answer = reason (codes "no answer")

-- one node, a dog, whose fields are of the type `String!` and have no answer
abbrev pub refusing : Engine ℕ Bool
refusing = record {
  drops = λ directives. false;
  is_below = λ object name. bytes_eq object name;
  declared = λ object name. Some (reference_to (codes "String"));
  is_leaf = λ name. true;
  is_possible = λ name object. false;
  arguments = λ object head. [];
  concrete = λ node. codes "Dog";
  answer = λ node object name given. Err no_answer;
}

-- `{ nick }`
abbrev pub nick : Head ℕ
nick = record {
  key = codes "nick";
  name = codes "nick";
  is_aliased = false;
  arguments = [];
  has_set = false;
  place = at 9 0 9;
}

abbrev pub nick_set : Tree ℕ
nick_set = field nick [] none none

-- what fails of it, where the dog is somebody's friend
abbrev pub path : List Bytes
path = codes "friend" ∷ []

abbrev pub failures : List (ExecutionError ℕ)
failures = (evaluate refusing path (codes "Dog") true (nick_set ∷ [])).failures

abbrev pub failure : ExecutionError ℕ
failure = blame_at (codes "friend" ∷ codes "nick" ∷ []) nick.place no_answer
