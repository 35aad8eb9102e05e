-- What functions that parse leave of their input.
use Rattle.std.specs.Prelude.{◌≡◌, List, ◌++◌}
use Rattle.graphql_grammar.specs.Input.{Input, Located, Fault, peek}
use Rattle.graphql_grammar.specs.Ahead.{mk}
use Rattle.graphql_grammar.specs.Relations.{end_of}

-- what is left stands behind some tokens in front
pub record Behind (i j : Input) : Type 0 where
  pub tokens : List Located
  pub front : i.ahead ≡ tokens ++ j.ahead
  pub after : j ≡ mk j.ahead i.finish (end_of i.end tokens)

-- and begins with the token that the fault is about
abbrev pub LeftAt : Input → Fault → Input → Type 0
LeftAt i e j = Behind i j × ((peek j).span ≡ e.span)
