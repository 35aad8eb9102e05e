-- The variables of an operation by their names: of several of one name the first.
use Rattle.std.specs.Prelude.{Option}
use Rattle.std.specs.Borrow.{Bor}
use Rattle.std.specs.HashMap.{HashMap, get_by}
use Rattle.std.specs.Option.{option_map}
use Rattle.std.specs.Str.{bytes_eq}
use Rattle.graphql_names.specs.Names.{Bytes}
use Rattle.graphql_occurrences.specs.Occurrences.{variable_part}
use Rattle.graphql_occurrences.specs.Parts.{VariablePart}
use Rattle.graphql_tree.specs.Variables.{Variable}

-- what is kept of a name
abbrev pub variable_at : {S H : Type 0} → HashMap (Bor Bytes) (Bor (Variable S)) H → Bytes
    → Option (VariablePart S)
variable_at first name =
    option_map (λ v. variable_part v.now) (get_by (λ k. bytes_eq name k.now) first)
