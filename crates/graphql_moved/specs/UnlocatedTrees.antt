-- Written-out selection sets without their places (GraphQL October 2021, 2.4 Selection Sets).
use Rattle.std.specs.Prelude.{map}
use Rattle.graphql_text.specs.Position.{origin}
use Rattle.graphql_tree.specs.Unlocated.{unlocated_argument, unlocated_directive, without_place}
use Rattle.graphql_written_out.specs.Trees.{Directives, Head, Tree, none, field, inline}

module _ {S : Type 0} where
  -- 2.12 Directives
  abbrev pub unlocated_marks : Directives S → Directives S
  unlocated_marks = map (without_place unlocated_directive)

  -- 2.5 Fields
  abbrev pub unlocated_head : Head S → Head S
  unlocated_head head = record {
    key = head.key;
    name = head.name;
    is_aliased = head.is_aliased;
    arguments = map unlocated_argument head.arguments;
    has_set = head.has_set;
    place = origin;
  }

  -- 2.4 Selection Sets
  abbrev pub unlocated_tree : Tree S → Tree S
  unlocated_tree none = none
  unlocated_tree (field head directives below rest) =
      field (unlocated_head head) (unlocated_marks directives)
      (unlocated_tree below) (unlocated_tree rest)
  unlocated_tree (inline on directives below rest) =
      inline on (unlocated_marks directives) (unlocated_tree below) (unlocated_tree rest)
