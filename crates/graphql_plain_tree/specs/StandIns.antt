-- The directive of a selection that stands for a set of which all are left out (GraphQL October
-- 2021, 3.13.1 @skip).
use Rattle.std.specs.Prelude.{Bool, true, [], ◌∷◌, Some, codes}
use Rattle.graphql_values.specs.InputValues.{unplaced}
use Rattle.graphql_values.specs.declared.input_value.InputValue.TheVariants as value
use Rattle.graphql_written_out.specs.Trees.{Directives}

-- `skip(if: true)`, at no place; `of_bool`: the scalar of a boolean
abbrev pub skip_true : {S : Type 0} → (Bool → S) → Directives S
skip_true of_bool =
    unplaced (record {
      name = unplaced (codes "skip");
      arguments = Some (unplaced (record {
        items = (unplaced (codes "if"), unplaced (value.Scalar (of_bool true))) ∷ [];
      }));
    }) ∷ []
