-- What a plan says of selections: what they are written out, what is left out, what is plain.
use Rattle.std.specs.Prelude.{Bool, List}
use Rattle.graphql_text.specs.declared.token.Token.{Token}
use Rattle.graphql_scalars.specs.ScalarAnswers.{ScalarAnswer}
use Rattle.graphql_written_out.specs.FinalVariables.{value_in}
use Rattle.graphql_tree.specs.declared.document.Fragment.{Fragment}
use Rattle.graphql_tree.specs.declared.selection.Selection.{Selection}
use Rattle.graphql_written_out.specs.Conditions.{left_out}
use Rattle.graphql_written_out.specs.Trees.{Directives, Tree}
use Rattle.graphql_written_out.specs.Written.{written}
use Rattle.graphql_tree.specs.Definitions.{fragments_listed}
use Rattle.graphql_plain_tree.specs.Plain.{drops_all, plain, plain_set}
use Rattle.graphql_plain_tree.specs.StandIns.{skip_true}
use Rattle.graphql_plain_text.specs.TreeTokens.{selection_tokens}
use Rattle.graphql_plain_print.specs.declared.plan.Plan.{Plan}
use Rattle.graphql_plain_text.specs.SpanTokens.{tokens_within}

module _ {S : Type 0} where
  -- the fragments of a plan's document
  abbrev pub fragments_by : Plan S → List (Fragment S)
  fragments_by plan = fragments_listed plan.fragments.document.now

  -- selections, written out
  abbrev pub written_by : Plan S → List (Selection S) → Tree S
  written_by plan = written (fragments_by plan)

  -- the tokens of a set
  abbrev pub tokens_by : Plan S → Tree S → List Token
  tokens_by plan = selection_tokens (tokens_within plan.tokens.now.tokens)

module _ {S : Type 0} (answer : S → ScalarAnswer) where
  -- which directives leave a selection out
  abbrev pub drops_by : Plan S → Directives S → Bool
  drops_by plan = left_out answer (value_in plan.variables.now)

  abbrev pub all_out_by : Plan S → Tree S → Bool
  all_out_by plan = drops_all (drops_by plan)

  module _ (of_bool : Bool → S) where
    -- the selections of a plain set, by whether all are left out
    abbrev pub set_by : Plan S → Bool → Tree S → Tree S
    set_by plan = plain_set (drops_by plan) (skip_true of_bool)

    -- the plain set of a set
    abbrev pub plain_by : Plan S → List (Selection S) → Tree S
    plain_by plan set = plain (drops_by plan) (skip_true of_bool) (written_by plan set)
