-- One selection of a plain set, without what follows it.
use Rattle.std.specs.Prelude.{ℕ, Bool, List, [], ◌∷◌, ◌++◌, if◌then◌else◌}
use Rattle.std.specs.Option.{is_some, option_map}
use Rattle.graphql_names.specs.Names.{Bytes}
use Rattle.graphql_text.specs.declared.token.Token.{Token}
use Rattle.graphql_text.specs.declared.token.Token.TheVariants as t
use Rattle.graphql_scalars.specs.ScalarAnswers.{ScalarAnswer}
use Rattle.graphql_tree.specs.Documents.{arguments_in}
use Rattle.graphql_tree.specs.declared.selection.Selection.{Selection}
use Rattle.graphql_written_out.specs.Trees.{is_empty}
use Rattle.graphql_written_out.specs.Written.{listed, response_key}
use Rattle.graphql_plain_tree.specs.Plain.{size}
use Rattle.graphql_plain_tree.specs.PlainOperations.{variables_given, variables_used}
use Rattle.graphql_plain_text.specs.TreeTokens.{
  argument_tokens,
  in_braces,
  in_braces_unless,
  condition_tokens,
  name_tokens,
  in_parentheses,
  skip_tokens,
}
use Rattle.graphql_plain_print.specs.declared.plan.Plan.{Plan}
use Rattle.graphql_plain_print.specs.declared.written.Written.{Written}
use Rattle.graphql_plain_print.specs.declared.written.Written.TheVariants as form
use Rattle.graphql_plain_text.specs.SpanTokens.{tokens_within}
use Rattle.graphql_plain_print.specs.Frames.{turns}
use Rattle.graphql_plain_print.specs.Plans.{plain_by, tokens_by, written_by}

-- the directives of a stand-in, if it is one
abbrev pub marks : Bool → List Token
marks stands_in = if stands_in then skip_tokens else []

module _ {S : Type 0} (answer : S → ScalarAnswer) (of_bool : Bool → S) where
  -- a set between braces, where there is one
  abbrev pub set_tokens : Plan S → List (Selection S) → List Token
  set_tokens plan set =
      in_braces_unless (is_empty (plain_by answer of_bool plan set))
      (tokens_by plan (plain_by answer of_bool plan set))

  abbrev pub alone_tokens : Plan S → Bool → Written S → List Token
  alone_tokens plan stands_in (form.Field x) =
      name_tokens (is_some x.now.item.alias) (response_key x.now.item.alias x.now.item.name)
      x.now.item.name.item
      ++ (in_parentheses (argument_tokens (tokens_within plan.tokens.now.tokens))
      (arguments_in x.now.item.arguments)
      ++ (marks stands_in ++ set_tokens plan (listed x.now.item.selection_set)))
  alone_tokens plan stands_in (form.Inline on directives set) =
      (t.Ellipsis ∷ [])
      ++ (condition_tokens (option_map (λ n. n.now) on)
      ++ (marks stands_in ++ in_braces (tokens_by plan (plain_by answer of_bool plan set.now))))

  -- the names of the variables that it uses
  abbrev pub alone_uses : Plan S → Written S → List Bytes
  alone_uses plan (form.Field x) =
      variables_given (arguments_in x.now.item.arguments)
      ++ variables_used (plain_by answer of_bool plan (listed x.now.item.selection_set))
  alone_uses plan (form.Inline on directives set) =
      variables_used (plain_by answer of_bool plan set.now)

  abbrev pub below_size : Plan S → Written S → ℕ
  below_size plan (form.Field x) =
      size (plain_by answer of_bool plan (listed x.now.item.selection_set))
  below_size plan (form.Inline on directives set) = size (plain_by answer of_bool plan set.now)

module _ {S : Type 0} where
  abbrev pub below_turns : Plan S → Written S → ℕ
  below_turns plan (form.Field x) = turns (written_by plan (listed x.now.item.selection_set))
  below_turns plan (form.Inline on directives set) = turns (written_by plan set.now)
