-- One selection, its spread written out, and what follows it (GraphQL October 2021, 2.8 Fragments).
use Rattle.std.specs.Prelude.{◌≡◌, Bool, Option, Some}
use Rattle.std.specs.Option.{option_map}
use Rattle.graphql_scalars.specs.ScalarAnswers.{ScalarAnswer}
use Rattle.graphql_values.specs.InputValues.{Placed}
use Rattle.graphql_tree.specs.declared.document.Fragment.{Fragment}
use Rattle.graphql_tree.specs.declared.selection.Field.{Field}
use Rattle.graphql_tree.specs.declared.selection.InlineFragment.{InlineFragment}
use Rattle.graphql_written_out.specs.Trees.{Directives, Tree, field, inline}
use Rattle.graphql_written_out.specs.Written.{condition_of, head_of, listed}
use Rattle.graphql_plain_print.specs.declared.plan.Plan.{Plan}
use Rattle.graphql_plain_print.specs.declared.written.Written.{Written}
use Rattle.graphql_plain_print.specs.declared.written.Written.TheVariants as form
use Rattle.graphql_plain_print.specs.Plans.{drops_by, written_by}

module _ {S : Type 0} where
  -- a selection in front of what follows it
  abbrev pub leads : Plan S → Written S → Tree S → Tree S
  leads plan (form.Field x) rest =
      field (head_of x.now) (listed x.now.item.directives)
      (written_by plan (listed x.now.item.selection_set)) rest
  leads plan (form.Inline on directives set) rest =
      inline (option_map (λ n. n.now) on) (listed directives.now) (written_by plan set.now) rest

  -- whether it is left out
  abbrev pub out_by : (S → ScalarAnswer) → Plan S → Written S → Bool
  out_by answer plan (form.Field x) = drops_by answer plan (listed x.now.item.directives)
  out_by answer plan (form.Inline on directives set) = drops_by answer plan (listed directives.now)

  abbrev pub IsField : Placed (Field S) → Written S → Type 0
  IsField f (form.Field x) = x.now ≡ f
  IsField f (form.Inline on directives set) = ⊥

  abbrev pub IsInline : InlineFragment S → Written S → Type 0
  IsInline i (form.Field x) = ⊥
  IsInline i (form.Inline on directives set) =
      (option_map (λ n. n.now) on ≡ condition_of i)
      × (directives.now ≡ i.directives)
      × (set.now ≡ i.selection_set)

  -- it is what a spread of the fragment with these directives stands for
  abbrev pub IsSpread : Fragment S → Option (Directives S) → Written S → Type 0
  IsSpread f ds (form.Field x) = ⊥
  IsSpread f ds (form.Inline on directives set) =
      (option_map (λ n. n.now) on ≡ Some f.type_condition.item)
      × (directives.now ≡ ds)
      × (set.now ≡ f.selection_set)
