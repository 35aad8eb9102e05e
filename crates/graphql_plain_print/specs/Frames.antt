-- What is left of the selection sets that are open.
use Rattle.std.specs.Prelude.{◌≡◌, ◌+◌, ℕ, Bool, true, false, List, [], ◌∷◌, ◌++◌}
use Rattle.graphql_names.specs.Names.{Bytes}
use Rattle.graphql_text.specs.declared.token.Token.{Token}
use Rattle.graphql_text.specs.declared.token.Token.TheVariants as t
use Rattle.graphql_scalars.specs.ScalarAnswers.{ScalarAnswer}
use Rattle.graphql_written_out.specs.Trees.{Tree, none, field, inline}
use Rattle.graphql_plain_tree.specs.Plain.{size}
use Rattle.graphql_plain_tree.specs.PlainOperations.{variables_used}
use Rattle.graphql_plain_text.specs.PlainTexts.{spaced}
use Rattle.graphql_plain_print.specs.declared.plan.Plan.{Plan}
use Rattle.graphql_plain_print.specs.declared.printing.Frame.{Frame}
use Rattle.graphql_plain_print.specs.declared.printing.Frame.TheVariants as frame
use Rattle.graphql_plain_print.specs.Plans.{set_by, tokens_by, written_by}

-- how many turns a walk takes at most over a set
abbrev pub turns : {S : Type 0} → Tree S → ℕ
turns none = 1
turns (field head directives below rest) = 2 + turns below + turns rest
turns (inline on directives below rest) = 2 + turns below + turns rest

module _ {S : Type 0} where
  abbrev pub frame_turns : Plan S → Frame S → ℕ
  frame_turns plan (frame.Kept set) = turns (written_by plan set.now)
  frame_turns plan (frame.First set) = turns (written_by plan set.now)
  frame_turns plan frame.End = 1

  -- of sets the innermost of which stands last
  abbrev pub stack_turns : Plan S → List (Frame S) → ℕ
  stack_turns plan [] = 0
  stack_turns plan (f ∷ fs) = frame_turns plan f + stack_turns plan fs

module _ {S : Type 0} (answer : S → ScalarAnswer) (of_bool : Bool → S) where
  -- what is left of a set, plain
  abbrev pub frame_tree : Plan S → Frame S → Tree S
  frame_tree plan (frame.Kept set) = set_by answer of_bool plan false (written_by plan set.now)
  frame_tree plan (frame.First set) = set_by answer of_bool plan true (written_by plan set.now)
  frame_tree plan frame.End = none

  -- its tokens, and the brace behind them
  abbrev pub frame_tokens : Plan S → Frame S → List Token
  frame_tokens plan f = tokens_by plan (frame_tree plan f) ++ (t.CurlyClose ∷ [])

  abbrev pub frame_size : Plan S → Frame S → ℕ
  frame_size plan f = size (frame_tree plan f)

  -- the names of the variables that it uses
  abbrev pub frame_uses : Plan S → Frame S → List Bytes
  frame_uses plan f = variables_used (frame_tree plan f)

  -- the same of all sets, the innermost of which stands last
  abbrev pub stack_tokens : Plan S → List (Frame S) → List Token
  stack_tokens plan [] = []
  stack_tokens plan (f ∷ fs) = stack_tokens plan fs ++ frame_tokens plan f

  -- how large the sets are that are yet to be printed
  abbrev pub stack_size : Plan S → List (Frame S) → ℕ
  stack_size plan [] = 0
  stack_size plan (f ∷ fs) = stack_size plan fs + frame_size plan f

  -- the variables that are used by what is yet to be printed
  abbrev pub stack_uses : Plan S → List (Frame S) → List Bytes
  stack_uses plan [] = []
  stack_uses plan (f ∷ fs) = stack_uses plan fs ++ frame_uses plan f

  -- a text and what is left become another text and what is left then: in all these tokens more
  abbrev pub Prints : Plan S → List Token → Bytes → List (Frame S) → Bytes → List (Frame S) → Type 0
  Prints plan tokens old before new after =
      new ++ spaced (stack_tokens plan after) ≡ old ++ spaced (tokens ++ stack_tokens plan before)
