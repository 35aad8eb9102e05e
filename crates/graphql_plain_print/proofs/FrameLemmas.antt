-- What is left to print, one frame more and one selection on.
use Rattle.std.proofs.Common.{◌≡◌, refl, sym, ◌∙◌, ap, ◌+◌, arith, Bool, true, false, List, [], ◌∷◌, ◌++◌, append-nil, append_assoc}
use Rattle.graphql_names.specs.Names.{Bytes}
use Rattle.graphql_text.specs.declared.token.Token.{Token}
use Rattle.graphql_scalars.specs.ScalarAnswers.{ScalarAnswer}
use Rattle.graphql_tree.specs.Documents.{arguments_in}
use Rattle.graphql_written_out.specs.Trees.{Tree}
use Rattle.graphql_written_out.specs.Written.{listed}
use Rattle.graphql_plain_tree.specs.Plain.{size}
use Rattle.graphql_plain_tree.specs.PlainOperations.{variables_given, variables_used}
use Rattle.graphql_plain_print.specs.declared.plan.Plan.{Plan}
use Rattle.graphql_plain_print.specs.declared.printing.Frame.{Frame}
use Rattle.graphql_plain_print.specs.declared.written.Written.{Written}
use Rattle.graphql_plain_print.specs.declared.written.Written.TheVariants as form
use Rattle.graphql_plain_print.specs.Alone.{alone_tokens, alone_uses, below_size, below_turns}
use Rattle.graphql_plain_print.specs.Frames.{frame_size, frame_tokens, frame_turns, frame_uses, stack_size, stack_tokens, stack_turns, stack_uses, turns}
use Rattle.graphql_plain_print.specs.Leads.{leads, out_by}
use Rattle.graphql_plain_print.specs.Plans.{plain_by, set_by, tokens_by}

module _ {S : Type 0} (plan : Plan S) where
  pub turns-push : (fs : List (Frame S)) (f : Frame S) → stack_turns plan (fs ++ f ∷ []) ≡ frame_turns plan f + stack_turns plan fs
  turns-push [] f = omega arith
  turns-push (g ∷ fs) f = let r : stack_turns plan (fs ++ f ∷ []) ≡ frame_turns plan f + stack_turns plan fs = turns-push fs f in omega arith

  pub turns-leads : (w : Written S) (rest : Tree S) → turns (leads plan w rest) ≡ 2 + below_turns plan w + turns rest
  turns-leads (form.Field x) rest = refl
  turns-leads (form.Inline on directives set) rest = refl

module _ {S : Type 0} (answer : S → ScalarAnswer) (of_bool : Bool → S) (plan : Plan S) where
  abbrev tokens : List (Frame S) → List Token
  tokens = stack_tokens answer of_bool plan

  abbrev uses : List (Frame S) → List Bytes
  uses = stack_uses answer of_bool plan

  abbrev set : Bool → Tree S → Tree S
  set = set_by answer of_bool plan

  pub tokens-push : (fs : List (Frame S)) (f : Frame S) → tokens (fs ++ f ∷ []) ≡ frame_tokens answer of_bool plan f ++ tokens fs
  tokens-push [] f = sym (append-nil (frame_tokens answer of_bool plan f))
  tokens-push (g ∷ fs) f =
      ap (λ l. l ++ frame_tokens answer of_bool plan g) (tokens-push fs f)
      ∙ append_assoc (frame_tokens answer of_bool plan f) (tokens fs) (frame_tokens answer of_bool plan g)

  pub uses-push : (fs : List (Frame S)) (f : Frame S) → uses (fs ++ f ∷ []) ≡ frame_uses answer of_bool plan f ++ uses fs
  uses-push [] f = sym (append-nil (frame_uses answer of_bool plan f))
  uses-push (g ∷ fs) f =
      ap (λ l. l ++ frame_uses answer of_bool plan g) (uses-push fs f)
      ∙ append_assoc (frame_uses answer of_bool plan f) (uses fs) (frame_uses answer of_bool plan g)

  pub size-push : (fs : List (Frame S)) (f : Frame S) → stack_size answer of_bool plan (fs ++ f ∷ []) ≡ frame_size answer of_bool plan f + stack_size answer of_bool plan fs
  size-push [] f = omega arith
  size-push (g ∷ fs) f =
      let r : stack_size answer of_bool plan (fs ++ f ∷ []) ≡ frame_size answer of_bool plan f + stack_size answer of_bool plan fs = size-push fs f in
      omega arith

  -- the first, which stands for all
  pub first-tokens : (w : Written S) (rest : Tree S) → tokens_by plan (set true (leads plan w rest)) ≡ alone_tokens answer of_bool plan true w
  first-tokens (form.Field x) rest = append-nil (alone_tokens answer of_bool plan true (form.Field x))
  first-tokens (form.Inline on directives s) rest = append-nil (alone_tokens answer of_bool plan true (form.Inline on directives s))

  pub first-uses : (w : Written S) (rest : Tree S) → variables_used (set true (leads plan w rest)) ≡ alone_uses answer of_bool plan w
  first-uses (form.Field x) rest =
      ap (λ l. variables_given (arguments_in x.now.item.arguments) ++ l) (append-nil (variables_used (plain_by answer of_bool plan (listed x.now.item.selection_set))))
  first-uses (form.Inline on directives s) rest = append-nil (variables_used (plain_by answer of_bool plan s.now))

  pub first-size : (w : Written S) (rest : Tree S) → size (set true (leads plan w rest)) ≡ 1 + below_size answer of_bool plan w
  first-size (form.Field x) rest = omega arith
  first-size (form.Inline on directives s) rest = omega arith

  -- one that is left out
  pub out-set : (w : Written S) (rest : Tree S) → out_by answer plan w ≡ true → set false (leads plan w rest) ≡ set false rest
  out-set (form.Field x) rest h = rw h refl
  out-set (form.Inline on directives s) rest h = rw h refl

  -- one that is kept
  pub kept-tokens : (w : Written S) (rest : Tree S) → out_by answer plan w ≡ false
      → tokens_by plan (set false (leads plan w rest)) ≡ alone_tokens answer of_bool plan false w ++ tokens_by plan (set false rest)
  kept-tokens (form.Field x) rest h = rw h refl
  kept-tokens (form.Inline on directives s) rest h = rw h refl

  pub kept-uses : (w : Written S) (rest : Tree S) → out_by answer plan w ≡ false
      → variables_used (set false (leads plan w rest)) ≡ alone_uses answer of_bool plan w ++ variables_used (set false rest)
  kept-uses (form.Field x) rest h =
      rw h
      (sym (append_assoc (variables_given (arguments_in x.now.item.arguments)) (variables_used (plain_by answer of_bool plan (listed x.now.item.selection_set)))
      (variables_used (set false rest))))
  kept-uses (form.Inline on directives s) rest h = rw h refl

  pub kept-size : (w : Written S) (rest : Tree S) → out_by answer plan w ≡ false
      → size (set false (leads plan w rest)) ≡ 1 + below_size answer of_bool plan w + size (set false rest)
  kept-size (form.Field x) rest h = rw h refl
  kept-size (form.Inline on directives s) rest h = rw h refl
