use Rattle.std.proofs.Common.{◌≡◌, ◌<◌, ◌+◌, ◌++◌, sym, subst, ◌∙◌, ap, arith, [], append-nil, ℕ}
use Rattle.std.specs.String.{string_bytes}
use Rattle.graphql_plain_tree.specs.Plain.{size}
use Rattle.graphql_plain_tree.specs.PlainOperations.{variables_used}
use Rattle.graphql_plain_text.specs.PlainTexts.{spaced}
use Rattle.graphql_plain_text.specs.TreeTokens.{in_braces}
use Rattle.graphql_plain_print.proofs.FaultLemmas.{too-large}
use Rattle.graphql_plain_print.specs.Frames.{frame_size, frame_turns, frame_uses, stack_size, stack_tokens, stack_turns, stack_uses}
use Rattle.graphql_plain_print.specs.NameSets.{AreSame}
use Rattle.graphql_plain_print.specs.Plans.{plain_by, tokens_by}
use Rattle.graphql_plain_print.proofs.FrameLemmas.{size-push, tokens-push, turns-push, uses-push}
use Rattle.graphql_plain_print.proofs.NameLemmas.{same-as, same-refl, same-trans}
use Rattle.graphql_plain_print.proofs.printing.print_set.Goals as goal

pub sets-init : goal.sets-init
sets-init g c =
    let none : c.new-sets.result ≡ [] = c.new-sets.ensures in
    let whole = in_braces (tokens_by c.args.plan.now (plain_by g.S.ScalarValue.answer g.S.ScalarValue.of_bool c.args.plan.now c.args.set.now)) in
    let names = variables_used (plain_by g.S.ScalarValue.answer g.S.ScalarValue.of_bool c.args.plan.now c.args.set.now) in
    let old = c.args.used.now.keys in
    let empty : stack_size g.S.ScalarValue.answer g.S.ScalarValue.of_bool c.args.plan.now c.new-sets.result ≡ 0 = ap (stack_size g.S.ScalarValue.answer g.S.ScalarValue.of_bool c.args.plan.now) none in
    record {
      text = c.in_ok-open.ensures.text ∙ ap (λ l. string_bytes c.args.text.now ++ spaced l) (ap (λ s. whole ++ stack_tokens g.S.ScalarValue.answer g.S.ScalarValue.of_bool c.args.plan.now s) none ∙ append-nil whole);
      uses = same-as (old ++ stack_uses g.S.ScalarValue.answer g.S.ScalarValue.of_bool c.args.plan.now c.open.new.sets) (old ++ stack_uses g.S.ScalarValue.answer g.S.ScalarValue.of_bool c.args.plan.now c.open.new.sets) (old ++ names) (same-refl (old ++ stack_uses g.S.ScalarValue.answer g.S.ScalarValue.of_bool c.args.plan.now c.open.new.sets))
          (ap (λ l. old ++ l) (c.in_ok-open.ensures.uses ∙ ap (λ s. names ++ stack_uses g.S.ScalarValue.answer g.S.ScalarValue.of_bool c.args.plan.now s) none ∙ append-nil names));
      sized = omega (arith, c.in_ok-open.ensures.sized, empty);
      room = omega arith;
    }

pub sets-smaller : goal.sets-smaller
sets-smaller g c =
    let t : stack_turns c.args.plan.now c.sets.sets ≡ frame_turns c.args.plan.now c.in-Some.frame + stack_turns c.args.plan.now c.pop.new.self = ap (stack_turns c.args.plan.now) c.in-Some.ensures ∙ turns-push c.args.plan.now c.pop.new.self c.in-Some.frame in
    omega (arith, c.in_ok-count.ensures.turns, t)

pub sets-preserved : goal.sets-preserved
sets-preserved g c =
    let s : stack_size g.S.ScalarValue.answer g.S.ScalarValue.of_bool c.args.plan.now c.sets.sets ≡ frame_size g.S.ScalarValue.answer g.S.ScalarValue.of_bool c.args.plan.now c.in-Some.frame + stack_size g.S.ScalarValue.answer g.S.ScalarValue.of_bool c.args.plan.now c.pop.new.self = ap (stack_size g.S.ScalarValue.answer g.S.ScalarValue.of_bool c.args.plan.now) c.in-Some.ensures ∙ size-push g.S.ScalarValue.answer g.S.ScalarValue.of_bool c.args.plan.now c.pop.new.self c.in-Some.frame in
    let now = c.sets.used.keys in
    let left = frame_uses g.S.ScalarValue.answer g.S.ScalarValue.of_bool c.args.plan.now c.in-Some.frame ++ stack_uses g.S.ScalarValue.answer g.S.ScalarValue.of_bool c.args.plan.now c.pop.new.self in
    let u : left ≡ stack_uses g.S.ScalarValue.answer g.S.ScalarValue.of_bool c.args.plan.now c.sets.sets = sym (ap (stack_uses g.S.ScalarValue.answer g.S.ScalarValue.of_bool c.args.plan.now) c.in-Some.ensures ∙ uses-push g.S.ScalarValue.answer g.S.ScalarValue.of_bool c.args.plan.now c.pop.new.self c.in-Some.frame) in
    let after = c.advance.new.used.keys ++ stack_uses g.S.ScalarValue.answer g.S.ScalarValue.of_bool c.args.plan.now c.advance.new.sets in
    record {
      text = c.in_ok-count.ensures.text ∙ ap (λ l. string_bytes c.sets.text ++ spaced l) (sym (ap (stack_tokens g.S.ScalarValue.answer g.S.ScalarValue.of_bool c.args.plan.now) c.in-Some.ensures ∙ tokens-push g.S.ScalarValue.answer g.S.ScalarValue.of_bool c.args.plan.now c.pop.new.self c.in-Some.frame)) ∙ c.sets.invariant.text;
      uses = same-trans after (now ++ stack_uses g.S.ScalarValue.answer g.S.ScalarValue.of_bool c.args.plan.now c.sets.sets) (c.args.used.now.keys ++ variables_used (plain_by g.S.ScalarValue.answer g.S.ScalarValue.of_bool c.args.plan.now c.args.set.now))
          (same-as after (now ++ left) (now ++ stack_uses g.S.ScalarValue.answer g.S.ScalarValue.of_bool c.args.plan.now c.sets.sets) c.in_ok-count.ensures.uses (ap (λ l. now ++ l) u)) c.sets.invariant.uses;
      sized = omega (arith, c.in_ok-count.ensures.sized.0, s, c.sets.invariant.sized);
      room = c.in_ok-count.ensures.sized.1;
    }

pub returns-clause-text : goal.returns-clause-text
returns-clause-text g c =
    let none : c.sets.sets ≡ [] = c.in_default.ensures.0 in
    sym (append-nil (string_bytes c.sets.text)) ∙ ap (λ s. string_bytes c.sets.text ++ spaced (stack_tokens g.S.ScalarValue.answer g.S.ScalarValue.of_bool c.args.plan.now s)) (sym none) ∙ c.sets.invariant.text

pub returns-clause-uses : goal.returns-clause-uses
returns-clause-uses g c =
    let none : c.sets.sets ≡ [] = c.in_default.ensures.0 in
    subst (λ l. AreSame l (c.args.used.now.keys ++ variables_used (plain_by g.S.ScalarValue.answer g.S.ScalarValue.of_bool c.args.plan.now c.args.set.now)))
    (ap (λ s. c.sets.used.keys ++ stack_uses g.S.ScalarValue.answer g.S.ScalarValue.of_bool c.args.plan.now s) none ∙ append-nil c.sets.used.keys) c.sets.invariant.uses

pub returns-clause-fits : goal.returns-clause-fits
returns-clause-fits g c =
    let none : stack_size g.S.ScalarValue.answer g.S.ScalarValue.of_bool c.args.plan.now c.sets.sets ≡ 0 = ap (stack_size g.S.ScalarValue.answer g.S.ScalarValue.of_bool c.args.plan.now) c.in_default.ensures.0 in
    omega (arith, none, c.sets.invariant.sized, c.sets.invariant.room)

pub returns-in_err-count-clause-large : goal.returns-in_err-count-clause-large
returns-in_err-count-clause-large g c =
    let s : stack_size g.S.ScalarValue.answer g.S.ScalarValue.of_bool c.args.plan.now c.sets.sets ≡ frame_size g.S.ScalarValue.answer g.S.ScalarValue.of_bool c.args.plan.now c.in-Some.frame + stack_size g.S.ScalarValue.answer g.S.ScalarValue.of_bool c.args.plan.now c.pop.new.self = ap (stack_size g.S.ScalarValue.answer g.S.ScalarValue.of_bool c.args.plan.now) c.in-Some.ensures ∙ size-push g.S.ScalarValue.answer g.S.ScalarValue.of_bool c.args.plan.now c.pop.new.self c.in-Some.frame in
    too-large ℕ c.from_residual-in_err-count.result c.in_err-count.field-0.0 (c.args.plan.now.limit < c.sets.count + (frame_size g.S.ScalarValue.answer g.S.ScalarValue.of_bool c.args.plan.now c.in-Some.frame + stack_size g.S.ScalarValue.answer g.S.ScalarValue.of_bool c.args.plan.now c.pop.new.self)) (c.args.plan.now.limit < size (plain_by g.S.ScalarValue.answer g.S.ScalarValue.of_bool c.args.plan.now c.args.set.now))
    c.from_residual-in_err-count.ensures.1 c.in_err-count.ensures.large (λ h. omega (arith, h, s, c.sets.invariant.sized))
