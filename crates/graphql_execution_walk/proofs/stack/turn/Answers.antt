use Rattle.std.proofs.Common.{arith, sym, ◌≡◌, ◌∙◌, ap, subst, ◌++◌, ◌∷◌, []}
use Rattle.graphql_execution_walk.specs.declared.frames.Begun.TheVariants as begun
use Rattle.graphql_execution_walk.specs.declared.frames.Frame.TheVariants as frame
use Rattle.graphql_execution_walk.specs.Evaluations.{evaluation_at}
use Rattle.graphql_execution_walk.specs.Frames.{TakesTurn, path_of, rest, resume, shows}
use Rattle.graphql_execution_walk.proofs.FrameLemmas.{fine-pop, leads-now, step-in_place, step-popped}
use Rattle.graphql_execution_walk.specs.FrameTurns.{all_waiting}
use Rattle.graphql_execution_walk.proofs.TurnLemmas.{waiting-last}
use Rattle.graphql_execution_walk.proofs.stack.turn.Goals as goal

pub returns-in-None-clause-steps : goal.returns-in-None-clause-steps
returns-in-None-clause-steps g c = λ path at.
    let here = evaluation_at g.S.ScalarValue.of_text g.S.ScalarValue.of_bool g.S.ScalarValue.answer (g.R.GraphQLValue.root_node c.args.resolver.now) (g.R.GraphQLValue.type_of c.args.resolver.now) (g.R.GraphQLValue.answer c.args.resolver.now) c.args.executor.now in
    let old = c.args.report.now in
    let fs = c.args.waiting.now in
    let ends = rw c.in-None.is at c.pop.ensures in
    let v = c.in-Value.value in
    rw (c.in-Value.is, ends.1)
    (subst (λ ws. TakesTurn here path (resume here path fs (λ q. shows v)) old ws (λ q. shows v) old) ends.0 (step-in_place here path fs (λ q. shows v) (λ q. shows v) old old at (leads-now (shows v) old)))

pub returns-in_ok-given-in-Some-clause-steps : goal.returns-in_ok-given-in-Some-clause-steps
returns-in_ok-given-in-Some-clause-steps g c = λ path at.
    let here = evaluation_at g.S.ScalarValue.of_text g.S.ScalarValue.of_bool g.S.ScalarValue.answer (g.R.GraphQLValue.root_node c.args.resolver.now) (g.R.GraphQLValue.type_of c.args.resolver.now) (g.R.GraphQLValue.answer c.args.resolver.now) c.args.executor.now in
    let old = c.args.report.now in
    let fs = c.pop.new.self in
    let f = c.in-Some.waits in
    let v = c.in-Value.value in
    let given = c.in_ok-given-in-Some.given in
    let popped : c.args.waiting.now ≡ fs ++ f ∷ [] = rw c.in-Some.is at c.pop.ensures in
    rw (c.in-Value.is, popped)
    (step-popped here path fs f v (λ q. rest here q given) old c.give.new.report (at ∙ ap (path_of path) popped) (λ q. c.in_ok-given-in-Some.ensures.gives here q) (λ q. c.in_ok-given-in-Some.ensures.path q) c.in_ok-given-in-Some.ensures.errors)

pub returns-in_ok-given-in-Some-clause-fine : goal.returns-in_ok-given-in-Some-clause-fine
returns-in_ok-given-in-Some-clause-fine g c =
    let here = evaluation_at g.S.ScalarValue.of_text g.S.ScalarValue.of_bool g.S.ScalarValue.answer (g.R.GraphQLValue.root_node c.args.resolver.now) (g.R.GraphQLValue.type_of c.args.resolver.now) (g.R.GraphQLValue.answer c.args.resolver.now) c.args.executor.now in
    let popped : c.args.waiting.now ≡ c.pop.new.self ++ c.in-Some.waits ∷ [] = rw c.in-Some.is at c.pop.ensures in
    let parts = fine-pop here c.pop.new.self c.in-Some.waits (rw popped at c.requires.fine.0) in
    (parts.0, c.in_ok-given-in-Some.ensures.fine here parts.1)

pub returns-in_ok-begun-in-Frame-List-clause-steps : goal.returns-in_ok-begun-in-Frame-List-clause-steps
returns-in_ok-begun-in-Frame-List-clause-steps g c =
    let is : c.args.now ≡ begun.Frame (frame.List c.in-Frame-List.list_frame) = c.in-Frame-List.is ∙ ap begun.Frame c.in-Frame-List.field-0-is in
    rw is c.in_ok-begun-in-Frame-List.ensures.steps

pub returns-in-None-clause-turns : goal.returns-in-None-clause-turns
returns-in-None-clause-turns g c = rw c.in-Value.is (omega (arith, ap (all_waiting (evaluation_at g.S.ScalarValue.of_text g.S.ScalarValue.of_bool g.S.ScalarValue.answer (g.R.GraphQLValue.root_node c.args.resolver.now) (g.R.GraphQLValue.type_of c.args.resolver.now) (g.R.GraphQLValue.answer c.args.resolver.now) c.args.executor.now)) ((rw c.in-None.is at c.pop.ensures).0 ∙ sym (rw c.in-None.is at c.pop.ensures).1)))

pub returns-in_ok-given-in-Some-clause-turns : goal.returns-in_ok-given-in-Some-clause-turns
returns-in_ok-given-in-Some-clause-turns g c =
    let here = evaluation_at g.S.ScalarValue.of_text g.S.ScalarValue.of_bool g.S.ScalarValue.answer (g.R.GraphQLValue.root_node c.args.resolver.now) (g.R.GraphQLValue.type_of c.args.resolver.now) (g.R.GraphQLValue.answer c.args.resolver.now) c.args.executor.now in
    let fs = c.pop.new.self in
    let f = c.in-Some.waits in
    let popped : c.args.waiting.now ≡ fs ++ f ∷ [] = rw c.in-Some.is at c.pop.ensures in
    rw (c.in-Value.is, popped) (omega (arith, waiting-last here fs f, c.in_ok-given-in-Some.ensures.turns here))

pub returns-in_ok-begun-in-Frame-List-clause-turns : goal.returns-in_ok-begun-in-Frame-List-clause-turns
returns-in_ok-begun-in-Frame-List-clause-turns g c =
    let is : c.args.now ≡ begun.Frame (frame.List c.in-Frame-List.list_frame) = c.in-Frame-List.is ∙ ap begun.Frame c.in-Frame-List.field-0-is in
    rw is c.in_ok-begun-in-Frame-List.ensures.turns
