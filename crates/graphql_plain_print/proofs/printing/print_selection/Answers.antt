use Rattle.graphql_plain_print.specs.Alone.{alone_uses}
use Rattle.std.proofs.Common.{◌++◌, sym, subst, OnOk}
use Rattle.graphql_plain_print.specs.NameSets.{AreSame}
use Rattle.graphql_plain_print.specs.declared.written.Written.TheVariants as form
use Rattle.graphql_plain_print.specs.Frames.{stack_uses}
use Rattle.graphql_plain_print.proofs.NameLemmas.{same-behind}
use Rattle.graphql_plain_print.proofs.printing.print_selection.Goals as goal

pub returns-in-Inline-clause-uses : goal.returns-in-Inline-clause-uses
returns-in-Inline-clause-uses g c =
    subst
    (λ w. OnOk c.print_inline.result (AreSame (c.args.used.now.keys ++ stack_uses g.S.ScalarValue.answer g.S.ScalarValue.of_bool c.args.plan.now c.print_inline.new.sets) (c.args.used.now.keys ++ (alone_uses g.S.ScalarValue.answer g.S.ScalarValue.of_bool c.args.plan.now w ++ stack_uses g.S.ScalarValue.answer g.S.ScalarValue.of_bool c.args.plan.now c.args.sets.now))))
    (sym c.in-Inline.is)
    (same-behind c.print_inline.result c.args.used.now.keys (stack_uses g.S.ScalarValue.answer g.S.ScalarValue.of_bool c.args.plan.now c.print_inline.new.sets)
    (alone_uses g.S.ScalarValue.answer g.S.ScalarValue.of_bool c.args.plan.now (form.Inline c.in-Inline.on c.in-Inline.directives c.in-Inline.set) ++ stack_uses g.S.ScalarValue.answer g.S.ScalarValue.of_bool c.args.plan.now c.args.sets.now) c.print_inline.ensures.uses)
