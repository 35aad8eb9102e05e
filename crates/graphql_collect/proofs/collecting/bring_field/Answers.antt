use Rattle.std.proofs.Common.{sym, ◌∙◌, inl}
use Rattle.graphql_collected.specs.Requests.{drops_in, is_below_in, fragments_in}
use Rattle.graphql_written_out.proofs.Layers.{out-Field, in-Field}
use Rattle.graphql_collect.proofs.SizeLaws.{size-Field}
use Rattle.graphql_collect.proofs.collecting.bring_field.Goals as goal

pub returns-then-drops-clause-brings : goal.returns-then-drops-clause-brings
returns-then-drops-clause-brings g c = λ object visited. inl (sym (out-Field (fragments_in c.args.request.now) (drops_in g.S.ScalarValue.answer c.args.request.now) (is_below_in c.args.request.now object) c.args.field.now (sym c.drops.ensures ∙ c.if-drops.true)))

pub returns-clause-brings : goal.returns-clause-brings
returns-clause-brings g c = λ object visited. sym (in-Field (fragments_in c.args.request.now) (drops_in g.S.ScalarValue.answer c.args.request.now) (is_below_in c.args.request.now object) c.args.field.now (sym c.drops.ensures ∙ c.if-drops.false))

pub returns-clause-sized : goal.returns-clause-sized
returns-clause-sized g c = λ visited. size-Field c.args.field.now
