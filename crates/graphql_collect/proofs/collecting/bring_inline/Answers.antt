use Rattle.std.proofs.Common.{rules, sym, ◌∙◌, inl}
use Rattle.graphql_collected.specs.Requests.{drops_in, is_below_in, fragments_in}
use Rattle.graphql_written_out.proofs.Layers.{out-Inline, other-Inline, in-Inline, height-of-Inline}
use Rattle.graphql_collect.proofs.SizeLaws.{size-Inline, turns-Inline}
use Rattle.graphql_collect.proofs.collecting.bring_inline.Goals as goal

pub returns-then-drops-clause-brings : goal.returns-then-drops-clause-brings
returns-then-drops-clause-brings g c = λ visited. inl (sym (out-Inline (fragments_in c.args.request.now) (drops_in g.S.ScalarValue.answer c.args.request.now) (is_below_in c.args.request.now c.args.object.now) c.args.inline.now (sym c.drops.ensures ∙ c.if-drops.true)))

pub returns-then-not-applies-clause-brings : goal.returns-then-not-applies-clause-brings
returns-then-not-applies-clause-brings g c = λ visited. inl (sym (other-Inline (fragments_in c.args.request.now) (drops_in g.S.ScalarValue.answer c.args.request.now) (is_below_in c.args.request.now c.args.object.now) c.args.inline.now (sym c.drops.ensures ∙ c.if-drops.false) (search rules)))

pub returns-clause-brings : goal.returns-clause-brings
returns-clause-brings g c = λ visited. record {
  same = search (rules, in-Inline);
  lower = search (rules, height-of-Inline);
}

pub returns-clause-sized : goal.returns-clause-sized
returns-clause-sized g c = λ visited. rw c.as_slice.ensures (size-Inline c.args.inline.now, turns-Inline c.args.inline.now)
