use Rattle.std.proofs.Common.{◌+◌, sym, ◌∙◌, Result, Ok, Err}
use Rattle.std.proofs.lemmas.List.{take_rest}
use Rattle.std.specs.Prelude.{OnErr, OnOk}
use Rattle.graphql_streams.proofs.RunLemmas.{feeding-all, feeding-first, feeding-kept, feeding-more, feeding-partly_all}
use Rattle.graphql_streams.proofs.lines.feed.Goals as goal

pub lines-init : goal.lines-init
lines-init g c = record {
  feeding = λ begun is.
      feeding-first g.E.LineEngine.answers c.args.limit begun c.args.block.now c.args.engine.now c.args.buffers.now.answers.items
      c.args.buffers.now.line.items is;
  limit = c.requires.limit;
  holds = c.requires.holds;
}

pub lines-preserved : goal.lines-preserved
lines-preserved g c =
    let rest = c.lines.rest.now in
    let end = c.in-Some.end in
    rw (take_rest rest (end + 1)) (record {
      feeding = λ begun is.
          let f = c.lines.invariant.feeding begun is in
          feeding-more g.E.LineEngine.answers c.args.limit begun c.args.block.now rest c.args.engine.now c.lines.engine
          c.args.buffers.now.answers.items c.lines.buffers.line.items c.lines.buffers.answers.items f end
          c.end_line.new.buffers.line.items c.end_line.new.buffers.answers.items c.end_line.new.engine
          c.in-Some.ensures.ends (c.in_ok-end_line.ensures.ok f.now f.kept) c.in_ok-end_line.ensures.cleared;
      limit = c.lines.invariant.limit ∙ sym c.in_ok-end_line.ensures.limit;
      holds = c.in_ok-end_line.ensures.holds;
    })

where_ok : {A E : Type 0} {P Q : Type 0} (r : Result A E) → (P → Q) → OnOk r P → OnOk r Q
where_ok (Ok x) f p = f p
where_ok (Err x) f p = tt

if_any : {A E : Type 0} {P : Type 0} (r : Result A E) → P → OnOk r P
if_any (Ok x) p = p
if_any (Err x) p = tt

if_any_err : {A E : Type 0} {P : Type 0} (r : Result A E) → P → OnErr r P
if_any_err (Ok x) p = tt
if_any_err (Err x) p = p

pub returns-clause-ok : goal.returns-clause-ok
returns-clause-ok g c = λ begun is.
    if_any c.keep.result (feeding-all g.E.LineEngine.answers c.args.limit begun c.args.block.now c.lines.rest.now c.args.engine.now c.lines.engine
    c.args.buffers.now.answers.items c.lines.buffers.line.items c.lines.buffers.answers.items (c.lines.invariant.feeding begun is) c.in_default.ensures.ends)

pub returns-clause-kept : goal.returns-clause-kept
returns-clause-kept g c = λ begun is.
    let f = c.lines.invariant.feeding begun is in
    where_ok c.keep.result (feeding-kept g.E.LineEngine.answers c.args.limit begun c.args.block.now c.lines.rest.now c.args.engine.now c.lines.engine
    c.args.buffers.now.answers.items c.lines.buffers.line.items c.lines.buffers.answers.items f c.keep.new.line.items c.in_default.ensures.ends) (c.keep.ensures f.now f.kept)

pub returns-clause-err : goal.returns-clause-err
returns-clause-err g c = λ begun is.
    if_any_err c.keep.result (feeding-partly_all g.E.LineEngine.answers c.args.limit begun c.args.block.now c.lines.rest.now c.args.engine.now c.lines.engine
    c.args.buffers.now.answers.items c.lines.buffers.line.items c.lines.buffers.answers.items (c.lines.invariant.feeding begun is) g.E.LineEngine.breaks c.in_default.ensures.ends)
