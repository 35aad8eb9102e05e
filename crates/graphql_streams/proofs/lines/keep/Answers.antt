use Rattle.std.proofs.Common.{◌≡◌, ◌+◌, ◌-◌, ◌≤◌, ◌++◌, cond, is_ok, Result, Ok, Err, List, ℕ, length, take, vec_len, ap, ◌∙◌, arith, rules}
use Rattle.std.specs.Prelude.{OnOk}
use Rattle.graphql_streams.proofs.LineLemmas.{kept-more}
use Rattle.graphql_streams.proofs.lines.keep.Goals as goal

on_ok : {A E : Type 0} (r : Result A E) (new old piece want : List ℕ) → new ≡ cond (is_ok r) (old ++ piece) old → old ++ piece ≡ want → OnOk r (new ≡ want)
on_ok (Ok x) new old piece want e f = e ∙ f
on_ok (Err x) new old piece want e f = tt

pub returns-then-room-bytes : goal.returns-then-room-bytes
returns-then-room-bytes c = λ begun is.
    let line = c.args.line.now in
    let bytes = c.args.bytes.now in
    let more = c.args.limit - vec_len line + 1 in
    let fits : vec_len line ≤ c.args.limit = search rules in
    let short : length line.items ≤ c.args.limit = omega (arith, line.ok.0, fits) in
    let all : length line.items + more ≡ c.args.limit + 1 = omega (arith, line.ok.0, fits) in
    on_ok c.extend_from_slice.result c.extend_from_slice.new.self.items line.items (take more bytes) (take (c.args.limit + 1) (begun ++ bytes))
    (c.extend_from_slice.ensures.items ∙ ap (λ n. cond (is_ok c.extend_from_slice.result) (line.items ++ take (c.args.limit - n + 1) bytes) line.items) c.len-2.ensures)
    (kept-more c.args.limit more line.items begun bytes is short all)
