use Rattle.std.proofs.Common.{◌≡◌, arith, ℕ, length, List, [], ◌∷◌}
use Rattle.std.proofs.lemmas.Result.{on_ok_weaker}
use Rattle.graphql_merging.specs.Tables.{pieces_of}
use Rattle.graphql_bundles.specs.Going.{stage_of}
use Rattle.graphql_bundles.proofs.HeldLemmas.{definitions-all, definitions-held}
use Rattle.graphql_bundles.proofs.definitions.begin_definitions.Goals as goal

pub returns : goal.returns
returns g c =
    on_ok_weaker c.begin_others-2.result
    (λ goes fragments. definitions-held (pieces_of fragments c.args.table.now) c.args.definitions c.in_ok-spread.spread.keys c.new-none.result.keys
    c.begin_others.new.held.keys c.begin_others-2.new.held.keys c.new-held.result.keys (stage_of c.args.progress.now) (stage_of c.begin_others.new.progress)
    (stage_of c.begin_others-2.new.progress) c.new-held.ensures.empty c.new-none.ensures.empty (c.in_ok-begin_others.ensures fragments) (goes fragments))
    c.begin_others-2.ensures

-- a set without a key
none-of : (ks : List ℕ) → length ks ≡ 0 → ks ≡ []
none-of [] e = λ i. []
none-of (k ∷ ks) e = absurd (omega (arith, e))

pub returns-then-is_empty : goal.returns-then-is_empty
returns-then-is_empty g c = λ fragments.
    definitions-all (pieces_of fragments c.args.table.now) c.args.definitions c.in_ok-spread.spread.keys c.begin_others.new.held.keys c.new-held.result.keys
    (stage_of c.args.progress.now) (stage_of c.begin_others.new.progress) c.new-held.ensures.empty
    (none-of c.in_ok-spread.spread.keys (c.is_empty.ensures.0 c.if-is_empty.true)) (c.in_ok-begin_others.ensures fragments)
