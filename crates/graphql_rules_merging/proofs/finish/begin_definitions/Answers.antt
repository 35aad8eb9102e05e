use Rattle.std.proofs.Common.{◌≡◌, ◌∙◌, ap, arith, ℕ, ◌+◌, ◌<◌, ◌≤◌, false, ◌⊎◌, inl, inr}
use Rattle.std.proofs.lemmas.Bool.Decides.{eqb_tells}
use Rattle.graphql_merging.specs.Tables.{pieces_of}
use Rattle.graphql_rules_merging.specs.declared.agenda.SetPair.{SetPair}
use Rattle.graphql_rules_merging.specs.Agenda.{listed_of, pair_of}
use Rattle.graphql_rules_merging.proofs.Begun.{begins_none, begins_both, begins_as}
use Rattle.graphql_rules_merging.proofs.finish.begin_definitions.Goals as goal

abbrev Below : ℕ → SetPair → Type 0
Below n pair = (k : ℕ) × (k < n) × (pair ≡ pair_of k k false)

below-more : (n : ℕ) (pair : SetPair) → Below (n + 1) pair → Below n pair ⊎ (pair ≡ pair_of n n false)
below-more n pair h = elim (eqb_tells h.0 n) [
  | inl e ↦ inr (h.2 ∙ ap (λ k. pair_of k k false) e.1)
  | inr e ↦ inl (h.0, before h.0 n h.1 e.1, h.2)
]
  where
    before : (k n : ℕ) → k < n + 1 → (k ≡ n → ⊥) → k < n
    before k n h e = omega (arith, h, e)

pub loop-definition-init : goal.loop-definition-init
loop-definition-init g c = λ fragments.
    begins_none (pieces_of fragments c.args.table.now) (Below 0) (Below 0) (listed_of c.args.agenda.now) (λ pair h. absurd (none h.0 h.1))
  where
    none : (k : ℕ) → k < 0 → ⊥
    none k h = omega (arith, h)

pub loop-definition-preserved : goal.loop-definition-preserved
loop-definition-preserved g c = λ fragments.
    let n = c.loop-definition.definition in
    begins_both (pieces_of fragments c.args.table.now) (Below n) (Below n) (λ pair. pair ≡ pair_of n n false) (λ pair. pair ≡ pair_of n n false) (Below (n + 1)) (Below (n + 1))
    (listed_of c.args.agenda.now) (listed_of c.loop-definition.agenda) (listed_of c.begin_sets.new.agenda) (λ pair h. below-more n pair h)
    (λ pair h. (h.0, less h.0 n h.1, h.2)) (λ pair e. (n, last n, e)) (c.loop-definition.invariant fragments) (c.in_ok-begin_sets.ensures fragments)
  where
    less : (k n : ℕ) → k < n → k < n + 1
    less k n h = omega (arith, h)

    last : (n : ℕ) → n < n + 1
    last n = omega arith

pub returns : goal.returns
returns g c = λ fragments.
    let n = c.loop-definition.definition in
    begins_as (pieces_of fragments c.args.table.now) (Below n) (Below n) (Below c.args.definitions) (Below c.args.definitions) (listed_of c.args.agenda.now)
    (listed_of c.loop-definition.agenda) (λ pair h. (h.0, below h.0 c.args.definitions n h.1 c.loop-definition-test.false, h.2))
    (λ pair h. (h.0, below h.0 n c.args.definitions h.1 c.loop-definition.auto.definition-end, h.2)) (c.loop-definition.invariant fragments)
  where
    below : (k m n : ℕ) → k < m → m ≤ n → k < n
    below k m n h i = omega (arith, h, i)
