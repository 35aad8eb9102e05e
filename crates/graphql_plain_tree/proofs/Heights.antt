-- A plain set is no higher than the set, and has no more fields and inline fragments.
use Rattle.std.proofs.Common.{◌≤◌, arith, Bool, true, false, [], cond}
use Rattle.graphql_written_out.specs.Trees.{Directives, Tree, none, field, inline, height}
use Rattle.graphql_plain_tree.specs.Plain.{drops_all, plain_set, plain, size}

module _ {S : Type 0} (drops : Directives S → Bool) (stand_in : Directives S) where
  abbrev set : Bool → Tree S → Tree S
  set = plain_set drops stand_in

  abbrev p : Tree S → Tree S
  p = plain drops stand_in

  abbrev Low : Tree S → Tree S → Type 0
  Low q t = (height q ≤ height t) × (size q ≤ size t)

  abbrev Lows : Tree S → Type 0
  Lows t = Low (set true t) t × Low (set false t) t

  whole : (t : Tree S) (out : Bool) → Lows t → Low (set out t) t
  whole t true h = h.0
  whole t false h = h.1

  lows : (t : Tree S) → Lows t
  lows none = ((omega arith, omega arith), (omega arith, omega arith))
  lows (field head directives below rest) =
      let b = whole below (drops_all drops below) (lows below) in
      let r = (lows rest).1 in
      let b0 : height (p below) ≤ height below = b.0 in
      let b1 : size (p below) ≤ size below = b.1 in
      let r0 : height (set false rest) ≤ height rest = r.0 in
      let r1 : size (set false rest) ≤ size rest = r.1 in (
        (omega arith, omega arith),
        elim (drops directives) as (λ d. Low (cond d (set false rest) (field head [] (p below) (set false rest))) (field head directives below rest))
            [ true ↦ (omega arith, omega arith) | false ↦ (omega arith, omega arith) ],
      )
  lows (inline on directives below rest) =
      let b = whole below (drops_all drops below) (lows below) in
      let r = (lows rest).1 in
      let b0 : height (p below) ≤ height below = b.0 in
      let b1 : size (p below) ≤ size below = b.1 in
      let r0 : height (set false rest) ≤ height rest = r.0 in
      let r1 : size (set false rest) ≤ size rest = r.1 in (
        (omega arith, omega arith),
        elim (drops directives) as (λ d. Low (cond d (set false rest) (inline on [] (p below) (set false rest))) (inline on directives below rest))
            [ true ↦ (omega arith, omega arith) | false ↦ (omega arith, omega arith) ],
      )

  pub not-higher : (t : Tree S) → Low (p t) t
  not-higher t = whole t (drops_all drops t) (lows t)
