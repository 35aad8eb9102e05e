-- What a list ends as once a `&mut` into it ends.
use Rattle.std.specs.Prelude.{ℕ, List, Option, ◌++◌, length, take, drop, slice_set}
use Rattle.std.specs.Borrow.{Lends, LendsIf, MutBor, Fml, follows}
use Rattle.std.specs.Slice.Iter.{iter_mut_name}
use Rattle.std.specs.declared.slice.IterMut.{IterMut}
use denote.RattleType.{RattleType}
use denote.Array.{Array}
use Rattle.graphql_text.specs.contracts.items.Items.{the_row}

-- xs with ws as its items; where ws has another length it is cut, or filled up from xs
abbrev pub with_items : {X : Type 0} → List X → List X → List X
with_items xs ws = take (length xs) (ws ++ drop (length ws) xs)

module _ (T : RattleType) (items : MutBor (List T.Denot)) where
  -- the list ends as what is last in the slice
  abbrev pub LendsSlice : MutBor (List T.Denot) → Fml
  LendsSlice slice = Lends (the_row T) (Array T 0) items slice (with_items items.now)

  -- the list ends as what the iterator leaves of it
  abbrev pub LendsIter : IterMut T.Denot → Fml
  LendsIter rest =
      follows (the_row T) (Array T 0) items.ghost_name (iter_mut_name rest) (with_items items.now)

  -- the list ends with the item at the index as it is last
  abbrev pub LendsItem : ℕ → MutBor T.Denot → Fml
  LendsItem index item = Lends (the_row T) T items item (slice_set items.now index)

  -- the same, and the list stays where there is no such item
  abbrev pub LendsGet : ℕ → Option (MutBor T.Denot) → Fml
  LendsGet index item = LendsIf (the_row T) T items item (slice_set items.now index) items.now
