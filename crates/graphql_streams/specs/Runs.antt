-- What lines are answered, one after another.
use Rattle.std.specs.Prelude.{◌≡◌, ◌⊎◌, ℕ, List, [], ◌∷◌, ◌++◌}

abbrev pub Bytes : Type 0
Bytes = List ℕ

-- `answers`: from this state, this line is given this text, and leaves that state
module _ {S : Type 0} (answers : S → Bytes → Bytes → S → Type 0) where
  -- what a line is given, and the state that it leaves: an empty one gets nothing and changes
  -- nothing
  abbrev pub LineAnswered : S → Bytes → Bytes → S → Type 0
  LineAnswered s [] text t = (text ≡ []) × (t ≡ s)
  LineAnswered s (b ∷ bs) text t = answers s (b ∷ bs) text t

  -- what lines are given together, each in the state that those before it left
  abbrev pub Run : S → List Bytes → Bytes → S → Type 0
  Run s [] text t = (text ≡ []) × (t ≡ s)
  Run s (line ∷ ls) text t =
      (m : S) × (first : Bytes) × (others : Bytes)
      × LineAnswered s line first m × (text ≡ first ++ others) × Run m ls others t

  -- `breaks`: from this state, want of memory at this line leaves that state
  module _ (breaks : S → Bytes → S → Type 0) where
    -- memory may run out before these lines are answered: the first alone may have changed the
    -- state
    abbrev pub Broken : S → List Bytes → S → Type 0
    Broken s [] t = t ≡ s
    Broken s (line ∷ ls) t = (t ≡ s) ⊎ breaks s line t

    -- a front of the lines was given this text, and at the next memory may have run out
    pub record RunPartly (s : S) (ls : List Bytes) (text : Bytes) (t : S) : Type 0 where
      pub done : List Bytes
      pub others : List Bytes
      pub is : ls ≡ done ++ others
      pub between : S
      pub run : Run s done text between
      pub broken : Broken between others t
