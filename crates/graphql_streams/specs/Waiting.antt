-- Answers that wait to be written, and what comes of them.
use Rattle.std.specs.Prelude.{◌≡◌, ◌⊎◌, List, [], ◌++◌, Option, Result, Ok, Err}
use Rattle.std.specs.declared.alloc.AllocError.{AllocError}
use Rattle.graphql_streams.specs.Runs.{Bytes, Run, RunPartly}
use Rattle.graphql_streams.specs.Served.{Sent}
use Rattle.graphql_streams.specs.declared.serve_error.ServeError.{ServeError}
use Rattle.graphql_streams.specs.declared.serve_error.ServeError.TheVariants.{Read, Write, Memory}

module _ {S : Type 0} (answers : S → Bytes → Bytes → S → Type 0) where
  -- these lines were answered, behind the answers that waited
  pub record Made (s : S) (ls : List Bytes) (old new : Bytes) (t : S) : Type 0 where
    pub text : Bytes
    pub is : new ≡ old ++ text
    pub run : Run answers s ls text t

  -- a front of them was, and at the next memory may have run out
  module _ (breaks : S → Bytes → S → Type 0) where
    pub record MadePartly (s : S) (ls : List Bytes) (old new : Bytes) (t : S) : Type 0 where
      pub text : Bytes
      pub is : new ≡ old ++ text
      pub run : RunPartly answers breaks s ls text t

-- why not all answers were made and written: memory ran out, and all that were made are written, or
-- a write failed then; or a write failed where all were made
abbrev pub WroteSome : {A : Type 0} → Type 0 → ServeError → Result A AllocError → Bytes
    → Option Bytes → Option Bytes
    → Type 0
WroteSome failed Read made bytes old new = ⊥
WroteSome failed Write (Ok x) bytes old new = (more : Bytes) × Sent old new bytes more
WroteSome failed Write (Err e) bytes old new = ⊥
WroteSome failed Memory (Ok x) bytes old new = ⊥
WroteSome failed Memory (Err e) bytes old new =
    (more : Bytes) × Sent old new bytes more × ((more ≡ []) ⊎ failed)
