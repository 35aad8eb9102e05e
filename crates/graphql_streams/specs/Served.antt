-- What is written of the answers to lines that are read, and why no more are answered.
use Rattle.std.specs.Prelude.{◌≡◌, ◌⊎◌, ℕ, List, [], ◌++◌, Option, Result, Ok, Err, codes}
use Rattle.std.specs.Io.KnownBytes.{Appends, Consumes, IsAtEnd}
use Rattle.graphql_streams.specs.Counts.{HasRisen, risen}
use Rattle.graphql_streams.specs.Lines.{lines, whole_lines}
use Rattle.graphql_streams.specs.Runs.{Bytes, Run, RunPartly}
use Rattle.graphql_streams.specs.declared.serve_error.ServeError.{ServeError}
use Rattle.graphql_streams.specs.declared.serve_error.ServeError.TheVariants.{Read, Write, Memory}

-- the text of the error
abbrev pub serve_error_text : ServeError → Bytes
serve_error_text Read = codes "read failed"
serve_error_text Write = codes "write failed"
serve_error_text Memory = codes "out of memory"

-- what the count of failed reads becomes: it rises exactly where a read is told
abbrev pub reads_after : {A : Type 0} → Result A ServeError → ℕ → ℕ
reads_after (Err Read) n = risen n
reads_after (Err Write) n = n
reads_after (Err Memory) n = n
reads_after (Ok x) n = n

-- what the count of failed writes becomes: it rises where a write is told, and may rise where want
-- of memory is told, since the answers that were made before are written then
abbrev pub WritesAfter : {A : Type 0} → Result A ServeError → ℕ → ℕ → Type 0
WritesAfter (Err Read) old new = new ≡ old
WritesAfter (Err Write) old new = HasRisen old new
WritesAfter (Err Memory) old new = (new ≡ old) ⊎ HasRisen old new
WritesAfter (Ok x) old new = new ≡ old

-- a front of the bytes was written; this is the rest
pub record Sent (old new : Option Bytes) (bytes rest : Bytes) : Type 0 where
  pub taken : Bytes
  pub is : bytes ≡ taken ++ rest
  pub writes : Appends old new taken

-- a source has `left` before and `rest` after, a sink `old` and `new`, where they are known
module _ {S : Type 0} (answers : S → Bytes → Bytes → S → Type 0) where
  -- these lines were answered, and their answers written
  pub record ServesLines (s : S) (ls : List Bytes) (old new : Option Bytes) (t : S) : Type 0 where
    pub text : Bytes
    pub run : Run answers s ls text t
    pub writes : Appends old new text

  -- the source came to its end: each line of all its bytes was answered, and the answers written
  pub record ServedAll (s : S) (left rest old new : Option Bytes) (t : S) : Type 0 where
    pub bytes : Bytes
    pub reads : Consumes left rest bytes
    pub ended : IsAtEnd rest
    pub serves : ServesLines s (lines bytes) old new t

  -- a read failed: each whole line of what was read was answered, and the answers written
  pub record ServedWhole (s : S) (left rest old new : Option Bytes) (t : S) : Type 0 where
    pub bytes : Bytes
    pub reads : Consumes left rest bytes
    pub serves : ServesLines s (whole_lines [] bytes) old new t

  -- a write failed: a front of the lines was answered, and a beginning of their answers is written
  pub record StopsAtWrite (s : S) (ls : List Bytes) (old new : Option Bytes) (t : S) : Type 0 where
    pub done : List Bytes
    pub others : List Bytes
    pub is : ls ≡ done ++ others
    pub text : Bytes
    pub run : Run answers s done text t
    pub more : Bytes
    pub sent : Sent old new text more

  -- `failed`: a write has failed
  module _ (breaks : S → Bytes → S → Type 0) (failed : Type 0) where
    -- memory ran out: the answers to a front of the lines are written, or a beginning of them where
    -- a write then failed
    pub record StopsAtMemory (s : S) (ls : List Bytes) (old new : Option Bytes)
        (t : S) : Type 0 where
      pub text : Bytes
      pub run : RunPartly answers breaks s ls text t
      pub more : Bytes
      pub sent : Sent old new text more
      pub whole : (more ≡ []) ⊎ failed

    abbrev pub Stops : ServeError → S → List Bytes → Option Bytes → Option Bytes → S → Type 0
    Stops Read s ls old new t = ⊥
    Stops Write s ls old new t = StopsAtWrite s ls old new t
    Stops Memory s ls old new t = StopsAtMemory s ls old new t

    -- the same at the whole lines of the bytes that were read; what stands behind the last line
    -- feed is a line too only where the source has come to its end
    pub record Stopped (e : ServeError) (s : S) (left rest old new : Option Bytes)
        (t : S) : Type 0 where
      pub bytes : Bytes
      pub reads : Consumes left rest bytes
      pub stops : Stops e s (whole_lines [] bytes) old new t
          ⊎ (IsAtEnd rest × Stops e s (lines bytes) old new t)

    -- why no more lines are answered, and what was read, answered and written by then
    abbrev pub Ends : ServeError → S → Option Bytes → Option Bytes → Option Bytes → Option Bytes → S
        → Type 0
    Ends Read s left rest old new t = ServedWhole s left rest old new t
    Ends Write s left rest old new t = Stopped Write s left rest old new t
    Ends Memory s left rest old new t = Stopped Memory s left rest old new t
