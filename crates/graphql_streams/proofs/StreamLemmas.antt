-- What is read and written, block after block.
use Rattle.std.proofs.Common.{◌≡◌, ◌⊎◌, inl, inr, refl, sym, ◌∙◌, ap, subst, ℕ, true, false, cond, ◌==◌, List, [], ◌∷◌, ◌++◌, append-nil, append_assoc, take, drop, Option, Some, None, Result, Ok, Err}
use Rattle.std.proofs.lemmas.List.{take-append-drop}
use Rattle.std.specs.Prelude.{IfErr, OnErr, OnOk}
use Rattle.std.specs.declared.alloc.AllocError.{AllocError}
use Rattle.std.specs.Io.KnownBytes.{Appends, Consumes, IsAtEnd}
use Rattle.graphql_streams.specs.Counts.{HasRisen, risen}
use Rattle.graphql_streams.specs.Lines.{kept_of, last_line, lines, whole_lines}
use Rattle.graphql_streams.specs.Runs.{Bytes}
use Rattle.graphql_streams.specs.Served.{Ends, Sent, ServedAll, ServesLines, Stops}
use Rattle.graphql_streams.specs.Waiting.{Made, MadePartly, WroteSome}
use Rattle.graphql_streams.specs.declared.serve_error.ServeError.{ServeError}
use Rattle.graphql_streams.specs.declared.serve_error.ServeError.TheVariants.{Read, Write, Memory}
use Rattle.graphql_streams.proofs.RunLemmas.{partly_more, run_more}

pub appends_more : (o m n : Option Bytes) (xs ys : Bytes) → Appends o m xs → Appends m n ys → Appends o n (xs ++ ys)
appends_more None m n xs ys a b = tt
appends_more (Some o) None n xs ys a b = absurd a
appends_more (Some o) (Some m) None xs ys a b = absurd b
appends_more (Some o) (Some m) (Some n) xs ys a b = b ∙ ap (λ z. z ++ ys) a ∙ append_assoc o xs ys

pub appends_nil : (o : Option Bytes) → Appends o o []
appends_nil None = tt
appends_nil (Some o) = sym (append-nil o)

pub consumes_nil : (o : Option Bytes) → Consumes o o []
consumes_nil None = tt
consumes_nil (Some o) = refl

consumes_more : (o m n : Option Bytes) (xs ys : Bytes) → Consumes o m xs → Consumes m n ys → Consumes o n (xs ++ ys)
consumes_more None m n xs ys a b = tt
consumes_more (Some o) None n xs ys a b = absurd a
consumes_more (Some o) (Some m) None xs ys a b = absurd b
consumes_more (Some o) (Some m) (Some n) xs ys a b = a ∙ ap (λ z. xs ++ z) b ∙ sym (append_assoc xs ys n)

consumes_none : (left mid rest : Option Bytes) (bs : Bytes) → Consumes left mid bs → Consumes mid rest [] → Consumes left rest bs
consumes_none left mid rest bs a b = let P : Bytes → Type 0 = λ z. Consumes left rest z in subst P (append-nil bs) (consumes_more left mid rest bs [] a b)

-- a reader that keeps its known bytes
pub consumes_kept : (left mid rest : Option Bytes) (bs : Bytes) → Consumes left mid bs → (mid ≡ rest) → Consumes left rest bs
consumes_kept left mid rest bs a e = subst (λ z. Consumes left z bs) e a

pub sent_none : (o : Option Bytes) (bytes : Bytes) → Sent o o bytes bytes
sent_none o bytes = record { taken = []; is = refl; writes = appends_nil o }

pub sent_more : (o m n : Option Bytes) (bytes rest : Bytes) (k : ℕ) → Sent o m bytes rest → Appends m n (take k rest) → Sent o n bytes (drop k rest)
sent_more o m n bytes rest k s a = record {
  taken = s.taken ++ take k rest;
  is = s.is ∙ ap (λ z. s.taken ++ z) (sym (take-append-drop k rest)) ∙ sym (append_assoc s.taken (take k rest) (drop k rest));
  writes = appends_more o m n s.taken (take k rest) s.writes a;
}

-- what was written of some bytes, behind others
sent-behind : (o w n : Option Bytes) (xs ys rest : Bytes) → Appends o w xs → Sent w n ys rest → Sent o n (xs ++ ys) rest
sent-behind o w n xs ys rest a s = record {
  taken = xs ++ s.taken;
  is = ap (λ z. xs ++ z) s.is ∙ sym (append_assoc xs s.taken rest);
  writes = appends_more o w n xs s.taken a s.writes;
}

-- what is written where a write may have failed
pub sent-if : {A E : Type 0} (r : Result A E) (o n : Option Bytes) (bytes : Bytes) (before after : ℕ)
    → OnOk r (Appends o n bytes × (after ≡ before))
    → OnErr r ((more : Bytes) × Sent o n bytes more × (after ≡ risen before))
    → (more : Bytes) × Sent o n bytes more × ((more ≡ []) ⊎ HasRisen before after)
sent-if (Ok x) o n bytes before after h k =
    ([], record { taken = bytes; is = sym (append-nil bytes); writes = h.0 }, inl refl)
sent-if (Err e) o n bytes before after h k = (k.0, k.1, inr k.2)

pub faults-if : {A E : Type 0} (r : Result A E) (o n : Option Bytes) (bytes : Bytes) (before after : ℕ)
    → OnOk r (Appends o n bytes × (after ≡ before))
    → OnErr r ((more : Bytes) × Sent o n bytes more × (after ≡ risen before))
    → (after ≡ before) ⊎ HasRisen before after
faults-if (Ok x) o n bytes before after h k = inl h.1
faults-if (Err e) o n bytes before after h k = inr k.2

pub whole_more : (begun xs ys : Bytes) → whole_lines begun (xs ++ ys) ≡ whole_lines begun xs ++ whole_lines (last_line begun xs) ys
whole_more begun [] ys = refl
whole_more begun (b ∷ xs) ys =
    elim (b == 10) as (λ k. cond k (begun ∷ whole_lines [] (xs ++ ys)) (whole_lines (begun ++ b ∷ []) (xs ++ ys)) ≡ cond k (begun ∷ whole_lines [] xs) (whole_lines (begun ++ b ∷ []) xs) ++ whole_lines (cond k (last_line [] xs) (last_line (begun ++ b ∷ []) xs)) ys)
    [ true ↦ ap (λ z. begun ∷ z) (whole_more [] xs ys) | false ↦ whole_more (begun ++ b ∷ []) xs ys ]

pub last_more : (begun xs ys : Bytes) → last_line begun (xs ++ ys) ≡ last_line (last_line begun xs) ys
last_more begun [] ys = refl
last_more begun (b ∷ xs) ys =
    elim (b == 10) as (λ k. cond k (last_line [] (xs ++ ys)) (last_line (begun ++ b ∷ []) (xs ++ ys)) ≡ last_line (cond k (last_line [] xs) (last_line (begun ++ b ∷ []) xs)) ys)
    [ true ↦ last_more [] xs ys | false ↦ last_more (begun ++ b ∷ []) xs ys ]

module _ {S : Type 0} (answers : S → Bytes → Bytes → S → Type 0) where
  serves_more : (s m t : S) (xs ys : List Bytes) (o w n : Option Bytes) → ServesLines answers s xs o w m → ServesLines answers m ys w n t → ServesLines answers s (xs ++ ys) o n t
  serves_more s m t xs ys o w n a b = record {
    text = a.text ++ b.text;
    run = run_more answers s m t xs ys a.text b.text a.run b.run;
    writes = appends_more o w n a.text b.text a.writes b.writes;
  }

  -- the answers that were made, where none waited, were written
  pub made-serves : (s t : S) (xs : List Bytes) (waiting bytes : Bytes) (o n : Option Bytes) → waiting ≡ [] → Made answers s xs waiting bytes t → Appends o n bytes → ServesLines answers s xs o n t
  made-serves s t xs waiting bytes o n none m w = record {
    text = m.text;
    run = m.run;
    writes = subst (Appends o n) (m.is ∙ ap (λ z. z ++ m.text) none) w;
  }

  -- so far, and what is kept of the line that has begun
  pub record Goes (limit : ℕ) (line : Bytes) (s : S) (left rest old new : Option Bytes) (t : S) : Type 0 where
    pub bytes : Bytes
    pub reads : Consumes left rest bytes
    pub serves : ServesLines answers s (whole_lines [] bytes) old new t
    pub kept : line ≡ kept_of limit (last_line [] bytes)

  pub goes-first : (limit : ℕ) (kept : Bytes) (s : S) (left old : Option Bytes) → kept ≡ kept_of limit [] → Goes limit kept s left left old old s
  goes-first limit kept s left old is = record {
    bytes = [];
    reads = consumes_nil left;
    serves = record { text = []; run = (refl, refl); writes = appends_nil old };
    kept = is;
  }

  module _ (limit : ℕ) (kept : Bytes) (s m : S) (left mid o w : Option Bytes) (g : Goes limit kept s left mid o w m) where
    abbrev begun : Bytes
    begun = last_line [] g.bytes

    pub goes-more : (then piece : Bytes) (t : S) (rest n : Option Bytes) → Consumes mid rest piece
        → ((begun : Bytes) → kept ≡ kept_of limit begun → ServesLines answers m (whole_lines begun piece) w n t)
        → ((begun : Bytes) → kept ≡ kept_of limit begun → then ≡ kept_of limit (last_line begun piece))
        → Goes limit then s left rest o n t
    goes-more then piece t rest n r f h = record {
      bytes = g.bytes ++ piece;
      reads = consumes_more left mid rest g.bytes piece g.reads r;
      serves = subst (λ ls. ServesLines answers s ls o n t) (sym (whole_more [] g.bytes piece)) (serves_more s m t (whole_lines [] g.bytes) (whole_lines begun piece) o w n g.serves (f begun g.kept));
      kept = h begun g.kept ∙ ap (kept_of limit) (sym (last_more [] g.bytes piece));
    }

    -- the end of the source
    goes-end : (t : S) (rest n : Option Bytes) → Consumes mid rest [] → IsAtEnd rest
        → ((begun : Bytes) → kept ≡ kept_of limit begun → ServesLines answers m (begun ∷ []) w n t) → ServedAll answers s left rest o n t
    goes-end t rest n r end f = record {
      bytes = g.bytes;
      reads = consumes_none left mid rest g.bytes g.reads r;
      ended = end;
      serves = serves_more s m t (whole_lines [] g.bytes) (begun ∷ []) o w n g.serves (f begun g.kept);
    }

    pub goes-end_if : {A E : Type 0} (result : Result A E) (t : S) (rest n : Option Bytes) → Consumes mid rest [] → IsAtEnd rest
        → ((begun : Bytes) → kept ≡ kept_of limit begun → OnOk result (ServesLines answers m (begun ∷ []) w n t))
        → OnOk result (ServedAll answers s left rest o n t)
    goes-end_if (Ok x) t rest n r end f = goes-end t rest n r end f
    goes-end_if (Err e) t rest n r end f = tt

  module _ (breaks : S → Bytes → S → Type 0) (failed : Type 0) where
    stops_more : (e : ServeError) (s m t : S) (xs ys : List Bytes) (o w n : Option Bytes) → ServesLines answers s xs o w m → Stops answers breaks failed e m ys w n t → Stops answers breaks failed e s (xs ++ ys) o n t
    stops_more Read s m t xs ys o w n a b = absurd b
    stops_more Write s m t xs ys o w n a b = record {
      done = xs ++ b.done;
      others = b.others;
      is = ap (λ z. xs ++ z) b.is ∙ sym (append_assoc xs b.done b.others);
      text = a.text ++ b.text;
      run = run_more answers s m t xs b.done a.text b.text a.run b.run;
      more = b.more;
      sent = sent-behind o w n a.text b.text b.more a.writes b.sent;
    }
    stops_more Memory s m t xs ys o w n a b = record {
      text = a.text ++ b.text;
      run = partly_more answers breaks s m t xs ys a.text b.text a.run b.run;
      more = b.more;
      sent = sent-behind o w n a.text b.text b.more a.writes b.sent;
      whole = b.whole;
    }

    module _ (s t : S) (xs : List Bytes) (waiting bytes : Bytes) (o n : Option Bytes) (none : waiting ≡ []) where
      -- what was made where none waited, and written in part
      made-stops : (made : Result (Unit {0}) AllocError) (e : ServeError) → OnOk made (Made answers s xs waiting bytes t) → OnErr made (MadePartly answers breaks s xs waiting bytes t)
          → WroteSome failed e made bytes o n → Stops answers breaks failed e s xs o n t
      made-stops made Read f h w = absurd w
      made-stops (Ok x) Write f h w = record {
        done = xs;
        others = [];
        is = sym (append-nil xs);
        text = f.text;
        run = f.run;
        more = w.0;
        sent = subst (λ z. Sent o n z w.0) (f.is ∙ ap (λ z. z ++ f.text) none) w.1;
      }
      made-stops (Err x) Write f h w = absurd w
      made-stops (Ok x) Memory f h w = absurd w
      made-stops (Err x) Memory f h w = record {
        text = h.text;
        run = h.run;
        more = w.0;
        sent = subst (λ z. Sent o n z w.0) (h.is ∙ ap (λ z. z ++ h.text) none) w.1;
        whole = w.2;
      }

      pub stops-if : (made : Result (Unit {0}) AllocError) (r : Result (Unit {0}) ServeError) → OnOk made (Made answers s xs waiting bytes t) → OnErr made (MadePartly answers breaks s xs waiting bytes t)
          → IfErr r (λ e. WroteSome failed e made bytes o n) → IfErr r (λ e. Stops answers breaks failed e s xs o n t)
      stops-if made (Ok x) f h w = tt
      stops-if made (Err e) f h w = made-stops made e f h w

      pub serves-if : (made : Result (Unit {0}) AllocError) (r : Result (Unit {0}) ServeError) → OnOk made (Made answers s xs waiting bytes t) → OnOk r ((made ≡ Ok tt) × Appends o n bytes)
          → OnOk r (ServesLines answers s xs o n t)
      serves-if (Ok y) (Ok x) f w = made-serves s t xs waiting bytes o n none f w.1
      serves-if (Err y) (Ok x) f w = absurd (let p : Err y ≡ Ok tt = w.0 in cc)
      serves-if made (Err e) f w = tt

    module _ (limit : ℕ) (kept : Bytes) (s m : S) (left mid o w : Option Bytes) (g : Goes limit kept s left mid o w m) where
      pub goes-stops : (e : ServeError) (piece : Bytes) (t : S) (rest n : Option Bytes) → Consumes mid rest piece
          → ((begun : Bytes) → kept ≡ kept_of limit begun → Stops answers breaks failed e m (whole_lines begun piece) w n t) → Ends answers breaks failed e s left rest o n t
      goes-stops Read piece t rest n r f = absurd (f (last_line [] g.bytes) g.kept)
      goes-stops Write piece t rest n r f =
          let xs = whole_lines [] g.bytes in
          let ys = whole_lines (last_line [] g.bytes) piece in
          record {
            bytes = g.bytes ++ piece;
            reads = consumes_more left mid rest g.bytes piece g.reads r;
            stops =
                inl (subst (λ ls. Stops answers breaks failed Write s ls o n t) (sym (whole_more [] g.bytes piece))
                (stops_more Write s m t xs ys o w n g.serves (f (last_line [] g.bytes) g.kept)));
          }
      goes-stops Memory piece t rest n r f =
          let xs = whole_lines [] g.bytes in
          let ys = whole_lines (last_line [] g.bytes) piece in
          record {
            bytes = g.bytes ++ piece;
            reads = consumes_more left mid rest g.bytes piece g.reads r;
            stops =
                inl (subst (λ ls. Stops answers breaks failed Memory s ls o n t) (sym (whole_more [] g.bytes piece))
                (stops_more Memory s m t xs ys o w n g.serves (f (last_line [] g.bytes) g.kept)));
          }

      end-stops : (e : ServeError) (t : S) (rest n : Option Bytes) → Consumes mid rest [] → IsAtEnd rest
          → ((begun : Bytes) → kept ≡ kept_of limit begun → Stops answers breaks failed e m (begun ∷ []) w n t) → Ends answers breaks failed e s left rest o n t
      end-stops Read t rest n r end f = absurd (f (last_line [] g.bytes) g.kept)
      end-stops Write t rest n r end f = record {
        bytes = g.bytes;
        reads = consumes_none left mid rest g.bytes g.reads r;
        stops =
            inr ((
              end,
              stops_more Write s m t (whole_lines [] g.bytes) (last_line [] g.bytes ∷ []) o w n g.serves
                  (f (last_line [] g.bytes) g.kept),
            ));
      }
      end-stops Memory t rest n r end f = record {
        bytes = g.bytes;
        reads = consumes_none left mid rest g.bytes g.reads r;
        stops =
            inr ((
              end,
              stops_more Memory s m t (whole_lines [] g.bytes) (last_line [] g.bytes ∷ []) o w n g.serves
                  (f (last_line [] g.bytes) g.kept),
            ));
      }

      pub end-stops_if : {A : Type 0} (result : Result A ServeError) (t : S) (rest n : Option Bytes) → Consumes mid rest [] → IsAtEnd rest
          → ((begun : Bytes) → kept ≡ kept_of limit begun → IfErr result (λ e. Stops answers breaks failed e m (begun ∷ []) w n t))
          → IfErr result (λ e. Ends answers breaks failed e s left rest o n t)
      end-stops_if (Ok x) t rest n r end f = tt
      end-stops_if (Err e) t rest n r end f = end-stops e t rest n r end f
