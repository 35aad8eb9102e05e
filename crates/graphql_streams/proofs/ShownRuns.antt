-- A run over states is one over what they show, where each step is.
use Rattle.std.proofs.Common.{sym, ap, subst, inl, inr, List, [], ◌∷◌, Option, Result, Ok, Err}
use Rattle.std.specs.Prelude.{IfErr, OnOk}
use Rattle.graphql_streams.specs.Runs.{LineAnswered, Broken, Bytes, Run, RunPartly}
use Rattle.graphql_streams.specs.Served.{Ends, ServedAll, ServesLines, Stopped, Stops}
use Rattle.graphql_streams.specs.declared.serve_error.ServeError.{ServeError}
use Rattle.graphql_streams.specs.declared.serve_error.ServeError.TheVariants.{Read, Write, Memory}

-- `Stays`: what else holds of each state of the run
module _ {S X : Type 0} (shown : S → X) (Stays : S → Type 0)
    (answers : S → Bytes → Bytes → S → Type 0) (shown_answers : X → Bytes → Bytes → X → Type 0)
    (by_answer : (s : S) (line text : Bytes) (t : S) → Stays s → answers s line text t
    → shown_answers (shown s) line text (shown t) × Stays t) where
  answered-shown : (s t : S) (line text : Bytes) → Stays s → LineAnswered answers s line text t
      → LineAnswered shown_answers (shown s) line text (shown t) × Stays t
  answered-shown s t [] text stays (none, same) = ((none, ap shown same), subst Stays (sym same) stays)
  answered-shown s t (b ∷ bs) text stays h = by_answer s (b ∷ bs) text t stays h

  run-shown : (s t : S) (ls : List Bytes) (text : Bytes) → Stays s → Run answers s ls text t
      → Run shown_answers (shown s) ls text (shown t) × Stays t
  run-shown s t [] text stays (none, same) = ((none, ap shown same), subst Stays (sym same) stays)
  run-shown s t (line ∷ ls) text stays (m, first, others, h, is, rest) =
      let now = answered-shown s m line first stays h in
      let later = run-shown m t ls others now.1 rest in
      ((shown m, first, others, now.0, is, later.0), later.1)

  serves-shown : (s t : S) (ls : List Bytes) (old new : Option Bytes) → Stays s → ServesLines answers s ls old new t
      → ServesLines shown_answers (shown s) ls old new (shown t) × Stays t
  serves-shown s t ls old new stays h =
      let r = run-shown s t ls h.text stays h.run in
      (record { text = h.text; run = r.0; writes = h.writes }, r.1)

  all-shown : (s t : S) (left rest old new : Option Bytes) → Stays s → ServedAll answers s left rest old new t
      → ServedAll shown_answers (shown s) left rest old new (shown t) × Stays t
  all-shown s t left rest old new stays h =
      let r = serves-shown s t _ old new stays h.serves in
      (record { bytes = h.bytes; reads = h.reads; ended = h.ended; serves = r.0 }, r.1)

  pub all-shown_if : {A : Type 0} (result : Result A ServeError) (s t : S) (left rest old new : Option Bytes) → Stays s
      → OnOk result (ServedAll answers s left rest old new t)
      → OnOk result (ServedAll shown_answers (shown s) left rest old new (shown t))
  all-shown_if (Ok x) s t left rest old new stays h = (all-shown s t left rest old new stays h).0
  all-shown_if (Err e) s t left rest old new stays h = tt

  module _ (breaks : S → Bytes → S → Type 0) (shown_breaks : X → Bytes → X → Type 0)
      (by_break : (s : S) (line : Bytes) (t : S) → Stays s → breaks s line t → shown_breaks (shown s) line (shown t) × Stays t)
      (failed : Type 0) where
    broken-shown : (s t : S) (ls : List Bytes) → Stays s → Broken answers breaks s ls t
        → Broken shown_answers shown_breaks (shown s) ls (shown t) × Stays t
    broken-shown s t [] stays same = (ap shown same, subst Stays (sym same) stays)
    broken-shown s t (line ∷ ls) stays (inl same) = (inl (ap shown same), subst Stays (sym same) stays)
    broken-shown s t (line ∷ ls) stays (inr h) = let b = by_break s line t stays h in (inr b.0, b.1)

    partly-shown : (s t : S) (ls : List Bytes) (text : Bytes) → Stays s → RunPartly answers breaks s ls text t
        → RunPartly shown_answers shown_breaks (shown s) ls text (shown t) × Stays t
    partly-shown s t ls text stays h =
        let r = run-shown s h.between h.done text stays h.run in
        let b = broken-shown h.between t h.others r.1 h.broken in
        (record { done = h.done; others = h.others; is = h.is; between = shown h.between; run = r.0; broken = b.0 }, b.1)

    stops-shown : (e : ServeError) (s t : S) (ls : List Bytes) (old new : Option Bytes) → Stays s
        → Stops answers breaks failed e s ls old new t → Stops shown_answers shown_breaks failed e (shown s) ls old new (shown t) × Stays t
    stops-shown Read s t ls old new stays h = absurd h
    stops-shown Write s t ls old new stays h =
        let r = run-shown s t h.done h.text stays h.run in
        (record { done = h.done; others = h.others; is = h.is; text = h.text; run = r.0; more = h.more; sent = h.sent }, r.1)
    stops-shown Memory s t ls old new stays h =
        let r = partly-shown s t ls h.text stays h.run in
        (record { text = h.text; run = r.0; more = h.more; sent = h.sent; whole = h.whole }, r.1)

    stopped-shown : (e : ServeError) (s t : S) (left rest old new : Option Bytes) → Stays s
        → Stopped answers breaks failed e s left rest old new t
        → Stopped shown_answers shown_breaks failed e (shown s) left rest old new (shown t) × Stays t
    stopped-shown e s t left rest old new stays h = elim h.stops [
      | inl k ↦ (
          let r = stops-shown e s t _ old new stays k in
          (record { bytes = h.bytes; reads = h.reads; stops = inl r.0 }, r.1)
          )
      | inr k ↦ (
          let r = stops-shown e s t _ old new stays k.1 in
          (record { bytes = h.bytes; reads = h.reads; stops = inr ((k.0, r.0)) }, r.1)
          )
    ]

    ends-shown : (e : ServeError) (s t : S) (left rest old new : Option Bytes) → Stays s
        → Ends answers breaks failed e s left rest old new t
        → Ends shown_answers shown_breaks failed e (shown s) left rest old new (shown t) × Stays t
    ends-shown Read s t left rest old new stays h =
        let r = serves-shown s t _ old new stays h.serves in
        (record { bytes = h.bytes; reads = h.reads; serves = r.0 }, r.1)
    ends-shown Write s t left rest old new stays h =
        stopped-shown Write s t left rest old new stays h
    ends-shown Memory s t left rest old new stays h =
        stopped-shown Memory s t left rest old new stays h

    pub ends-shown_if : {A : Type 0} (result : Result A ServeError) (s t : S) (left rest old new : Option Bytes) → Stays s
        → IfErr result (λ e. Ends answers breaks failed e s left rest old new t)
        → IfErr result (λ e. Ends shown_answers shown_breaks failed e (shown s) left rest old new (shown t))
    ends-shown_if (Ok x) s t left rest old new stays h = tt
    ends-shown_if (Err e) s t left rest old new stays h = (ends-shown e s t left rest old new stays h).0

    pub stays_if : {A : Type 0} (result : Result A ServeError) (s t : S) (left rest old new : Option Bytes) → Stays s
        → OnOk result (ServedAll answers s left rest old new t)
        → IfErr result (λ e. Ends answers breaks failed e s left rest old new t) → Stays t
    stays_if (Ok x) s t left rest old new stays h k = (all-shown s t left rest old new stays h).1
    stays_if (Err e) s t left rest old new stays h k = (ends-shown e s t left rest old new stays k).1
