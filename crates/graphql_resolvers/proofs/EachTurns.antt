-- One turn of a loop that answers each of some items: what was answered, and then what is left, is what the whole is answered.
use Rattle.std.proofs.Common.{◌≡◌, ℕ, ◌+◌, ◌<◌, ◌≤◌, subst, List, [], ◌∷◌, ◌++◌, drop, length, get_or, Result, Ok, Err, refl, sym, ap, ◌∙◌, append_assoc}
use Rattle.std.specs.Result.{IsErrAnd}
use Rattle.std.proofs.lemmas.List.{append-nil, at_drop_more, drop_all}
use Rattle.graphql_scalars.specs.declared.default_scalar.DefaultScalarValue.{DefaultScalarValue}
use Rattle.graphql_field_results.specs.declared.resolved.Resolved.{Resolved}
use Rattle.graphql_resolvers.specs.declared.failure.Failure.{Failure}
use Rattle.graphql_resolvers.specs.declared.failure.Failure.TheVariants as failure
use Rattle.graphql_resolvers.specs.Refusals.{Refusal}
use Rattle.graphql_resolvers.specs.declared.answer.Reply.{Reply}
use Rattle.graphql_resolvers.specs.Answers.{Answer, Answers, answers, list_answer, in_front}

module _ {N : Type 0} where
  -- what was answered before the rest
  abbrev pub from : List (Resolved DefaultScalarValue N) → Result (List (Resolved DefaultScalarValue N)) Refusal → Result (List (Resolved DefaultScalarValue N)) Refusal
  from found (Ok xs) = Ok (found ++ xs)
  from found (Err reason) = Err reason

  pub from_start : (whole : Result (List (Resolved DefaultScalarValue N)) Refusal) → whole ≡ from [] whole
  from_start (Ok xs) = refl
  from_start (Err reason) = refl

  behind : (found : List (Resolved DefaultScalarValue N)) (x : Reply N) (rest : Result (List (Resolved DefaultScalarValue N)) Refusal) → from found (in_front (Ok x) rest) ≡ from (found ++ x.resolved ∷ []) rest
  behind found x (Ok ys) = ap Ok (sym (append_assoc found (x.resolved ∷ []) ys))
  behind found x (Err reason) = refl

  -- the first error is the whole's
  error_is : (wanted : Answer N) (f : Failure) (found : List (Resolved DefaultScalarValue N)) (rest : Result (List (Resolved DefaultScalarValue N)) Refusal)
      → Answers wanted (Err f) → Answers (list_answer (from found (in_front wanted rest))) (Err f)
  error_is wanted failure.Memory found rest h = tt
  error_is (Ok x) (failure.Error e) found rest h = absurd h
  error_is (Err r) (failure.Error e) found rest h = h

  with_fault : (wanted : Answer N) (result : Result (Reply N) Failure) (f : Failure)
      → IsErrAnd result (λ g. g ≡ f) → Answers wanted (Err f) → Answers wanted result
  with_fault wanted (Ok x) f is h = absurd is
  with_fault wanted (Err g) f is h = subst (λ (g : Failure). Answers wanted (Err g)) (sym is) h

  module _ {A : Type 0} (wanted : A → Answer N) (items : List A) (i : ℕ) (this : A) (found : List (Resolved DefaultScalarValue N))
      (inside : i < length items) (here : get_or items i this ≡ this)
      (so_far : answers wanted items ≡ from found (answers wanted (drop i items))) where
    opened : answers wanted items ≡ from found (in_front (wanted this) (answers wanted (drop (i + 1) items)))
    unfolding answers
    opened =
        let left : List A → Result (List (Resolved DefaultScalarValue N)) Refusal = λ xs. from found (answers wanted xs) in
        so_far ∙ at_drop_more left items i this inside ∙ ap (λ x. left (x ∷ drop (i + 1) items)) here

    pub each_turn : (x : Reply N) (new : List (Resolved DefaultScalarValue N)) → Answers (wanted this) (Ok x) → new ≡ found ++ x.resolved ∷ []
        → answers wanted items ≡ from new (answers wanted (drop (i + 1) items))
    each_turn x new means pushed =
        opened ∙ ap (λ w. from found (in_front w (answers wanted (drop (i + 1) items)))) means
        ∙ behind found x (answers wanted (drop (i + 1) items)) ∙ ap (λ xs. from xs (answers wanted (drop (i + 1) items))) (sym pushed)

    pub each_stops : (f : Failure) (result : Result (Reply N) Failure)
        → Answers (wanted this) (Err f) → IsErrAnd result (λ g. g ≡ f) → Answers (list_answer (answers wanted items)) result
    each_stops f result means is =
        with_fault (list_answer (answers wanted items)) result f is
        (subst (λ w. Answers (list_answer w) (Err f)) (sym opened) (error_is (wanted this) f found (answers wanted (drop (i + 1) items)) means))

  -- all were answered
  pub each_whole : {A : Type 0} (wanted : A → Answer N) (items : List A) (i : ℕ) (found : List (Resolved DefaultScalarValue N)) → length items ≤ i
      → answers wanted items ≡ from found (answers wanted (drop i items)) → answers wanted items ≡ Ok found
  unfolding answers
  each_whole wanted items i found whole so_far = so_far ∙ ap (λ xs. from found (answers wanted xs)) (drop_all i items whole) ∙ ap Ok (append-nil found)
