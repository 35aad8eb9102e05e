-- What is ahead, once tasks were put on top.
use Rattle.std.proofs.Common.{◌≡◌, List, [], ◌∷◌, ◌++◌, length, true, false, sym, ap, ◌∙◌, append-nil, append_assoc}
use Rattle.std.specs.Prelude.{◌==◌}
use Rattle.std.specs.List.{flat_map}
use Rattle.graphql_output_values.specs.Objects.{Pair}
use Rattle.graphql_output_values.specs.Steps.{Step, Gap, Key, ListCloses, ObjectCloses, field_steps, fields_steps, items_steps, steps}
use Rattle.graphql_output_values.specs.Pending.{pending, task_steps}
use Rattle.graphql_output_values.specs.declared.value.Value.{Value}
use Rattle.graphql_output_values.specs.declared.walk.Task.{Task}

module _ {S : Type 0} where
  pub pending_push : (ts : List (Task S)) (t : Task S) → pending (ts ++ t ∷ []) ≡ task_steps t ++ pending ts
  pending_push [] t = sym (append-nil (task_steps t))
  pending_push (u ∷ ts) t = ap (λ es. es ++ task_steps u) (pending_push ts t) ∙ append_assoc (task_steps t) (pending ts) (task_steps u)

  pub pushed : (ts new : List (Task S)) (t : Task S) → new ≡ ts ++ t ∷ [] → pending new ≡ task_steps t ++ pending ts
  pushed ts new t is = ap pending is ∙ pending_push ts t

  -- the first step is told, and a task stands for the others
  pub opened : (these : List (Step S)) (first : Step S) (ts new : List (Task S)) (t : Task S) → these ≡ first ∷ task_steps t → new ≡ ts ++ t ∷ [] → these ++ pending ts ≡ first ∷ pending new
  opened these first ts new t are is = ap (λ es. es ++ pending ts) are ∙ ap (λ es. first ∷ es) (sym (pushed ts new t is))

  -- the steps of parts, each behind a gap, and the end
  abbrev pub behind : {X : Type 0} → (X → List (Step S)) → List X → Step S → List (Step S)
  behind f xs end = flat_map (λ x. (Gap ∷ []) ++ f x) xs ++ end ∷ []

  pub first_item : (items others : List (Value S)) (x : Value S) (ts new : List (Task S)) (t : Task S) → items ≡ x ∷ others → task_steps t ≡ behind steps others ListCloses → new ≡ ts ++ t ∷ [] → steps x ++ pending new ≡ items_steps items ++ pending ts
  first_item items others x ts new t are rest is =
      let after = flat_map (λ y. (Gap ∷ []) ++ steps y) others in
      ap (λ es. steps x ++ es) (pushed ts new t is ∙ ap (λ es. es ++ pending ts) rest)
      ∙ sym (append_assoc (steps x) (after ++ ListCloses ∷ []) (pending ts))
      ∙ ap (λ es. es ++ pending ts) (sym (append_assoc (steps x) after (ListCloses ∷ [])))
      ∙ ap (λ ys. items_steps ys ++ pending ts) (sym are)

  pub first_field :
      (fields others : List (Pair (Value S))) (field : Pair (Value S)) (ts middle new : List (Task S)) (t u : Task S) → fields ≡ field ∷ others → task_steps t ≡ behind (field_steps steps) others ObjectCloses → middle ≡ ts ++ t ∷ [] → task_steps u ≡ steps field.1
      → new ≡ middle ++ u ∷ [] → fields_steps fields ++ pending ts ≡ Key field.0 ∷ pending new
  first_field fields others field ts middle new t u are rest is_middle value is =
      let after = flat_map (λ y. (Gap ∷ []) ++ field_steps steps y) others in
      ap (λ ys. fields_steps ys ++ pending ts) are
      ∙ ap (λ es. es ++ pending ts) (append_assoc (field_steps steps field) after (ObjectCloses ∷ []))
      ∙ append_assoc (field_steps steps field) (after ++ ObjectCloses ∷ []) (pending ts)
      ∙ ap (λ es. field_steps steps field ++ es) (sym (pushed ts middle t is_middle ∙ ap (λ es. es ++ pending ts) rest))
      ∙ ap (λ es. Key field.0 ∷ (es ++ pending middle)) (sym value)
      ∙ ap (λ es. Key field.0 ∷ es) (sym (pushed middle new u is))

module _ {S X : Type 0} (f : X → List (Step S)) where
  -- the first gap is told
  pub gap_first : (end : Step S) (xs : List X) (joined : List X → List (Step S)) → ((x : X) (rest : List X) → joined (x ∷ rest) ≡ (f x ++ flat_map (λ y. (Gap ∷ []) ++ f y) rest) ++ end ∷ []) → false ≡ (length xs == 0) → behind f xs end ≡ Gap ∷ joined xs
  gap_first end [] joined is some = let wrong : false ≡ true = some in cc
  gap_first end (x ∷ rest) joined is some = ap (λ es. Gap ∷ es) (sym (is x rest))
