-- What is ahead, once tasks were put on top.
use Rattle.std.proofs.Common.{◌≡◌, ℕ, ◌<◌, ◌+◌, ◌⊎◌, inl, inr, List, [], ◌∷◌, ◌++◌, length, Result, OnOk, refl, sym, ap, subst, ◌∙◌, append-nil, append_assoc, arith}
use Rattle.std.proofs.lemmas.Result.{on_ok_weaker}
use Rattle.std.specs.List.{flat_map}
use Rattle.graphql_schema.specs.Declarations.{Declarations}
use Rattle.graphql_occurrences.specs.Nodes.{Around, Seen, Node, Enter, Leave}
use Rattle.graphql_occurrences.specs.Events.{Within, seen_event, through}
use Rattle.graphql_occurrences.specs.Lent.{around_of, node_of}
use Rattle.graphql_document_walk.specs.Pending.{PutsFirst, EventOnTop, OpensEvents, OpensAny, part_after, part_events, parts_after, parts_on_top, pending_events, task_events, side_event}
use Rattle.graphql_document_walk.specs.declared.walk.tasks.Task.{Task}
use Rattle.graphql_document_walk.specs.declared.walk.tasks.Work.TheVariants as work

module _ {S C : Type 0} (schema : Declarations S C) where
  pub pending_push : (ts : List (Task S C)) (t : Task S C) → pending_events schema (ts ++ t ∷ []) ≡ task_events schema t ++ pending_events schema ts
  pending_push [] t = sym (append-nil (task_events schema t))
  pending_push (u ∷ ts) t = ap (λ es. es ++ task_events schema u) (pending_push ts t) ∙ append_assoc (task_events schema t) (pending_events schema ts) (task_events schema u)

  pub pending_with : (ts new : List (Task S C)) (t : Task S C) → new ≡ ts ++ t ∷ [] → pending_events schema new ≡ task_events schema t ++ pending_events schema ts
  pending_with ts new t is = ap (pending_events schema) is ∙ pending_push ts t

  -- an event is on top, so these events are opened, whether or not there are any
  pub opens_any : {A E : Type 0} (r : Result A E) (es : List (Seen S C)) (old new : List (Task S C)) → OnOk r (OpensEvents schema es old new) → OnOk r (OpensAny schema es old new)
  opens_any r es old new = on_ok_weaker r (λ opened. (opened.0, inl opened.1))

module _ {S C : Type 0} where
  parts_push : (n : ℕ) (ts : List (Task S C)) (t : Task S C) → parts_after n (ts ++ t ∷ []) ≡ part_after (parts_after n ts) t.work
  parts_push n [] t = refl
  parts_push n (u ∷ ts) t = parts_push (part_after n u.work) ts t

  pub parts_with : (ts new : List (Task S C)) (t : Task S C) → new ≡ ts ++ t ∷ [] → parts_on_top new ≡ part_after (parts_on_top ts) t.work
  parts_with ts new t is = ap parts_on_top is ∙ parts_push 0 ts t

  -- a part is taken from the top and opened: fewer parts stand there
  pub fewer_parts : (ts popped new : List (Task S C)) → parts_on_top ts ≡ parts_on_top popped + 1 → EventOnTop new ⊎ (new ≡ popped) → parts_on_top new < parts_on_top ts
  fewer_parts ts popped new is (inl told) = omega (arith, is, told)
  fewer_parts ts popped new is (inr same) = omega (arith, is, ap parts_on_top same)

module _ {X : Type 0} where
  -- two are added, one after the other
  pub adds_then : (a b p1 p2 p3 : List X) → p2 ≡ b ++ p1 → p3 ≡ a ++ p2 → p3 ≡ (a ++ b) ++ p1
  adds_then a b p1 p2 p3 e2 e3 = e3 ∙ ap (λ es. a ++ es) e2 ∙ sym (append_assoc a b p1)

  -- the first of a list is added, on top of the rest
  pub adds_first : {A : Type 0} (f : A → List X) (xs rest : List A) (x : A) (p0 p1 p2 : List X) → xs ≡ x ∷ rest → p1 ≡ flat_map f rest ++ p0 → p2 ≡ f x ++ p1 → p2 ≡ flat_map f xs ++ p0
  adds_first f xs rest x p0 p1 p2 is e1 e2 =
      adds_then (f x) (flat_map f rest) p0 p1 p2 e1 e2 ∙ ap (λ ys. flat_map f ys ++ p0) (sym is)

module _ {S C : Type 0} where
  -- a node's end is added, then what is within it, then its start
  pub adds_node : (node : Node S) (inner : Within S C) (r s : Around S C) (p0 p1 p2 p3 : List (Seen S C)) →
      r ≡ s → p1 ≡ (seen_event r (Leave node) ∷ []) ++ p0 → p2 ≡ inner r ++ p1 → p3 ≡ (seen_event r (Enter node) ∷ []) ++ p2 → p3 ≡ through node (inner s) s ++ p0
  adds_node node inner r s p0 p1 p2 p3 same e1 e2 e3 =
      e3
      ∙ ap (λ es. seen_event r (Enter node) ∷ es) (e2 ∙ ap (λ es. inner r ++ es) e1 ∙ sym (append_assoc (inner r) (seen_event r (Leave node) ∷ []) p0))
      ∙ ap (λ t. through node (inner t) t ++ p0) same

module _ {S C A E : Type 0} (schema : Declarations S C) (result : Result A E) where
  -- the same, in the words of the tasks
  pub opens_node : (node : Node S) (inner : Within S C) (r s : Around S C) (old within new : List (Task S C)) (p1 : List (Seen S C)) →
      r ≡ s → p1 ≡ (seen_event r (Leave node) ∷ []) ++ pending_events schema old → pending_events schema within ≡ inner r ++ p1 → OnOk result (OpensEvents schema (seen_event r (Enter node) ∷ []) within new) →
      OnOk result (OpensEvents schema (through node (inner s) s) old new)
  opens_node node inner r s old within new p1 same left filled =
      let opens : OpensEvents schema (seen_event r (Enter node) ∷ []) within new → OpensEvents schema (through node (inner s) s) old new =
      λ entered. (adds_node node inner r s (pending_events schema old) p1 (pending_events schema within) (pending_events schema new) same left filled entered.0, entered.1) in
      on_ok_weaker result opens

  pub opens_first : {B : Type 0} (f : B → List (Seen S C)) (xs rest : List B) (x : B) (old below new : List (Task S C)) → xs ≡ x ∷ rest → PutsFirst schema (flat_map f rest) old below → OnOk result (OpensEvents schema (f x) below new) → OnOk result (OpensAny schema (flat_map f xs) old new)
  opens_first f xs rest x old below new is added =
      let opens : OpensEvents schema (f x) below new → OpensAny schema (flat_map f xs) old new =
      λ opened. (adds_first f xs rest x (pending_events schema old) (pending_events schema below) (pending_events schema new) is added opened.0, inl opened.1) in
      on_ok_weaker result opens

module _ {S C : Type 0} (schema : Declarations S C) where
  -- there is none of these events
  pub opens_none : {B : Type 0} (f : B → List (Seen S C)) (xs : List B) (ts : List (Task S C)) → length xs ≡ 0 → OpensAny schema (flat_map f xs) ts ts
  opens_none f [] ts empty = (refl, inr refl)
  opens_none f (x ∷ xs) ts empty = absurd (omega (arith, empty))
