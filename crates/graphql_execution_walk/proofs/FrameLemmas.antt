-- Laws of frames.
use Rattle.std.proofs.Common.{◌≡◌, refl, sym, ◌∙◌, ap, subst, ℕ, zero, suc, ◌+◌, arith, Bool, true, false, List, [], ◌∷◌, ◌++◌, map, drop, reverse, append-nil, append_assoc, Option, Some, None, option_map, slice_get, cond, Result, inl, inr}
use Rattle.std.specs.Prelude.{◌⊎◌, IfSome}
use Rattle.std.specs.List.{IsDistinct}
use Rattle.std.specs.Map.{keys_of}
use Rattle.std.specs.Str.{bytes_eq}
use Rattle.std.proofs.lemmas.List.{reverse-append, map-append}
use Rattle.graphql_tree.specs.declared.document.Fragment.{Fragment}
use Rattle.graphql_output_values.specs.declared.value.Value.{Value}
use Rattle.graphql_output_values.specs.declared.value.Value.TheVariants as value
use Rattle.graphql_names.specs.declared.type_modifier.TypeModifier.{TypeModifier}
use Rattle.graphql_schema.specs.Types.{TypeOf}
use Rattle.graphql_collected.specs.declared.collected_field.CollectedField.{CollectedField}
use Rattle.graphql_written_out.specs.Written.{head_of}
use Rattle.graphql_field_results.specs.declared.field_error.FieldError.{FieldError}
use Rattle.graphql_written_out.specs.Fields.{Found}
use Rattle.graphql_semantics.proofs.GroupKeys.{distinct-groups}
use Rattle.graphql_semantics.proofs.RunRepeats.{evaluate-groups}
use Rattle.graphql_execution_walk.proofs.GroupLemmas.{nothing_first, group-is}
use Rattle.graphql_collect.specs.Grouped.{Group, Lent, all_found, group_found}
use Rattle.graphql_written_out.specs.Groups.{groups}
use Rattle.graphql_names.specs.Names.{Bytes}
use Rattle.graphql_written_out.specs.Trees.{Head, Tree}
use Rattle.graphql_execution_walk.specs.declared.frames.Frame.TheVariants as frame
use Rattle.graphql_execution_walk.specs.Evaluations.{Evaluation}
use Rattle.graphql_execution_walk.specs.Frames.{FrameIn, ObjectFrameIn, ListFrameIn}
use Rattle.graphql_execution_walk.specs.KnownTypes.{AreKnown, IsKnown, IsTaught, KnownIn, known_at}
use Rattle.graphql_execution_walk.specs.Sets.{kept_sets}
use Rattle.std.proofs.lemmas.Slice.Eq.{bytes_eq-Decides}
use Rattle.graphql_field_results.specs.declared.execution_error.ExecutionError.{ExecutionError}
use Rattle.graphql_execution_walk.specs.declared.report.Report.{Report}
use Rattle.graphql_field_results.specs.declared.resolved.Resolved.{Resolved}
use Rattle.graphql_semantics.specs.Engines.{Engine}
use Rattle.graphql_semantics.specs.Completion.{Members, blame_at, complete_result, is_required, object_members}
use Rattle.graphql_semantics.specs.Evaluation.{evaluate, found_in, group, keyed, sets_below}
use Rattle.graphql_written_out.specs.Repeats.{Repeats}
use Rattle.graphql_execution_walk.specs.Completed.{completed}
use Rattle.graphql_execution_walk.specs.Frames.{after, shows, more, groups_left, item_at, rest, close_group, close, down_group, down, resume, path_of, TellsFirst, TakesTurn, Fine, AllFine}
use Rattle.graphql_execution_walk.specs.GivesOutcome.{GivesOutcome}
use Rattle.graphql_semantics.specs.Outcomes.{Outcome, no_value, gives, both, together, outcome_map, show_place, shown}
use Rattle.graphql_execution_walk.specs.Paths.{up}
use Rattle.graphql_execution_walk.proofs.OutcomeLemmas.{last, up-last}

joined : {A : Type 0} (a : Option (List A)) (v : Option A) (b : Option (List A)) → both (λ xs ys. xs ++ ys) a (both (λ x xs. x ∷ xs) v b) ≡ both (λ xs ys. xs ++ ys) (last a v) b
joined None v b = refl
joined (Some xs) None b = refl
joined (Some xs) (Some x) None = refl
joined (Some xs) (Some x) (Some ys) = ap Some (sym (append_assoc xs (x ∷ []) ys))

ended : {A : Type 0} (a : Option (List A)) → both (λ xs ys. xs ++ ys) a (Some []) ≡ a
ended None = refl
ended (Some xs) = ap Some (append-nil xs)

begun : {A : Type 0} (a : Option (List A)) → both (λ xs ys. xs ++ ys) (Some []) a ≡ a
begun None = refl
begun (Some xs) = refl

module _ {S : Type 0} where
  after-after : {A : Type 0} (xs ys : List (ExecutionError S)) (o : Outcome S A) → after xs (after ys o) ≡ after (xs ++ ys) o
  after-after xs ys o = λ i. record { value = o.value; failures = sym (append_assoc xs ys o.failures) i }

  module _ {A : Type 0} (wrap : List A → Value S) where
    pub more-after : (a : Option (List A)) (told : List (ExecutionError S)) (o : Outcome S A) (os : List (Outcome S A)) → more wrap a (after told o ∷ os) ≡ after told (more wrap a (o ∷ os))
    more-after a told o os = λ i. record { value = (more wrap a (o ∷ os)).value; failures = append_assoc told o.failures (together os).failures i }

    pub more-first : (a : Option (List A)) (v : Option A) (os : List (Outcome S A)) → more wrap a (shows v ∷ os) ≡ more wrap (last a v) os
    more-first a v os = λ i. record { value = option_map wrap (joined a v (together os).value i); failures = (together os).failures }

    pub more-begins : (o : Outcome S (List A)) (os : List (Outcome S A)) → o ≡ together os → outcome_map wrap o ≡ more wrap (Some []) os
    more-begins o os p = ap (outcome_map wrap) p ∙ (λ i. record { value = option_map wrap (sym (begun (together os).value) i); failures = (together os).failures })

    pub more-none : (a : Option (List A)) → more wrap a [] ≡ shows (option_map wrap a)
    more-none a = λ i. record { value = option_map wrap (ended a i); failures = [] }

pub drop-next : {A : Type 0} (xs : List A) (i : ℕ) (x : A) → slice_get xs i ≡ Some x → drop i xs ≡ x ∷ drop (i + 1) xs
drop-next [] i x p = (let q : None ≡ Some x = p in cc)
drop-next (y ∷ ys) zero x p = (let q : Some y ≡ Some x = p in cc)
drop-next (y ∷ ys) (suc i) x p = (let more : suc (i + 1) ≡ suc i + 1 = omega arith in drop-next ys i x p ∙ ap (λ n. x ∷ drop n (y ∷ ys)) more)

pub drop-end : {A : Type 0} (xs : List A) (i : ℕ) → slice_get xs i ≡ None → drop i xs ≡ []
drop-end [] zero p = refl
drop-end [] (suc i) p = refl
drop-end (y ∷ ys) zero p = (let q : Some y ≡ None = p in cc)
drop-end (y ∷ ys) (suc i) p = drop-end ys i p

module _ {S A : Type 0} where
  pub leads-now : (o : Outcome S A) (old : Report S) → TellsFirst o old o old
  leads-now o old = record { told = []; is = refl; errors = sym (append-nil old.errors) }

  pub leads-value : (o : Outcome S A) (v : Option A) (old new : Report S) → GivesOutcome o old v new → TellsFirst o old (shows v) new
  leads-value o v old new g = record { told = o.failures; is = λ i. record { value = sym g.is i; failures = sym (append-nil o.failures) i }; errors = g.errors }

  -- at the end
  pub leads-end : (o : Outcome S A) (v : Option A) (old new : Report S) → new.path ≡ old.path → TellsFirst o old (shows v) new → GivesOutcome o old v new
  leads-end o v old new p l = record {
    is = sym (ap (λ (q : Outcome S A). q.value) l.is);
    path = p;
    errors = l.errors ∙ ap (λ es. old.errors ++ es) (sym (ap (λ (q : Outcome S A). q.failures) l.is ∙ append-nil l.told));
  }

  pub leads-then : (o p q : Outcome S A) (old mid new : Report S) → TellsFirst o old p mid → TellsFirst p mid q new → TellsFirst o old q new
  leads-then o p q old mid new l k = record {
    told = l.told ++ k.told;
    is = l.is ∙ ap (after l.told) k.is ∙ after-after l.told k.told q;
    errors = k.errors ∙ ap (λ es. es ++ k.told) l.errors ∙ append_assoc old.errors l.told k.told;
  }

module _ {S N : Type 0} where
  pub path-last : (path : List Bytes) (fs : List (FrameIn S N)) (f : FrameIn S N) → path_of path (fs ++ f ∷ []) ≡ down (path_of path fs) f
  path-last path [] f = refl
  path-last path (g ∷ fs) f = path-last (down path g) fs f

  pub group-path : (path : List Bytes) (f : ObjectFrameIn S N) (g : Group S) → slice_get f.groups f.next ≡ Some g → down path (frame.Object f) ≡ path ++ g.0 ∷ []
  group-path path f g at = ap (down_group path) (drop-next f.groups f.next g at)

module _ {S N : Type 0} (here : Evaluation S N) where
  pub fine-last : (fs : List (FrameIn S N)) (f : FrameIn S N) → AllFine here fs → Fine here f → AllFine here (fs ++ f ∷ [])
  fine-last [] f h k = (k, tt)
  fine-last (g ∷ fs) f h k = (h.0, fine-last fs f h.1 k)

  pub fine-pop : (fs : List (FrameIn S N)) (f : FrameIn S N) → AllFine here (fs ++ f ∷ []) → AllFine here fs × Fine here f
  fine-pop [] f h = (tt, h.0)
  fine-pop (g ∷ fs) f h = (let ih = fine-pop fs f h.1 in ((h.0, ih.0), ih.1))

module _ {S N : Type 0} (here : Evaluation S N) where
  close_group-after : (path : List Bytes) (f : ObjectFrameIn S N) (gs : List (Group S)) (told : List (ExecutionError S)) (o : Outcome S (Value S))
      → close_group here path f gs (after told o) ≡ after told (close_group here path f gs o)
  close_group-after path f [] told o = refl
  close_group-after path f (g ∷ gs) told o = more-after object_members f.members told (outcome_map (λ x. (g.0, x)) (show_place f.is_needed o)) (groups_left here path f.object f.node gs)

  -- what the innermost place tells first, the whole tells first
  close-after : (path : List Bytes) (f : FrameIn S N) (told : List (ExecutionError S)) (o : Outcome S (Value S)) → close here path f (after told o) ≡ after told (close here path f o)
  close-after path (frame.Object f) told o = close_group-after path f (drop f.next f.groups) told o
  close-after path (frame.List f) told o = more-after value.List f.values told (show_place (is_required (reverse f.wraps.now)) o) (map (item_at here path f) (reverse f.items))

  resume-after : (path : List Bytes) (fs : List (FrameIn S N)) (told : List (ExecutionError S)) (o : List Bytes → Outcome S (Value S))
      → resume here path fs (λ q. after told (o q)) ≡ after told (resume here path fs o)
  resume-after path [] told o = refl
  resume-after path (f ∷ fs) told o = ap (close here path f) (resume-after (down path f) fs told o) ∙ close-after path f told (resume here (down path f) fs o)

  -- a place counts at its own path alone
  resume-at : (path : List Bytes) (fs : List (FrameIn S N)) (o p : List Bytes → Outcome S (Value S)) → o (path_of path fs) ≡ p (path_of path fs) → resume here path fs o ≡ resume here path fs p
  resume-at path [] o p h = h
  resume-at path (f ∷ fs) o p h = ap (close here path f) (resume-at (down path f) fs o p h)

  resume-last : (path : List Bytes) (fs : List (FrameIn S N)) (f : FrameIn S N) (o : List Bytes → Outcome S (Value S))
      → resume here path (fs ++ f ∷ []) o ≡ resume here path fs (λ q. close here q f (o (down q f)))
  resume-last path [] f o = refl
  resume-last path (g ∷ fs) f o = ap (close here path g) (resume-last (down path g) fs f o)

  -- a step at the innermost place
  pub in-place : (path : List Bytes) (fs : List (FrameIn S N)) (told : List (ExecutionError S)) (o p : List Bytes → Outcome S (Value S)) → o (path_of path fs) ≡ after told (p (path_of path fs))
      → resume here path fs o ≡ after told (resume here path fs p)
  in-place path fs told o p h = resume-at path fs o (λ q. after told (p q)) h ∙ resume-after path fs told p

  -- a step that leaves a frame to wait
  pub pushed : (path : List Bytes) (fs : List (FrameIn S N)) (f : FrameIn S N) (told : List (ExecutionError S)) (o p : List Bytes → Outcome S (Value S))
      → o (path_of path fs) ≡ after told (close here (path_of path fs) f (p (down (path_of path fs) f)))
      → resume here path fs o ≡ after told (resume here path (fs ++ f ∷ []) p)
  pushed path fs f told o p h = in-place path fs told o (λ q. close here q f (p (down q f))) h ∙ ap (after told) (sym (resume-last path fs f p))

  -- a frame gets the value it waits for
  pub popped : (path : List Bytes) (fs : List (FrameIn S N)) (f : FrameIn S N) (v : Option (Value S)) (p : List Bytes → Outcome S (Value S)) → ((q : List Bytes) → close here q f (shows v) ≡ p q)
      → resume here path (fs ++ f ∷ []) (λ q. shows v) ≡ resume here path fs p
  popped path fs f v p h = resume-last path fs f (λ q. shows v) ∙ resume-at path fs (λ q. close here q f (shows v)) p (h (path_of path fs))

  pub object-begins : (path : List Bytes) (object : Bytes) (node : N) (ts : List (Tree S)) (found : List (Found S)) (gs : List (Group S)) → map (group_found here.fragments) gs ≡ groups found → Repeats found (found_in here.engine object ts)
      → outcome_map object_members (evaluate here.engine path object node ts) ≡ more object_members (Some []) (groups_left here path object node gs)
  object-begins path object node ts found gs is repeats =
      more-begins object_members (evaluate here.engine path object node ts) (groups_left here path object node gs)
      (sym (evaluate-groups here.engine path object node ts found repeats) ∙ ap (λ hs. together (map (keyed here.engine (evaluate here.engine) path object node) hs)) (sym is))

  -- an object's next group
  abbrev pub awaits : ObjectFrameIn S N → Bool → ObjectFrameIn S N
  awaits f needed = record { node = f.node; object = f.object; groups = f.groups; prepared = f.prepared; next = f.next; is_needed = needed; members = f.members }

  pub group-starts : (path : List Bytes) (f : ObjectFrameIn S N) (g : Group S) (needed : Bool) (told : List (ExecutionError S)) (o : List Bytes → Outcome S (Value S)) → slice_get f.groups f.next ≡ Some g
      → group here.engine (evaluate here.engine) path f.object f.node g.0 (all_found here.fragments g.1) ≡ after told (show_place needed (o (path ++ g.0 ∷ [])))
      → rest here path (frame.Object f) ≡ after told (close here path (frame.Object (awaits f needed)) (o (down path (frame.Object (awaits f needed)))))
  group-starts path f g needed told o at is =
      rw (drop-next f.groups f.next g at)
      (ap (λ x. more object_members f.members (outcome_map (λ v. (g.0, v)) x ∷ groups_left here path f.object f.node (drop (f.next + 1) f.groups))) is
      ∙ more-after object_members f.members told (outcome_map (λ v. (g.0, v)) (show_place needed (o (path ++ g.0 ∷ [])))) (groups_left here path f.object f.node (drop (f.next + 1) f.groups)))

  pub object-ends : (path : List Bytes) (f : ObjectFrameIn S N) → slice_get f.groups f.next ≡ None → rest here path (frame.Object f) ≡ shows (option_map object_members f.members)
  object-ends path f at = rw (drop-end f.groups f.next at) (more-none object_members f.members)

  both-keyed : (k : Bytes) (m : Option (Members S)) (v : Option (Value S)) → last m (option_map (λ x. (k, x)) v) ≡ both (λ xs x. xs ++ (k, x) ∷ []) m v
  both-keyed k None v = refl
  both-keyed k (Some xs) None = refl
  both-keyed k (Some xs) (Some x) = refl

  abbrev pub goes_on : ObjectFrameIn S N → Option (Members S) → ObjectFrameIn S N
  goes_on f members = record { node = f.node; object = f.object; groups = f.groups; prepared = f.prepared; next = f.next + 1; is_needed = false; members = members }

  pub group-given : (f : ObjectFrameIn S N) (g : Group S) (v : Option (Value S)) (members : Option (Members S)) → slice_get f.groups f.next ≡ Some g
      → members ≡ both (λ xs x. xs ++ (g.0, x) ∷ []) f.members (shown f.is_needed v)
      → (path : List Bytes) → close here path (frame.Object f) (shows v) ≡ rest here path (frame.Object (goes_on f members))
  group-given f g v members at is path =
      rw (drop-next f.groups f.next g at)
      (more-first object_members f.members (option_map (λ x. (g.0, x)) (shown f.is_needed v)) (groups_left here path f.object f.node (drop (f.next + 1) f.groups))
      ∙ ap (λ ms. more object_members ms (groups_left here path f.object f.node (drop (f.next + 1) f.groups))) (both-keyed g.0 f.members (shown f.is_needed v) ∙ sym is))

  pub nothing-given : (f : ObjectFrameIn S N) (v : Option (Value S)) → slice_get f.groups f.next ≡ None
      → (path : List Bytes) → close here path (frame.Object f) (shows v) ≡ rest here path (frame.Object f)
  nothing-given f v at path = rw (drop-end f.groups f.next at) refl

  pub item-given : (f : ListFrameIn S N) (v : Option (Value S)) (values : Option (List (Value S))) (path : List Bytes)
      → close here path (frame.List f) (shows v) ≡ more value.List (last f.values (shown (is_required (reverse f.wraps.now)) v)) (map (item_at here path f) (reverse f.items))
  item-given f v values path = more-first value.List f.values (shown (is_required (reverse f.wraps.now)) v) (map (item_at here path f) (reverse f.items))

-- the keys stay apart
pub fine-nothing : {S : Type 0} (k : Bytes) (keys : List Bytes) (ms : Option (Members S)) (v : Option (Value S)) → IfSome ms (λ xs. IsDistinct bytes_eq (keys_of xs ++ k ∷ keys))
    → IfSome (both (λ xs x. xs ++ (k, x) ∷ []) ms v) (λ xs. IsDistinct bytes_eq (keys_of xs ++ keys))
fine-nothing k keys None v h = tt
fine-nothing k keys (Some xs) None h = tt
fine-nothing k keys (Some xs) (Some x) h =
    subst (IsDistinct bytes_eq) (sym (append_assoc (keys_of xs) (k ∷ []) keys) ∙ ap (λ ks. ks ++ keys) (sym (map-append (λ p. p.0) xs ((k, x) ∷ [])))) h

pub group-fine : {S N : Type 0} (f : ObjectFrameIn S N) (g : Group S) (v : Option (Value S)) (members : Option (Members S)) → slice_get f.groups f.next ≡ Some g
    → members ≡ both (λ xs x. xs ++ (g.0, x) ∷ []) f.members v → IfSome f.members (λ ms. IsDistinct bytes_eq (keys_of ms ++ map (λ h. h.0) (drop f.next f.groups))) → IfSome members (λ ms. IsDistinct bytes_eq (keys_of ms ++ map (λ h. h.0) (drop (f.next + 1) f.groups)))
group-fine f g v members at is fine =
    subst (λ m. IfSome m (λ ms. IsDistinct bytes_eq (keys_of ms ++ map (λ h. h.0) (drop (f.next + 1) f.groups)))) (sym is)
    (fine-nothing g.0 (map (λ h. h.0) (drop (f.next + 1) f.groups)) f.members v (rw (drop-next f.groups f.next g at) at fine))

pub distinct-end : {S : Type 0} (ms : Option (Members S)) (gs : List (Group S)) → gs ≡ [] → IfSome ms (λ xs. IsDistinct bytes_eq (keys_of xs ++ map (λ g. g.0) gs)) → IfSome ms (λ xs. IsDistinct bytes_eq (keys_of xs))
distinct-end {S = S} None gs p h = tt
distinct-end {S = S} (Some xs) gs p h = subst (IsDistinct bytes_eq) (ap (λ ks. keys_of xs ++ map (λ (g : Group S). g.0) ks) p ∙ append-nil (keys_of xs)) h

pub outer-wraps : (ws rest : List TypeModifier) (m : TypeModifier) → ws ≡ rest ++ m ∷ [] → reverse ws ≡ m ∷ reverse rest
outer-wraps ws rest m p = ap reverse p ∙ reverse-append rest (m ∷ [])

module _ {S A : Type 0} where
  -- nothing is told, and the rest is the same
  pub leads-same : (o p : Outcome S A) (old new : Report S) → o ≡ p → new.errors ≡ old.errors → TellsFirst o old p new
  leads-same o p old new q same = record { told = []; is = q; errors = same ∙ sym (append-nil old.errors) }

module _ {S N : Type 0} (fragments : List (Fragment S)) (e : Engine S N) (path : List Bytes) (object : Bytes) (node : N) (key : Bytes) (fields : Lent S) where
  pub none-leads : (old new : Report S) → None ≡ slice_get fields 0 → new.errors ≡ old.errors
      → TellsFirst (group e (evaluate e) path object node key (all_found fragments fields)) old (show_place true (shows {S = S} None)) new
  none-leads old new p same = rw (nothing_first fields p) (leads-same no_value (shows None) old new refl same)

  module _ (x : CollectedField S) (first : Some x ≡ slice_get fields 0) where
    abbrev head : Head S
    head = head_of x.field.now

    abbrev here : List Bytes
    here = path ++ key ∷ []

    abbrev below_here : N → Outcome S (Members S)
    below_here m = evaluate e here (e.concrete m) m (sets_below (all_found fragments fields))

    pub undeclared-leads : (old new : Report S) → e.declared object head.name ≡ None → new.errors ≡ old.errors
        → TellsFirst (group e (evaluate e) path object node key (all_found fragments fields)) old (show_place false (shows {S = S} (Some value.Null))) new
    undeclared-leads old new p same = rw (group-is fragments e (evaluate e) path object node key fields x first, p) (leads-same (gives value.Null) (shows (Some value.Null)) old new refl same)

    pub group-leads : (type : TypeOf) (answer : Result (Resolved S N) (FieldError S)) (old mid new : Report S) (p : Outcome S (Value S)) → e.declared object head.name ≡ Some type
        → e.answer node object head.name (e.arguments object head) ≡ answer → mid.errors ≡ old.errors
        → TellsFirst (complete_result below_here (blame_at here head.place) type.name (e.is_leaf type.name) (λ m. e.is_possible type.name (e.concrete m)) (reverse type.modifiers) answer) mid p new
        → TellsFirst (group e (evaluate e) path object node key (all_found fragments fields)) old (show_place (is_required (reverse type.modifiers)) p) new
    group-leads type answer old mid new p d a same l =
        rw (group-is fragments e (evaluate e) path object node key fields x first, d, a)
        (record { told = l.told; is = ap (show_place (is_required (reverse type.modifiers))) l.is; errors = l.errors ∙ ap (λ es. es ++ l.told) same })

keys-found : {S : Type 0} (fragments : List (Fragment S)) (gs : List (Group S)) → map (λ h. h.0) (map (group_found fragments) gs) ≡ map (λ h. h.0) gs
keys-found fragments [] = refl
keys-found fragments (g ∷ gs) = ap (λ ks. g.0 ∷ ks) (keys-found fragments gs)

pub distinct-begins : {S : Type 0} (fragments : List (Fragment S)) (xs : List (Found S)) (gs : List (Group S)) → map (group_found fragments) gs ≡ groups xs → IsDistinct bytes_eq (map (λ h. h.0) gs)
distinct-begins fragments xs gs is = subst (IsDistinct bytes_eq) (sym (ap (λ (hs : List (Bytes × List (Found _))). map (λ h. h.0) hs) is) ∙ keys-found fragments gs) (distinct-groups xs)

module _ {S N : Type 0} (here : Evaluation S N) where
  pub step-in_place : (path : List Bytes) (fs : List (FrameIn S N)) (o p : List Bytes → Outcome S (Value S)) (old new : Report S) → new.path ≡ path_of path fs
      → TellsFirst (o (path_of path fs)) old (p (path_of path fs)) new → TakesTurn here path (resume here path fs o) old fs p new
  step-in_place path fs o p old new at l = record { leads = record { told = l.told; is = in-place here path fs l.told o p l.is; errors = l.errors }; stands = at }

  pub step-pushed : (path : List Bytes) (fs : List (FrameIn S N)) (f : FrameIn S N) (o p : List Bytes → Outcome S (Value S)) (old new : Report S) → new.path ≡ down (path_of path fs) f
      → TellsFirst (o (path_of path fs)) old (close here (path_of path fs) f (p (down (path_of path fs) f))) new → TakesTurn here path (resume here path fs o) old (fs ++ f ∷ []) p new
  step-pushed path fs f o p old new at l =
      record { leads = record { told = l.told; is = pushed here path fs f l.told o p l.is; errors = l.errors }; stands = at ∙ sym (path-last path fs f) }

  pub step-popped : (path : List Bytes) (fs : List (FrameIn S N)) (f : FrameIn S N) (v : Option (Value S)) (p : List Bytes → Outcome S (Value S)) (old new : Report S) → old.path ≡ path_of path (fs ++ f ∷ [])
      → ((q : List Bytes) → close here q f (shows v) ≡ p q) → ((q : List Bytes) → old.path ≡ down q f → new.path ≡ q) → new.errors ≡ old.errors
      → TakesTurn here path (resume here path (fs ++ f ∷ []) (λ q. shows v)) old fs p new
  step-popped path fs f v p old new at given up same =
      record { leads = leads-same _ _ old new (popped here path fs f v p given) same; stands = up (path_of path fs) (at ∙ path-last path fs f) }

  -- a step after those before it
  pub step-then : (path : List Bytes) (o : Outcome S (Value S)) (fs gs : List (FrameIn S N)) (p q : List Bytes → Outcome S (Value S)) (old mid new : Report S)
      → TakesTurn here path o old fs p mid → TakesTurn here path (resume here path fs p) mid gs q new → TakesTurn here path o old gs q new
  step-then path o fs gs p q old mid new l k =
      record { leads = leads-then o (resume here path fs p) (resume here path gs q) old mid new l.leads k.leads; stands = k.stands }

  pub list-ends : (path : List Bytes) (f : ListFrameIn S N) → f.items ≡ [] → rest here path (frame.List f) ≡ shows (option_map value.List f.values)
  list-ends path f p = ap (λ xs. more value.List f.values (map (item_at here path f) (reverse xs))) p ∙ more-none value.List f.values

  abbrev pub keeps : ListFrameIn S N → List (Resolved S N) → ListFrameIn S N
  keeps f items = record { name = f.name; selected = f.selected; location = f.location; wraps = f.wraps; items = items; values = f.values; known = f.known }

  -- a list's next item
  pub item-starts : (path : List Bytes) (f : ListFrameIn S N) (items : List (Resolved S N)) (x : Resolved S N) (o : Outcome S (Value S)) (old new : Report S) → f.items ≡ items ++ x ∷ []
      → TellsFirst (completed here.engine (λ m. evaluate here.engine path (here.engine.concrete m) m (kept_sets here.fragments f.selected)) (blame_at path f.location) f.name (reverse f.wraps.now) x) old o new
      → TellsFirst (rest here path (frame.List f)) old (close here path (frame.List (keeps f items)) o) new
  item-starts path f items x o old new p l =
      let needed = is_required (reverse f.wraps.now) in
      let left = map (item_at here path f) (reverse items) in
      record {
        told = l.told;
        is = ap (λ xs. more value.List f.values (map (item_at here path f) xs)) (ap reverse p ∙ reverse-append items (x ∷ []))
            ∙ ap (λ y. more value.List f.values (show_place needed y ∷ left)) l.is
            ∙ more-after value.List f.values l.told (show_place needed o) left;
        errors = l.errors;
      }

-- what was known is known when one more type is
module _ {S N : Type 0} (here : Evaluation S N) (name : Bytes) (sets : List (Tree S)) where
  abbrev IsSome : Bytes → Option (KnownIn S) → Type 0
  IsSome object known = IfSome known (IsKnown here name sets object)

  taught-at : (k : KnownIn S) (old : Option (KnownIn S)) (object : Bytes) (same : Bool) → (same ≡ true → k.object ≡ object) → IsKnown here name sets k.object k → IsSome object old
      → IsSome object (cond same (Some k) old)
  taught-at k old object true is are h = subst (λ o. IsKnown here name sets o k) (is refl) are
  taught-at k old object false is are h = h

  taught-here : (k : KnownIn S) (old new : Option (KnownIn S)) (object : Bytes) → IsKnown here name sets k.object k → IsSome object old
      → (new ≡ old) ⊎ (new ≡ cond (bytes_eq k.object object) (Some k) old) → IsSome object new
  taught-here k old new object are h (inl same) = subst (IsSome object) (sym same) h
  taught-here k old new object are h (inr put) =
      subst (IsSome object) (sym put) (taught-at k old object (bytes_eq k.object object) (λ p. (bytes_eq-Decides k.object object).0 p) are h)

  pub known-taught : (old new : List (KnownIn S)) (more : Option (KnownIn S)) → IsTaught old more new → IfSome more (λ k. IsKnown here name sets k.object k) → AreKnown here name sets old
      → AreKnown here name sets new
  known-taught old new None t are h = subst (AreKnown here name sets) (sym t) h
  known-taught old new (Some k) t are h = λ object. taught-here k (known_at old object) (known_at new object) object are (h object) (t object)

-- nothing more need be known
pub untaught : {S : Type 0} (old : List (KnownIn S)) (more : Option (KnownIn S)) → IsTaught old more old
untaught old None = refl
untaught old (Some k) = λ object. inl refl

pub taught-news : {S : Type 0} (old new : List (KnownIn S)) (k : KnownIn S) (more : Option (KnownIn S)) → (Some k ≡ None) ⊎ (Some k ≡ more)
    → ((object : Bytes) → known_at new object ≡ cond (bytes_eq k.object object) (Some k) (known_at old object)) → IsTaught old more new
taught-news old new k more (inl none) put = cc
taught-news old new k more (inr news) put = subst (λ m. IsTaught old m new) news (λ object. inr (put object))

pub answer-gives : {S : Type 0} (key : Bytes) (needed : Bool) (o q : Outcome S (Value S)) (old mid below new : Report S) (v : Option (Value S)) → TellsFirst o old (show_place needed q) mid → GivesOutcome q mid v below
    → mid.path ≡ old.path ++ key ∷ [] → new.path ≡ up below.path → new.errors ≡ below.errors → GivesOutcome o old (shown needed v) new
answer-gives key needed o q old mid below new v l g at back kept = record {
  is = ap (shown needed) g.is ∙ sym (ap (λ (r : Outcome _ (Value _)). r.value) l.is);
  path = back ∙ ap up (g.path ∙ at) ∙ up-last old.path key;
  errors = kept ∙ g.errors ∙ ap (λ es. es ++ q.failures) l.errors ∙ append_assoc old.errors l.told q.failures ∙ ap (λ es. old.errors ++ es) (sym (ap (λ (r : Outcome _ (Value _)). r.failures) l.is));
}
