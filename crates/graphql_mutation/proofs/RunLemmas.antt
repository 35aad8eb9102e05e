-- What a field of a mutation's root shows, and leaves.
use Rattle.std.proofs.Common.{◌≡◌, ◌⊎◌, inr, Bool, refl, sym, ◌∙◌, ap, subst, List, [], ◌∷◌, ◌++◌, append-nil, Option, Some, None, Result, Ok, Err, reverse, slice_get}
use Rattle.std.specs.Prelude.{IfOk, OnErr}
use Rattle.graphql_scalars.specs.ScalarAnswers.{ScalarAnswer}
use Rattle.graphql_names.specs.Names.{Bytes}
use Rattle.graphql_text.specs.declared.position.SourcePosition.{SourcePosition}
use Rattle.graphql_tree.specs.declared.document.Fragment.{Fragment}
use Rattle.graphql_schema.specs.Types.{TypeOf}
use Rattle.graphql_output_values.specs.declared.value.Value.{Value}
use Rattle.graphql_output_values.specs.declared.value.Value.TheVariants as value
use Rattle.graphql_written_out.specs.Trees.{Head, Tree}
use Rattle.graphql_written_out.specs.Written.{head_of}
use Rattle.graphql_collected.specs.declared.collected_field.CollectedField.{CollectedField}
use Rattle.graphql_collected.specs.declared.request.Request.{Request}
use Rattle.graphql_collect.specs.Grouped.{Lent, all_found}
use Rattle.graphql_collected.specs.Requests.{fragments_in}
use Rattle.graphql_occurrences.specs.DeclaredLent.{literal_of}
use Rattle.graphql_field_results.specs.declared.execution_error.ExecutionError.{ExecutionError}
use Rattle.graphql_field_results.specs.declared.field_error.FieldError.{FieldError}
use Rattle.graphql_field_results.specs.declared.field_fault.FieldFault.{FieldFault}
use Rattle.graphql_field_results.specs.declared.field_fault.FieldFault.TheVariants as fault
use Rattle.graphql_field_results.specs.declared.resolved.Resolved.{Resolved}
use Rattle.graphql_semantics.specs.Completion.{blame_at, is_required}
use Rattle.graphql_semantics.specs.Engines.{Engine}
use Rattle.graphql_semantics.specs.Evaluation.{at_type, evaluate, sets_below}
use Rattle.graphql_semantics.specs.Outcomes.{Outcome, fails, shown}
use Rattle.graphql_execution_walk.specs.Begins.{Completes, outcome_at, own_error_at}
use Rattle.graphql_execution_walk.specs.Completions.{outcome_here, own_error_here}
use Rattle.graphql_execution_walk.specs.Asked.{AskedAnswer}
use Rattle.graphql_execution_walk.specs.Engines.{Resolves, engine_of}
use Rattle.graphql_execution_walk.specs.declared.asked.Asked.{Asked}
use Rattle.graphql_execution_walk.specs.FieldDeclarations.{declared_type}
use Rattle.graphql_execution_walk.specs.FieldPaths.{keys_of, start_of_path}
use Rattle.graphql_execution_walk.specs.Sets.{sets_in}
use Rattle.graphql_execution_walk.specs.declared.executor.Executor.{Executor}
use Rattle.graphql_execution_walk.proofs.EngineParts.{engine-declared}
use Rattle.graphql_execution_walk.proofs.OwnErrorLaws.{own-fails}
use Rattle.graphql_mutation.specs.Completing.{IsValueOrTold, outcome_of_result, own_error_of_result, step_shown}
use Rattle.graphql_mutation.specs.Mutations.{Changes, mutation_of}
use Rattle.graphql_mutation.specs.Runs.{HasRun, LeavesOrKeeps}
use Rattle.graphql_mutation.specs.Serial.{Mutation, Run, RootStep, completed_step, declared_step, root_group, step_of}

pub on_err : {A E : Type 0} (r : Result A E) (P : Type 0) → P → OnErr r P
on_err (Ok x) P h = tt
on_err (Err e) P h = h

pub on_err-map : {A E : Type 0} (r : Result A E) (P Q : Type 0) → (P → Q) → OnErr r P → OnErr r Q
on_err-map (Ok x) P Q f h = tt
on_err-map (Err e) P Q f h = f h

pub if_ok-map : {A E : Type 0} (r : Result A E) (P Q : A → Type 0) → ((x : A) → P x → Q x) → IfOk r P → IfOk r Q
if_ok-map (Ok x) P Q f h = f x h
if_ok-map (Err e) P Q f h = tt

pub leaves-or : {S A X : Type 0} (old after new : X) (r : Result A (FieldFault S)) → new ≡ after
    → LeavesOrKeeps old after r new
leaves-or old after new (Ok x) h = h
leaves-or old after new (Err (fault.Error x)) h = h
leaves-or old after new (Err fault.Memory) h = inr h

pub leaves-either : {S A X : Type 0} (old after new : X) (r : Result A (FieldFault S)) → LeavesOrKeeps old after r new
    → (new ≡ old) ⊎ (new ≡ after)
leaves-either old after new (Ok x) h = inr h
leaves-either old after new (Err (fault.Error x)) h = inr h
leaves-either old after new (Err fault.Memory) h = h

-- an answer is completed over another context as at the same place over this one
module _ {S C N X Context : Type 0} (of_text : Bytes → S) (of_bool : Bool → S) (answer : S → ScalarAnswer) (concrete : X → N → Bytes)
    (resolves : X → Resolves S N) (executor : Executor Context S C) (over : Executor X S C)
    (request : over.request.now ≡ executor.request.now) (path : over.path ≡ executor.path)
    (type : over.current_type ≡ executor.current_type) (selected : over.selected ≡ executor.selected) where
  abbrev engine_on : Request S C → X → Engine S (Asked S N C)
  engine_on request c = engine_of of_text of_bool answer request (concrete c) (resolves c)

  pub completes-over : (now after : X) (wanted : AskedAnswer S N C) (r : Resolved S (Asked S N C))
      (old new : List (ExecutionError S)) (result : Result (Option (Value S)) (FieldFault S))
      → over.context.now ≡ now → now ≡ after → wanted ≡ Ok r
      → Completes (own_error_here (engine_on over.request.now over.context.now) over r)
      (outcome_here (engine_on over.request.now over.context.now) over r) old result new
      → Completes (own_error_of_result (engine_on executor.request.now after) executor wanted)
      (outcome_of_result (engine_on executor.request.now after) executor wanted) old result new
  completes-over now after wanted r old new result context left is h =
      let here = context ∙ left in
      let e = engine_on over.request.now over.context.now in
      let f = engine_on executor.request.now after in
      let own : own_error_here e over r ≡ own_error_of_result f executor wanted =
      λ i. own_error_at (engine_on (request i) (here i)) (type i).name.now (reverse (type i).modifiers.now) (sym is i)
      in
      let outcome : outcome_here e over r ≡ outcome_of_result f executor wanted =
      λ i. outcome_at (engine_on (request i) (here i)) (sets_in (request i) (selected i)) (type i).name.now
      (start_of_path (path i)) (reverse (type i).modifiers.now) (sym is i) (keys_of (path i)) in
      subst (λ x. Completes x (outcome_of_result f executor wanted) old result new) own
      (subst (λ o. Completes (own_error_here e over r) o old result new) outcome h)

-- what is completed and told is what the place shows
module _ {S N X Context C : Type 0} (m : Mutation S N X) (executor : Executor Context S C) (step : RootStep S N X) where
  abbrev own : Option (FieldError S)
  own = own_error_of_result (m.engine step.after) executor step.answer

  abbrev comes : Outcome S (Value S)
  comes = outcome_of_result (m.engine step.after) executor step.answer

  told-fails : (x : FieldError S) → own ≡ Some x
      → comes ≡ fails (blame_at (keys_of executor.path) (start_of_path executor.path) x)
  told-fails x h =
      let e = m.engine step.after in
      let name = executor.current_type.name.now in
      own-fails name (e.is_leaf name) (λ n. e.is_possible name (e.concrete n))
      (λ n. evaluate e (keys_of executor.path) (e.concrete n) n (sets_in executor.request.now executor.selected))
      (blame_at (keys_of executor.path) (start_of_path executor.path)) (reverse executor.current_type.modifiers.now) step.answer x h

  told-comes : (r : Result (Option (Value S)) (FieldFault S)) (v : Option (Value S))
      (old mid new : List (ExecutionError S))
      → Completes own comes old r mid → IsValueOrTold executor r mid v new
      → (v ≡ comes.value) × (new ≡ old ++ comes.failures)
  told-comes (Ok w) v old mid new h t = (t.0 ∙ h.1, t.1 ∙ h.2)
  told-comes (Err (fault.Error x)) v old mid new h t =
      let fails_so = sym (told-fails x h.0) in (
        t.0 ∙ ap (λ (o : Outcome S (Value S)). o.value) fails_so,
        t.1 ∙ ap (λ es. es ++ blame_at (keys_of executor.path) (start_of_path executor.path) x ∷ []) h.1
            ∙ ap (λ (o : Outcome S (Value S)). old ++ o.failures) fails_so,
      )
  told-comes (Err fault.Memory) v old mid new h t = absurd t

  told-leaves : (r : Result (Option (Value S)) (FieldFault S)) (v : Option (Value S))
      (mid new : List (ExecutionError S)) (before now : X)
      → IsValueOrTold executor r mid v new → LeavesOrKeeps before step.after r now → now ≡ step.after
  told-leaves (Ok w) v mid new before now t h = h
  told-leaves (Err (fault.Error x)) v mid new before now t h = h
  told-leaves (Err fault.Memory) v mid new before now t h = absurd t

  abbrev shows : Option (Value S) → Option (Value S)
  shows = shown (is_required (reverse executor.current_type.modifiers.now))

  pub told-run : (r : Result (Option (Value S)) (FieldFault S)) (v : Option (Value S))
      (old mid new : List (ExecutionError S)) (before now : X)
      → Completes own comes old r mid → LeavesOrKeeps before step.after r now → IsValueOrTold executor r mid v new
      → HasRun (step_shown m executor step) (shows v) old new now
  told-run r v old mid new before now h l t =
      let both = told-comes r v old mid new h t in
      record { is = ap shows both.0; told = both.1; after = told-leaves r v mid new before now t l }

-- the group of these fields, of this key
module _ {S N X : Type 0} (m : Mutation S N X) (object : Bytes) (fragments : List (Fragment S)) (c : X) (key : Bytes)
    (fields : Lent S) where
  abbrev group_here : Run S X (Value S)
  group_here = root_group m object c key (all_found fragments fields)

  nothing-first : None ≡ slice_get fields 0 → fields ≡ []
  nothing-first h = empty fields h
    where
      empty : (xs : Lent S) → None ≡ slice_get xs 0 → xs ≡ []
      empty [] p = refl
      empty (x ∷ xs) p = cc

  pub none-run : (old : List (ExecutionError S)) → None ≡ slice_get fields 0 → HasRun group_here None old old c
  none-run old first =
      subst (λ xs. HasRun (root_group m object c key (all_found fragments xs)) None old old c)
      (sym (nothing-first first)) (record { is = refl; told = sym (append-nil old); after = refl })

  module _ (x : CollectedField S) (first : Some x ≡ slice_get fields 0) where
    abbrev head : Head S
    head = head_of x.field.now

    -- by the first field of these
    abbrev by_first : Lent S → CollectedField S → Run S X (Value S)
    by_first xs y =
        let first_head = head_of y.field.now in
        declared_step m object key (sets_below (all_found fragments xs)) first_head c
        ((m.engine c).declared object first_head.name)

    group-first : group_here ≡ by_first fields x
    group-first = of_fields fields first
      where
        of_fields : (xs : Lent S) → Some x ≡ slice_get xs 0
            → root_group m object c key (all_found fragments xs) ≡ by_first xs x
        of_fields [] p = cc
        of_fields (y ∷ ys) p = (let same : y ≡ x = (let q : Some x ≡ Some y = p in cc) in ap (by_first (y ∷ ys)) same)

    pub undeclared-run : (old : List (ExecutionError S)) → (m.engine c).declared object head.name ≡ None
        → HasRun group_here (Some value.Null) old old c
    undeclared-run old d = rw (group-first, d) (record { is = refl; told = sym (append-nil old); after = refl })

    pub group-declared : (type : TypeOf) → (m.engine c).declared object head.name ≡ Some type
        → group_here
        ≡ completed_step m object key (sets_below (all_found fragments fields)) head type (step_of m object c head)
    group-declared type d = rw (group-first, d) refl

-- a group of which the schema declares the first field is what the place of that field shows
module _ {S C N X Context : Type 0} (of_text : Bytes → S) (of_bool : Bool → S) (answer : S → ScalarAnswer) (concrete : X → N → Bytes)
    (resolves : X → Resolves S N) (changes : Changes S N X) (rq : Request S C) (here : Executor Context S C) where
  abbrev mutation_at : Request S C → Mutation S (Asked S N C) X
  mutation_at request = mutation_of of_text of_bool answer request concrete resolves changes

  -- what the schema declares of a field
  pub declared-known : (object : Bytes) (c : X) (x : CollectedField S) (name : Bytes) → name ≡ (head_of x.field.now).name
      → ((mutation_at rq).engine c).declared object (head_of x.field.now).name
      ≡ declared_type rq.schema.now.types object name
  declared-known object c x name is =
      ap (λ f. f object (head_of x.field.now).name) (engine-declared of_text of_bool answer rq (concrete c) (resolves c))
      ∙ ap (declared_type rq.schema.now.types object) (sym is)

  pub shown-group : (object : Bytes) (c : X) (key : Bytes) (fields : Lent S) (x : CollectedField S) (type : TypeOf)
      → Some x ≡ slice_get fields 0
      → ((mutation_at rq).engine c).declared object (head_of x.field.now).name ≡ Some type
      → here.request.now ≡ rq → start_of_path here.path ≡ (head_of x.field.now).place → keys_of here.path ≡ key ∷ []
      → literal_of here.current_type ≡ type
      → sets_in here.request.now here.selected ≡ sets_below (all_found (fragments_in rq) fields)
      → step_shown (mutation_at here.request.now) here
      (step_of (mutation_at here.request.now) object c (head_of x.field.now))
      ≡ root_group (mutation_at rq) object c key (all_found (fragments_in rq) fields)
  shown-group object c key fields x type first declared request place keys current sets =
      shown ∙ sym (group-declared (mutation_at rq) object (fragments_in rq) c key fields x first type declared)
    where
      at : Request S C → SourcePosition → List Bytes → TypeOf → List (Tree S) → Run S X (Value S)
      at request place keys type sets =
          let m = mutation_at request in
          let step = step_of m object c (head_of x.field.now) in
          let e = m.engine step.after in
          record {
            outcome =
                at_type e (λ n. evaluate e keys (e.concrete n) n sets) (blame_at keys place) type step.answer;
            after = step.after;
          }

      shown : step_shown (mutation_at here.request.now) here
          (step_of (mutation_at here.request.now) object c (head_of x.field.now))
          ≡ completed_step (mutation_at rq) object key (sets_below (all_found (fragments_in rq) fields))
          (head_of x.field.now) type (step_of (mutation_at rq) object c (head_of x.field.now))
      shown = λ i. at (request i) (place i) (keys i) (current i) (sets i)
