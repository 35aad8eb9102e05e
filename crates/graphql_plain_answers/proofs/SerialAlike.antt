-- Alike sets change the same.
use Rattle.std.proofs.Common.{◌≡◌, refl, sym, ◌∙◌, ap, List, [], ◌∷◌, map, Option, Some, None}
use Rattle.std.specs.Option.{option_map}
use Rattle.std.proofs.lemmas.List.{map-append}
use Rattle.graphql_names.specs.Names.{Bytes}
use Rattle.graphql_schema.specs.Types.{TypeOf}
use Rattle.graphql_output_values.specs.declared.value.Value.{Value}
use Rattle.graphql_written_out.specs.Trees.{Directives, Head, Tree, none, field, inline}
use Rattle.graphql_written_out.specs.Fields.{Found}
use Rattle.graphql_written_out.specs.Groups.{keys, under, groups}
use Rattle.graphql_semantics.specs.Completion.{Members, blame_at}
use Rattle.graphql_semantics.specs.Engines.{Engine}
use Rattle.graphql_semantics.specs.Evaluation.{Group, at_type, evaluate, found_in, sets_below}
use Rattle.graphql_mutation.specs.Serial.{Mutation, Run, RootStep, completed_step, declared_step, mutate, root_group, serially, step_of, unless_null}
use Rattle.graphql_plain_answers.specs.AlikeMutations.{AlwaysLeaveOutAlike, AreServedAlike, AskOverOneSchema, SetsAreAlike}
use Rattle.graphql_plain_answers.specs.AlikeSets.{AreAnsweredAlike, EachAlike, LeaveOutAlike, SetsAlike, TreesAlike}
use Rattle.graphql_plain_answers.specs.Laws.{AlikeChangeTheSame}
use Rattle.graphql_plain_answers.specs.WithoutPlaces.{unlocated_failure, unlocated_run}
use Rattle.graphql_plain_answers.proofs.AlikeFields.{FoundAlike, Founds, below-alike, found-alike, keys-alike, under-alike}
use Rattle.graphql_plain_answers.proofs.AlikeOutcomes.{U, at-type-alike}
use Rattle.graphql_plain_answers.proofs.AlikeRuns.{mixed, mixed-alike, mixed-is}

-- sets that are alike by one relation are alike by a weaker one
module _ {S : Type 0} (Heads Weaker : Head S → Head S → Type 0)
    (Marks Looser : Directives S → Directives S → Type 0)
    (heads : (h k : Head S) → Heads h k → Weaker h k)
    (marks : (ds es : Directives S) → Marks ds es → Looser ds es) where
  tree-weaker : (t u : Tree S) → TreesAlike Heads Marks t u → TreesAlike Weaker Looser t u
  tree-weaker none none a = tt
  tree-weaker none (field k es inner more) a = absurd a
  tree-weaker none (inline at es inner more) a = absurd a
  tree-weaker (field h ds below rest) none a = absurd a
  tree-weaker (field h ds below rest) (inline at es inner more) a = absurd a
  tree-weaker (field h ds below rest) (field k es inner more) a =
      (heads h k a.0, marks ds es a.1, tree-weaker below inner a.2, tree-weaker rest more a.3)
  tree-weaker (inline on ds below rest) none a = absurd a
  tree-weaker (inline on ds below rest) (field k es inner more) a = absurd a
  tree-weaker (inline on ds below rest) (inline at es inner more) a =
      (a.0, marks ds es a.1, tree-weaker below inner a.2, tree-weaker rest more a.3)

  sets-weaker : (ts us : List (Tree S)) → EachAlike (TreesAlike Heads Marks) ts us
      → EachAlike (TreesAlike Weaker Looser) ts us
  sets-weaker [] [] a = tt
  sets-weaker [] (u ∷ us) a = absurd a
  sets-weaker (t ∷ ts) [] a = absurd a
  sets-weaker (t ∷ ts) (u ∷ us) a = (tree-weaker t u a.0, sets-weaker ts us a.1)

abbrev pub R : {S X A : Type 0} → Run S X A → Run S X A
R = unlocated_run

-- the others run on where the first has a value, places aside too
unless-null-unlocated : {S X : Type 0} (key : Bytes) (first : Run S X (Value S))
    (o : Option (Value S)) (others : Run S X (Members S))
    → R (unless_null key first o others) ≡ unless_null key (R first) o (R others)
unless-null-unlocated key first None others = refl
unless-null-unlocated key first (Some v) others =
    λ i. record {
      outcome = record {
        value = option_map (λ members. (key, v) ∷ members) others.outcome.value;
        failures = map-append unlocated_failure first.outcome.failures others.outcome.failures i;
      };
      after = others.after;
    }

module _ {S N X : Type 0} (m n : Mutation S N X) (one : AskOverOneSchema m n) (object : Bytes) where
  abbrev Heads : Head S → Head S → Type 0
  Heads = AreServedAlike m n

  abbrev Marks : Directives S → Directives S → Type 0
  Marks = AlwaysLeaveOutAlike m n

  -- sets that are alike throughout are alike on a context
  pub at-context : (c : X) (ts us : List (Tree S)) → SetsAreAlike m n ts us
      → SetsAlike (m.engine c) (n.engine c) ts us
  at-context c =
      sets-weaker Heads (AreAnsweredAlike (m.engine c) (n.engine c)) Marks
      (LeaveOutAlike (m.engine c) (n.engine c))
      (λ h k a. a.answered c) (λ ds es a. a c)

  -- ---- one group

  type-alike : (key : Bytes) (x y : Found S) (ts us : List (Tree S)) → SetsAreAlike m n ts us
      → (type : TypeOf) (step : RootStep S N X)
      → R (completed_step m object key ts x.head type step)
      ≡ R (completed_step n object key us y.head type step)
  type-alike key x y ts us a type step =
      let e : Engine S N = m.engine step.after in
      let f : Engine S N = n.engine step.after in
      let path : List Bytes = key ∷ [] in
      let same =
      at-type-alike (λ k. evaluate e path (e.concrete k) k ts)
      (λ k. evaluate (mixed e f) path (e.concrete k) k us)
      (λ k. mixed-alike e f path (e.concrete k) k ts us (at-context step.after ts us a))
      (blame_at path x.head.place) (blame_at path y.head.place) (λ z. refl) e type step.answer in
      let whole =
      same
      ∙ ap (λ (g : Engine S N). U (at_type g (λ k. evaluate g path (g.concrete k) k us)
      (blame_at path y.head.place) type step.answer)) (mixed-is e f (one step.after)) in
      λ i. record { outcome = whole i; after = step.after }

  declared-alike : (key : Bytes) (x y : Found S) (ts us : List (Tree S)) → Heads x.head y.head
      → SetsAreAlike m n ts us
      → (c : X) (o : Option TypeOf)
      → R (declared_step m object key ts x.head c o) ≡ R (declared_step n object key us y.head c o)
  declared-alike key x y ts us h a c None = refl
  declared-alike key x y ts us h a c (Some type) =
      ap (λ step. R (completed_step m object key ts x.head type step)) (h.steps c object)
      ∙ type-alike key x y ts us a type (step_of n object c y.head)

  group-alike : (c : X) (key : Bytes) (xs ys : List (Found S)) → Founds Heads Marks xs ys
      → R (root_group m object c key xs) ≡ R (root_group n object c key ys)
  group-alike c key [] [] a = refl
  group-alike c key [] (y ∷ ys) a = absurd a
  group-alike c key (x ∷ xs) [] a = absurd a
  group-alike c key (x ∷ xs) (y ∷ ys) a =
      let below = below-alike Heads Marks (x ∷ xs) (y ∷ ys) a in
      (λ i. R (declared_step m object key (sets_below (x ∷ xs)) x.head c
      ((one c).declared i object ((a.0.0.answered c).name i))))
      ∙ declared-alike key x y (sets_below (x ∷ xs)) (sets_below (y ∷ ys)) a.0.0 below c
      ((n.engine c).declared object y.head.name)

  -- ---- one after the other

  serially-alike : (f g : Bytes → List (Found S))
      → ((key : Bytes) → Founds Heads Marks (f key) (g key)) → (ks : List Bytes) (c : X)
      → R (serially m object c (map (λ key. (key, f key)) ks))
      ≡ R (serially n object c (map (λ key. (key, g key)) ks))
  serially-alike f g a [] c = refl
  serially-alike f g a (k ∷ ks) c =
      let gs : List (Group S) = map (λ key. (key, f key)) ks in
      let hs : List (Group S) = map (λ key. (key, g key)) ks in
      let first = root_group m object c k (f k) in
      let also = root_group n object c k (g k) in
      let same : R first ≡ R also = group-alike c k (f k) (g k) (a k) in
      let others : R (serially m object first.after gs) ≡ R (serially n object also.after hs) =
      ap (λ (run : Run S X (Value S)). R (serially m object run.after gs)) same
      ∙ serially-alike f g a ks also.after in
      unless-null-unlocated k first first.outcome.value (serially m object first.after gs)
      ∙ (λ i. unless_null k (same i) (same i).outcome.value (others i))
      ∙ sym (unless-null-unlocated k also also.outcome.value (serially n object also.after hs))

  pub mutate-alike : (c : X) (ts us : List (Tree S)) → SetsAreAlike m n ts us
      → R (mutate m object c ts) ≡ R (mutate n object c us)
  mutate-alike c ts us a =
      let e : Engine S N = m.engine c in
      let f : Engine S N = n.engine c in
      let xs : List (Found S) = found_in e object ts in
      let ys : List (Found S) = found_in (mixed e f) object us in
      let found : Founds Heads Marks xs ys =
      found-alike Heads Marks e.drops f.drops (λ ds es is. is c) (e.is_below object) ts us a in
      let Alike : Found S → Found S → Type 0 = FoundAlike Heads Marks in
      let same-key : (x y : Found S) → Alike x y → x.head.key ≡ y.head.key =
      λ x y is. (is.0.answered c).key in
      serially-alike (under xs) (under ys) (λ key. under-alike Alike same-key xs ys key found)
      (keys xs) c
      ∙ ap (λ ks. R (serially n object c (map (λ key. (key, under ys key)) ks)))
      (keys-alike Alike same-key [] xs ys found)
      ∙ ap (λ (g : Engine S N). R (serially n object c (groups (found_in g object us))))
      (mixed-is e f (one c))

pub alike-change-the-same : {S N X : Type 0} → AlikeChangeTheSame S N X
alike-change-the-same m n one object c sets others a = mutate-alike m n one object c sets others a
