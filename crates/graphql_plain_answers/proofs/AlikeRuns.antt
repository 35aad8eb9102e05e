-- Alike sets give the same.
use Rattle.std.proofs.Common.{◌≡◌, refl, ◌∙◌, ap, ℕ, zero, suc, List, [], ◌∷◌, ◌++◌, map, Option, Some, None, Result}
use Rattle.graphql_names.specs.Names.{Bytes}
use Rattle.graphql_schema.specs.Types.{TypeOf}
use Rattle.graphql_output_values.specs.Objects.{Pair}
use Rattle.graphql_output_values.specs.declared.value.Value.{Value}
use Rattle.graphql_written_out.specs.Trees.{Directives, Head, Tree}
use Rattle.graphql_written_out.specs.Fields.{Found}
use Rattle.graphql_written_out.specs.Groups.{keys, under, groups}
use Rattle.graphql_field_results.specs.declared.field_error.FieldError.{FieldError}
use Rattle.graphql_field_results.specs.declared.resolved.Resolved.{Resolved}
use Rattle.graphql_semantics.specs.Engines.{Engine}
use Rattle.graphql_semantics.specs.Outcomes.{Outcome, outcome_map}
use Rattle.graphql_semantics.specs.Completion.{Members, blame_at}
use Rattle.graphql_semantics.specs.Evaluation.{Group, RunOfSets, at_declared, evaluate, found_in, group, highest, keyed, run, sets_below}
use Rattle.graphql_plain_answers.specs.AlikeSets.{AreAnsweredAlike, AreOverOneSchema, LeaveOutAlike, SetsAlike}
use Rattle.graphql_plain_answers.specs.Laws.{AlikeGiveTheSame}
use Rattle.graphql_plain_answers.proofs.AlikeFields.{FoundAlike, Founds, below-alike, found-alike, highest-alike, keys-alike, under-alike}
use Rattle.graphql_plain_answers.proofs.AlikeOutcomes.{U, at-type-alike, together-alike}

module _ {S N : Type 0} (e f : Engine S N) where
  -- the one engine with what the other leaves out and answers
  abbrev pub mixed : Engine S N
  mixed = record e { drops = f.drops; arguments = f.arguments; answer = f.answer }

  abbrev Heads : Head S → Head S → Type 0
  Heads = AreAnsweredAlike e f

  abbrev Marks : Directives S → Directives S → Type 0
  Marks = LeaveOutAlike e f

  abbrev Fields : List (Found S) → List (Found S) → Type 0
  Fields = Founds Heads Marks

  abbrev pub RunAlike : RunOfSets S N → RunOfSets S N → Type 0
  RunAlike r s =
      (path : List Bytes) (object : Bytes) (node : N) (ts us : List (Tree S)) → SetsAlike e f ts us
      → U (r path object node ts) ≡ U (s path object node us)

  declared-alike : (run other : N → Outcome S (Members S)) → ((m : N) → U (run m) ≡ U (other m))
      → (path : List Bytes) (x y : Found S) (o : Option TypeOf)
      (a : Result (Resolved S N) (FieldError S))
      → U (at_declared e o run (blame_at path x.head.place) a)
      ≡ U (at_declared mixed o other (blame_at path y.head.place) a)
  declared-alike run other runs path x y None a = refl
  declared-alike run other runs path x y (Some type) a =
      at-type-alike run other runs (blame_at path x.head.place) (blame_at path y.head.place)
      (λ z. refl) e type a

  group-alike : (r s : RunOfSets S N) → RunAlike r s
      → (path : List Bytes) (object : Bytes) (node : N) (key : Bytes) (xs ys : List (Found S))
      → Fields xs ys
      → U (group e r path object node key xs) ≡ U (group mixed s path object node key ys)
  group-alike r s runs path object node key [] [] h = refl
  group-alike r s runs path object node key [] (y ∷ ys) h = absurd h
  group-alike r s runs path object node key (x ∷ xs) [] h = absurd h
  group-alike r s runs path object node key (x ∷ xs) (y ∷ ys) h =
      let at : List Bytes = path ++ key ∷ [] in
      let run : N → Outcome S (Members S) = λ m. r at (e.concrete m) m (sets_below (x ∷ xs)) in
      let other : N → Outcome S (Members S) = λ m. s at (e.concrete m) m (sets_below (y ∷ ys)) in
      let same : (m : N) → U (run m) ≡ U (other m) =
      λ m. runs at (e.concrete m) m (sets_below (x ∷ xs)) (sets_below (y ∷ ys))
      (below-alike Heads Marks (x ∷ xs) (y ∷ ys) h) in
      (λ i. U (at_declared e (e.declared object (h.0.0.name i)) run (blame_at at x.head.place)
      (h.0.0.answers node object i)))
      ∙ declared-alike run other same at x y (e.declared object y.head.name)
      (f.answer node object y.head.name (f.arguments object y.head))

  run-alike : (n : ℕ) → RunAlike (run e n) (run mixed n)
  run-alike zero path object node ts us h = refl
  run-alike (suc n) path object node ts us h =
      let xs : List (Found S) = found_in e object ts in
      let ys : List (Found S) = found_in mixed object us in
      let found : Fields xs ys =
      found-alike Heads Marks e.drops f.drops (λ ds es is. is) (e.is_below object) ts us h in
      let Alike : Found S → Found S → Type 0 = FoundAlike Heads Marks in
      let same-key : (x y : Found S) → Alike x y → x.head.key ≡ y.head.key = λ x y is. is.0.key in
      let over : Group S → Outcome S (Pair (Value S)) = keyed e (run e n) path object node in
      let also : Group S → Outcome S (Pair (Value S)) =
      keyed mixed (run mixed n) path object node in
      let one : (key : Bytes) → U (over (key, under xs key)) ≡ U (also (key, under ys key)) =
      λ key i. outcome_map (λ x. (key, x))
      (group-alike (run e n) (run mixed n) (run-alike n) path object node key
      (under xs key) (under ys key)
      (under-alike Alike same-key xs ys key found) i) in
      together-alike (map over (groups xs)) (map also (groups ys))
      (map-alike over also xs ys one (keys xs)
      ∙ ap (λ ks. map U (map also (map (λ key. (key, under ys key)) ks)))
      (keys-alike Alike same-key [] xs ys found))
    where
      map-alike : (over also : Group S → Outcome S (Pair (Value S))) (xs ys : List (Found S))
          → ((key : Bytes) → U (over (key, under xs key)) ≡ U (also (key, under ys key)))
          → (ks : List Bytes)
          → map U (map over (map (λ key. (key, under xs key)) ks))
          ≡ map U (map also (map (λ key. (key, under ys key)) ks))
      map-alike over also xs ys one [] = refl
      map-alike over also xs ys one (k ∷ ks) = λ i. one k i ∷ map-alike over also xs ys one ks i

  pub mixed-alike : RunAlike (evaluate e) (evaluate mixed)
  mixed-alike path object node ts us h =
      ap (λ n. U (run e n path object node ts)) (highest-alike Heads Marks ts us h)
      ∙ run-alike (highest us) path object node ts us h

  -- over one schema it is the other engine
  pub mixed-is : AreOverOneSchema e f → mixed ≡ f
  mixed-is one = λ i. record f {
    is_below = one.is_below i;
    declared = one.declared i;
    is_leaf = one.is_leaf i;
    is_possible = one.is_possible i;
    concrete = one.concrete i;
  }

pub alike-give-the-same : {S N : Type 0} → AlikeGiveTheSame S N
alike-give-the-same e f one path object node ts us h =
    mixed-alike e f path object node ts us h
    ∙ ap (λ g. U (evaluate g path object node us)) (mixed-is e f one)
