-- Any depth that suffices gives the same.
use Rattle.std.proofs.Common.{◌≡◌, refl, ℕ, ◌≤◌, arith, List, [], ◌∷◌, ◌++◌}
use Rattle.std.proofs.lemmas.Option.{same_Some}
use Rattle.graphql_names.specs.Names.{Bytes}
use Rattle.graphql_output_values.specs.Objects.{Pair}
use Rattle.graphql_output_values.specs.declared.value.Value.{Value}
use Rattle.graphql_written_out.specs.Trees.{Tree}
use Rattle.graphql_written_out.specs.Fields.{Found}
use Rattle.graphql_semantics.specs.Engines.{Engine}
use Rattle.graphql_semantics.specs.Outcomes.{Outcome, outcome_map, together}
use Rattle.graphql_semantics.specs.Completion.{Members}
use Rattle.graphql_semantics.specs.Evaluation.{RunOfSets, field_outcome, evaluate, highest, keyed, run, sets_below}
use Rattle.graphql_semantics.proofs.RepeatLemmas.{first}
use Rattle.graphql_semantics.proofs.Walks.{Walk, same-run}

module _ {S N : Type 0} (e : Engine S N) where
  pub keyed-depends : (r s : RunOfSets S N) (path : List Bytes) (object : Bytes) (node : N) (key : Bytes) (xs ys : List (Found S)) → first xs ≡ first ys
      → ((p : List Bytes) (o : Bytes) (m : N) → r p o m (sets_below xs) ≡ s p o m (sets_below ys)) → keyed e r path object node (key, xs) ≡ keyed e s path object node (key, ys)
  keyed-depends r s path object node key [] [] f h = refl
  keyed-depends r s path object node key [] (y ∷ ys) f h = cc
  keyed-depends r s path object node key (x ∷ xs) [] f h = cc
  keyed-depends r s path object node key (x ∷ xs) (y ∷ ys) f h =
      let p : x ≡ y = same_Some x y f in
      λ i. outcome_map (λ v. (key, v)) (field_outcome e (λ m. h (path ++ key ∷ []) (e.concrete m) m i) (path ++ key ∷ []) object node (p i).head)

  -- the walk that gives outcomes
  abbrev pub outcomes : Walk e (List Bytes) (Outcome S (Members S)) (Outcome S (Pair (Value S)))
  outcomes = record {
    of_group = keyed e;
    combine = together;
    run = run e;
    starts = λ path object node sets. refl;
    steps = λ n path object node sets. refl;
    depends = keyed-depends;
  }

  pub evaluate-run : (n : ℕ) (path : List Bytes) (object : Bytes) (node : N) (ts : List (Tree S)) → highest ts ≤ n → run e n path object node ts ≡ evaluate e path object node ts
  evaluate-run n path object node ts h = same-run e outcomes n (highest ts) path object node ts h (omega arith)
