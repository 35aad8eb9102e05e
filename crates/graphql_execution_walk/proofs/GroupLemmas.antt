-- A group's answer is that of its first field.
use Rattle.std.proofs.Common.{◌≡◌, refl, List, [], ◌∷◌, ◌++◌, Some, None, slice_get}
use Rattle.graphql_names.specs.Names.{Bytes}
use Rattle.graphql_tree.specs.declared.document.Fragment.{Fragment}
use Rattle.graphql_written_out.specs.Written.{head_of}
use Rattle.graphql_collect.specs.Grouped.{Lent, all_found}
use Rattle.graphql_collected.specs.declared.collected_field.CollectedField.{CollectedField}
use Rattle.graphql_semantics.specs.Engines.{Engine}
use Rattle.graphql_semantics.specs.Evaluation.{RunOfSets, field_outcome, group, sets_below}
use Rattle.graphql_semantics.specs.Turns.{all_turns, turns_at_declared, turns_of_group}

pub nothing_first : {A : Type 0} (xs : List A) → None ≡ slice_get xs 0 → xs ≡ []
nothing_first [] p = refl
nothing_first (x ∷ xs) p = (let q : None ≡ Some x = p in cc)

pub head_first : {A : Type 0} (xs : List A) (x : A) → Some x ≡ slice_get xs 0 → (ys : List A) × (xs ≡ x ∷ ys)
head_first [] x p = (let q : Some x ≡ None = p in cc)
head_first (z ∷ zs) x p = (zs, (let q : Some x ≡ Some z = p in cc))

module _ {S N : Type 0} (fragments : List (Fragment S)) (e : Engine S N) (run : RunOfSets S N) (path : List Bytes) (object : Bytes) (node : N) (key : Bytes) (fields : Lent S) where
  pub group-is : (x : CollectedField S) → Some x ≡ slice_get fields 0
      → group e run path object node key (all_found fragments fields)
      ≡ field_outcome e (λ m. run (path ++ key ∷ []) (e.concrete m) m (sets_below (all_found fragments fields))) (path ++ key ∷ []) object node (head_of x.field.now)
  group-is x first = let parts = head_first fields x first in rw parts.1 refl

module _ {S N : Type 0} (fragments : List (Fragment S)) (e : Engine S N) (object : Bytes) (node : N) (fields : Lent S) where
  -- so are its turns
  pub group-turns : (x : CollectedField S) → Some x ≡ slice_get fields 0
      → turns_of_group e (all_turns e) object node (all_found fragments fields)
      ≡ turns_at_declared e (e.declared object (head_of x.field.now).name) (λ m. all_turns e (e.concrete m) m (sets_below (all_found fragments fields))) (e.answer node object (head_of x.field.now).name (e.arguments object (head_of x.field.now)))
  group-turns x first = let parts = head_first fields x first in rw parts.1 refl
