-- What reading a selection set adds to a table, and to the sets that have numbers.
use Rattle.std.specs.Prelude.{◌≡◌, ℕ, ◌+◌, ◌≤◌, List, [], ◌∷◌, ◌++◌, length, map}
use Rattle.std.specs.List.{AllZip, sum_by}
use Rattle.std.specs.Option.{option_copied}
use Rattle.graphql_tree.specs.declared.document.Definition.{Definition}
use Rattle.graphql_schema.specs.Declarations.{Declarations}
use Rattle.graphql_merging.specs.FieldNodes.{set_nodes}
use Rattle.graphql_merging.specs.declared.table.WrittenSet.{WrittenSet}
use Rattle.graphql_set_table.specs.SetsAt.{SetAt, FieldAt}
use Rattle.graphql_set_table.specs.Numbered.{IsNumberOf, IsFieldOf, IsSetOf}
use Rattle.graphql_set_table.specs.declared.open_set.OpenSet.{OpenSet}

module _ {S C : Type 0} where
  abbrev pub set_at : OpenSet S C → SetAt S C
  set_at set = record { scope = option_copied set.scope; selections = set.selections.now }

  -- the sets that have numbers
  abbrev pub sets_at : List (OpenSet S C) → List (SetAt S C)
  sets_at = map set_at

-- the one list begins with the other
abbrev pub Extends : {A : Type 0} → List A → List A → Type 0
Extends old new = (more : List _) × (new ≡ old ++ more)

-- items are added that are, one by one, as these say
abbrev pub AddsItems : {A B : Type 0} → (A → B → Type 0) → List A → List A → List B → Type 0
AddsItems R old new said = (more : List _) × (new ≡ old ++ more) × AllZip R more said

-- how many fields are written in these sets, however deep
unfoldable pub nodes_in : {S C : Type 0} → List (SetAt S C) → ℕ
nodes_in = sum_by (λ set. set_nodes set.selections)

-- a set takes up these fields and these sets of fragments, for which more sets have numbers
pub record ReadsSet {S C : Type 0} (schema : Declarations S C) (all_old all_new : List (SetAt S C))
    (old new : WrittenSet S C) (fields : List (FieldAt S C))
    (inner : List (SetAt S C)) : Type 0 where
  pub numbered : Extends all_old all_new
  pub of_fields : AddsItems (IsFieldOf all_new schema) old.fields new.fields fields
  pub of_inner : AddsItems (IsNumberOf all_new) old.inner new.inner inner

-- of so many fields none is taken up twice: they go into the set, or are in sets that have numbers
-- from then on
abbrev pub ReadsOnce : {S C : Type 0} → List (SetAt S C) → List (SetAt S C) → WrittenSet S C
    → WrittenSet S C → ℕ
    → Type 0
ReadsOnce all_old all_new old new nodes =
    length new.fields + nodes_in all_new ≤ length old.fields + nodes_in all_old + nodes

-- a table takes up one more set
-- `most`: how many fields are written in it and in the sets that had numbers before, however deep
pub record AddsSet {S C : Type 0} (schema : Declarations S C) (document : List (Definition S))
    (all : List (SetAt S C))
    (old new : List (WrittenSet S C)) (set : SetAt S C) (most : ℕ) : Type 0 where
  pub written : WrittenSet S C
  pub grown : new ≡ old ++ written ∷ []
  pub read : IsSetOf all schema document written set
  pub once : length written.fields + nodes_in all ≤ most
