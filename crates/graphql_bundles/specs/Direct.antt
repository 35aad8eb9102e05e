-- Fields that stand directly in one set, compared by classes.
use Rattle.std.specs.Prelude.{◌≡◌, ℕ, ◌<◌, Bool, false, List, [], ◌∷◌, ◌++◌, map, ◌⊎◌}
use Rattle.std.specs.List.{Any, Contains}
use Rattle.graphql_text.specs.declared.position.SourcePosition.{SourcePosition}
use Rattle.graphql_schema.specs.declared.meta.MetaType.{MetaType}
use Rattle.graphql_rule_errors.specs.Places.{Places}
use Rattle.graphql_tree.specs.declared.document.Fragment.{Fragment}
use Rattle.graphql_merging.specs.Members.{Member}
use Rattle.graphql_merging.specs.Merging.{Agree}
use Rattle.graphql_merging.specs.Pieces.{Pieces, PieceField}
use Rattle.graphql_merging.specs.Selected.{member_of}
use Rattle.graphql_merging.specs.Told.{Names, AddsErrors, later_pairs}
use Rattle.graphql_merging.specs.declared.table.WrittenField.{WrittenField}
use Rattle.graphql_bundles.specs.declared.direct.Split.{Split}

module _ {S C : Type 0} (t : Pieces S C) (definitions : ℕ) where
  -- a set is come to from those of the definitions, by the fragments in sets and the own sets of
  -- fields in them
  pub data IsVisited : ℕ → Type 0 where
    by_definition : (k : ℕ) → k < definitions → IsVisited k
    by_fragment : (p q : ℕ) → IsVisited p → Contains (t.inner p) q → IsVisited q
    by_field : (p : ℕ) (f : PieceField S C) → IsVisited p → Contains (t.direct p) f
        → IsVisited f.own

  -- `first`: those whose fragments and fields are looked at; `all`: those that are come to on the
  -- way
  pub record IsWalked (first all : List ℕ) : Type 0 where
    pub begun : (k : ℕ) → k < definitions → Contains all k
    pub inner : (p r : ℕ) → Contains first p → Contains (t.inner p) r → Contains all r
    pub own : (p : ℕ) (f : PieceField S C) → Contains first p → Contains (t.direct p) f
        → Contains all f.own
    pub visited : (p : ℕ) → Contains all p → IsVisited p

module _ {S C : Type 0} (fragments : List (Fragment S)) where
  -- the fields, their fragments written out
  abbrev pub all_seen : List (WrittenField S C) → List (Member S C)
  all_seen fields = map (λ f. member_of fragments f.selected) fields

module _ {S C : Type 0} (eq : S → S → Bool) (types : List (MetaType S C)) where
  -- two fields agree, or both agree with a third of these
  abbrev pub AgreeThrough : List (Member S C) → Member S C → Member S C → Type 0
  AgreeThrough ms a b =
      Agree eq types false a b
      ⊎ ((h : Member S C) × Contains ms h × Agree eq types false h a × Agree eq types false h b)

  -- an error of two of these fields, of one response key, which do not agree
  abbrev pub IsDirectFound : List (Member S C) → List SourcePosition → Type 0
  IsDirectFound ms e =
      (a : Member S C) × (b : Member S C) × Contains ms a × Contains ms b
      × (a.head.key ≡ b.head.key) × (Agree eq types false a b → ⊥) × Names e a b

  -- of each two of these fields, of one response key: they are alike, or are named
  abbrev pub AreDirectTold : List (Member S C) → Places → Type 0
  AreDirectTold ms told =
      (a b : Member S C) → Contains (later_pairs ms) (a, b) → a.head.key ≡ b.head.key
      → AgreeThrough ms a b ⊎ Any (λ e. Names e a b) told

  -- errors of these fields are told, and they are all told
  pub record TellsDirect (ms : List (Member S C)) (old new : Places) : Type 0 where
    pub errors : Places
    pub told : new ≡ old ++ errors
    pub found : (e : List SourcePosition) → Contains errors e → IsDirectFound ms e
    pub all : AreDirectTold ms new

  -- the same of the fields that stand directly in each of these sets
  pub record TellsDirects (t : Pieces S C) (sets : List ℕ) (old new : Places) : Type 0 where
    pub errors : Places
    pub told : new ≡ old ++ errors
    pub found : (e : List SourcePosition) → Contains errors e
        → (p : ℕ) × Contains sets p × IsDirectFound (map (λ f. f.member) (t.direct p)) e
    pub all : (p : ℕ) → Contains sets p → AreDirectTold (map (λ f. f.member) (t.direct p)) new

  module _ (fragments : List (Fragment S)) where
    -- a field is compared with fields that were taken up before it
    abbrev pub ComparesBefore : List (WrittenField S C) → WrittenField S C → Places → Places
        → Type 0
    ComparesBefore earlier f =
        AddsErrors (Agree eq types false)
        (map (λ a. (member_of fragments f.selected, member_of fragments a.selected)) earlier)

    -- a field that agrees with the head is put to those that do, and else to the others; it is
    -- compared with those of the other kind
    abbrev pub SortsOut : WrittenField S C → WrittenField S C → Split S C → Split S C → Places
        → Places → Type 0
    SortsOut head f old new told more =
        (Agree eq types false (member_of fragments head.selected) (member_of fragments f.selected)
        × (new.alike ≡ old.alike ++ f ∷ []) × (new.others ≡ old.others)
        × ComparesBefore old.others f told more)
        ⊎ ((new.alike ≡ old.alike) × (new.others ≡ old.others ++ f ∷ [])
        × ComparesBefore old.alike f told more)

    -- fields of one response key, the last of them first: two of them are alike or named, or both
    -- are among the rest
    pub record DirectParts (fields rest : List (WrittenField S C)) (old new : Places) : Type 0 where
      pub among : (f : WrittenField S C) → Contains rest f → Contains fields f
      pub errors : Places
      pub told : new ≡ old ++ errors
      pub found : (e : List SourcePosition) → Contains errors e
          → (f : WrittenField S C) × (g : WrittenField S C) × Contains fields f × Contains fields g
          × (Agree eq types false (member_of fragments f.selected) (member_of fragments g.selected)
          → ⊥)
          × Names e (member_of fragments f.selected) (member_of fragments g.selected)
      pub pairs : (a b : Member S C) → Contains (later_pairs (all_seen fragments fields)) (a, b)
          → AgreeThrough (all_seen fragments fields) a b
          ⊎ (Any (λ e. Names e b a) new ⊎ Contains (later_pairs (all_seen fragments rest)) (a, b))
