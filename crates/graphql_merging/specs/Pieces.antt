-- Selection sets as a document writes them, by numbers: a fragment's once.
use Rattle.std.specs.Prelude.{◌≡◌, ℕ, Bool, ◌||◌, List}
use Rattle.std.specs.List.{Contains}
use Rattle.graphql_schema.specs.declared.meta.MetaType.{MetaType}
use Rattle.graphql_merging.specs.Members.{Member, members_below}
use Rattle.graphql_merging.specs.Merging.{Agree, Together, apart}

-- a field where it is written, its fragments written out, and the number of its own set
pub record PieceField (S C : Type 0) : Type 0 where
  pub member : Member S C
  pub own : ℕ

-- a piece: a selection set as it is written, by its number
pub record Pieces (S C : Type 0) : Type 0 where
  -- the fields that stand directly in a piece
  pub direct : ℕ → List (PieceField S C)
  -- the pieces of the fragments that stand directly in it, spread or inline
  pub inner : ℕ → List ℕ

module _ {S C : Type 0} (t : Pieces S C) where
  -- a field stands in a piece, or in a fragment in it
  pub data StandsIn : ℕ → PieceField S C → Type 0 where
    directly : (p : ℕ) (f : PieceField S C) → Contains (t.direct p) f → StandsIn p f
    in_fragment : (p q : ℕ) (f : PieceField S C) → Contains (t.inner p) q → StandsIn q f
        → StandsIn p f

  -- the fields of the piece are those of the set
  pub record IsPieceOf (p : ℕ) (ms : List (Member S C)) : Type 0 where
    pub has : (m : Member S C) → Contains ms m
        → (f : PieceField S C)
        × StandsIn p f
        × (f.member ≡ m)
    pub only : (f : PieceField S C) → StandsIn p f → Contains ms f.member

  module _ (eq : S → S → Bool) (types : List (MetaType S C)) where
    -- each field's own set is the piece of that number
    abbrev pub HasOwnPieces : Type 0
    HasOwnPieces = (p : ℕ) (f : PieceField S C) → Contains (t.direct p) f
        → IsPieceOf f.own (members_below types f.member)

    -- nothing is left to compare: with two pieces are begun the fragments in them, and the own
    -- pieces of each two fields of one key, which agree
    pub record IsSettled (Begun : ℕ → ℕ → Bool → Type 0) : Type 0 where
      pub left : (p q r : ℕ) (x : Bool) → Begun p q x → Contains (t.inner p) r → Begun r q x
      pub right : (p q r : ℕ) (x : Bool) → Begun p q x → Contains (t.inner q) r → Begun p r x
      pub fields : (p q : ℕ) (f g : PieceField S C) (x : Bool) → Begun p q x
          → Contains (t.direct p) f → Contains (t.direct q) g
          → f.member.head.key ≡ g.member.head.key
          → Agree eq types x f.member g.member × Begun f.own g.own (x || apart f.member g.member)

    -- fields of one key in the two pieces stand together in the set
    abbrev pub Meets : List (Member S C) → ℕ → ℕ → Bool → Type 0
    Meets ms p q x = (f g : PieceField S C) → StandsIn p f → StandsIn q g
        → f.member.head.key ≡ g.member.head.key → Together eq types ms x f.member g.member
