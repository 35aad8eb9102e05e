-- Selection sets that are alike, selection by selection
-- (GraphQL October 2021, 2.4 Selection Sets, 6.3.2 Field Collection).
use Rattle.std.specs.Prelude.{◌≡◌, List, [], ◌∷◌}
use Rattle.graphql_names.specs.Names.{Bytes}
use Rattle.graphql_written_out.specs.Trees.{Directives, Head, Tree, none, field, inline}
use Rattle.graphql_semantics.specs.Engines.{Engine}

-- by which fields are alike, their sets aside, and which directives are
module _ {S : Type 0} (Heads : Head S → Head S → Type 0)
    (Marks : Directives S → Directives S → Type 0) where
  abbrev pub TreesAlike : Tree S → Tree S → Type 0
  TreesAlike none none = Unit {0}
  TreesAlike (field head directives below rest) (field other marks inner more) =
      Heads head other × Marks directives marks × TreesAlike below inner × TreesAlike rest more
  TreesAlike (inline on directives below rest) (inline at marks inner more) =
      (on ≡ at) × Marks directives marks × TreesAlike below inner × TreesAlike rest more
  TreesAlike _ _ = ⊥

-- lists of one length, item by item
abbrev pub EachAlike : {A B : Type 0} → (A → B → Type 0) → List A → List B → Type 0
EachAlike Alike [] [] = Unit {0}
EachAlike Alike (x ∷ xs) (y ∷ ys) = Alike x y × EachAlike Alike xs ys
EachAlike Alike _ _ = ⊥

module _ {S N : Type 0} (e f : Engine S N) where
  -- engines that differ at most in what is left out, in argument values and in answers
  pub record AreOverOneSchema : Type 0 where
    pub is_below : e.is_below ≡ f.is_below
    pub declared : e.declared ≡ f.declared
    pub is_leaf : e.is_leaf ≡ f.is_leaf
    pub is_possible : e.is_possible ≡ f.is_possible
    pub concrete : e.concrete ≡ f.concrete

  -- fields of one key and one name, for which each node answers the same
  pub record AreAnsweredAlike (head other : Head S) : Type 0 where
    pub key : head.key ≡ other.key
    pub name : head.name ≡ other.name
    pub answers : (node : N) (object : Bytes)
        → e.answer node object head.name (e.arguments object head)
        ≡ f.answer node object other.name (f.arguments object other)

  -- directives that leave out in both, or in neither
  abbrev pub LeaveOutAlike : Directives S → Directives S → Type 0
  LeaveOutAlike directives marks = e.drops directives ≡ f.drops marks

  -- sets whose fields are answered alike, and of which the same is left out
  abbrev pub SetsAlike : List (Tree S) → List (Tree S) → Type 0
  SetsAlike = EachAlike (TreesAlike AreAnsweredAlike LeaveOutAlike)
