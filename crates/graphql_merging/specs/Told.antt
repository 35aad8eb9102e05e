-- Which pairs of fields a list of errors tells.
use Rattle.std.specs.Prelude.{◌≡◌, ltb, Bool, false, ◌||◌, List, [], ◌∷◌, ◌++◌, map, Option, Some}
use Rattle.std.specs.Prelude.{None, if◌then◌else◌}
use Rattle.graphql_text.specs.declared.position.SourcePosition.{SourcePosition}
use Rattle.graphql_names.specs.Names.{Bytes}
use Rattle.graphql_schema.specs.declared.meta.MetaType.{MetaType}
use Rattle.graphql_tree.specs.Arguments.{Argument}
use Rattle.graphql_rule_errors.specs.Places.{Places}
use Rattle.graphql_merging.specs.declared.difference.Difference.{Difference}
use Rattle.graphql_merging.specs.declared.difference.Difference.TheVariants as difference
use Rattle.graphql_merging.specs.Members.{Member, declared}
use Rattle.graphql_merging.specs.Merging.{SameArguments, SameShapes, Agree, apart}

-- two places, in the order of the text
abbrev pub in_order : SourcePosition → SourcePosition → List SourcePosition
in_order p q = if ltb q.index p.index then q ∷ p ∷ [] else p ∷ q ∷ []

module _ {S C : Type 0} where
  -- an error names two fields: it names where they begin, in the order of the text
  abbrev pub Names : List SourcePosition → Member S C → Member S C → Type 0
  Names e a b = e ≡ in_order a.head.place b.head.place

  -- each with each that stands later
  abbrev pub later_pairs : List (Member S C) → List (Member S C × Member S C)
  later_pairs [] = []
  later_pairs (x ∷ xs) = map (λ y. (x, y)) xs ++ later_pairs xs

  -- the errors are those of the pairs that do not fit, one by one and in order
  pub data Tells (Fits : Member S C → Member S C → Type 0) : List (Member S C × Member S C) → Places
      → Type 0 where
    nothing : Tells Fits [] []
    fitting : (a b : Member S C) (ps : List (Member S C × Member S C)) (es : Places) → Fits a b
        → Tells Fits ps es → Tells Fits ((a, b) ∷ ps) es
    conflict : (a b : Member S C) (e : List SourcePosition) (ps : List (Member S C × Member S C))
        (es : Places) → (Fits a b → ⊥) → Names e a b → Tells Fits ps es
        → Tells Fits ((a, b) ∷ ps) (e ∷ es)

  -- the errors of these pairs are added to what was told
  abbrev pub AddsErrors : (Member S C → Member S C → Type 0) → List (Member S C × Member S C)
      → Places → Places → Type 0
  AddsErrors Fits pairs old new = (es : Places) × (new ≡ old ++ es) × Tells Fits pairs es

module _ {S C : Type 0} (eq : S → S → Bool) (types : List (MetaType S C)) where
  -- two fields whose names, arguments and shapes are alike, or that have two response keys
  abbrev pub AgreeIfOneKey : Bool → Member S C → Member S C → Type 0
  AgreeIfOneKey x a b = a.head.key ≡ b.head.key → Agree eq types x a b

  -- what two fields do not have alike, the first of it: names, arguments, shapes
  abbrev pub Differs : Bool → Member S C → Member S C → Option Difference → Type 0
  Differs x a b None = Agree eq types x a b
  Differs x a b (Some difference.Names) =
      ((x || apart a b) ≡ false) × (a.head.name ≡ b.head.name → ⊥)
  Differs x a b (Some difference.Arguments) = ((x || apart a b) ≡ false)
      × (a.head.name ≡ b.head.name)
      × (SameArguments eq a.head.arguments b.head.arguments → ⊥)
  Differs x a b (Some difference.Types) = SameShapes types (declared a) (declared b) → ⊥

-- the same of names and arguments as they are written; names first
abbrev pub DiffersAsWritten : {S : Type 0} → (S → S → Bool) → Bool → Bytes → Bytes
    → List (Argument S) → List (Argument S) → Option Difference → Type 0
DiffersAsWritten eq excused m n xs ys None = excused ≡ false → (m ≡ n) × SameArguments eq xs ys
DiffersAsWritten eq excused m n xs ys (Some difference.Names) = (excused ≡ false) × (m ≡ n → ⊥)
DiffersAsWritten eq excused m n xs ys (Some difference.Arguments) =
    (excused ≡ false) × (m ≡ n) × (SameArguments eq xs ys → ⊥)
DiffersAsWritten eq excused m n xs ys (Some difference.Types) = ⊥
