-- What rules say of the parts of a document, and lists of visitors.
use Rattle.std.specs.Prelude.{◌≡◌, List, [], ◌∷◌, ◌++◌}
use Rattle.std.specs.List.{flat_map}
use Rattle.graphql_occurrences.specs.Nodes.{Seen}
use Rattle.graphql_occurrences.specs.Parts.{Part}
use Rattle.graphql_occurrences.specs.PartsOf.{parts_of}
use Rattle.graphql_rule_errors.specs.Places.{Places}
use Rattle.graphql_visitors.specs.Runs.{VisitorStep}
use Rattle.graphql_visitors.specs.Subjects.{Subject}
use Rattle.graphql_visitors.specs.declared.multi.MultiVisitorCons.{MultiVisitorCons}
use Rattle.graphql_visitors.specs.declared.multi.MultiVisitorNil.{MultiVisitorNil}

-- the places of the errors at a part of what is validated
abbrev pub Rule : Type 0 → Type 0 → Type 0
Rule S C = Subject S C → Part S C → Places

-- places that may be told at a part, since something that is asked has leave to answer so or so
abbrev pub Relation : Type 0 → Type 0 → Type 1
Relation S C = Subject S C → Part S C → Places → Type 0

module _ {X : Type 0} (Says : X → Places → Type 0) where
  -- each of these may be told of so, one after the other
  abbrev pub Tell : List X → Places → Type 0
  Tell [] told = told ≡ []
  Tell (x ∷ xs) told =
      (first : Places) × (rest : Places) × (told ≡ first ++ rest) × Says x first × Tell xs rest

module _ {S C : Type 0} where
  -- what a rule says of an event
  abbrev pub told_at : Rule S C → Subject S C → Seen S C → Places
  told_at rule subject e = flat_map (rule subject) (parts_of e)

  abbrev pub TellAt : Relation S C → Subject S C → Seen S C → Places → Type 0
  TellAt Says subject e = Tell (Says subject) (parts_of e)

  -- a rule that looks at one part at a time
  abbrev pub local : {V : Type 0} → Rule S C → VisitorStep V S C
  local rule subject v e w told = (w ≡ v) × (told ≡ told_at rule subject e)

  -- the same by what a relation says of each part
  abbrev pub locally : {V : Type 0} → Relation S C → VisitorStep V S C
  locally Says subject v e w told = (w ≡ v) × TellAt Says subject e told

  -- no visitor
  abbrev pub silent : VisitorStep MultiVisitorNil S C
  silent subject v e w told = (w ≡ v) × (told ≡ [])

  -- two visitors: at each event what the first tells comes before what the second does
  abbrev pub both_steps : {A B : Type 0} → VisitorStep A S C → VisitorStep B S C
      → VisitorStep (MultiVisitorCons A B) S C
  both_steps one other subject v e w told =
      (first : Places)
      × (second : Places)
      × (told ≡ first ++ second)
      × one subject v.first e w.first first
      × other subject v.second e w.second second
