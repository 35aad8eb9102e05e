-- What visitors do over the events of a document.
use Rattle.std.specs.Prelude.{◌≡◌, false, List, [], ◌∷◌}
use Rattle.std.specs.List.{flat_map}
use Rattle.graphql_occurrences.specs.Nodes.{Seen}
use Rattle.graphql_occurrences.specs.declared.event.Event.{Event}
use Rattle.graphql_rule_errors.specs.Places.{Places}
use Rattle.graphql_visitors.specs.Reports.{Reported, ReportsBy}
use Rattle.graphql_visitors.specs.Subjects.{Subject, subject_of, seen_in}
use Rattle.graphql_visitors.specs.declared.context.ValidatorContext.{ValidatorContext}

-- at an event of what is validated, a visitor may become this one and report errors at these places
abbrev pub VisitorStep : Type 0 → Type 0 → Type 0 → Type 1
VisitorStep V S C = Subject S C → V → Seen S C → V → Places → Type 0

-- what is told at each of some events, one after the other
abbrev pub joined : List Places → Places
joined = flat_map (λ told. told)

module _ {V S C : Type 0} (step : VisitorStep V S C) (subject : Subject S C) where
  -- over these events, the visitor v may become w and report errors at these places, event by event
  abbrev pub Runs : V → List (Seen S C) → V → List Places → Type 0
  Runs v [] w [] = w ≡ v
  Runs v [] w (t ∷ ts) = ⊥
  Runs v (e ∷ es) w [] = ⊥
  Runs v (e ∷ es) w (t ∷ ts) = (u : V) × step subject v e u t × Runs u es w ts

module _ {V S C : Type 0} (step : VisitorStep V S C) where
  -- an event: the visitor v became w, and what it reports came behind the other errors, unless
  -- memory ran out
  abbrev pub Did : Event S → V → V → ValidatorContext S C → ValidatorContext S C → Type 0
  Did e v w c d = ReportsBy (step (subject_of c) v (seen_in c e) w) c d

  pub record HasRun (es : List (Seen S C)) (v w : V) (c d : ValidatorContext S C) : Type 0 where
    pub told : List Places
    pub runs : Runs step (subject_of c) v es w told
    pub reported : Reported (joined told) c d

  -- the same, of events one after the other; the context may stand elsewhere then
  pub record Visited (es : List (Seen S C)) (v w : V) (c d : ValidatorContext S C) : Type 0 where
    pub as_before : d ≡ record c { around = d.around; errors = d.errors; failed = d.failed }
    pub ran : d.failed ≡ false → HasRun es v w c d
