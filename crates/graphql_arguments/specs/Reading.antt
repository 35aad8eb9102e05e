-- What is read of an argument's value at a type.
use Rattle.std.specs.Prelude.{Option, Some, None, Result, Ok, Err, MatchOption}
use Rattle.graphql_text.specs.Memory.{Answers}

-- what the value means at the type, or why it means nothing; nothing of an absent one
abbrev pub ReadsGiven : {V A E : Type 0} → (V → A → Type 0) → (V → E → Type 0) → (E → Type 0)
    → Option V → Result (Option A) E → Type 0
ReadsGiven means refuses is_memory (Some v) result =
    Answers (λ o. MatchOption o (Unit {0} → ⊥) (means v)) (refuses v) is_memory result
ReadsGiven means refuses is_memory None (Ok o) = MatchOption o (Unit {0}) (λ _. ⊥)
ReadsGiven means refuses is_memory None (Err e) = ⊥
