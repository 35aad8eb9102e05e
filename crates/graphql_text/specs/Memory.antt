-- Words for what a call answers, want of memory aside: an error that is want of memory tells
-- nothing. Of a word's arguments the result comes behind what reads it, and what is wanted last.
--     Gives       memory is the only error: the value is the wanted one
--     GivesBy     the same, of what a view shows of the value
--     Meets       errors of its own: the value or the error is the wanted one
--     MeetsBy     the same, of what a view shows of the value
--     Answers     errors of its own: the value means what it should, or the error is due
--     Told        an error of its own says that a fact does not hold, and a value that it does
--     ◌>>=◌       a step, and then one that needs its value; the first error stays
use Rattle.std.specs.Prelude.{◌≡◌, Result, Ok, Err, IfOk}
use Rattle.std.specs.declared.alloc.AllocError.{AllocError}

-- the value, if there is one, is the wanted one
abbrev pub Gives : {A : Type 0} → Result A AllocError → A → Type 0
Gives result wanted = IfOk result (λ x. x ≡ wanted)

-- what the view shows of the value, if there is one, is what is wanted
abbrev pub GivesBy : {A B : Type 0} → (A → B) → Result A AllocError → B → Type 0
GivesBy view result wanted = IfOk result (λ x. view x ≡ wanted)

-- a fact that want of memory does not tell
abbrev pub UnlessMemory : {E : Type 0} → (E → Type 0) → E → Type 0 → Type 0
UnlessMemory is_memory e P = ¬ (is_memory e) → P

-- what the view shows of the value, or the error, is what is wanted
abbrev pub MeetsBy : {A B E : Type 0} → (A → B) → (E → Type 0) → Result A E → Result B E → Type 0
MeetsBy view is_memory (Ok x) wanted = wanted ≡ Ok (view x)
MeetsBy view is_memory (Err e) wanted = UnlessMemory is_memory e (wanted ≡ Err e)

-- the value, or the error, is the wanted one
abbrev pub Meets : {A E : Type 0} → (E → Type 0) → Result A E → Result A E → Type 0
Meets is_memory result wanted = MeetsBy (λ x. x) is_memory result wanted

-- the value has the one property, or the error the other
abbrev pub Answers : {A E : Type 0} → (A → Type 0) → (E → Type 0) → (E → Type 0) → Result A E
    → Type 0
Answers means refuses is_memory (Ok x) = means x
Answers means refuses is_memory (Err e) = UnlessMemory is_memory e (refuses e)

-- a value tells the fact, and an error that it does not hold
abbrev pub Told : {A E : Type 0} → (E → Type 0) → Result A E → Type 0 → Type 0
Told is_memory (Ok x) Fact = Fact
Told is_memory (Err e) Fact = UnlessMemory is_memory e (Fact → ⊥)

infixl 10 ◌>>=◌
abbrev pub ◌>>=◌ : {A B E : Type 0} → Result A E → (A → Result B E) → Result B E
(Ok x) >>= next = next x
(Err e) >>= next = Err e
