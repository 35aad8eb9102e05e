-- What was told while a service was made.
use Rattle.std.proofs.Common.{◌≡◌, Bool, false, IsTrue}

-- it was told, and was told not to be
pub untrue : (b : Bool) → IsTrue b → b ≡ false → ⊥
untrue b told not = absurd (cc)
