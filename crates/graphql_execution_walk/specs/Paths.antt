-- Paths (GraphQL October 2021, 7.1.2 Errors).
use Rattle.std.specs.Prelude.{◌-◌, List, length, take}

-- all but the last
abbrev pub up : {A : Type 0} → List A → List A
up xs = take (length xs - 1) xs
