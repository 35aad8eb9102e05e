-- Integers of 32 bits (GraphQL October 2021, 3.5.1 Int).
use Rattle.std.specs.Prelude.{◌^◌, ℤ, pos, negsuc, nat_lt, Bool}

-- of 32 bits, the sign among them
abbrev pub has_32_bits : ℤ → Bool
has_32_bits (pos n) = nat_lt n (2 ^ 31)
has_32_bits (negsuc n) = nat_lt n (2 ^ 31)
