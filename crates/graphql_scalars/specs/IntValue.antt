-- What the source text of an integer stands for (GraphQL October 2021, 2.9.1 Int Value, 3.5.1 Int).
use Rattle.std.specs.Prelude.{ℕ, ℤ, pos, neg_ℤ, nat_le, ◌&&◌, ◌==◌, if◌then◌else◌, Option, Some}
use Rattle.std.specs.Prelude.{None, List, [], ◌∷◌}
use Rattle.std.specs.Option.{option_map}
use Rattle.std.specs.Str.{all_ascii_digits}
use Rattle.std.specs.Str.Parse.{digits_value}

-- the number that one decimal digit or more write, if it is no more than most
abbrev pub natural_up_to : ℕ → List ℕ → Option ℕ
natural_up_to most [] = None
natural_up_to most (d ∷ ds) =
    if all_ascii_digits (d ∷ ds)
    && nat_le (digits_value 10 (d ∷ ds)) most
    then Some (digits_value 10 (d ∷ ds)) else None

-- the number that a minus or none and decimal digits write, if it is one of 32 bits
unfoldable pub int_value : List ℕ → Option ℤ
int_value [] = None
int_value (c ∷ cs) =
    if c == 45 then option_map (λ n. neg_ℤ (pos n)) (natural_up_to 2147483648 cs)
    else option_map pos (natural_up_to 2147483647 (c ∷ cs))
