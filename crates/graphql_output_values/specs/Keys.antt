-- Keys of objects' fields, as texts.
use Rattle.std.specs.Prelude.{ℕ, List}
use Rattle.graphql_output_values.specs.declared.key.Held.{Held}
use Rattle.graphql_output_values.specs.declared.key.Held.TheVariants.{Few, Many}

-- the bytes of a key, wherever they stand
abbrev pub bytes_of : Held → List ℕ
bytes_of (Few few) = few.bytes
bytes_of (Many many) = many
