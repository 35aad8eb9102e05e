-- One turn of a loop that puts texts under their keys: what was put, and then what is left, is what the whole gives.
use Rattle.std.proofs.Common.{◌≡◌, ℕ, ◌+◌, ◌<◌, ◌≤◌, List, [], ◌∷◌, drop, length, get_or, map, sym, ap, ◌∙◌}
use Rattle.std.specs.Borrow.{Bor}
use Rattle.std.proofs.lemmas.List.{at_drop_more, drop_all, get_or_default}
use Rattle.graphql_names.specs.Names.{Bytes}
use Rattle.graphql_scalars.specs.declared.default_scalar.DefaultScalarValue.{DefaultScalarValue}
use Rattle.graphql_output_values.specs.Objects.{Pair, with_field, with_fields}
use Rattle.graphql_output_values.specs.declared.value.Value.{Value}
use Rattle.graphql_resolvers.specs.Refusals.{text_pair}
use Rattle.graphql_resolvers.specs.Answers.{pair_of}

abbrev pub Lent : Type 0
Lent = Bor Bytes × Bor Bytes

abbrev pub Fields : Type 0
Fields = List (Pair (Value DefaultScalarValue))

-- the fields once each of the pairs is put
abbrev pub put : Fields → List Lent → Fields
put fields pairs = with_fields fields (map text_pair (map (λ p. (p.0.now, p.1.now)) pairs))

pub put_turn : (pairs : List Lent) (i : ℕ) (d : Lent) (fields new : Fields) → i < length pairs
    → put [] pairs ≡ put fields (drop i pairs) → new ≡ with_field fields (pair_of (get_or pairs i d)).0 (pair_of (get_or pairs i d)).1 → put [] pairs ≡ put new (drop (i + 1) pairs)
put_turn pairs i d fields new inside so_far is =
    let this = get_or pairs i d in
    so_far ∙ at_drop_more (λ xs. put fields xs) pairs i this inside
    ∙ ap (λ (x : Lent). put fields (x ∷ drop (i + 1) pairs)) (get_or_default pairs i this d inside)
    ∙ ap (λ fs. put fs (drop (i + 1) pairs)) (sym is)

pub put_whole : (pairs : List Lent) (i : ℕ) (fields : Fields) → length pairs ≤ i → put [] pairs ≡ put fields (drop i pairs) → fields ≡ put [] pairs
put_whole pairs i fields whole so_far = sym (so_far ∙ ap (λ xs. put fields xs) (drop_all i pairs whole))
