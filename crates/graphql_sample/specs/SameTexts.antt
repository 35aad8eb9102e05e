-- Arguments that are the same, wherever they stand, are the same texts, so a mutation answers them
-- alike and leaves the same.
use Rattle.std.specs.Prelude.{◌≡◌, refl, Bool, true, false, cond, List, [], ◌∷◌, map, Option, Some}
use Rattle.std.specs.Prelude.{None, Ok, codes, if◌then◌else◌}
use Rattle.std.specs.Cmp.Lexicographic.{bytes_decides}
use Rattle.std.specs.List.{filter, find}
use Rattle.std.specs.Option.{option_and_then, option_map_or}
use Rattle.std.specs.Str.{bytes_eq}
use Rattle.std.proofs.Common.{sym, ◌∙◌, ap, true≢false}
use Rattle.graphql_names.specs.Names.{Bytes}
use Rattle.graphql_scalars.specs.contracts.default_scalar.DefaultScalarValuePartialEq.TheImpl.{ghosts}
use Rattle.graphql_scalars.specs.declared.default_scalar.DefaultScalarValue.{DefaultScalarValue}
use Rattle.graphql_scalars.specs.declared.default_scalar.DefaultScalarValue.TheVariants as scalar
use Rattle.graphql_values.specs.InputValues.{Pair, Placed}
use Rattle.graphql_values.specs.SameValue.{SameItems, SameValue, more_items, no_items, same_null}
use Rattle.graphql_values.specs.SameValue.{same_scalar, same_enum, same_variable, same_list}
use Rattle.graphql_values.specs.SameValue.{same_object, values_named}
use Rattle.graphql_values.specs.declared.input_value.InputValue.{InputValue}
use Rattle.graphql_values.specs.declared.input_value.InputValue.TheVariants as value
use Rattle.graphql_arguments.specs.ArgumentValues.{Given, value_named}
use Rattle.graphql_arguments.specs.SameArguments.{SameArguments, SameGiven, SameInOrder}
use Rattle.graphql_arguments.proofs.SameOrders.{in-order-same}
use Rattle.graphql_field_results.specs.declared.resolved.Resolved.TheVariants as resolved
use Rattle.graphql_sample.specs.Sample.{Answer, answer, changes, field_layer, human_found, found_by}
use Rattle.graphql_sample.specs.Sample.{human_of, named_of, one_more, text_given, text_given_in}
use Rattle.graphql_sample.specs.Sample.{text_layer, text_of, text_of_scalar, text_within}
use Rattle.graphql_sample.specs.declared.records.SampleRecord.{SampleRecord}
use Rattle.graphql_sample.specs.declared.records.SampleRecords.{SampleRecords}
use Rattle.graphql_sample.specs.declared.resolver.SampleNode.{SampleNode}
use Rattle.graphql_sample.specs.declared.resolver.SampleNode.TheVariants as node

abbrev pub S : Type 0
S = DefaultScalarValue

pub same-scalar : (a b : S) → ghosts.eq a b ≡ true → text_of_scalar a ≡ text_of_scalar b
same-scalar (scalar.String a) (scalar.String b) h = ap Some ((bytes_decides a b).0 h)
same-scalar (scalar.String a) (scalar.Int b) h = absurd (true≢false (sym h))
same-scalar (scalar.String a) (scalar.Boolean b) h = absurd (true≢false (sym h))
same-scalar (scalar.Int a) (scalar.String b) h = absurd (true≢false (sym h))
same-scalar (scalar.Int a) (scalar.Int b) h = refl
same-scalar (scalar.Int a) (scalar.Boolean b) h = refl
same-scalar (scalar.Boolean a) (scalar.String b) h = absurd (true≢false (sym h))
same-scalar (scalar.Boolean a) (scalar.Int b) h = refl
same-scalar (scalar.Boolean a) (scalar.Boolean b) h = refl

pub same-text : (v w : InputValue S) → SameValue S ghosts.eq v w → text_of v ≡ text_of w
same-text v w same_null = refl
same-text v w (same_scalar a b h) =
    ap text_layer (value.outs-Scalar a) ∙ same-scalar a b h
    ∙ sym (ap text_layer (value.outs-Scalar b))
same-text v w (same_enum name) = refl
same-text v w (same_variable name) = refl
same-text v w (same_list xs ys h) =
    ap text_layer (value.outs-List xs) ∙ sym (ap text_layer (value.outs-List ys))
same-text v w (same_object ps qs h) =
    ap text_layer (value.outs-Object ps) ∙ sym (ap text_layer (value.outs-Object qs))

-- ---- the fields of an object

abbrev first-text : List (Placed (InputValue S)) → Option Bytes
first-text [] = None
first-text (x ∷ xs) = text_of x.item

same-first : (xs ys : List (Placed (InputValue S))) → SameItems S ghosts.eq xs ys
    → first-text xs ≡ first-text ys
same-first xs ys no_items = refl
same-first xs ys (more_items x y more others same rest) = same-text x.item y.item same

-- the first field of a name is the first of those of the name
first-named : (name : Bytes) (ps : List (Pair (InputValue S)))
    → option_and_then (λ p. text_of p.1.item) (find (λ p. bytes_eq p.0.item name) ps)
    ≡ first-text (values_named name ps)
first-named name [] = refl
first-named name (p ∷ ps) = either (bytes_eq p.0.item name) (first-named name ps)
  where
    either : (b : Bool)
        → option_and_then (λ q. text_of q.1.item) (find (λ q. bytes_eq q.0.item name) ps)
        ≡ first-text (values_named name ps)
        → option_and_then (λ q. text_of q.1.item)
        (cond b (Some p) (find (λ q. bytes_eq q.0.item name) ps))
        ≡ first-text (map (λ q. q.1) (cond b (p ∷ filter (λ q. bytes_eq q.0.item name) ps)
        (filter (λ q. bytes_eq q.0.item name) ps)))
    either true rest = refl
    either false rest = rest

same-within : (name : Bytes) (v w : InputValue S) → SameValue S ghosts.eq v w
    → text_within name v ≡ text_within name w
same-within name v w same_null = refl
same-within name v w (same_scalar a b h) =
    ap (field_layer name) (value.outs-Scalar a) ∙ sym (ap (field_layer name) (value.outs-Scalar b))
same-within name v w (same_enum n) = refl
same-within name v w (same_variable n) = refl
same-within name v w (same_list xs ys h) =
    ap (field_layer name) (value.outs-List xs) ∙ sym (ap (field_layer name) (value.outs-List ys))
same-within name v w (same_object ps qs h) =
    ap (field_layer name) (value.outs-Object ps) ∙ first-named name ps
    ∙ same-first (values_named name ps) (values_named name qs) (h name)
    ∙ sym (ap (field_layer name) (value.outs-Object qs) ∙ first-named name qs)

same-in : (name : Bytes) (u v : Option (InputValue S)) → SameGiven ghosts.eq u v
    → option_and_then (text_within name) u ≡ option_and_then (text_within name) v
same-in name None None h = refl
same-in name (Some v) (Some w) h = same-within name v w h
same-in name None (Some w) h = absurd h
same-in name (Some v) None h = absurd h

same-given-in : (a b : Given S) → SameArguments ghosts.eq a b → (argument name : Bytes)
    → text_given_in a argument name ≡ text_given_in b argument name
same-given-in a b h argument name =
    same-in name (value_named a argument) (value_named b argument) (h argument)

module _ (records : List SampleRecord) (a b : Given S) (same : SameArguments ghosts.eq a b) where
  found-alike : human_found records a ≡ human_found records b
  found-alike =
      ap (λ id. found_by records id (text_given_in a (codes "by") (codes "name")))
      (same-given-in a b same (codes "by") (codes "id"))
      ∙ ap (found_by records (text_given_in b (codes "by") (codes "id")))
      (same-given-in a b same (codes "by") (codes "name"))

  -- a node answers alike
  pub answered-alike : (n : SampleNode) (field : Bytes)
      → answer records n field a ≡ answer records n field b
  answered-alike node.Root field =
      ap (λ r. if bytes_eq field (codes "hero") then human_of records (codes "h1")
      else if bytes_eq field (codes "find") then r else resolved.Null) found-alike
  answered-alike (node.Human place) field = refl

-- ---- the arguments of a mutation

pub same-or-absent : (u v : Option (InputValue S)) → SameGiven ghosts.eq u v
    → option_and_then text_of u ≡ option_and_then text_of v
same-or-absent None None h = refl
same-or-absent (Some v) (Some w) h = same-text v w h
same-or-absent None (Some w) h = absurd h
same-or-absent (Some v) None h = absurd h

pub same-given : (a b : Given S) → SameArguments ghosts.eq a b → (name : Bytes)
    → text_given a name ≡ text_given b name
same-given a b h name = same-or-absent (value_named a name) (value_named b name) (h name)

module _ (c : SampleRecords) (field : Bytes) where
  -- what is answered, and left, by the texts of `id` and `name`
  abbrev pub answer_by : Option Bytes → Answer
  answer_by id = if bytes_eq field (codes "rename")
      then option_map_or (human_of c.records) id resolved.Null else resolved.Null

  abbrev pub after_by : Option Bytes → Option Bytes → SampleRecords
  after_by id name = record {
    records = if bytes_eq field (codes "rename") then named_of c.records id name else c.records;
    root_calls = one_more c.root_calls;
  }

  pub answers-same : (a b : Given S) → SameInOrder ghosts.eq a b
      → changes.answer c field a ≡ changes.answer c field b
  answers-same a b h =
      ap (λ id. Ok (answer_by id)) (same-given a b (in-order-same ghosts.eq a b h) (codes "id"))

  pub leaves-same : (a b : Given S) → SameInOrder ghosts.eq a b
      → changes.after c field a ≡ changes.after c field b
  leaves-same a b h =
      let same = same-given a b (in-order-same ghosts.eq a b h) in
      ap (λ id. after_by id (text_given a (codes "name"))) (same (codes "id"))
      ∙ ap (after_by (text_given b (codes "id"))) (same (codes "name"))
