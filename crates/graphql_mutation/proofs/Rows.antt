-- Mutations of a small counter, which tells its count: what they give, and the count that they leave.
use Rattle.std.proofs.Common.{◌≡◌, refl, lit<, ℕ, suc, false, true, [], ◌∷◌, Some, None, Ok}
use Rattle.std.specs.Prelude.{codes, if◌then◌else◌}
use Rattle.std.specs.Str.{bytes_eq}
use Rattle.graphql_names.specs.Names.{Bytes}
use Rattle.graphql_schema.specs.Types.{reference_to}
use Rattle.graphql_written_out.specs.Trees.{Head, Tree, none, field}
use Rattle.graphql_written_out.specs.Fields.{Found}
use Rattle.graphql_written_out.specs.Groups.{groups}
use Rattle.graphql_written_out.specs.Repeats.{Repeats, nothing, kept, again}
use Rattle.graphql_output_values.specs.declared.value.Value.TheVariants as value
use Rattle.graphql_field_results.specs.declared.execution_error.ExecutionError.{ExecutionError}
use Rattle.graphql_field_results.specs.declared.resolved.Resolved.{Resolved}
use Rattle.graphql_field_results.specs.declared.resolved.Resolved.TheVariants as resolved
use Rattle.graphql_semantics.specs.Completion.{Members, blame_at, own_null}
use Rattle.graphql_semantics.specs.Engines.{Engine}
use Rattle.graphql_mutation.specs.Laws.{GivesOf}
use Rattle.graphql_mutation.specs.Serial.{Mutation, Run, mutate, serially}
use Rattle.graphql_mutation.proofs.SerialQueries.{asking-only-is-querying}
use Rattle.graphql_mutation.proofs.SerialRepeats.{repeats-change-nothing}
use Rattle.graphql_semantics.specs.Evaluation.{evaluate, found_in}

-- `lose` answers null, each other field the count
abbrev told : Bytes → ℕ → Resolved ℕ ℕ
told name count = if bytes_eq name (codes "lose") then resolved.Null else resolved.Scalar count

-- each field is an `Int!`; the only node is the root, and any other is none of this schema's
abbrev counter : ℕ → Engine ℕ ℕ
counter count = record {
  drops = λ directives. false;
  is_below = λ object name. bytes_eq object name;
  declared = λ object name. Some (reference_to (codes "Int"));
  is_leaf = λ name. true;
  is_possible = λ name object. false;
  arguments = λ object head. [];
  concrete = λ node. codes "Mutation";
  answer = λ node object name given. Ok (told name count);
}

-- each field counts one up, and tells the new count
abbrev counting : Mutation ℕ ℕ ℕ
counting = record {
  engine = counter;
  step = λ count object name given. record { answer = Ok (told name (suc count)); after = suc count };
}

-- each field tells the count, and leaves it
abbrev asking : Mutation ℕ ℕ ℕ
asking = record {
  engine = counter;
  step = λ count object name given. record { answer = Ok (told name count); after = count };
}

abbrev head_at : ℕ → Bytes → Bytes → Head ℕ
head_at n key name = record {
  key = key;
  name = name;
  is_aliased = true;
  arguments = [];
  has_set = false;
  place = record { index = n; line = 0; column = n };
}

-- a field under this key, before others
abbrev then_field : ℕ → Bytes → Bytes → Tree ℕ → Tree ℕ
then_field n key name others = field (head_at n key name) [] none others

abbrev run_of : Mutation ℕ ℕ ℕ → Tree ℕ → Run ℕ ℕ (Members ℕ)
run_of m set = mutate m (codes "Mutation") 0 (set ∷ [])

-- `{ a: add b: add }`: the second field is asked on the count that the first one left
abbrev two : Tree ℕ
two = then_field 2 (codes "a") (codes "add") (then_field 9 (codes "b") (codes "add") none)

pub two_are_counted : run_of counting two ≡ record {
  outcome = record {
    value = Some ((codes "a", value.Scalar 1) ∷ (codes "b", value.Scalar 2) ∷ []);
    failures = [];
  };
  after = 2;
}
two_are_counted = simp resolved.outs-Scalar refl

-- `{ a: add a: add }`: fields of one key are asked once
abbrev same : Tree ℕ
same = then_field 2 (codes "a") (codes "add") (then_field 9 (codes "a") (codes "add") none)

pub one_key_is_asked_once : run_of counting same ≡ record {
  outcome = record { value = Some ((codes "a", value.Scalar 1) ∷ []); failures = [] };
  after = 1;
}
one_key_is_asked_once = simp resolved.outs-Scalar refl

-- `{ a: add b: lose c: add }`: the null of `b` reaches the root, and `c` is not asked
abbrev lost : Tree ℕ
lost =
    then_field 2 (codes "a") (codes "add")
    (then_field 9 (codes "b") (codes "lose") (then_field 17 (codes "c") (codes "add") none))

abbrev loss : ExecutionError ℕ
loss = blame_at (codes "b" ∷ []) (record { index = 9; line = 0; column = 9 }) own_null

pub no_later_key_is_asked : run_of counting lost ≡ record {
  outcome = record { value = None; failures = loss ∷ [] };
  after = 2;
}
no_later_key_is_asked = simp (resolved.outs-Scalar, resolved.outs-Null) refl

-- a mutation that counts nothing gives what a query gives on the root
pub asking_is_querying :
    GivesOf (run_of asking two) (evaluate (counter 0) [] (codes "Mutation") 0 (two ∷ [])) 0
asking_is_querying = asking-only-is-querying ℕ ℕ ℕ asking (codes "Mutation") 0 0 (two ∷ []) (λ head. refl)

-- `{ a: add }` twice, as a fragment that is spread twice is written out: the field is found twice, and kept once
abbrev one : Tree ℕ
one = then_field 2 (codes "a") (codes "add") none

abbrev add_field : Found ℕ
add_field = record { head = head_at 2 (codes "a") (codes "add"); below = none }

pub field_is_repeated : Repeats (add_field ∷ []) (found_in (counter 0) (codes "Mutation") (one ∷ one ∷ []))
field_is_repeated = kept add_field (again add_field (0, lit< tt, refl) nothing)

-- so the one field gives and changes what the two do: it counts one up
pub repeats_count_once :
    serially counting (codes "Mutation") 0 (groups (add_field ∷ []))
    ≡ mutate counting (codes "Mutation") 0 (one ∷ one ∷ [])
repeats_count_once =
    repeats-change-nothing ℕ ℕ ℕ counting (codes "Mutation") 0 (one ∷ one ∷ []) (add_field ∷ []) field_is_repeated

pub one_is_counted : (mutate counting (codes "Mutation") 0 (one ∷ one ∷ [])).after ≡ 1
one_is_counted = simp resolved.outs-Scalar refl
