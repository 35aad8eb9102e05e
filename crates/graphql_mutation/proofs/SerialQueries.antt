-- A mutation that changes nothing, and answers as a node does, gives what a query gives on that node.
use Rattle.std.proofs.Common.{◌≡◌, refl, sym, ◌∙◌, ap, subst, List, [], ◌∷◌, ◌++◌, append_assoc, map, Option, Some, None, option_map}
use Rattle.std.specs.Prelude.{IfSome}
use Rattle.graphql_names.specs.Names.{Bytes}
use Rattle.graphql_output_values.specs.declared.value.Value.{Value}
use Rattle.graphql_written_out.specs.Trees.{Head, Tree}
use Rattle.graphql_written_out.specs.Fields.{Found}
use Rattle.graphql_written_out.specs.Groups.{groups}
use Rattle.graphql_schema.specs.Types.{TypeOf}
use Rattle.graphql_semantics.specs.Completion.{Members, blame_at}
use Rattle.graphql_semantics.specs.Engines.{Engine}
use Rattle.graphql_semantics.specs.Evaluation.{Group, at_declared, evaluate, found_in, group, keyed, sets_below}
use Rattle.graphql_semantics.specs.Outcomes.{Outcome, both, together}
use Rattle.graphql_semantics.proofs.RepeatLemmas.{adds-all}
use Rattle.graphql_semantics.proofs.RunRepeats.{evaluate-groups}
use Rattle.graphql_mutation.specs.Laws.{AskingOnlyIsQuerying, AsksOnly, GivesOf}
use Rattle.graphql_mutation.specs.Serial.{Mutation, Run, completed_step, declared_step, root_group, serially, unless_null}

module _ {S X : Type 0} (c : X) where
  -- an outcome that leaves the context
  abbrev kept : {A : Type 0} → Outcome S A → Run S X A
  kept o = record { outcome = o; after = c }

  -- the members of others behind a first one
  abbrev with_first : Bytes → Outcome S (Value S) → Option (Value S) → Outcome S (Members S) → Outcome S (Members S)
  with_first key first v others = record {
    value = both (λ x xs. x ∷ xs) (option_map (λ x. (key, x)) v) others.value;
    failures = first.failures ++ others.failures;
  }

  both-first : (one : Bytes × Value S) (o : Option (Members S))
      → option_map (λ ms. one ∷ ms) o ≡ both (λ x xs. x ∷ xs) (Some one) o
  both-first one None = refl
  both-first one (Some ms) = refl

  if-first : (P : Type 0) (one : Bytes × Value S) (o : Option (Members S)) → IfSome o (λ _. P)
      → IfSome (both (λ x xs. x ∷ xs) (Some one) o) (λ _. P)
  if-first P one None h = tt
  if-first P one (Some ms) h = h

  gives-more : (key : Bytes) (first : Outcome S (Value S)) (v : Option (Value S)) (run : Run S X (Members S))
      (others : Outcome S (Members S)) → GivesOf run others c
      → GivesOf (unless_null key (kept first) v run) (with_first key first v others) c
  gives-more key first None run others g =
      record { value = refl; others = others.failures; failures = refl; all = tt; after = refl }
  gives-more key first (Some v) run others g = record {
    value = ap (option_map (λ ms. (key, v) ∷ ms)) g.value ∙ both-first (key, v) others.value;
    others = g.others;
    failures =
        ap (λ es. first.failures ++ es) g.failures ∙ sym (append_assoc first.failures run.outcome.failures g.others);
    all = if-first (g.others ≡ []) (key, v) others.value g.all;
    after = g.after;
  }

module _ {S N X : Type 0} (m : Mutation S N X) (object : Bytes) (c : X) (node : N)
    (asks : AsksOnly m object c node) where
  abbrev here : Engine S N
  here = m.engine c

  declared-asks : (key : Bytes) (sets : List (Tree S)) (head : Head S) (d : Option TypeOf)
      → declared_step m object key sets head c d
      ≡ kept c (at_declared here d (λ n. evaluate here (key ∷ []) (here.concrete n) n sets)
      (blame_at (key ∷ []) head.place) (here.answer node object head.name (here.arguments object head)))
  declared-asks key sets head None = refl
  declared-asks key sets head (Some type) = ap (completed_step m object key sets head type) (asks head)

  group-asks : (key : Bytes) (xs : List (Found S))
      → root_group m object c key xs ≡ kept c (group here (evaluate here) [] object node key xs)
  group-asks key [] = refl
  group-asks key (x ∷ xs) = declared-asks key (sets_below (x ∷ xs)) x.head (here.declared object x.head.name)

  groups-ask : (gs : List (Group S))
      → GivesOf (serially m object c gs) (together (map (keyed here (evaluate here) [] object node) gs)) c
  groups-ask [] = record { value = refl; others = []; failures = refl; all = refl; after = refl }
  groups-ask (g ∷ gs) =
      let first = group here (evaluate here) [] object node g.0 g.1 in
      let others = together (map (keyed here (evaluate here) [] object node) gs) in
      let all = with_first c g.0 first first.value others in
      subst (λ (r : Run S X (Value S)).
      GivesOf (unless_null g.0 r r.outcome.value (serially m object r.after gs)) all c) (sym (group-asks g.0 g.1))
      (gives-more c g.0 first first.value (serially m object c gs) others (groups-ask gs))

pub asking-only-is-querying : (S N X : Type 0) → AskingOnlyIsQuerying S N X
asking-only-is-querying S N X m object c node sets asks =
    let found = found_in (m.engine c) object sets in
    subst (λ o. GivesOf (serially m object c (groups found)) o c)
    (evaluate-groups (m.engine c) [] object node sets found (adds-all [] found))
    (groups-ask m object c node asks (groups found))
