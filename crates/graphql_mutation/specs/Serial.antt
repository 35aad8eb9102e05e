-- What a mutation's selection set gives and changes: the groups of its fields, one after the other
-- (GraphQL October 2021, 6.2.2 Mutation, 6.3.1 Normal and Serial Execution).
use Rattle.std.specs.Prelude.{◌≡◌, List, [], ◌∷◌, ◌++◌, Option, Some, None, Result}
use Rattle.std.specs.Option.{option_map}
use Rattle.graphql_names.specs.Names.{Bytes}
use Rattle.graphql_arguments.specs.ArgumentValues.{Given}
use Rattle.graphql_output_values.specs.declared.value.Value.{Value}
use Rattle.graphql_output_values.specs.declared.value.Value.TheVariants as value
use Rattle.graphql_written_out.specs.Trees.{Head, Tree}
use Rattle.graphql_written_out.specs.Fields.{Found}
use Rattle.graphql_written_out.specs.Groups.{groups}
use Rattle.graphql_schema.specs.Types.{TypeOf}
use Rattle.graphql_field_results.specs.declared.field_error.FieldError.{FieldError}
use Rattle.graphql_field_results.specs.declared.resolved.Resolved.{Resolved}
use Rattle.graphql_semantics.specs.Completion.{Members, blame_at}
use Rattle.graphql_semantics.specs.Engines.{Engine}
use Rattle.graphql_semantics.specs.Evaluation.{Group, at_type, evaluate, found_in, sets_below}
use Rattle.graphql_semantics.specs.Outcomes.{Outcome, gives, no_value}

-- what a field of the root is answered, and the context after
pub record RootStep (S N X : Type 0) : Type 0 where
  pub answer : Result (Resolved S N) (FieldError S)
  pub after : X

-- what a mutation asks of a schema, a request and a resolver; `X`: its contexts
pub record Mutation (S N X : Type 0) : Type 0 where
  -- over each context
  pub engine : X → Engine S N
  -- on a context, for a field of an object type, the root's, by its argument values
  pub step : X → Bytes → Bytes → Given S → RootStep S N X

-- what a part of a mutation gives, and the context after
pub record Run (S X A : Type 0) : Type 0 where
  pub outcome : Outcome S A
  pub after : X

-- the others are run too, unless a null came first that may not stand: it reaches the root, and
-- they are not asked
abbrev pub unless_null : {S X : Type 0} → Bytes → Run S X (Value S) → Option (Value S)
    → Run S X (Members S)
    → Run S X (Members S)
unless_null key first None others = record {
  outcome = record { value = None; failures = first.outcome.failures };
  after = first.after;
}
unless_null key first (Some v) others = record {
  outcome = record {
    value = option_map (λ members. (key, v) ∷ members) others.outcome.value;
    failures = first.outcome.failures ++ others.outcome.failures;
  };
  after = others.after;
}

module _ {S N X : Type 0} (m : Mutation S N X) (object : Bytes) where
  -- what a field is answered; its argument values are those that the engine gives
  abbrev pub step_of : X → Head S → RootStep S N X
  step_of c head = m.step c object head.name ((m.engine c).arguments object head)

  -- the answer, completed at a type on the context after, with these sets selected from its objects
  abbrev pub completed_step : Bytes → List (Tree S) → Head S → TypeOf → RootStep S N X
      → Run S X (Value S)
  completed_step key sets head type step =
      let e = m.engine step.after in
      let path = key ∷ [] in
      record {
        outcome = at_type e (λ n. evaluate e path (e.concrete n) n sets) (blame_at path head.place)
            type step.answer;
        after = step.after;
      }

  -- a field without a declaration, which no valid document has, is null, and is not asked
  abbrev pub declared_step : Bytes → List (Tree S) → Head S → X → Option TypeOf → Run S X (Value S)
  declared_step key sets head c None = record { outcome = gives value.Null; after = c }
  declared_step key sets head c (Some type) = completed_step key sets head type (step_of c head)

  -- a group is asked once, by its first field, with the selections of all its fields
  abbrev pub root_group : X → Bytes → List (Found S) → Run S X (Value S)
  root_group c key [] = record { outcome = no_value; after = c }
  root_group c key (x ∷ xs) =
      declared_step key (sets_below (x ∷ xs)) x.head c ((m.engine c).declared object x.head.name)

  -- the groups in order, each on the context that the one before it left
  abbrev pub serially : X → List (Group S) → Run S X (Members S)
  serially c [] = record { outcome = gives []; after = c }
  serially c (g ∷ gs) =
      let first = root_group c g.0 g.1 in
      unless_null g.0 first first.outcome.value (serially first.after gs)

  -- the groups of the fields that sets have for the object type
  abbrev pub root_groups : X → List (Tree S) → List (Group S)
  root_groups c sets = groups (found_in (m.engine c) object sets)

  -- what sets give and change, begun on a context
  abbrev pub mutate : X → List (Tree S) → Run S X (Members S)
  mutate c sets = serially c (root_groups c sets)

  -- the context that a beginning of the groups leaves, none of them run in part
  pub record AfterBeginning (c : X) (gs : List (Group S)) (new : X) : Type 0 where
    pub done : List (Group S)
    pub others : List (Group S)
    pub is : gs ≡ done ++ others
    pub after : new ≡ (serially c done).after
