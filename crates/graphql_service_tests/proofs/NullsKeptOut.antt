-- Data that fit have no null where it is kept out.
use Rattle.std.proofs.Common.{◌≡◌, ◌≢◌, ◌⊎◌, inl, inr, refl, sym, ap, subst, ◌∙◌, Bool, true, false, List, [], ◌∷◌, reverse, Option, Some, None, Result, Ok, Err, OnOk, rules}
use Rattle.std.specs.Prelude.{unwrap_or}
use Rattle.std.proofs.lemmas.Bool.{false≢true}
use Rattle.graphql_names.specs.Names.{Bytes}
use Rattle.graphql_names.specs.declared.type_modifier.TypeModifier.{TypeModifier}
use Rattle.graphql_output_values.specs.declared.value.Value.{Value, out-Value}
use Rattle.graphql_output_values.specs.declared.value.Value.TheOpen.{Value-F}
use Rattle.graphql_output_values.specs.declared.value.Value.TheVariants as value
use Rattle.graphql_schema.specs.Types.{TypeOf}
use Rattle.graphql_tree.specs.Definitions.{fragments_listed}
use Rattle.graphql_written_out.specs.Trees.{Tree}
use Rattle.graphql_written_out.specs.Fields.{Found}
use Rattle.graphql_written_out.specs.Written.{written}
use Rattle.graphql_semantics.specs.Completion.{Members, is_required, object_members}
use Rattle.graphql_semantics.specs.Engines.{Engine}
use Rattle.graphql_semantics.specs.Evaluation.{Group}
use Rattle.graphql_semantics.specs.Fitting.{Holds, leaf, object, list, required, Fits, holds, null, FieldFits, declared, undeclared, MembersFit, no_members, more_members}
use Rattle.graphql_execution_walk.specs.Engines.{engine_over}
use Rattle.graphql_execution_walk.specs.FieldDeclarations.{declared_type}
use Rattle.graphql_execution_walk.specs.declared.asked.Asked.TheVariants as asked
use Rattle.graphql_mutation.specs.Fitting as runs
use Rattle.graphql_mutation.specs.Fitting.{RootFits, RunFits, no_groups, more_groups}
use Rattle.graphql_mutation.specs.Serial.{Mutation, root_group, root_groups}
use Rattle.graphql_executor.specs.Fitting.{MembersFitAt}
use Rattle.graphql_service.specs.Answers.{Answerer}
use Rattle.graphql_service.specs.FittingLines.{IsFittingLine}
use Rattle.graphql_service_tests.specs.KeptOut.{AllKeepNullOut, KeepsNullOut, KeepsNullOutAtRoot, mutation_asked}

-- whether one layer of a value is null
abbrev null-layer : {S X Y : Type 0} → Value-F S X Y → Bool
null-layer Value-F.Null = true
null-layer (Value-F.Scalar s) = false
null-layer (Value-F.List items) = false
null-layer (Value-F.Object o) = false

no-null : {S : Type 0} (v : Value S) → null-layer (out-Value S v) ≡ false → v ≢ value.Null
no-null {S} v is = λ same. absurd (false≢true (sym is ∙ ap (λ w. null-layer (out-Value S w)) same ∙ ap null-layer value.outs-Null))

module _ {S N : Type 0} (e : Engine S N) where
  held-not-null : (sets : List (Tree S)) (name : Bytes) (wraps : List TypeModifier) (v : Value S) → Holds e sets name wraps v → v ≢ value.Null
  held-not-null _ _ _ _ (leaf sets name scalar is) = no-null (value.Scalar scalar) (ap null-layer (value.outs-Scalar scalar))
  held-not-null _ _ _ _ (object sets name of members is fits) =
      no-null (object_members members) (ap null-layer (value.outs-Object (record { fields = members })))
  held-not-null _ _ _ _ (list sets name size wraps items fits) = no-null (value.List items) (ap null-layer (value.outs-List items))
  held-not-null _ _ _ _ (required sets name wraps v h) = held-not-null sets name wraps v h

  fit-not-null : (sets : List (Tree S)) (name : Bytes) (wraps : List TypeModifier) (v : Value S) → Fits e sets name wraps v
      → is_required wraps ≡ true → v ≢ value.Null
  fit-not-null _ _ _ _ (holds sets name wraps v h) is = held-not-null sets name wraps v h
  fit-not-null _ _ _ _ (null sets name wraps free) is = absurd (false≢true (sym free ∙ is))

  -- at the type that is declared for the first field of a group
  typed-not-null : (types : Bytes → Option TypeOf) (sets : List (Tree S)) (x : Found S) (xs : List (Found S)) (type : TypeOf) (v : Value S)
      → types x.head.name ≡ Some type → Fits e sets type.name (reverse type.modifiers) v → (key : Bytes) → KeepsNullOut types (key, x ∷ xs) (key, v)
  typed-not-null types sets x xs type v is fits key = record {
    key = refl;
    kept = λ first others other same told free.
        let one : x ≡ first = search rules in
        let types_same : type ≡ other = search rules in
        fit-not-null sets type.name (reverse type.modifiers) v fits (subst (λ (t : TypeOf). is_required (reverse t.modifiers) ≡ true) (sym types_same) free);
  }

-- where no type is declared
untyped-not-null : {S : Type 0} (types : Bytes → Option TypeOf) (x : Found S) (xs : List (Found S)) (v : Value S) → types x.head.name ≡ None
    → (key : Bytes) → KeepsNullOut types (key, x ∷ xs) (key, v)
untyped-not-null types x xs v is key = record { key = refl; kept = λ first others other same told free. absurd (search rules) }

-- of an object type whose fields have these types
module _ {S N : Type 0} (e : Engine S N) (of : Bytes) (types : Bytes → Option TypeOf) (same : (name : Bytes) → e.declared of name ≡ types name) where
  field-kept : (under : Bytes) (xs : List (Found S)) (v : Value S) → under ≡ of → FieldFits e under xs v → (key : Bytes) → KeepsNullOut types (key, xs) (key, v)
  field-kept _ _ _ eq (declared under x xs type v is fits) key =
      typed-not-null e types _ x xs type v (sym (same x.head.name) ∙ subst (λ o. e.declared o x.head.name ≡ Some type) eq is) fits key
  field-kept _ _ _ eq (undeclared under x xs is) key =
      untyped-not-null types x xs value.Null (sym (same x.head.name) ∙ subst (λ o. e.declared o x.head.name ≡ None) eq is) key

  members-kept : (under : Bytes) (gs : List (Group S)) (ms : Members S) → under ≡ of → MembersFit e under gs ms → AllKeepNullOut types gs ms
  members-kept _ _ _ eq (no_members under) = tt
  members-kept _ _ _ eq (more_members under key xs v gs ms fits rest) =
      (field-kept under xs v eq fits key, members-kept under gs ms eq rest)

-- and so at the root of mutations, where each context has the same types
module _ {S N X : Type 0} (m : Mutation S N X) (object : Bytes) (types : Bytes → Option TypeOf)
    (same : (c : X) (name : Bytes) → (m.engine c).declared object name ≡ types name) where
  root-kept : (c : X) (xs : List (Found S)) (v : Value S) → RootFits m object c xs v → (key : Bytes) → KeepsNullOut types (key, xs) (key, v)
  root-kept _ _ _ (runs.declared c x xs type v is fits) key =
      typed-not-null _ types _ x xs type v (sym (same c x.head.name) ∙ is) fits key
  root-kept _ _ _ (runs.undeclared c x xs is) key = untyped-not-null types x xs value.Null (sym (same c x.head.name) ∙ is) key

  run-kept : (c : X) (gs : List (Group S)) (ms : Members S) → RunFits m object c gs ms → AllKeepNullOut types gs ms
  run-kept _ _ _ (no_groups c) = tt
  run-kept _ _ _ (more_groups c key xs v gs ms fits rest) =
      (root-kept c xs v fits key, run-kept (root_group m object c key xs).after gs ms rest)

module _ {S N X : Type 0} (m : Mutation S N X) (query : Bytes) (node : N) (sets : List (Tree S)) (c : X) (types : Bytes → Bytes → Option TypeOf)
    (same : (c : X) (of name : Bytes) → (m.engine c).declared of name ≡ types of name) where
  at-root : (root : Option Bytes) (ms : Members S) → MembersFitAt m query node sets root c ms
      → AllKeepNullOut (types (unwrap_or root query)) (root_groups m (unwrap_or root query) c sets) ms
  at-root None ms fits =
      members-kept (m.engine c) query (types query) (λ name. same c query name) query (root_groups m query c sets) ms refl fits
  at-root (Some root) ms fits = run-kept m root (types root) (λ d name. same d root name) c (root_groups m root c sets) ms fits

module _ {S C N X : Type 0} (a : Answerer S C N X) (line : Bytes) (old : X) {answered : Bytes} where
  same-types : (is : IsFittingLine a line old answered) (c : X) (of name : Bytes)
      → ((mutation_asked a line old is).engine c).declared of name ≡ declared_type a.schema.types of name
  unfolding engine_over
  same-types is c of name = refl

  kept-at : (is : IsFittingLine a line old answered) → KeepsNullOutAtRoot a line old is
  kept-at is = elim is.fits.fits [
    | inl none ↦ inl none
    | inr found ↦ inr (
      found.0,
      found.1,
      at-root (mutation_asked a line old is) a.schema.query (asked.Own a.resolver.root)
          (written (fragments_listed is.document) is.operation.item.selection_set ∷ []) old (declared_type a.schema.types)
          (same-types is) is.root found.0 found.2,
    )
  ]

  pub kept-out : {A E : Type 0} (result : Result A E) (Answer Refused : Type 0) → (Answer → Refused ⊎ IsFittingLine a line old answered)
      → OnOk result Answer → OnOk result (Refused ⊎ ((is : IsFittingLine a line old answered) × KeepsNullOutAtRoot a line old is))
  kept-out (Err x) Answer Refused law h = tt
  kept-out (Ok x) Answer Refused law h = elim (law h) [ inl refused ↦ inl refused | inr is ↦ inr (is, kept-at is) ]
