-- Each part of a plain document stems from its request.
use Rattle.std.proofs.Common.{◌≡◌, refl, sym, ◌∙◌, ap, subst, suc, length, Bool, true, false, List, [], ◌∷◌, ◌++◌, map, Option, Some, None, cond, inl, inr}
use Rattle.std.specs.List.{AllByRecursion as Each, Contains, filter, flat_map}
use Rattle.std.specs.Option.{option_to_list}
use Rattle.graphql_names.specs.Names.{Bytes, is_one_of}
use Rattle.graphql_scalars.specs.ScalarAnswers.{ScalarAnswer}
use Rattle.graphql_values.specs.InputValues.{Placed}
use Rattle.graphql_values.specs.declared.input_value.InputValue.{InputValue}
use Rattle.graphql_tree.specs.Definitions.{fragments_listed}
use Rattle.graphql_tree.specs.Documents.{variables_in}
use Rattle.graphql_tree.specs.Unlocated.{unlocated_document}
use Rattle.graphql_tree.specs.Variables.{Variable}
use Rattle.graphql_tree.specs.declared.document.Definition.{Definition}
use Rattle.graphql_tree.specs.declared.document.Fragment.{Fragment}
use Rattle.graphql_tree.specs.declared.document.Operation.{Operation}
use Rattle.graphql_schema.specs.declared.directive_location.DirectiveLocation.TheVariants as location
use Rattle.graphql_schema.specs.declared.meta.MetaType.{MetaType}
use Rattle.graphql_schema.specs.Declarations.{Declarations}
use Rattle.graphql_occurrences.specs.Lookups.{bare_place, known, location_of, root_of}
use Rattle.graphql_occurrences.specs.Occurrences.{directives_parts, fragment_parts, occurrences, operation_parts, placed_parts, set_parts, variable_parts}
use Rattle.graphql_occurrences.specs.Parts.{InputPlace, Part, SpreadPart, AnInline, ADirective, ASpread, Given}
use Rattle.graphql_occurrences.specs.Unlocated.{unlocated_part}
use Rattle.graphql_occurrences.proofs.UnlocatedParts.{document_unlocated}
use Rattle.graphql_rules_document.proofs.ListItems.{contains-map, image-of}
use Rattle.graphql_written_out.specs.Conditions.{left_out}
use Rattle.graphql_written_out.specs.Trees.{IsFilled}
use Rattle.graphql_written_out.specs.Written.{fragment_meant, written}
use Rattle.graphql_plain_tree.specs.PlainDocuments.{definitions_as, document_of, operation_as, selections_of}
use Rattle.graphql_plain_tree.specs.PlainOperations.{PlainOperation, definitions_used, plain_operation, variables_used, without_directives}
use Rattle.graphql_plain_validity.specs.PartLaws.{PlainPartsStem}
use Rattle.graphql_plain_validity.specs.PlainRequests.{plain_of}
use Rattle.graphql_plain_validity.specs.StemmingParts.{Reaches, Stems, inline_for, skip_at, skip_given}
use Rattle.graphql_plain_validity.proofs.EachItem.{each-append, each-from, each-left, each-of, each-right}
use Rattle.graphql_plain_validity.proofs.PlainSetParts.{HoldsOfStandIns, plain-holds}
use Rattle.graphql_plain_validity.proofs.ReachedParts.{fragment-reached}
use Rattle.graphql_plain_validity.proofs.ValueParts.{placed-spread-none}
use Rattle.graphql_plain_validity.proofs.WrittenParts.{Carries, each-kept, written-holds}

module _ {S : Type 0} where
  pub definitions-back : (vs : List (Variable S)) → variables_in (definitions_as vs) ≡ vs
  definitions-back [] = refl
  definitions-back (v ∷ vs) = refl

-- ---- of a plain operation, for all that carries over from the parts of its request

module _ {S C : Type 0} (schema : Declarations S C) (fragments : List (Fragment S))
    (P Q : Part S C → Type 0) (carries : Carries schema fragments P Q) where
  default-holds : (here : Option InputPlace) (o : Option (Placed (InputValue S)))
      → Each P (flat_map (placed_parts schema here) (option_to_list o))
      → Each Q (flat_map (placed_parts schema here) (option_to_list o))
  default-holds here None h = tt
  default-holds here (Some v) h =
      each-append Q (placed_parts schema here v) []
      (each-kept schema fragments P Q carries (placed_parts schema here v)
      (each-left P (placed_parts schema here v) [] h) (placed-spread-none schema here v)) tt

  -- a variable, its directives aside
  variable-holds : (v : Variable S) → Each P (variable_parts schema v)
      → Each Q (variable_parts schema (without_directives v))
  variable-holds v h =
      let here = Some (bare_place v.1.var_type.item) in
      let defaults : List (Part S C) =
      flat_map (placed_parts schema here) (option_to_list v.1.default_value) in (
        carries.kept _ _ h.0 refl refl,
        each-append Q defaults []
            (default-holds here v.1.default_value
            (each-left P defaults
            (directives_parts schema location.VariableDefinition v.1.directives) h.1)) tt,
      )

  used-hold : (names : List Bytes) (vs : List (Variable S))
      → Each P (flat_map (variable_parts schema) vs)
      → Each Q (flat_map (variable_parts schema) (definitions_used names vs))
  used-hold names [] h = tt
  used-hold names (v ∷ vs) h =
      let kept = λ (w : Variable S). is_one_of names w.0.item in
      let rest =
      used-hold names vs
      (each-right P (variable_parts schema v) (flat_map (variable_parts schema) vs) h) in
      elim (kept v) as
      (λ b. Each Q
      (flat_map (variable_parts schema)
      (map without_directives (cond b (v ∷ filter kept vs) (filter kept vs))))) [
        | true ↦ each-append Q (variable_parts schema (without_directives v)) _
            (variable-holds v
            (each-left P (variable_parts schema v) (flat_map (variable_parts schema) vs) h)) rest
        | false ↦ rest
      ]

  pub operation-holds : (answer : S → ScalarAnswer) (of_bool : Bool → S)
      (given : Bytes → Option (InputValue S)) (o : Operation S)
      → HoldsOfStandIns schema of_bool Q → IsFilled (written fragments o.selection_set)
      → Each P (operation_parts schema o)
      → Each Q (operation_parts schema (operation_as (plain_operation answer of_bool given fragments o)))
  unfolding written
  operation-holds answer of_bool given o stand filled h =
      let p : PlainOperation S = plain_operation answer of_bool given fragments o in
      let vs : List (Variable S) = variables_in o.variable_definitions in
      let root : Option (MetaType S C) = root_of schema o.operation_type in
      let variables : List (Part S C) = flat_map (variable_parts schema) vs in
      let directives : List (Part S C) =
      directives_parts schema (location_of o.operation_type) o.directives in
      let front : Each P (variables ++ directives) =
      each-left P (variables ++ directives) (set_parts schema root o.selection_set) h in
      let kept : List (Part S C) =
      flat_map (variable_parts schema) (variables_in (definitions_as p.variables)) in
      let used : Each Q kept =
      subst (λ ws. Each Q (flat_map (variable_parts schema) ws))
      (sym (definitions-back p.variables))
      (used-hold (variables_used p.set) vs (each-left P variables directives front)) in
      let set : Each Q (set_parts schema root (selections_of p.set)) =
      plain-holds schema of_bool Q stand (left_out answer given)
      (written fragments o.selection_set) root
      (written-holds schema fragments P Q carries (suc (length fragments)) root o.selection_set
      (each-right P (variables ++ directives) (set_parts schema root o.selection_set) h)) filled in
      each-append Q (kept ++ []) (set_parts schema root (selections_of p.set))
      (each-append Q kept [] used tt) set

-- ---- of documents that are the same without their places

module _ {S C : Type 0} (schema : Declarations S C) where
  pub same-parts : (p again : List (Definition S)) → unlocated_document again ≡ unlocated_document p
      → map unlocated_part (occurrences schema again) ≡ map unlocated_part (occurrences schema p)
  same-parts p again same =
      sym (document_unlocated schema again) ∙ ap (occurrences schema) same
      ∙ document_unlocated schema p

  pub same-documents : (Q : Part S C → Type 0)
      → ((x z : Part S C) → unlocated_part x ≡ unlocated_part z → Q x → Q z)
      → (p again : List (Definition S)) → unlocated_document again ≡ unlocated_document p
      → Each Q (occurrences schema p) → (z : Part S C) → Contains (occurrences schema again) z → Q z
  same-documents Q respects p again same h z i =
      let there = contains-map unlocated_part (occurrences schema again) z i in
      let x =
      image-of unlocated_part (occurrences schema p) (unlocated_part z)
      (subst (λ ps. Contains ps (unlocated_part z)) (same-parts p again same) there) in
      respects x.0 z x.2 (each-of Q (occurrences schema p) h x.0 x.1)

-- ---- of a plain document

module _ {S C : Type 0} (schema : Declarations S C) (document : List (Definition S))
    (o : Placed (Operation S)) (of_bool : Bool → S) where
  abbrev P : Part S C → Type 0
  P = Reaches schema document o

  abbrev Q : Part S C → Type 0
  Q = Stems schema document o of_bool

  -- the parts of the fragment that a reached spread means
  fragment-parts : (s : SpreadPart S C) (f : Fragment S) → P (ASpread s)
      → fragment_meant (fragments_listed document) s.name.item ≡ Some f
      → Each P (fragment_parts schema f)
  fragment-parts s f reached meant =
      each-from P (fragment_parts schema f) (fragment-reached schema document o s f reached meant)

  carried : Carries schema (fragments_listed document) P Q
  carried = record {
    kept = λ x y reached n same. record { part = x; same = same; source = inl (reached, n) };
    made = λ s f reached meant.
        let parts = fragment-parts s f reached meant in (
          record {
            part =
                AnInline (inline_for s f);
            same =
                refl;
            source =
                inr (record { spread = s; fragment = f; reached = reached; meant = meant; is = refl });
          },
          parts.0,
          each-right P (directives_parts schema location.FragmentDefinition f.directives)
              (set_parts schema (known schema f.type_condition.item) f.selection_set) parts.1,
        );
  }

  stand-ins : HoldsOfStandIns schema of_bool Q
  stand-ins = record {
    at_field =
        record {
          part = ADirective (skip_at schema location.Field);
          same = refl;
          source = inr
              (inl refl);
        };
    at_inline =
        record {
          part = ADirective (skip_at schema location.InlineFragment);
          same = refl;
          source = inr
              (inr refl);
        };
    given = record { part = Given (skip_given schema of_bool); same = refl; source = inr refl };
  }

pub plain-parts-stem : (S C : Type 0) (answer : S → ScalarAnswer) (of_bool : Bool → S)
    → PlainPartsStem S C answer of_bool
unfolding occurrences
plain-parts-stem S C answer of_bool schema document again is =
    let o = is.operation in
    let p : PlainOperation S = plain_of answer of_bool is in
    let Q : Part S C → Type 0 = Stems schema document o of_bool in
    same-documents schema Q (λ x z same h. record {
      part =
          h.part;
      same = sym same ∙ h.same;
      source = h.source;
    }) (document_of p) again is.same
    (each-append Q (operation_parts schema (operation_as p)) []
    (operation-holds schema (fragments_listed document) (Reaches schema document o) Q
    (carried schema document o of_bool) answer of_bool is.given o.item
    (stand-ins schema document o of_bool) is.filled
    (each-from (Reaches schema document o) (operation_parts schema o.item) (λ x i. inl i))) tt)
