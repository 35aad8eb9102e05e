-- In a valid document selections one behind the other give the join of what each part gives.
use Rattle.std.proofs.Common.{refl, sym, subst, Bool, List, [], ◌++◌, append-nil, Some}
use Rattle.std.specs.Cmp.{IsEquivalence}
use Rattle.std.proofs.lemmas.List.Elements.{All-cons, All-nil}
use Rattle.graphql_names.specs.Names.{Bytes}
use Rattle.graphql_scalars.specs.ScalarAnswers.{ScalarAnswer}
use Rattle.graphql_tree.specs.Definitions.{fragments_listed}
use Rattle.graphql_schema.specs.Scalars.{Scalars}
use Rattle.graphql_schema.specs.Declarations.{declarations_of}
use Rattle.graphql_schema.specs.Lookups.{own_name}
use Rattle.graphql_schema.specs.Subtypes.{is_named_subtype}
use Rattle.graphql_written_out.specs.Written.{written}
use Rattle.graphql_merging.specs.Members.{Member, members}
use Rattle.graphql_merging.specs.Merging.{Merging}
use Rattle.graphql_merging.specs.Sets.{Set}
use Rattle.graphql_merging.specs.Chosen.{IsAbove}
use Rattle.graphql_execution_walk.specs.Engines.{engine_over}
use Rattle.graphql_execution_walk.specs.declared.asked.Asked.{Asked}
use Rattle.graphql_rules_document.proofs.KnownFieldTypes.{field-types-are-known}
use Rattle.graphql_validation.proofs.WellFormedLemmas.{well_formed}
use Rattle.graphql_joins.proofs.Selections.{selections-join}
use Rattle.graphql_joins.specs.RequestLaws.{DocumentSetsFit, PartsJoin, RequestsAreSound}
use Rattle.graphql_joins.proofs.SoundEngines.{can-be-below, sound-engine}
use Rattle.graphql_joins.proofs.StandingSets.{sets-good}

pub parts-join : {S C : Type 0} (scalars : Scalars S C) → IsEquivalence scalars.eq
    → (N : Type 0) → PartsJoin scalars N
unfolding engine_over
parts-join {S} {C} scalars laws N schema executable alike document valid parent first second
    stands given type_of resolves respects path object node possible =
    let declarations = declarations_of schema in
    let well = well_formed scalars (record { schema = declarations; document = document }) valid.no_fault in
    let good =
    sets-good scalars.eq declarations (field-types-are-known declarations schema.faultless) document well valid.fields_merge
    (Some parent) (first ++ second) stands parent refl in
    selections-join S C (Asked S N C) scalars.eq schema.types (engine_over scalars.of_text scalars.of_bool scalars.answer schema given type_of resolves)
    (sound-engine schema executable scalars.of_text scalars.of_bool scalars.answer scalars.eq laws alike given type_of resolves respects)
    (fragments_listed document) first second parent path object node
    (good.0, can-be-below schema executable (own_name parent) object possible) good.1 good.2

pub requests-are-sound : {S : Type 0} (of_text : Bytes → S) (of_bool : Bool → S) (answer : S → ScalarAnswer)
    (eq : S → S → Bool) → IsEquivalence eq → (C N : Type 0) → RequestsAreSound of_text of_bool answer eq C N
requests-are-sound of_text of_bool answer eq laws C N schema executable alike given type_of resolves respects =
    sound-engine schema executable of_text of_bool answer eq laws alike given type_of resolves respects

pub document-sets-fit : {S C : Type 0} (scalars : Scalars S C) → DocumentSetsFit scalars
document-sets-fit {S} {C} scalars schema executable document valid parent set stands object possible =
    let declarations = declarations_of schema in
    let well = well_formed scalars (record { schema = declarations; document = document }) valid.no_fault in
    let good =
    sets-good scalars.eq declarations (field-types-are-known declarations schema.faultless) document well valid.fields_merge
    (Some parent) set stands parent refl in
    let here : Set S C = record { scope = Some parent; tree = written (fragments_listed document) set } in
    let A : Set S C → Type 0 = IsAbove schema.types (is_named_subtype schema.types object) in
    record {
      above = All-cons A here [] (good.0, can-be-below schema executable (own_name parent) object possible) (All-nil A);
      typed = (good.1, tt);
      merging =
          subst (λ (ms : List (Member S C)). Merging scalars.eq schema.types ms)
          (sym (append-nil (members schema.types (Some parent) (written (fragments_listed document) set)))) good.2;
    }
