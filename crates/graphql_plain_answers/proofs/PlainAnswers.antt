-- An operation and the operation of its plain document are answered alike.
use Rattle.std.proofs.Common.{◌≡◌, refl, sym, ◌∙◌, ap, Bool, List, [], ◌∷◌, map, Option, Some, None}
use Rattle.std.proofs.lemmas.Option.{none-some}
use Rattle.std.specs.Cmp.{IsEquivalence}
use Rattle.std.specs.Option.{option_map, option_or}
use Rattle.graphql_names.specs.Names.{Bytes}
use Rattle.graphql_scalars.specs.ScalarAnswers.{ScalarAnswer}
use Rattle.graphql_values.specs.InputValues.{unlocated}
use Rattle.graphql_tree.specs.Definitions.{fragments_listed}
use Rattle.graphql_tree.specs.Documents.{variables_in}
use Rattle.graphql_tree.specs.Variables.{Variable}
use Rattle.graphql_written_out.specs.FinalValues.{default_named, final_value}
use Rattle.graphql_schema.specs.declared.schema.SchemaType.{SchemaType}
use Rattle.graphql_written_out.specs.Conditions.{left_out}
use Rattle.graphql_written_out.specs.Trees.{Directives, Tree}
use Rattle.graphql_written_out.specs.Written.{written}
use Rattle.graphql_semantics.specs.Outcomes.{Outcome}
use Rattle.graphql_execution_walk.specs.Engines.{Resolves, engine_over}
use Rattle.graphql_execution_walk.specs.declared.asked.Asked.{Asked}
use Rattle.graphql_mutation.specs.Mutations.{Changes, mutation_over}
use Rattle.graphql_mutation.specs.Serial.{Mutation}
use Rattle.graphql_moved.specs.UnlocatedTrees.{unlocated_tree}
use Rattle.graphql_plain_tree.specs.Laws.{Fit, StandInLeavesOut}
use Rattle.graphql_plain_tree.specs.PlainOperations.{plain_by, variables_used}
use Rattle.graphql_plain_tree.specs.StandIns.{skip_true}
use Rattle.graphql_plain_tree.proofs.PlainShapes.{plain-throughout}
use Rattle.graphql_plain_laws.proofs.PlainRuns.{evaluate-plain}
use Rattle.graphql_plain_answers.specs.AgreeingValues.{AgreeOn, Values}
use Rattle.graphql_plain_answers.specs.AlikeMutations.{SetsServedAlike, AskOverOneSchema}
use Rattle.graphql_plain_answers.specs.Answers.{GiveTheSame}
use Rattle.graphql_plain_answers.specs.Lawful.{IsLawful}
use Rattle.graphql_plain_answers.specs.Laws.{OutcomesSucceedAlike, PlainDocumentsAnswerAlike}
use Rattle.graphql_plain_answers.specs.WithoutPlaces.{unlocated_failure}
use Rattle.graphql_plain_answers.proofs.AlikeOutcomes.{U}
use Rattle.graphql_plain_answers.proofs.AlikeRuns.{alike-give-the-same}
use Rattle.graphql_plain_answers.proofs.PlainDocuments.{plain-document-is-plain}
use Rattle.graphql_plain_answers.proofs.SerialAlike.{R, alike-change-the-same, at-context}
use Rattle.graphql_plain_answers.proofs.SerialPlain.{plain-change-the-same}
use Rattle.graphql_plain_answers.proofs.ServedAlike.{LeftAlike, one-schema, plain-left-alike, trees-alike}

-- ---- outcomes that are the same but for places

none-too : {A B : Type 0} (f : A → B) (xs ys : List A) → map f xs ≡ map f ys → xs ≡ [] → ys ≡ []
none-too f xs [] same none = refl
none-too f xs (y ∷ ys) same none =
    absurd (let empty : f y ∷ map f ys ≡ [] = sym same ∙ ap (map f) none in cc)

pub outcomes-succeed-alike : {S A : Type 0} → OutcomesSucceedAlike S A
outcomes-succeed-alike {S} {A} o p same =
    let bare = unlocated_failure in
    let failures : map bare o.failures ≡ map bare p.failures =
    ap (λ (z : Outcome S A). z.failures) same in
    record {
      value = ap (λ (z : Outcome S A). z.value) same;
      failures = (
        none-too bare o.failures p.failures failures,
        none-too bare p.failures o.failures (sym failures),
      );
    }

-- ---- a plain operation

module _ {S C N X : Type 0} (of_text : Bytes → S) (of_bool : Bool → S) (answer : S → ScalarAnswer)
    (eq : S → S → Bool) (laws : IsEquivalence eq) (fits : StandInLeavesOut answer of_bool)
    (schema : SchemaType S C) (type_of : X → N → Bytes) (resolves : X → Resolves S N)
    (changes : Changes S N X) (lawful : IsLawful eq resolves changes) where
  abbrev asked-by : Values S → Mutation S (Asked S N C) X
  asked-by values = mutation_over of_text of_bool answer schema values type_of resolves changes

  -- a set, and what its plain set is where it is read again
  again-alike : (values others : Values S) (own new : Tree S)
      → unlocated_tree new ≡ unlocated_tree (plain_by answer of_bool values own)
      → AgreeOn values others (variables_used (plain_by answer of_bool values own))
      → GiveTheSame (asked-by values) (asked-by others) (own ∷ []) (new ∷ [])
  unfolding engine_over
  again-alike values others own new same agree =
      let m : Mutation S (Asked S N C) X = asked-by values in
      let n : Mutation S (Asked S N C) X = asked-by others in
      let drops : Directives S → Bool = left_out answer values in
      let stand_in : Directives S = skip_true of_bool in
      let p : Tree S = plain_by answer of_bool values own in
      let fit : Fit drops stand_in = fits values in
      let one : AskOverOneSchema m n =
      one-schema of_text of_bool answer schema eq laws type_of resolves changes lawful
      values others in
      let left : LeftAlike answer values others p =
      plain-left-alike answer values others stand_in fit (fits others) p
      (plain-throughout drops stand_in own) in
      let alike : SetsServedAlike m n p new =
      trees-alike of_text of_bool answer schema eq laws type_of resolves changes lawful
      values others p new (sym same) agree left in
      record {
        as_query = λ c path object node.
            ap U (sym (evaluate-plain (m.engine c) stand_in fit path object node (own ∷ [])))
            ∙ alike-give-the-same (m.engine c) (n.engine c) (one c) path object node
            (p ∷ []) (new ∷ []) (at-context m n one object c (p ∷ []) (new ∷ []) (alike, tt));
        as_mutation = λ c object.
            ap R (sym (plain-change-the-same m drops stand_in fit (λ d. refl) object c (own ∷ [])))
            ∙ alike-change-the-same m n one object c (p ∷ []) (new ∷ []) (alike, tt);
      }

-- where a request gives one value for a name, so do the final values
one-or : {A B : Type 0} (f : A → B) (a b d : Option A) → option_map f a ≡ option_map f b
    → option_map f (option_or a d) ≡ option_map f (option_or b d)
one-or f None None d same = refl
one-or f None (Some b) d same = absurd (none-some (f b) same)
one-or f (Some a) None d same = absurd (none-some (f a) (sym same))
one-or f (Some a) (Some b) d same = same

finals-agree : {S : Type 0} (given others : Values S) (definitions : List (Variable S)) (name : Bytes)
    → option_map unlocated (given name) ≡ option_map unlocated (others name)
    → option_map unlocated (final_value given definitions name)
    ≡ option_map unlocated (final_value others definitions name)
finals-agree given others definitions name same =
    one-or unlocated (given name) (others name) (default_named definitions name) same

pub plain-documents-answer-alike : {S : Type 0} (of_text : Bytes → S) (of_bool : Bool → S)
    (answer : S → ScalarAnswer) (eq : S → S → Bool) → IsEquivalence eq
    → StandInLeavesOut answer of_bool → (C N X : Type 0)
    → PlainDocumentsAnswerAlike of_text of_bool answer eq C N X
plain-documents-answer-alike of_text of_bool answer eq laws fits C N X
    schema type_of resolves changes lawful given others document again o filled same agree x i =
    let definitions = variables_in o.variable_definitions in
    let fragments = fragments_listed document in
    let values = final_value given definitions in
    let own = variables_in x.item.variable_definitions in
    let is = plain-document-is-plain answer of_bool values document again o filled same x i in
    again-alike of_text of_bool answer eq laws fits schema type_of resolves changes lawful
    values (final_value others own)
    (written fragments o.selection_set) (written (fragments_listed again) x.item.selection_set)
    is.set (λ name used. is.values given name used ∙ finals-agree given others own name (agree name used))
