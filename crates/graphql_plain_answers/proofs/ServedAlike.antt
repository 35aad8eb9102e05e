-- Sets that are one but for places are alike for a request's engine, also by other values of the
-- variables that no field uses.
use Rattle.std.proofs.Common.{◌≡◌, refl, sym, ◌∙◌, ap, subst, Bool, true, false, [], ◌++◌, Option, ⊎_elim}
use Rattle.std.specs.Cmp.{IsEquivalence}
use Rattle.graphql_names.specs.Names.{Bytes}
use Rattle.graphql_scalars.specs.ScalarAnswers.{ScalarAnswer}
use Rattle.graphql_arguments.specs.ArgumentValues.{Given, argument_values}
use Rattle.graphql_schema.specs.declared.schema.SchemaType.{SchemaType}
use Rattle.graphql_written_out.specs.Conditions.{left_out}
use Rattle.graphql_written_out.specs.Trees.{Directives, Head, Tree, none, field, inline}
use Rattle.graphql_execution_walk.specs.Asked.{asked_answer}
use Rattle.graphql_execution_walk.specs.Engines.{Resolves, engine_over}
use Rattle.graphql_execution_walk.specs.FieldDeclarations.{declared_arguments}
use Rattle.graphql_execution_walk.specs.declared.asked.Asked.{Asked}
use Rattle.graphql_mutation.specs.Mutations.{Changes, mutation_over, told_first}
use Rattle.graphql_mutation.specs.Serial.{Mutation}
use Rattle.graphql_moved.specs.UnlocatedTrees.{unlocated_head, unlocated_marks, unlocated_tree}
use Rattle.graphql_moved.proofs.UnlocatedWritten.{left-out-unlocated}
use Rattle.graphql_plain_tree.specs.Laws.{Fit}
use Rattle.graphql_plain_tree.specs.PlainOperations.{variables_given, variables_used}
use Rattle.graphql_plain_tree.specs.PlainShape.{IsPlain, IsPlainSet}
use Rattle.graphql_plain_answers.specs.AgreeingValues.{AgreeOn, Values}
use Rattle.graphql_plain_answers.specs.AlikeMutations.{SetsServedAlike, AreServedAlike, AskOverOneSchema}
use Rattle.graphql_plain_answers.specs.Lawful.{IsLawful}
use Rattle.graphql_plain_answers.proofs.AskedAlike.{asked-alike, step-alike}
use Rattle.graphql_plain_answers.proofs.FilledLiterals.{agree-left, agree-right}
use Rattle.graphql_plain_answers.proofs.UnlocatedArguments.{values-alike}
use Rattle.graphql_plain_answers.proofs.OuterLayers.{by-image}

field-parts : {S : Type 0} (h k : Head S) (ds es : Directives S) (b i r m : Tree S)
    → field h ds b r ≡ field k es i m
    → (h ≡ k) × (ds ≡ es) × (b ≡ i) × (r ≡ m)
field-parts h k ds es b i r m same = (cc, cc, cc, cc)

inline-parts : {S : Type 0} (on at : Option Bytes) (ds es : Directives S) (b i r m : Tree S)
    → inline on ds b r ≡ inline at es i m
    → (on ≡ at) × (ds ≡ es) × (b ≡ i) × (r ≡ m)
inline-parts on at ds es b i r m same = (cc, cc, cc, cc)

module _ {S : Type 0} (answer : S → ScalarAnswer) (given other : Values S) where
  abbrev SameLeft : Directives S → Type 0
  SameLeft directives = left_out answer given directives ≡ left_out answer other directives

  -- of the directives of a set the same leave out by the one and by the other
  abbrev pub LeftAlike : Tree S → Type 0
  LeftAlike none = Unit {0}
  LeftAlike (field head directives below rest) =
      SameLeft directives × LeftAlike below × LeftAlike rest
  LeftAlike (inline on directives below rest) =
      SameLeft directives × LeftAlike below × LeftAlike rest

  module _ (stand_in : Directives S) (fits : Fit (left_out answer given) stand_in)
      (fits-too : Fit (left_out answer other) stand_in) where
    stand-in-alike : (directives : Directives S) → directives ≡ stand_in → SameLeft directives
    stand-in-alike directives is = subst SameLeft (sym is) (fits.0 ∙ sym fits-too.0)

    none-alike : (directives : Directives S) → directives ≡ [] → SameLeft directives
    none-alike directives is = subst SameLeft (sym is) (fits.1 ∙ sym fits-too.1)

    plain-left : (stands_in : Bool) (t : Tree S) → IsPlainSet stand_in stands_in t → LeftAlike t
    plain-left stands_in none h = tt
    plain-left true (field head directives below rest) h = (
      stand-in-alike directives h.0,
      ⊎_elim (plain-left true below) (plain-left false below) h.2,
      subst LeftAlike (sym h.1) tt,
    )
    plain-left false (field head directives below rest) h = (
      none-alike directives h.0,
      ⊎_elim (plain-left true below) (plain-left false below) h.2,
      plain-left false rest h.1,
    )
    plain-left true (inline on directives below rest) h = (
      stand-in-alike directives h.0,
      ⊎_elim (plain-left true below) (plain-left false below) h.2,
      subst LeftAlike (sym h.1) tt,
    )
    plain-left false (inline on directives below rest) h = (
      none-alike directives h.0,
      ⊎_elim (plain-left true below) (plain-left false below) h.2,
      plain-left false rest h.1,
    )

    -- so it is of a plain set, whatever values variables have
    pub plain-left-alike : (t : Tree S) → IsPlain stand_in t → LeftAlike t
    plain-left-alike t h = ⊎_elim (plain-left true t) (plain-left false t) h

pub left-itself : {S : Type 0} (answer : S → ScalarAnswer) (given : Values S) (t : Tree S)
    → LeftAlike answer given given t
left-itself answer given none = tt
left-itself answer given (field head directives below rest) =
    (refl, left-itself answer given below, left-itself answer given rest)
left-itself answer given (inline on directives below rest) =
    (refl, left-itself answer given below, left-itself answer given rest)

module _ {S C N X : Type 0} (of_text : Bytes → S) (of_bool : Bool → S) (answer : S → ScalarAnswer)
    (schema : SchemaType S C)
    (eq : S → S → Bool) (laws : IsEquivalence eq) (type_of : X → N → Bytes)
    (resolves : X → Resolves S N) (changes : Changes S N X)
    (lawful : IsLawful eq resolves changes) (given other : Values S) where
  abbrev asked-by : Values S → Mutation S (Asked S N C) X
  asked-by values = mutation_over of_text of_bool answer schema values type_of resolves changes

  pub one-schema : AskOverOneSchema (asked-by given) (asked-by other)
  unfolding engine_over
  one-schema c =
      record {
        is_below = refl;
        declared = refl;
        is_leaf = refl;
        is_possible = refl;
        concrete = refl;
      }

  abbrev values-by : Values S → Bytes → Head S → Given S
  values-by values object head =
      argument_values values (declared_arguments schema.types object head.name) head.arguments

  served-alike : (h k : Head S) → unlocated_head h ≡ unlocated_head k
      → AgreeOn given other (variables_given h.arguments)
      → AreServedAlike (asked-by given) (asked-by other) h k
  unfolding engine_over
  served-alike h k same agree =
      let name : h.name ≡ k.name = ap (λ (x : Head S). x.name) same in
      let values = λ (object : Bytes).
      values-alike given other (declared_arguments schema.types object h.name) h.arguments
      k.arguments
      (ap (λ (x : Head S). x.arguments) same) agree in
      record {
        answered = λ c. record {
          key = ap (λ (x : Head S). x.key) same;
          name = name;
          answers = λ node object.
              asked-alike of_text of_bool answer schema (values-by given object h)
              (argument_values other (declared_arguments schema.types object h.name) k.arguments)
              (values object)
              eq laws resolves changes lawful c node object h.name
              ∙ ap (λ n. asked_answer of_text of_bool answer schema (resolves c) node object n
              (argument_values other (declared_arguments schema.types object n) k.arguments)) name;
        };
        steps = λ c object.
            step-alike of_text of_bool answer schema (values-by given object h)
            (argument_values other (declared_arguments schema.types object h.name) k.arguments)
            (values object)
            eq laws resolves changes lawful c object h.name
            ∙ ap (λ n. told_first of_text answer schema changes c object n
            (argument_values other (declared_arguments schema.types object n) k.arguments)) name;
      }

  marks-alike : (ds es : Directives S) → unlocated_marks ds ≡ unlocated_marks es
      → left_out answer given ds ≡ left_out answer other ds
      → left_out answer given ds ≡ left_out answer other es
  marks-alike ds es same left =
      left ∙ by-image unlocated_marks (left_out answer other) (left-out-unlocated answer other) ds es
      same

  pub trees-alike : (t u : Tree S) → unlocated_tree t ≡ unlocated_tree u
      → AgreeOn given other (variables_used t)
      → LeftAlike answer given other t → SetsServedAlike (asked-by given) (asked-by other) t u
  unfolding engine_over
  trees-alike none none same agree left = tt
  trees-alike none (field k es inner more) same agree left = absurd (cc)
  trees-alike none (inline at es inner more) same agree left = absurd (cc)
  trees-alike (field h ds below rest) none same agree left = absurd (cc)
  trees-alike (field h ds below rest) (inline at es inner more) same agree left = absurd (cc)
  trees-alike (field h ds below rest) (field k es inner more) same agree left =
      let parts =
      field-parts (unlocated_head h) (unlocated_head k) (unlocated_marks ds) (unlocated_marks es)
      (unlocated_tree below) (unlocated_tree inner) (unlocated_tree rest) (unlocated_tree more)
      same in
      let own = variables_given h.arguments in
      let inside = variables_used below in
      let behind = variables_used rest in
      let others = agree-right given other own (inside ++ behind) agree in (
        served-alike h k parts.0 (agree-left given other own (inside ++ behind) agree),
        λ c. marks-alike ds es parts.1 left.0,
        trees-alike below inner parts.2 (agree-left given other inside behind others) left.1,
        trees-alike rest more parts.3 (agree-right given other inside behind others) left.2,
      )
  trees-alike (inline on ds below rest) none same agree left = absurd (cc)
  trees-alike (inline on ds below rest) (field k es inner more) same agree left = absurd (cc)
  trees-alike (inline on ds below rest) (inline at es inner more) same agree left =
      let parts =
      inline-parts on at (unlocated_marks ds) (unlocated_marks es)
      (unlocated_tree below) (unlocated_tree inner) (unlocated_tree rest) (unlocated_tree more)
      same in
      let inside = variables_used below in
      let behind = variables_used rest in (
        parts.0,
        λ c. marks-alike ds es parts.1 left.0,
        trees-alike below inner parts.2 (agree-left given other inside behind agree) left.1,
        trees-alike rest more parts.3 (agree-right given other inside behind agree) left.2,
      )
