-- What turning the nodes of an answer leaves, form by form.
use Rattle.std.proofs.Common.{◌≡◌, inl, inr, arith, Bool, Option, Some, None, Ok, List, [], ◌∷◌, ◌++◌, length, map, ap, sym, ◌∙◌, append-nil}
use Rattle.std.proofs.lemmas.List.{map_push}
use Rattle.graphql_field_results.specs.declared.resolved.Resolved.{Resolved, fold-roll-Resolved}
use Rattle.graphql_field_results.specs.declared.resolved.Resolved.TheOpen.{Resolved-F}
use Rattle.graphql_field_results.specs.declared.resolved.Resolved.TheVariants as resolved
use Rattle.graphql_names.specs.Names.{Bytes}
use Rattle.graphql_scalars.specs.ScalarAnswers.{ScalarAnswer}
use Rattle.graphql_arguments.specs.ArgumentValues.{Given}
use Rattle.graphql_schema.specs.declared.schema.SchemaType.{SchemaType}
use Rattle.graphql_introspection.specs.Answers.{part_answer}
use Rattle.graphql_introspection.specs.Nodes.{PartAnswer}
use Rattle.graphql_introspection.specs.declared.part.SchemaPart.{SchemaPart}
use Rattle.graphql_execution_walk.specs.Asked.{AskedAnswer, Resolves, asked_answer, asked_type, map_layer, map_nodes, or_asked, own_answer, told_of_itself}
use Rattle.graphql_execution_walk.specs.Standing.{IsTypeOf}
use Rattle.graphql_execution_walk.specs.declared.asked.Asked.{Asked}
use Rattle.graphql_execution_walk.specs.declared.asked.Asked.TheVariants as asked

module _ {S N M : Type 0} (f : N → M) where
  pub map_nodes-null : map_nodes {S = S} f resolved.Null ≡ resolved.Null
  map_nodes-null = ap (map_nodes {S = S} f) (sym resolved.rolls-Null) ∙ fold-roll-Resolved S N (Resolved S M) (map_layer {S = S} f) Resolved-F.Null

  pub map_nodes-scalar : (s : S) → map_nodes {S = S} f (resolved.Scalar s) ≡ resolved.Scalar s
  map_nodes-scalar s = ap (map_nodes {S = S} f) (sym (resolved.rolls-Scalar s)) ∙ fold-roll-Resolved S N (Resolved S M) (map_layer {S = S} f) (Resolved-F.Scalar s)

  pub map_nodes-list : (xs : List (Resolved S N)) → map_nodes {S = S} f (resolved.List xs) ≡ resolved.List (map (map_nodes {S = S} f) xs)
  map_nodes-list xs = ap (map_nodes {S = S} f) (sym (resolved.rolls-List xs)) ∙ fold-roll-Resolved S N (Resolved S M) (map_layer {S = S} f) (Resolved-F.List xs)

  pub map_nodes-node : (n : N) → map_nodes {S = S} f (resolved.Node n) ≡ resolved.Node (f n)
  map_nodes-node n = ap (map_nodes {S = S} f) (sym (resolved.rolls-Node n)) ∙ fold-roll-Resolved S N (Resolved S M) (map_layer {S = S} f) (Resolved-F.Node n)

pub ruleset map_forms = (map_nodes-null, map_nodes-scalar, map_nodes-list, map_nodes-node)

-- one more item of a list that a function was applied to
pub map_more : {A B : Type 0} (h : A → B) (ys : List A) (y : A) (made next : List B) (z : B) → made ≡ map h ys → next ≡ made ++ z ∷ [] → z ≡ h y → next ≡ map h (ys ++ y ∷ [])
map_more h ys y made next z before pushed is = pushed ∙ (λ i. before i ++ is i ∷ []) ∙ sym (map_push h ys y)

-- nothing is left
pub drained : {A : Type 0} (ys rest xs : List A) → ys ++ rest ≡ xs → length rest ≡ 0 → ys ≡ xs
drained ys [] xs is none = sym (append-nil ys) ∙ is
drained ys (x ∷ rest) xs is none = absurd (omega (arith, none))

-- the object type of a node is that of the node where it is asked
pub own-typed : {S N C : Type 0} (query : Bytes) (root node : N) (type_of : N → Bytes) (from : Asked S N C) (object : Bytes)
    → from ≡ asked.Own node → IsTypeOf query (asked.Own root) (asked_type type_of) from object
    → IsTypeOf query root type_of node object
own-typed query root node type_of from object is (inl own) = inl (own ∙ ap (asked_type type_of) is)
own-typed {S} {N} {C} query root node type_of from object is (inr (of_query, same)) =
    inr (of_query, (let both : ◌≡◌ {A = Asked S N C} (asked.Own node) (asked.Own root) = sym is ∙ same in cc))

-- over the same schema, name and argument values, what was found that an object tells of itself
module _ {S C N : Type 0} (of_text : Bytes → S) (of_bool : Bool → S) (answer : S → ScalarAnswer) (over schema : SchemaType S C)
    (resolves : Resolves S N) (node : Asked S N C) (object named name : Bytes) (values given : Given S) (found : Option (PartAnswer S C))
    (same : over ≡ schema) (is : named ≡ name) (are : values ≡ given) (finds : found ≡ told_of_itself of_text answer over object named values) where
  abbrev own : AskedAnswer S N C
  own = own_answer of_text of_bool answer schema resolves node name given

  finds-here : found ≡ told_of_itself of_text answer schema object name given
  finds-here = finds ∙ (λ i. told_of_itself of_text answer (same i) object (is i) (are i))

  -- is the answer
  pub told-answers : (told : PartAnswer S C) (result : Resolved S (Asked S N C)) → found ≡ Some told → result ≡ map_nodes asked.Part told
      → asked_answer of_text of_bool answer schema resolves node object name given ≡ Ok result
  told-answers told result some gives = ap (λ o. or_asked o own) (sym finds-here ∙ some) ∙ ap Ok (sym gives)

  -- where that is nothing, a part of the schema answers
  pub part-answers : (part : SchemaPart S C) (a : PartAnswer S C) (result : Resolved S (Asked S N C)) → found ≡ None → node ≡ asked.Part part
      → a ≡ part_answer of_text of_bool answer over part named values → result ≡ map_nodes asked.Part a
      → asked_answer of_text of_bool answer schema resolves node object name given ≡ Ok result
  part-answers part a result none at answers gives =
      let here : a ≡ part_answer of_text of_bool answer schema part name given =
      answers ∙ (λ i. part_answer of_text of_bool answer (same i) part (is i) (are i)) in
      ap (λ o. or_asked o own) (sym finds-here ∙ none) ∙ ap (λ n. own_answer of_text of_bool answer schema resolves n name given) at
      ∙ ap (λ x. Ok (map_nodes asked.Part x)) (sym here) ∙ ap Ok (sym gives)
