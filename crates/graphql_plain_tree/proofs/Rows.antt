-- Plain sets and plain operations of small queries: of a fragment, of sets of which all are left out, of a mutation with variables, of fragments that spread twice.
use Rattle.std.proofs.Common.{◌≡◌, refl, sym, ◌∙◌, ap, subst, Bool, true, false, not, ◌&&◌, ◌||◌, List, [], ◌∷◌, ◌++◌, map, Option, Some, None, cond, inl, inr}
use Rattle.std.specs.Prelude.{codes, if◌then◌else◌}
use Rattle.std.specs.Option.{is_some, option_and_then}
use Rattle.std.specs.Str.{bytes_eq}
use Rattle.graphql_names.specs.Names.{Bytes}
use Rattle.graphql_scalars.specs.ScalarAnswers.{ScalarAnswer, boolean, text}
use Rattle.graphql_text.specs.Position.{origin}
use Rattle.graphql_text.specs.declared.position.Span.{Span}
use Rattle.graphql_values.specs.InputValues.{unplaced}
use Rattle.graphql_values.specs.Variables.{variables_layer}
use Rattle.graphql_values.specs.declared.input_value.InputValue.{InputValue}
use Rattle.graphql_values.specs.declared.input_value.InputValue.TheVariants as value
use Rattle.graphql_values.proofs.InputValueEquations.{fold_scalar, fold_variable}
use Rattle.graphql_tree.specs.Arguments.{Argument}
use Rattle.graphql_tree.specs.Variables.{Variable}
use Rattle.graphql_tree.specs.declared.directive.Directive.{Directive}
use Rattle.graphql_tree.specs.declared.document.Fragment.{Fragment}
use Rattle.graphql_tree.specs.declared.document.Operation.{Operation}
use Rattle.graphql_tree.specs.declared.document.OperationType.TheVariants as operation
use Rattle.graphql_tree.specs.declared.selection.Field.{Field}
use Rattle.graphql_tree.specs.declared.selection.FragmentSpread.{FragmentSpread}
use Rattle.graphql_tree.specs.declared.selection.Selection.{Selection}
use Rattle.graphql_tree.specs.declared.selection.Selection.TheVariants as selection
use Rattle.graphql_tree.specs.declared.variable.VariableDefinition.{VariableDefinition}
use Rattle.graphql_written_out.specs.Conditions.{is_false, is_true, leaves_out, left_out, truth, truth_layer, truth_of}
use Rattle.graphql_written_out.specs.Fields.{Found, fields}
use Rattle.graphql_written_out.specs.Trees.{Directives, Head, Tree, none, field, inline, IsFilled}
use Rattle.graphql_written_out.specs.Written.{listed, fragment_meant, Before, chain, spread_as, write, write_with, written}
use Rattle.graphql_written_out.proofs.WrittenEquations.{write_field, write_spread}
use Rattle.graphql_plain_tree.specs.DocumentTrees.{unplaced_fields, IsKeyed}
use Rattle.graphql_plain_tree.specs.Laws.{Fit, plain_found, unplaced_operation}
use Rattle.graphql_plain_tree.specs.Plain.{plain_set, size}
use Rattle.graphql_plain_tree.specs.PlainDocuments.{operation_as}
use Rattle.graphql_plain_tree.specs.PlainOperations.{definitions_used, operation_with, plain_by, plain_operation, without_directives, variables_used}
use Rattle.graphql_plain_tree.specs.StandIns.{skip_true}
use Rattle.graphql_plain_tree.proofs.DocumentSets.{written-selections, document-is-its-tree}
use Rattle.graphql_plain_tree.proofs.FilledSets.{filled-plain}
use Rattle.graphql_plain_tree.proofs.OperationsAgain.{operation-again}
use Rattle.graphql_plain_tree.proofs.PlainFields.{fields-plain}
use Rattle.graphql_plain_tree.proofs.PlainShapes.{plain-stays, plain-again}
use Rattle.graphql_plain_tree.proofs.StandInLaws.{truth-of_literal, stand-in-leaves-out}

-- scalars that are what they answer
abbrev pub Scalar : Type 0
Scalar = ScalarAnswer

abbrev pub itself : Scalar → Scalar
itself scalar = scalar

-- the values of variables
abbrev pub Values : Type 0
Values = Bytes → Option (InputValue Scalar)

-- `$x` has this value, and no other variable has one
abbrev pub given_x : Option (InputValue Scalar) → Values
given_x given name = if bytes_eq name (codes "x") then given else None

abbrev pub truth_value : Bool → InputValue Scalar
truth_value b = value.Scalar (boolean b)

-- ---- sets

abbrev pub field_named : Bytes → List (Argument Scalar) → Bool → Head Scalar
field_named name arguments has_set =
    record { key = name; name = name; is_aliased = false; arguments = arguments; has_set = has_set; place = origin }

-- `{ hero SET }`
abbrev pub hero : Tree Scalar → Tree Scalar
hero set = field (field_named (codes "hero") [] true) [] set none

-- `friend SET`
abbrev pub friend : Tree Scalar → Tree Scalar
friend set = field (field_named (codes "friend") [] true) [] set none

abbrev pub id_field : Directives Scalar → Tree Scalar → Tree Scalar
id_field directives rest = field (field_named (codes "id") [] false) directives none rest

abbrev pub name_field : Directives Scalar → Tree Scalar
name_field directives = field (field_named (codes "name") [] false) directives none none

-- `... on Human SET`
abbrev pub on_human : Tree Scalar → Tree Scalar → Tree Scalar
on_human set rest = inline (Some (codes "Human")) [] set rest

-- ---- directives

abbrev pub directive : Bytes → InputValue Scalar → Directives Scalar
directive name condition =
    unplaced (record { name = unplaced name; arguments = Some (unplaced (record { items = (unplaced (codes "if"), unplaced condition) ∷ [] })) }) ∷ []

-- `@include(if: $x)`
abbrev pub include_x : Directives Scalar
include_x = directive (codes "include") (value.Variable (codes "x"))

abbrev pub drops : Values → Directives Scalar → Bool
drops given = left_out itself given

-- `@skip(if: true)` of a stand-in
abbrev pub stand_in : Directives Scalar
stand_in = skip_true boolean

-- it leaves out, and no directives do not, whatever values variables have
pub stand_in_fits : (given : Values) → Fit (drops given) stand_in
stand_in_fits = stand-in-leaves-out itself boolean (λ b. refl)

value_of_x : (given : Values) → truth itself given (value.Variable (codes "x")) ≡ option_and_then (truth_of itself) (given (codes "x"))
value_of_x given = ap (option_and_then (truth_of itself)) (fold_variable _ (codes "x"))

pub truth_of_boolean : (b : Bool) → truth_of itself (truth_value b) ≡ Some b
truth_of_boolean b = ap (truth_layer itself) (value.outs-Scalar (boolean b))

pub truth_of_null : truth_of itself value.Null ≡ None
truth_of_null = ap (truth_layer itself) value.outs-Null

-- `@include(if: $x)` leaves out where `$x` is no true, be it false or null, and does not where it is true
pub include_x_of : (given : Values) (b : Option Bool) → option_and_then (truth_of itself) (given (codes "x")) ≡ b
    → drops given include_x ≡ (not (is_true b) || false)
unfolding leaves_out
include_x_of given b e = ap (λ o. not (is_true o) || false) (value_of_x given ∙ e)

pub false_leaves_out : drops (given_x (Some (truth_value false))) include_x ≡ true
false_leaves_out = include_x_of (given_x (Some (truth_value false))) (Some false) (truth_of_boolean false)

pub null_leaves_out : drops (given_x (Some value.Null)) include_x ≡ true
null_leaves_out = include_x_of (given_x (Some value.Null)) None truth_of_null

pub true_keeps : drops (given_x (Some (truth_value true))) include_x ≡ false
true_keeps = include_x_of (given_x (Some (truth_value true))) (Some true) (truth_of_boolean true)

-- ---- a fragment, and fragments that spread twice

-- `{ hero { ... on Human { id friend { id } } friend { name } } }`, which `{ hero { ...F friend { name } } }` is once written out
abbrev pub of_fragment : Tree Scalar
of_fragment = hero (on_human (id_field [] (friend (id_field [] none))) (friend (name_field [])))

pub fragment_is_plain : (given : Values) → plain_by itself boolean given of_fragment ≡ of_fragment
fragment_is_plain given = refl

pub fragment_has_seven : size of_fragment ≡ 7
fragment_has_seven = refl

-- `{ hero { ...A ...A } }`, where A spreads twice B, and B is `{ id }`
abbrev pub of_b : Tree Scalar → Tree Scalar
of_b rest = on_human (id_field [] none) rest

abbrev pub of_a : Tree Scalar → Tree Scalar
of_a rest = on_human (of_b (of_b none)) rest

pub twice_has_eleven : (given : Values) → size (plain_by itself boolean given (hero (of_a (of_a none)))) ≡ 11
twice_has_eleven given = refl

-- ---- a set of which all are left out

-- `{ hero { name @include(if: $x) } }`
abbrev pub name_if_x : Tree Scalar
name_if_x = hero (name_field include_x)

-- `{ hero { name @skip(if: true) } }`
abbrev pub name_skipped : Tree Scalar
name_skipped = hero (name_field stand_in)

-- where the condition leaves it out, the name stands for the set, else it stands without the directive
pub name_left_out : (given : Values) → drops given include_x ≡ true → plain_by itself boolean given name_if_x ≡ name_skipped
name_left_out given out = λ i. hero (plain_set (drops given) stand_in (out i && true) (name_field include_x))

pub name_kept : (given : Values) → drops given include_x ≡ false → plain_by itself boolean given name_if_x ≡ hero (name_field [])
name_kept given stays =
    (λ i. hero (plain_set (drops given) stand_in (stays i && true) (name_field include_x)))
    ∙ (λ i. hero (cond (stays i) none (name_field [])))

-- so of `$x` false, and null; and of `$x` true
pub name_of_false : plain_by itself boolean (given_x (Some (truth_value false))) name_if_x ≡ name_skipped
name_of_false = name_left_out (given_x (Some (truth_value false))) false_leaves_out

pub name_of_null : plain_by itself boolean (given_x (Some value.Null)) name_if_x ≡ name_skipped
name_of_null = name_left_out (given_x (Some value.Null)) null_leaves_out

pub name_of_true : plain_by itself boolean (given_x (Some (truth_value true))) name_if_x ≡ hero (name_field [])
name_of_true = name_kept (given_x (Some (truth_value true))) true_keeps

-- what is plain of `$x` false stays so where `$x` is true
pub name_stays : plain_by itself boolean (given_x (Some (truth_value true))) name_skipped ≡ name_skipped
name_stays =
    let false_given : Values = given_x (Some (truth_value false)) in
    let true_given : Values = given_x (Some (truth_value true)) in
    subst (λ (t : Tree Scalar). plain_by itself boolean true_given t ≡ t) name_of_false
    (plain-again (drops false_given) (drops true_given) stand_in (stand_in_fits true_given) name_if_x)

-- its sets stand where those of the query do
pub skipped_is_filled : IsFilled name_skipped
skipped_is_filled =
    subst IsFilled name_of_false
    (filled-plain (drops (given_x (Some (truth_value false)))) stand_in name_if_x (refl, (refl, tt, tt), tt))

-- ---- a fragment of which all are left out

-- `{ hero { __typename: name ... on Human { id DIRECTIVES } } }`
abbrev pub typename : Head Scalar
typename = record {
  key = codes "__typename";
  name = codes "name";
  is_aliased = true;
  arguments = [];
  has_set = false;
  place = origin;
}

abbrev pub typename_and : Directives Scalar → Tree Scalar
typename_and directives = field typename [] none (on_human (id_field directives none) none)

-- `@skip(if: true)` as it is written somewhere
abbrev pub skip_at : Span → Directives Scalar
skip_at span =
    (let skip : Directive Scalar = record {
      name = record { item = codes "skip"; span = span };
      arguments = Some (record {
        item = record { items = (record { item = codes "if"; span = span }, record { item = truth_value true; span = span }) ∷ [] };
        span = span;
      });
    } in
    record { item = skip; span = span }) ∷ []

skip_leaves_out : (given : Values) (span : Span) → drops given (skip_at span) ≡ true
unfolding leaves_out
skip_leaves_out given span = ap (λ o. not (is_false o) || false) (truth-of_literal itself boolean (λ b. refl) given true)

-- the alias stays, and the one field of the fragment stands in
pub id_stands_in : (given : Values) (span : Span) → plain_by itself boolean given (hero (typename_and (skip_at span))) ≡ hero (typename_and stand_in)
id_stands_in given span =
    λ i. hero (field typename [] none (on_human (plain_set (drops given) stand_in (skip_leaves_out given span i && true) (id_field (skip_at span) none)) none))

-- a fragment that is left out alone stands for its set, with its own selections
pub fragment_stands_in : (given : Values) (span : Span)
    → plain_by itself boolean given (hero (inline (Some (codes "Human")) (skip_at span) (id_field [] none) none))
    ≡ hero (inline (Some (codes "Human")) stand_in (id_field [] none) none)
fragment_stands_in given span =
    λ i. hero (plain_set (drops given) stand_in (skip_leaves_out given span i && true) (inline (Some (codes "Human")) (skip_at span) (id_field [] none) none))

-- for a human both have the field of that alias alone
abbrev pub above_human : Bytes → Bool
above_human on = bytes_eq on (codes "Human")

abbrev pub typename_found : List (Found Scalar)
typename_found = record { head = typename; below = none } ∷ []

pub typename_alone : (given : Values) (span : Span) → fields (drops given) above_human (plain_by itself boolean given (typename_and (skip_at span))) ≡ typename_found
typename_alone given span =
    let below : List (Found Scalar) = record { head = field_named (codes "id") [] false; below = none } ∷ [] in
    fields-plain (drops given) stand_in (stand_in_fits given) above_human (typename_and (skip_at span))
    ∙ (λ i. typename_found ++ map (plain_found (drops given) stand_in) (cond (skip_leaves_out given span i) [] below ++ []))

-- the set with the stand-in is plain by itself
pub stand_in_is_plain : (given : Values) → plain_by itself boolean given (hero (typename_and stand_in)) ≡ hero (typename_and stand_in)
stand_in_is_plain given =
    plain-stays (drops given) stand_in (stand_in_fits given) (hero (typename_and stand_in))
    (inr (refl, tt, inr (refl, (refl, tt, inl (refl, refl, inl tt)), inl tt)))

-- ---- a mutation of which one variable is used

-- `rename(id: "h2", name: $n) DIRECTIVES { id }`
abbrev pub rename : Directives Scalar → Tree Scalar
rename directives =
    field (field_named (codes "rename")
    ((unplaced (codes "id"), unplaced (value.Scalar (text (codes "h2")))) ∷ (unplaced (codes "name"), unplaced (value.Variable (codes "n"))) ∷ [])
    true) directives (id_field [] none) none

pub rename_left_out : (given : Values) → drops given include_x ≡ true → plain_by itself boolean given (rename include_x) ≡ rename stand_in
rename_left_out given out = λ i. plain_set (drops given) stand_in (out i && true) (rename include_x)

-- `mutation M($n: .., $x: ..) { rename(id: "h2", name: $n) @include(if: $x) { id } }`, where `$x` leaves out: `$x` is no longer used
module _ (given : Values) (out : drops given include_x ≡ true) (of_n of_x : VariableDefinition Scalar) where
  abbrev n : Variable Scalar
  n = (unplaced (codes "n"), of_n)

  abbrev x : Variable Scalar
  x = (unplaced (codes "x"), of_x)

  n_is_used : variables_used (rename stand_in) ≡ codes "n" ∷ []
  n_is_used =
      let given_h2 = fold_scalar (variables_layer {S = Scalar}) (text (codes "h2")) in
      let given_n = fold_variable (variables_layer {S = Scalar}) (codes "n") in
      λ i. (given_h2 i ++ (given_n i ++ [])) ++ []

  -- also where the mutation's field stands within a fragment of a field
  n_is_used_below : variables_used (hero (on_human (rename stand_in) none)) ≡ codes "n" ∷ []
  n_is_used_below = ap (λ xs. (xs ++ []) ++ []) n_is_used

  pub rename_alone : operation_with operation.Mutation (Some (codes "M")) (n ∷ x ∷ []) (plain_by itself boolean given (rename include_x))
      ≡ record { operation_type = operation.Mutation; name = Some (codes "M"); variables = without_directives n ∷ []; set = rename stand_in }
  rename_alone =
      ap (operation_with operation.Mutation (Some (codes "M")) (n ∷ x ∷ [])) (rename_left_out given out)
      ∙ (λ i. record { operation_type = operation.Mutation; name = Some (codes "M"); variables = definitions_used (n_is_used i) (n ∷ x ∷ []); set = rename stand_in })

-- ---- an operation with a fragment

-- `NAME SET`
abbrev pub select : Bytes → Option (List (Selection Scalar)) → Selection Scalar
select name set =
    selection.Field (unplaced (record {
      alias = None;
      name = unplaced name;
      arguments = None;
      directives = None;
      selection_set = set;
    }))

abbrev pub spread : Bytes → FragmentSpread Scalar
spread name = record { name = unplaced name; directives = None }

-- `fragment F on Human { id friend { id } }`
abbrev pub fragment : Fragment Scalar
fragment = record {
  name = unplaced (codes "F");
  type_condition = unplaced (codes "Human");
  directives = None;
  selection_set = select (codes "id") None ∷ select (codes "friend") (Some (select (codes "id") None ∷ [])) ∷ [];
}

-- `{ ...F friend { name } }`
abbrev pub spread_and_friend : List (Selection Scalar)
spread_and_friend =
    selection.FragmentSpread (unplaced (spread (codes "F")))
    ∷ select (codes "friend") (Some (select (codes "name") None ∷ [])) ∷ []

-- `{ hero { ...F friend { name } } }`
abbrev pub spreading_query : Operation Scalar
spreading_query = record {
  operation_type = operation.Query;
  name = None;
  variable_definitions = None;
  directives = None;
  selection_set = select (codes "hero") (Some spread_and_friend) ∷ [];
}

select_is : (r : FragmentSpread Scalar → Before Scalar) (name : Bytes) (set : Option (List (Selection Scalar))) (below rest : Tree Scalar)
    → chain (map (write_with r) (listed set)) none ≡ below
    → write_with r (select name set) rest ≡ field (field_named name [] (is_some set)) [] below rest
select_is r name set below rest e =
    let x : Field Scalar = record { alias = None; name = unplaced name; arguments = None; directives = None; selection_set = set } in
    write_field r (unplaced x) rest ∙ ap (λ (t : Tree Scalar). field (field_named name [] (is_some set)) [] t rest) e

fragment_is : (r : FragmentSpread Scalar → Before Scalar) → chain (map (write_with r) fragment.selection_set) none ≡ id_field [] (friend (id_field [] none))
fragment_is r =
    select_is r (codes "id") None none _ refl
    ∙ ap (λ (t : Tree Scalar). id_field [] t)
    (select_is r (codes "friend") (Some (select (codes "id") None ∷ [])) (id_field [] none) none (select_is r (codes "id") None none none refl))

-- the spread becomes an inline fragment with the fragment's condition
pub spread_is_written : written (fragment ∷ []) spreading_query.selection_set ≡ of_fragment
unfolding written
spread_is_written =
    let fragments : List (Fragment Scalar) = fragment ∷ [] in
    let inner : FragmentSpread Scalar → Before Scalar =
    λ x rest. spread_as (write 0 fragments) (listed x.directives) rest (fragment_meant fragments x.name.item) in
    let outer : FragmentSpread Scalar → Before Scalar =
    λ x rest. spread_as (write 1 fragments) (listed x.directives) rest (fragment_meant fragments x.name.item) in
    let behind : Tree Scalar = write_with outer (select (codes "friend") (Some (select (codes "name") None ∷ []))) none in
    select_is outer (codes "hero") (Some spread_and_friend) (on_human (id_field [] (friend (id_field [] none))) (friend (name_field []))) none
    (write_spread outer (unplaced (spread (codes "F"))) behind
    ∙ ap (λ (t : Tree Scalar). on_human t behind) (fragment_is inner)
    ∙ ap (λ (t : Tree Scalar). on_human (id_field [] (friend (id_field [] none))) t)
    (select_is outer (codes "friend") (Some (select (codes "name") None ∷ [])) (name_field []) none (select_is outer (codes "name") None none none refl)))

pub spreading_query_is_plain : (given : Values) → plain_operation itself boolean given (fragment ∷ []) spreading_query
    ≡ record { operation_type = operation.Query; name = None; variables = []; set = of_fragment }
spreading_query_is_plain given = λ i. operation_with operation.Query None [] (plain_by itself boolean given (spread_is_written i))

-- ---- a document

-- `query { hero { ... on Human { .. } friend { name } } }` as a document
abbrev pub fragment_query : Operation Scalar
fragment_query = operation_as (operation_with operation.Query None [] of_fragment)

pub query_is_written : written [] fragment_query.selection_set ≡ unplaced_fields of_fragment
query_is_written = written-selections [] of_fragment filled keyed
  where
    filled : IsFilled of_fragment
    filled = (refl, (refl, (refl, tt, (refl, (refl, tt, tt), tt)), (refl, (refl, tt, tt), tt)), tt)

    keyed : IsKeyed of_fragment
    keyed = (λ e. refl, ((λ e. refl, tt, (λ e. refl, (λ e. refl, tt, tt), tt)), (λ e. refl, (λ e. refl, tt, tt), tt)), tt)

-- and what is plain of that
pub plain_query_is_written : (given : Values) → (written [] (operation_as (plain_operation itself boolean given [] fragment_query)).selection_set)
    ≡ unplaced_fields (plain_operation itself boolean given [] fragment_query).set
plain_query_is_written given =
    document-is-its-tree itself boolean given [] fragment_query
    (subst IsFilled (sym query_is_written) (refl, (refl, (refl, tt, (refl, (refl, tt, tt), tt)), (refl, (refl, tt, tt), tt)), tt))

-- whose operation is its own plain operation
pub plain_query_stays : (given other : Values)
    → plain_operation itself boolean other [] (operation_as (plain_operation itself boolean given (fragment ∷ []) spreading_query))
    ≡ record { operation_type = operation.Query; name = None; variables = []; set = unplaced_fields of_fragment }
plain_query_stays given other =
    operation-again itself boolean (λ b. refl) given other (fragment ∷ []) spreading_query
    (subst IsFilled (sym spread_is_written) (refl, (refl, (refl, tt, (refl, (refl, tt, tt), tt)), (refl, (refl, tt, tt), tt)), tt))
    ∙ ap unplaced_operation (spreading_query_is_plain given)
