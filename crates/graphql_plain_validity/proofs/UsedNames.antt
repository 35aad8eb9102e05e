-- The uses of variables in a plain document, and the names that its plain set uses.
use Rattle.std.proofs.Common.{◌≡◌, refl, sym, subst, arith, Bool, true, List, [], ◌++◌, Option, Some, None}
use Rattle.std.specs.List.{AllByRecursion as Each, Contains, flat_map}
use Rattle.std.specs.Option.{option_to_list}
use Rattle.std.proofs.lemmas.List.Elements.{Contains-append_left, Contains-append_right}
use Rattle.graphql_names.specs.Names.{Bytes, is_one_of}
use Rattle.graphql_scalars.specs.ScalarAnswers.{ScalarAnswer, boolean}
use Rattle.graphql_text.specs.Position.{origin}
use Rattle.graphql_text.specs.declared.position.SourcePosition.{SourcePosition}
use Rattle.graphql_values.specs.InputValues.{Placed, Pair}
use Rattle.graphql_values.specs.Variables.{IsConstant, names_of_variables as variables_of, variables_layer}
use Rattle.graphql_values.specs.declared.input_value.InputValue.{InputValue}
use Rattle.graphql_values.specs.declared.input_value.InputValue.TheVariants as value
use Rattle.graphql_values.proofs.InputValueEquations.{fold_variable}
use Rattle.graphql_values.proofs.InputValueInduction.{value_ind, HoldsOfItems, HoldsOfPairs}
use Rattle.graphql_values.proofs.VariableLaws.{none_is_listed}
use Rattle.graphql_values.proofs.VariableLemmas.{variables_in_list, variables_in_object}
use Rattle.graphql_tree.specs.Arguments.{Argument}
use Rattle.graphql_tree.specs.Variables.{Variable}
use Rattle.graphql_schema.specs.declared.meta.argument.Argument.{Argument as Declared}
use Rattle.graphql_schema.specs.Declarations.{Declarations}
use Rattle.graphql_occurrences.specs.Lookups.{argument_place, bare_place, field_arguments, field_in, field_place, item_place}
use Rattle.graphql_occurrences.specs.Occurrences.{given_parts, placed_parts, set_parts, value_parts, variable_parts}
use Rattle.graphql_occurrences.specs.Parts.{InputPlace, Part, VariableUsed}
use Rattle.graphql_occurrences.proofs.OccurrenceEquations.{parts_null, parts_scalar, parts_enum, parts_variable, parts_list, parts_object}
use Rattle.graphql_rules_document.proofs.LeastLemmas.{each_at, each_from, each_in, in_self}
use Rattle.graphql_rules_document.proofs.ListItems.{all-of, nothing-in}
use Rattle.graphql_written_out.specs.Conditions.{left_out}
use Rattle.graphql_written_out.specs.Trees.{Tree, none, field, inline, IsFilled}
use Rattle.graphql_plain_tree.specs.PlainDocuments.{selections_of}
use Rattle.graphql_plain_tree.specs.PlainOperations.{plain_by, variables_given, variables_used, without_directives}
use Rattle.graphql_plain_tree.specs.StandIns.{skip_true}
use Rattle.graphql_plain_tree.proofs.FilledSets.{filled-plain}
use Rattle.graphql_plain_tree.proofs.PlainShapes.{plain-again}
use Rattle.graphql_plain_tree.proofs.StandInLaws.{stand-in-leaves-out}
use Rattle.graphql_plain_validity.proofs.EachItem.{each-append, each-flat, flat-in}
use Rattle.graphql_plain_validity.proofs.PlainSetParts.{HoldsOfStandIns, plain-holds}
use Rattle.graphql_plain_validity.proofs.WrittenParts.{AtCondition, HoldsIn, Scope, below_field, inside}

pub one-of : (names : List Bytes) (name : Bytes) → Contains names name → is_one_of names name ≡ true
one-of names name there = each_at (λ n. is_one_of names n ≡ true) names name (in_self names) there

pub among : (names : List Bytes) (name : Bytes) → is_one_of names name ≡ true → Contains names name
among names name h =
    each_in (Contains names) names name (each_from (Contains names) names (λ n there. there)) h

module _ {S C : Type 0} (schema : Declarations S C) where
  -- ---- each use has one of the names

  -- what is used has one of these names
  abbrev pub Named : List Bytes → Part S C → Type 0
  Named names (VariableUsed u) = Contains names u.name
  Named names _ = Unit {0}

  module _ (names : List Bytes) where
    abbrev Within : List Bytes → Type 0
    Within ns = (n : Bytes) → Contains ns n → Contains names n

    abbrev IsNamed : InputValue S → Type 0
    IsNamed v =
        Within (variables_of v) → (start : SourcePosition) (here : Option InputPlace) → Each
        (Named names) (value_parts schema v start here)

    variable-named : (n : Bytes) → IsNamed (value.Variable n)
    variable-named n h start here =
        subst (Each (Named names)) (sym (parts_variable schema n start here)) (
          h n
              (subst (λ ns. Contains ns n) (sym (fold_variable variables_layer n))
              (0, omega arith, refl)),
          tt,
        )

    list-named : (xs : List (Placed (InputValue S))) → HoldsOfItems IsNamed xs
        → IsNamed (value.List xs)
    list-named xs each h start here =
        subst (Each (Named names)) (sym (parts_list schema xs start here))
        (each-flat (Named names) (λ x. value_parts schema x.item x.span.start (item_place here)) xs
        (λ x i. all-of (λ (y : Placed (InputValue S)). IsNamed y.item) xs each x i
        (λ n j. h n
        (subst (λ ns. Contains ns n) (sym (variables_in_list xs))
        (flat-in (λ (y : Placed (InputValue S)). variables_of y.item) xs x n i j))) x.span.start
        (item_place here)))

    object-named : (ps : List (Pair (InputValue S))) → HoldsOfPairs IsNamed ps
        → IsNamed (value.Object ps)
    object-named ps each h start here =
        subst (Each (Named names)) (sym (parts_object schema ps start here)) (
          tt,
          each-flat (Named names)
              (λ p. value_parts schema p.1.item p.1.span.start (field_place schema here p.0.item)) ps
              (λ p i. all-of (λ (q : Pair (InputValue S)). IsNamed q.1.item) ps each p i
              (λ n j. h n
              (subst (λ ns. Contains ns n) (sym (variables_in_object ps))
              (flat-in
              (λ (q : Pair (InputValue S)). variables_of q.1.item) ps p n i j))) p.1.span.start
              (field_place schema here p.0.item)),
        )

    value-named : (v : InputValue S) → IsNamed v
    value-named = value_ind IsNamed
        (λ h start here. subst (Each (Named names)) (sym (parts_null schema start here)) tt)
        (λ s h start here. subst (Each (Named names)) (sym (parts_scalar schema s start here)) tt)
        (λ n h start here. subst (Each (Named names)) (sym (parts_enum schema n start here)) tt)
        variable-named
        list-named
        object-named

    given-named : (declared : Option (List (Declared S))) (xs : List (Argument S))
        → Within (variables_given xs) → Each (Named names) (given_parts schema origin declared xs)
    given-named declared xs h = (
      tt,
      each-flat (Named names) (λ a. placed_parts schema (argument_place declared a.0.item) a.1) xs
          (λ a i. value-named a.1.item
          (λ n j. h n
          (flat-in (λ (b : Argument S). variables_of b.1.item) xs a n i j)) a.1.span.start
          (argument_place declared a.0.item)),
    )

    condition-named : (on : Option Bytes) → AtCondition schema (Named names) on
    condition-named None = tt
    condition-named (Some on) = tt

    tree-named : (t : Tree S) (scope : Scope schema) → Within (variables_used t)
        → HoldsIn schema (Named names) t scope
    tree-named none scope h = tt
    tree-named (field head directives below rest) None h = tt
    tree-named (inline on directives below rest) None h = tt
    tree-named (field head directives below rest) (Some parent) h =
        let given = variables_given head.arguments in
        let after = variables_used below ++ variables_used rest in
        let inner : Within after = λ n i. h n (Contains-append_right given after n i) in (
          (
            tt,
            given-named (field_arguments (field_in parent head.name)) head.arguments
                (λ n i. h n (Contains-append_left given after n i)),
          ),
          tree-named below (below_field schema parent head)
              (λ n i. inner n (Contains-append_left (variables_used below) (variables_used rest) n i)),
          tree-named rest (Some parent)
              (λ n i. inner n (Contains-append_right (variables_used below) (variables_used rest) n i)),
        )
    tree-named (inline on directives below rest) (Some parent) h = (
      (tt, condition-named on),
      tree-named below (inside schema parent on)
          (λ n i. h n (Contains-append_left (variables_used below) (variables_used rest) n i)),
      tree-named rest (Some parent)
          (λ n i. h n (Contains-append_right (variables_used below) (variables_used rest) n i)),
    )

    -- a default without variables has no use
    default-named : (here : Option InputPlace) (o : Option (Placed (InputValue S)))
        → ((v : Placed (InputValue S)) → o ≡ Some v → IsConstant v.item)
        → Each (Named names) (flat_map (placed_parts schema here) (option_to_list o))
    default-named here None constant = tt
    default-named here (Some v) constant =
        each-append (Named names) (placed_parts schema here v) []
        (value-named v.item
        (λ n i. nothing-in n
        (subst (λ ns. Contains ns n)
        ((none_is_listed S v.item).1 (constant v refl)) i)) v.span.start here) tt

    pub variable-parts-named : (v : Variable S)
        → ((x : Placed (InputValue S)) → v.1.default_value ≡ Some x → IsConstant x.item)
        → Each (Named names) (variable_parts schema (without_directives v))
    variable-parts-named v constant =
        let here = Some (bare_place v.1.var_type.item) in (
          tt,
          each-append (Named names)
              (flat_map (placed_parts schema here) (option_to_list v.1.default_value)) []
              (default-named here v.1.default_value constant) tt,
        )

  -- the uses in a plain set have the names of the variables that it uses
  module _ (answer : S → ScalarAnswer) (of_bool : Bool → S)
      (answers : (b : Bool) → answer (of_bool b) ≡ boolean b)
      (given : Bytes → Option (InputValue S)) where
    abbrev p : Tree S → Tree S
    p = plain_by answer of_bool given

    pub plain-named : (t : Tree S) (scope : Scope schema) → IsFilled t
        → Each (Named (variables_used (p t))) (set_parts schema scope (selections_of (p t)))
    plain-named t scope filled =
        let names = variables_used (p t) in
        let drops = left_out answer given in
        let stand : HoldsOfStandIns schema of_bool (Named names) =
        record { at_field = tt; at_inline = tt; given = tt } in
        subst (λ q. Each (Named names) (set_parts schema scope (selections_of q)))
        (plain-again drops drops (skip_true of_bool)
        (stand-in-leaves-out answer of_bool answers given) t)
        (plain-holds schema of_bool (Named names) stand drops (p t) scope
        (tree-named names (p t) scope (λ n i. i)) (filled-plain drops (skip_true of_bool) t filled))
