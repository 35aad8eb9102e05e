-- In a schema without a fault the types of all fields are known.
use Rattle.std.proofs.Common.{◌≡◌, refl, ◌∙◌, ap, subst, Bool, true, false, not, ◌&&◌, List, ◌++◌, Option, Some, None, cond, codes}
use Rattle.std.specs.Option.{IsSome}
use Rattle.std.specs.List.{Contains}
use Rattle.std.specs.Str.{bytes_eq}
use Rattle.std.proofs.lemmas.Bool.{or_left}
use Rattle.std.proofs.lemmas.Cmp.{nat_list_eq_equiv}
use Rattle.std.proofs.lemmas.Map.Views.{list_any-from_Contains}
use Rattle.std.proofs.lemmas.List.Folds.{list_any-append, list_any_at}
use Rattle.graphql_names.specs.Names.{Bytes, is_one_of, named, passes}
use Rattle.graphql_names.proofs.NameMaps.{found_is_in}
use Rattle.graphql_schema.specs.declared.meta.field.Field.{Field}
use Rattle.graphql_schema.specs.declared.meta.MetaType.{MetaType}
use Rattle.graphql_schema.specs.Types.{fields_of}
use Rattle.graphql_schema.specs.Declarations.{Declarations}
use Rattle.graphql_schema.proofs.Executables.{has_type_found}
use Rattle.graphql_schema.specs.Faults.{IsFaultless, has_type, refers, is_composite}
use Rattle.graphql_schema.specs.Lookups.{input_names, interfaces_of, is_scalar, union_members, output_names, references_of}
use Rattle.graphql_schema.specs.declared.faults.kind.FaultKind.TheVariants as fault
use Rattle.graphql_occurrences.specs.DeclaredLookups.{known, typename_field}
use Rattle.graphql_rules_document.specs.Counted.{FieldTypesAreKnown}
use Rattle.graphql_rules_document.proofs.ListItems.{contains-map}

stands : (b : Bool) → not b ≡ false → b ≡ true
stands true e = refl
stands false e = cc

second : (a b : Bool) → a ≡ true → (a && not b) ≡ false → b ≡ true
second true b e f = stands b f
second false b e f = cc

module _ {S C : Type 0} where
  known-where : (test : MetaType S C → Bool) (o : Option (MetaType S C)) → passes test o ≡ true → IsSome o
  known-where test (Some m) e = refl
  known-where test None e = e

  module _ (schema : Declarations S C) (faultless : IsFaultless schema.types schema.roots) where
    found : (test : MetaType S C → Bool) (name : Bytes) → has_type test schema.types name ≡ true → IsSome (known schema name)
    found test name e = known-where test (known schema name) (has_type_found test schema.types schema.roots name (known schema name) faultless refl ∙ e)

    -- the type of a declared field is one of those that its parent refers to
    refers-to : (m : MetaType S C) (f : Field S) → Contains schema.types m → Contains (fields_of m) f → refers references_of schema.types f.field_type.name ≡ true
    refers-to m f inside there =
        list_any_at (λ (t : MetaType S C). is_one_of (references_of t) f.field_type.name) schema.types inside.0 m inside.1
        (ap (λ (t : MetaType S C). is_one_of (references_of t) f.field_type.name) inside.2 ∙ among)
      where
        append-left : (xs ys : List Bytes) → is_one_of xs f.field_type.name ≡ true → is_one_of (xs ++ ys) f.field_type.name ≡ true
        append-left xs ys e = list_any-append (bytes_eq f.field_type.name) xs ys ∙ or_left _ _ e

        output : is_one_of (output_names m) f.field_type.name ≡ true
        output = list_any-from_Contains nat_list_eq_equiv f.field_type.name (output_names m) (contains-map (λ (g : Field S). g.field_type.name) (fields_of m) f there)

        among : is_one_of (references_of m) f.field_type.name ≡ true
        among = append-left (output_names m ++ input_names m ++ union_members m) (interfaces_of m) (append-left (output_names m ++ input_names m) (union_members m) (append-left (output_names m) (input_names m) output))

    pub field-types-are-known : FieldTypesAreKnown schema
    field-types-are-known m name f inside e = cases (bytes_eq name (codes "__typename") && is_composite m) e
      where
        cases : (q : Bool) → cond q (Some typename_field) (named (λ (g : Field S). g.name) (fields_of m) name) ≡ Some f → IsSome (known schema f.field_type.name)
        cases true is =
            let same : typename_field ≡ f = cc in
            subst (λ (g : Field S). IsSome (known schema g.field_type.name)) same (found is_scalar (codes "String") (stands _ (faultless fault.MissingBuiltin (codes "String"))))
        cases false is =
            let there = (found_is_in (λ (g : Field S). g.name) (fields_of m) name f is).1 in
            found (λ t. true) f.field_type.name (second _ _ (refers-to m f inside there) (faultless fault.UnknownType f.field_type.name))
