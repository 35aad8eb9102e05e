-- Of a schema that can be executed: what can be at an object type's field is below what each type
-- above that object type declares for the field.
use Rattle.std.proofs.Common.{◌≡◌, ◌⊎◌, refl, sym, ◌∙◌, ap, subst, arith, Bool, true, false, ◌||◌, ◌&&◌}
use Rattle.std.proofs.Common.{List, [], ◌∷◌, map, Option, Some, None, cond, codes, inl, inr}
use Rattle.std.specs.List.{Contains, list_any}
use Rattle.std.specs.Option.{IfSome, option_and_then}
use Rattle.std.specs.Str.{bytes_eq}
use Rattle.std.proofs.lemmas.Bool.{or_parts, or_cases, or_left, or_right, ltb-false}
use Rattle.std.proofs.lemmas.Cmp.{nat_list_eq_equiv}
use Rattle.std.proofs.lemmas.List.Elements.{Contains-append_right}
use Rattle.std.proofs.lemmas.List.Folds.{list_any_at}
use Rattle.std.proofs.lemmas.Map.Views.{list_any-from_Contains}
use Rattle.graphql_names.specs.Names.{Bytes, is_one_of, named, passes, stands_twice}
use Rattle.graphql_names.proofs.NameLemmas.{eq_either_way, eq_itself, same_bytes}
use Rattle.graphql_names.proofs.NameMaps.{found_is_in}
use Rattle.graphql_schema.specs.declared.faults.kind.FaultKind.TheVariants as fault
use Rattle.graphql_schema.specs.declared.meta.field.Field.{Field}
use Rattle.graphql_schema.specs.declared.meta.MetaType.{MetaType}
use Rattle.graphql_schema.specs.declared.meta.MetaType.TheVariants as meta
use Rattle.graphql_schema.specs.Executable.{is_executable}
use Rattle.graphql_schema.specs.Faults.{IsFaultless, Roots, is_composite, scopes_of}
use Rattle.graphql_schema.specs.Lookups.{interfaces_of, own_name, type_named}
use Rattle.graphql_schema.specs.Possible.{is_possible}
use Rattle.graphql_schema.specs.Subtypes.{is_below, is_named_subtype}
use Rattle.graphql_schema.specs.Types.{TypeOf, fields_of}
use Rattle.graphql_schema.proofs.Executables.{once_passes}
use Rattle.graphql_schema.proofs.ExecutableSchemas.{executable_has_field, executable_lists_all}
use Rattle.graphql_occurrences.specs.DeclaredLookups.{field_in, field_of, field_type, typename_field}
use Rattle.graphql_merging.specs.Members.{scope_of}
use Rattle.graphql_merging.specs.Chosen.{IsTypeAbove}
use Rattle.graphql_joins.specs.Laws.{TypesAreCovariant}

is-listed : (names : List Bytes) (name : Bytes) → is_one_of names name ≡ true → Contains names name
is-listed [] name h = cc
is-listed (n ∷ names) name h = at (bytes_eq name n) refl h (is-listed names name)
  where
    at : (q : Bool) → bytes_eq name n ≡ q → (q || is_one_of names name) ≡ true
        → (is_one_of names name ≡ true → Contains names name) → Contains (n ∷ names) name
    at true e h rest = (0, omega arith, sym (same_bytes name n e))
    at false e h rest = Contains-append_right (n ∷ []) names name (rest h)

some-is : {A : Type 0} (x y : A) → ◌≡◌ {A = Option A} (Some x) (Some y) → x ≡ y
some-is x y e = cc

module _ {S C : Type 0} where
  possible-subtype : (at o : MetaType S C) → is_possible at o ≡ true
      → (bytes_eq (own_name o) (own_name at) || is_below (Some o) (Some at)) ≡ true
  possible-subtype (meta.Object m) (meta.Object x) h = or_left _ _ (eq_either_way x.name m.name ∙ h)
  possible-subtype (meta.Interface m) (meta.Object x) h = or_right _ _ h
  possible-subtype (meta.Union m) (meta.Object x) h = or_right _ _ h
  possible-subtype _ _ h = absurd (cc)

  -- what is below another type lists it, or has no fields to keep
  below-forms : (m up : MetaType S C) → is_below (Some m) (Some up) ≡ true
      → (is_composite m ≡ true) × (is_composite up ≡ true)
      × ((is_one_of (interfaces_of m) (own_name up) ≡ true) ⊎ (fields_of up ≡ []))
  below-forms (meta.Object m) (meta.Interface i) h = (refl, refl, inl h)
  below-forms (meta.Interface m) (meta.Interface i) h = (refl, refl, inl h)
  below-forms (meta.Object m) (meta.Union u) h = (refl, refl, inr refl)
  below-forms _ _ h = absurd (cc)

  module _ (types : List (MetaType S C)) (roots : Roots) (faultless : IsFaultless types roots)
      (executable : is_executable types roots ≡ true) where
    named-is : (name : Bytes) (m : MetaType S C) → type_named types name ≡ Some m
        → Contains types m × (own_name m ≡ name)
    named-is name m e = let f = found_is_in own_name types name m e in (f.1, same_bytes (own_name m) name f.0)

    itself : (name : Bytes) → is_named_subtype types name name ≡ true
    itself name = or_left _ _ (eq_itself name)

    -- ---- from what can be at a type to what is above the type

    pub possible-below : (concrete of : Bytes) (o at : MetaType S C) → type_named types concrete ≡ Some o
        → type_named types of ≡ Some at → is_possible at o ≡ true → is_named_subtype types concrete of ≡ true
    possible-below concrete of o at eo ea h =
        (λ i. bytes_eq (sym (named-is concrete o eo).1 i) (sym (named-is of at ea).1 i) || is_below (eo i) (ea i))
        ∙ possible-subtype at o h

    climb : (concrete of higher : Bytes) (at o : MetaType S C) (up : Option (MetaType S C))
        → type_named types concrete ≡ Some o → type_named types of ≡ Some at → type_named types higher ≡ up
        → is_possible at o ≡ true → is_below (Some at) up ≡ true → is_named_subtype types concrete higher ≡ true
    climb concrete of higher (meta.Object m) (meta.Object x) up eo ea eu p l =
        or_right (bytes_eq concrete higher) _
        (ap (λ n. is_below (type_named types n) (type_named types higher))
        (sym (named-is concrete (meta.Object x) eo).1 ∙ sym (same_bytes m.name x.name p)
        ∙ (named-is of (meta.Object m) ea).1)
        ∙ (λ i. is_below (ea i) (eu i)) ∙ l)
    climb concrete of higher (meta.Interface i) (meta.Object x) (Some (meta.Interface j)) eo ea eu p l =
        let lists = is-listed x.interface_names i.name p in
        let also = is-listed i.interface_names j.name l in
        let named_i : type_named types i.name ≡ Some (meta.Interface i) =
        ap (type_named types) (named-is of (meta.Interface i) ea).1 ∙ ea in
        let more =
        executable_lists_all types roots (meta.Object x) (meta.Interface i) i.name j.name executable
        (named-is concrete (meta.Object x) eo).0 lists named_i also in
        or_right (bytes_eq concrete higher) _
        ((λ k. is_below (eo k) (eu k)) ∙ list_any-from_Contains nat_list_eq_equiv j.name x.interface_names more)
    climb concrete of higher _ _ _ eo ea eu p l = absurd (cc)

    possible-up : (concrete of higher : Bytes) (o at : MetaType S C) → type_named types concrete ≡ Some o
        → type_named types of ≡ Some at → is_possible at o ≡ true → is_named_subtype types of higher ≡ true
        → is_named_subtype types concrete higher ≡ true
    possible-up concrete of higher o at eo ea p h =
        elim (or_cases (bytes_eq of higher) (is_below (type_named types of) (type_named types higher)) h) [
          | inl same ↦ subst (λ n. is_named_subtype types concrete n ≡ true) (same_bytes of higher same)
              (possible-below concrete of o at eo ea p)
          | inr less ↦ climb concrete of higher at o (type_named types higher) eo ea refl p
              (ap (λ t. is_below t (type_named types higher)) (sym ea) ∙ less)
        ]

    -- ---- from an object type's field to the field of a type above

    no-twice : (m : MetaType S C) (name : Bytes) → Contains types m
        → stands_twice (map (λ f. f.name) (fields_of m)) name ≡ false
    no-twice m name i = (or_parts _ _ (none (list_any (λ names. stands_twice names name) (scopes_of m)) refl)).0
      where
        none : (q : Bool) → list_any (λ names. stands_twice names name) (scopes_of m) ≡ q
            → list_any (λ names. stands_twice names name) (scopes_of m) ≡ false
        none false e = e
        none true e =
            absurd (let bad : true
            ≡ false = sym (list_any_at (λ (t : MetaType S C). list_any (λ names. stands_twice names name)
            (scopes_of t)) types i.0 m i.1
            (ap (λ (t : MetaType S C). list_any (λ names. stands_twice names name) (scopes_of t)) i.2 ∙ e))
            ∙ (or_parts (stands_twice (map own_name types) name)
            (list_any (λ (t : MetaType S C). list_any (λ names. stands_twice names name) (scopes_of t)) types)
            (faultless fault.DuplicateName name)).1 in cc)

    field-below : (name : Bytes) (m up : MetaType S C) → Contains types m → type_named types (own_name up) ≡ Some up
        → is_below (Some m) (Some up) ≡ true → (f p : Field S) → field_in m name ≡ Some f → field_in up name ≡ Some p
        → is_named_subtype types f.field_type.name p.field_type.name ≡ true
    field-below name m up inside named_up less f p ef ep =
        let forms = below-forms m up less in
        at (bytes_eq name (codes "__typename")) forms.2
        (ap (λ q. cond (bytes_eq name (codes "__typename") && q) (Some typename_field)
        (named (λ g. g.name) (fields_of m) name)) (sym forms.0) ∙ ef)
        (ap (λ q. cond (bytes_eq name (codes "__typename") && q) (Some typename_field)
        (named (λ g. g.name) (fields_of up) name)) (sym forms.1) ∙ ep)
      where
        at : (q : Bool) → ((is_one_of (interfaces_of m) (own_name up) ≡ true) ⊎ (fields_of up ≡ []))
            → cond (q && true) (Some typename_field) (named (λ (g : Field S). g.name) (fields_of m) name) ≡ Some f
            → cond (q && true) (Some typename_field) (named (λ (g : Field S). g.name) (fields_of up) name) ≡ Some p
            → is_named_subtype types f.field_type.name p.field_type.name ≡ true
        at true h ef ep =
            let one : typename_field ≡ f = some-is typename_field f ef in
            let other : typename_field ≡ p = some-is typename_field p ep in
            subst (λ (g : Field S). is_named_subtype types f.field_type.name g.field_type.name ≡ true) (sym one ∙ other)
            (itself f.field_type.name)
        at false (inr none) ef ep =
            absurd (let bad : None ≡ Some p = ap (λ fs. named (λ (g : Field S). g.name) fs name) (sym none) ∙ ep in cc)
        at false (inl lists) ef ep =
            let there = found_is_in (λ (g : Field S). g.name) (fields_of up) name p ep in
            let kept =
            executable_has_field types roots m up
            (own_name up) p executable inside (is-listed (interfaces_of m) (own_name up) lists) named_up there.1 in
            let test : Field S → Bool = λ g. is_named_subtype types g.field_type.name p.field_type.name in
            let both : Field S → Bool = λ g. bytes_eq g.name name && test g in
            let passed : both kept.0 ≡ true =
            ap (λ n. bytes_eq n name && test kept.0) kept.2.name ∙ ap (λ q. q && test kept.0) there.0
            ∙ kept.2.subtype.0 in
            let any : list_any both (fields_of m) ≡ true =
            list_any_at both (fields_of m) kept.1.0 kept.0 kept.1.1 (ap both kept.1.2 ∙ passed) in
            ap (passes test) (sym ef) ∙ sym (once_passes (λ (g : Field S). g.name) test (fields_of m) name
            (ltb-false 1 _ (no-twice m name inside))) ∙ any

    declared-below : (object name : Bytes) (parent : MetaType S C) (type : TypeOf) (p : Field S)
        → IsTypeAbove types (is_named_subtype types object) parent
        → field_type (field_of (type_named types object) name) ≡ Some type → field_in parent name ≡ Some p
        → is_named_subtype types type.name p.field_type.name ≡ true
    declared-below object name parent type p above declared ep =
        elim (or_cases (bytes_eq object (own_name parent))
        (is_below (type_named types object) (type_named types (own_name parent))) above.1) [
          | inl same ↦
              let is : type_named types object ≡ Some parent =
              ap (type_named types) (same_bytes object (own_name parent) same) ∙ above.0 in
              let one : type ≡ p.field_type =
              some-is type p.field_type (sym declared ∙ ap (λ t. field_type (field_of t name)) is ∙ ap field_type ep) in
              subst (λ (t : TypeOf). is_named_subtype types type.name t.name ≡ true) one (itself type.name)
          | inr less ↦ at (type_named types object) refl
              (ap (is_below (type_named types object)) (sym above.0) ∙ less) declared
        ]
      where
        of-field : (m : MetaType S C) → type_named types object ≡ Some m → is_below (Some m) (Some parent) ≡ true
            → (o : Option (Field S)) → field_in m name ≡ o → field_type o ≡ Some type
            → is_named_subtype types type.name p.field_type.name ≡ true
        of-field m em less None e d = cc
        of-field m em less (Some f) e d =
            subst (λ (t : TypeOf). is_named_subtype types t.name p.field_type.name ≡ true) (some-is f.field_type type d)
            (field-below name m parent (named-is object m em).0 above.0 less f p e ep)

        at : (o : Option (MetaType S C)) → type_named types object ≡ o → is_below o (Some parent) ≡ true
            → field_type (field_of o name) ≡ Some type → is_named_subtype types type.name p.field_type.name ≡ true
        at None e less d = cc
        at (Some m) e less d = of-field m e less (field_in m name) refl d

    -- an object that can be at the object type's field is below the type that the one above declares
    pub covariant : (object concrete name : Bytes) (parent : MetaType S C) (type : TypeOf) (at o : MetaType S C)
        → IsTypeAbove types (is_named_subtype types object) parent
        → field_type (field_of (type_named types object) name) ≡ Some type → type_named types type.name ≡ Some at
        → type_named types concrete ≡ Some o → is_possible at o ≡ true
        → IfSome (scope_of types parent name) (IsTypeAbove types (is_named_subtype types concrete))
    covariant object concrete name parent type at o above declared ea eo possible = of-field (field_in parent name) refl
      where
        of-type : (p : Field S) → field_in parent name ≡ Some p → (t : Option (MetaType S C))
            → type_named types p.field_type.name ≡ t → IfSome t (IsTypeAbove types (is_named_subtype types concrete))
        of-type p ep None e = tt
        of-type p ep (Some m) e =
            let own = (named-is p.field_type.name m e).1 in (
              ap (type_named types) own ∙ e,
              ap (is_named_subtype types concrete) own
                  ∙ possible-up concrete type.name p.field_type.name o at eo ea possible
                  (declared-below object name parent type p above declared ep),
            )

        of-field : (f : Option (Field S)) → field_in parent name ≡ f
            → IfSome (option_and_then (λ t. type_named types t.name) (field_type f))
            (IsTypeAbove types (is_named_subtype types concrete))
        of-field None e = tt
        of-field (Some p) e = of-type p e (type_named types p.field_type.name) refl

pub types-are-covariant : {S C : Type 0} (types : List (MetaType S C)) (roots : Roots) → IsFaultless types roots
    → TypesAreCovariant types roots
types-are-covariant types roots faultless executable = covariant types roots faultless executable
