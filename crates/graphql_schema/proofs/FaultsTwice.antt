-- Names that stand twice, looked for in one item after another.
use Rattle.std.proofs.Common.{◌≡◌, Bool, false, ◌||◌, List, map, sym, ◌∙◌}
use Rattle.std.specs.List.{list_any}
use Rattle.graphql_schema.specs.declared.meta.field.Field.{Field}
use Rattle.graphql_schema.specs.declared.meta.MetaType.{MetaType}
use Rattle.graphql_schema.specs.Types.{values_of, arguments_of, fields_of, input_fields_of}
use Rattle.graphql_names.specs.Names.{Bytes, stands_twice}
use Rattle.graphql_schema.specs.Faults.{scopes_of}
use Rattle.graphql_schema.proofs.FaultsFound.{list_any-map}

-- two arguments of one of the fields have the name
abbrev pub argument_twice : {S : Type 0} → List (Field S) → Bytes → Bool
argument_twice fields name = list_any (λ field. stands_twice (map (λ argument. argument.name) (arguments_of field)) name) fields

-- a name that stands twice in no other scope of a type does so among the arguments of its fields alone
pub arguments_alone : {S C : Type 0} (m : MetaType S C) (name : Bytes) → stands_twice (map (λ field. field.name) (fields_of m)) name ≡ false
    → stands_twice (map (λ value. value.name) (values_of m)) name ≡ false → stands_twice (map (λ field. field.name) (input_fields_of m)) name ≡ false
    → argument_twice (fields_of m) name ≡ list_any (λ names. stands_twice names name) (scopes_of m)
arguments_alone m name fields values inputs =
    sym (list_any-map (λ names. stands_twice names name) (λ field. map (λ argument. argument.name) (arguments_of field)) (fields_of m))
    ∙ behind fields values inputs
  where
    behind : {a b c d : Bool} → a ≡ false → b ≡ false → c ≡ false → d ≡ (a || (b || (c || d)))
    behind {a} {b} {c} {d} u v w = rw (u, v, w)
