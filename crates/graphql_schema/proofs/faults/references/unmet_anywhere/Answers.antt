use Rattle.std.proofs.Common.{◌≡◌, ◌∙◌, ◌++◌, List, Bool, false, map, ap, sym, subst}
use Rattle.std.proofs.lemmas.List.{map-id}
use Rattle.graphql_names.specs.Names.{Bytes}
use Rattle.graphql_schema.specs.Lookups.{type_named, field_type_name, output_names, input_names, union_members, interfaces_of}
use Rattle.graphql_names.specs.Names.{Finds}
use Rattle.graphql_schema.specs.Demands.{is_unmet, misses}
use Rattle.graphql_schema.proofs.FaultsFound.{none_before, finds_behind}
use Rattle.graphql_schema.proofs.faults.references.unmet_anywhere.Goals as goal

pub returns : goal.returns
returns g c =
    let m = c.args.meta.now in
    let bad : Bytes → Bool = λ name. is_unmet c.args.wanted (type_named c.args.types.now name) in
    let missed : List Bytes → Bytes → Bool = misses c.args.wanted c.args.types.now in
    let outputs : (name : Bytes) → missed (output_names m) name ≡ false = λ name.
    ap (λ fields. missed (map field_type_name fields) name) (sym c.fields.ensures) ∙ c.in_default.ensures name in
    let members : (name : Bytes) → missed (union_members m) name ≡ false = λ name.
    ap (λ names. missed names name) (sym (map-id c.member_names.result.now ∙ c.member_names.ensures)) ∙ c.in_default-unmet_among.ensures name in
    let interfaces : Finds (missed (interfaces_of m)) c.unmet_among-3.result =
    subst (λ names. Finds (missed names) c.unmet_among-3.result) (map-id c.interface_names.result.now ∙ c.interface_names.ensures) c.unmet_among-3.ensures in
    finds_behind bad (output_names m ++ input_names m ++ union_members m) (interfaces_of m) c.unmet_among-3.result
    (none_before bad (output_names m ++ input_names m) (union_members m)
    (none_before bad (output_names m) (input_names m) outputs c.in_default-unmet_input.ensures) members)
    interfaces
