use Rattle.std.proofs.Common.{◌≡◌, true, Some, sym, ap, ◌∙◌}
use Rattle.std.proofs.lemmas.Slice.Eq.{bytes_eq-Decides}
use Rattle.graphql_names.proofs.NameMaps.{found_is_in}
use Rattle.graphql_schema.specs.Lookups.{is_object, own_name, type_named}
use Rattle.graphql_schema.specs.Subtypes.{is_named_subtype}
use Rattle.graphql_law_rows.proofs.schemas.is_possible_at.Goals as goal

pub returns-in-Object-clause-value : goal.returns-in-Object-clause-value
returns-in-Object-clause-value g c =
    let types = c.args.schema.now.types in
    let object = c.in-Some.possible.now in
    let of = c.in-Some-concrete_type_by_name.abstract_type.now in
    let found : type_named types c.args.object.now ≡ Some object = sym (rw c.in-Some.is at c.concrete_type_by_name.ensures) in
    let found_of : type_named types c.args.of.now ≡ Some of = sym (rw c.in-Some-concrete_type_by_name.is at c.concrete_type_by_name-2.ensures) in
    let there = found_is_in own_name types c.args.object.now object found in
    let there_of = found_is_in own_name types c.args.of.now of found_of in
    let name : own_name object ≡ c.args.object.now = (bytes_eq-Decides (own_name object) c.args.object.now).0 there.0 in
    let name_of : own_name of ≡ c.args.of.now = (bytes_eq-Decides (own_name of) c.args.of.now).0 there_of.0 in
    let is : is_object object ≡ true = ap is_object c.in-Object.is in
    c.is_possible_type.ensures ∙ c.possible_is_below.ensures there_of.1 there.1 is ∙ (λ i. is_named_subtype types (name i) (name_of i))
