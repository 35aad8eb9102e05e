use Rattle.std.proofs.Common.{◌≡◌, sym, ◌∙◌, Some}
use Rattle.std.proofs.lemmas.Slice.Eq.{bytes_eq-Decides}
use Rattle.graphql_schema.specs.Types.{own_name}
use Rattle.graphql_schema.specs.Lookups.{type_named}
use Rattle.graphql_names.proofs.NameMaps.{found_is_in}
use Rattle.graphql_execution_walk.proofs.fields.possible_name.Goals as goal

pub returns-then-is_possible_type-clause-name : goal.returns-then-is_possible_type-clause-name
returns-then-is_possible_type-clause-name g c =
    let m = c.in-Some-concrete_type_by_name.object.now in
    let found : type_named c.args.schema.now.types c.args.object.now ≡ Some m = sym (rw c.in-Some-concrete_type_by_name.is at c.concrete_type_by_name-2.ensures) in
    let parts = found_is_in own_name c.args.schema.now.types c.args.object.now m found in
    let same = (bytes_eq-Decides (own_name m) c.args.object.now).0 parts.0 in
    c.name_of.ensures ∙ same
