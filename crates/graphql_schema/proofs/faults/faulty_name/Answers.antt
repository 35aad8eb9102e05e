use Rattle.std.proofs.Common.{IfOk, subst, ◌&&◌}
use Rattle.std.specs.List.{list_any}
use Rattle.graphql_names.specs.Names.{Finds, is_named, stands_twice}
use Rattle.graphql_schema.specs.declared.faults.kind.FaultKind.TheVariants as fault
use Rattle.graphql_schema.specs.Faults.{Roots, is_bad_one_of, scopes_of}
use Rattle.graphql_schema.specs.Lookups.{own_name}
use Rattle.graphql_schema.proofs.FaultKinds.{found, ok_found}
use Rattle.graphql_schema.proofs.faults.faulty_name.Goals as goal

pub returns-in-DuplicateName : goal.returns-in-DuplicateName
returns-in-DuplicateName g c =
    let roots : Roots = record { query = c.args.query.now; mutation = c.args.mutation.now; subscription = c.args.subscription.now } in
    ok_found c.args.types.now roots c.as_slice-all.ensures.by_name c.args.kind fault.DuplicateName c.repeated_part.result c.in-DuplicateName.is
    (subst (λ metas. IfOk c.repeated_part.result (Finds (λ name. list_any (λ m. list_any (λ names. stands_twice names name) (scopes_of m)) metas))) c.as_slice-all.ensures.items c.repeated_part.ensures)

pub returns-in-MissingBuiltin : goal.returns-in-MissingBuiltin
returns-in-MissingBuiltin g c =
    let roots : Roots = record { query = c.args.query.now; mutation = c.args.mutation.now; subscription = c.args.subscription.now } in
    found c.args.types.now roots c.as_slice-all.ensures.by_name c.args.kind fault.MissingBuiltin c.missing_builtin.result c.in-MissingBuiltin.is c.missing_builtin.ensures

pub returns-in-UnknownType : goal.returns-in-UnknownType
returns-in-UnknownType g c =
    let roots : Roots = record { query = c.args.query.now; mutation = c.args.mutation.now; subscription = c.args.subscription.now } in
    found c.args.types.now roots c.as_slice-all.ensures.by_name c.args.kind fault.UnknownType c.unmet_reference.result c.in-UnknownType.is c.unmet_reference.ensures

pub returns-in-NotOutputType : goal.returns-in-NotOutputType
returns-in-NotOutputType g c =
    let roots : Roots = record { query = c.args.query.now; mutation = c.args.mutation.now; subscription = c.args.subscription.now } in
    found c.args.types.now roots c.as_slice-all.ensures.by_name c.args.kind fault.NotOutputType c.unmet_reference-in-NotOutputType.result c.in-NotOutputType.is c.unmet_reference-in-NotOutputType.ensures

pub returns-in-NotInputType : goal.returns-in-NotInputType
returns-in-NotInputType g c =
    let roots : Roots = record { query = c.args.query.now; mutation = c.args.mutation.now; subscription = c.args.subscription.now } in
    found c.args.types.now roots c.as_slice-all.ensures.by_name c.args.kind fault.NotInputType c.unmet_reference-in-NotInputType.result c.in-NotInputType.is c.unmet_reference-in-NotInputType.ensures

pub returns-in-BadRoot : goal.returns-in-BadRoot
returns-in-BadRoot g c =
    let roots : Roots = record { query = c.args.query.now; mutation = c.args.mutation.now; subscription = c.args.subscription.now } in
    found c.args.types.now roots c.as_slice-all.ensures.by_name c.args.kind fault.BadRoot c.bad_root.result c.in-BadRoot.is c.bad_root.ensures

pub returns-in-BadMember : goal.returns-in-BadMember
returns-in-BadMember g c =
    let roots : Roots = record { query = c.args.query.now; mutation = c.args.mutation.now; subscription = c.args.subscription.now } in
    found c.args.types.now roots c.as_slice-all.ensures.by_name c.args.kind fault.BadMember c.bad_member.result c.in-BadMember.is c.bad_member.ensures

pub returns-in-BadOneOf : goal.returns-in-BadOneOf
returns-in-BadOneOf g c =
    let roots : Roots = record { query = c.args.query.now; mutation = c.args.mutation.now; subscription = c.args.subscription.now } in
    found c.args.types.now roots c.as_slice-all.ensures.by_name c.args.kind fault.BadOneOf c.bad_one_of.result c.in-BadOneOf.is
    (subst (λ metas. Finds (λ name. list_any (λ m. is_named own_name name m && is_bad_one_of m) metas) c.bad_one_of.result) c.as_slice-all.ensures.items c.bad_one_of.ensures)
