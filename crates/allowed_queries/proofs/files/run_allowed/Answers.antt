use Rattle.std.proofs.Common.{true, false, refl}
use Rattle.std.proofs.lemmas.Result.{err_from_is_err_and}
use Rattle.graphql_file_service.proofs.Services.{no_records, service_made, tested, unserved}
use Rattle.allowed_queries.proofs.Runs.{unmade}
use Rattle.allowed_queries.proofs.files.run_allowed.Goals as goal

pub returns-then-not-schema_is_executable-clause-ran : goal.returns-then-not-schema_is_executable-clause-ran
returns-then-not-schema_is_executable-clause-ran g c =
    let root = c.in_ok-root_node.root_node in (
      (
        root,
        (
          c.in_ok-root_node.ensures.read,
          tested root c.schema.result.now c.schema.ensures c.schema_is_executable.result false c.schema_is_executable.ensures.value c.if-not-schema_is_executable.true,
        ),
      ),
      (refl, refl),
    )

pub returns-in_err-table-clause-ran : goal.returns-in_err-table-clause-ran
returns-in_err-table-clause-ran g c =
    let error = err_from_is_err_and c.from_residual-in_err-table.result c.from_residual-in_err-table.ensures.1 in
    let root = c.in_ok-root_node.root_node in
    let can = tested root c.schema.result.now c.schema.ensures c.schema_is_executable.result true c.schema_is_executable.ensures.value c.if-not-schema_is_executable.false in
    rw (error.1, error.2)
    (no_records _ _ c.args.schema.now c.args.records.now root (c.in_ok-root_node.ensures.read, can) c.schema-3.result.now c.schema-3.ensures _ c.in_err-table.ensures, (refl, refl))

pub returns-in_err-service-clause-ran : goal.returns-in_err-service-clause-ran
returns-in_err-service-clause-ran g c =
    let error = err_from_is_err_and c.from_residual-in_err-service.result c.from_residual-in_err-service.ensures.1 in
    let root = c.in_ok-root_node.root_node in
    let can = tested root c.schema.result.now c.schema.ensures c.schema_is_executable.result true c.schema_is_executable.ensures.value c.if-not-schema_is_executable.false in
    let made = c.in_err-service.ensures (can, c.in_ok-root_node.ensures.conditions) in
    rw (error.1, error.2)
    (unmade _ _ c.args.schema.now c.args.records.now root (c.in_ok-root_node.ensures.read, can) _ c.args.allowed _
    c.in_ok-resolver.resolver c.schema-3.result.now c.schema-3.ensures c.in_ok-table.table c.in_ok-table.ensures _ made (refl, refl))

pub returns-in_err-serve_allowed-clause-ran : goal.returns-in_err-serve_allowed-clause-ran
returns-in_err-serve_allowed-clause-ran g c =
    let error = err_from_is_err_and c.from_residual-in_err-serve_allowed.result c.from_residual-in_err-serve_allowed.ensures.1 in
    let root = c.in_ok-root_node.root_node in
    let can = tested root c.schema.result.now c.schema.ensures c.schema_is_executable.result true c.schema_is_executable.ensures.value c.if-not-schema_is_executable.false in
    let made = service_made _ _ c.args.schema.now c.args.records.now root (c.in_ok-root_node.ensures.read, can) c.schema-2.result.now c.schema-2.ensures c.in_ok-resolver.resolver c.in_ok-resolver.ensures
    c.schema-3.result.now c.schema-3.ensures c.in_ok-table.table c.in_ok-table.ensures c.in_ok-service.service (c.in_ok-service.ensures (can, c.in_ok-root_node.ensures.conditions)) in
    rw (error.1, error.2)
    (c.in_err-serve_allowed.ensures.served.0, record { service = c.in_ok-service.service; described = made; answered = c.in_err-serve_allowed.ensures.served.1 })

pub returns-clause-ran : goal.returns-clause-ran
returns-clause-ran g c =
    let root = c.in_ok-root_node.root_node in
    let can = tested root c.schema.result.now c.schema.ensures c.schema_is_executable.result true c.schema_is_executable.ensures.value c.if-not-schema_is_executable.false in
    let made = service_made _ _ c.args.schema.now c.args.records.now root (c.in_ok-root_node.ensures.read, can) c.schema-2.result.now c.schema-2.ensures c.in_ok-resolver.resolver c.in_ok-resolver.ensures
    c.schema-3.result.now c.schema-3.ensures c.in_ok-table.table c.in_ok-table.ensures c.in_ok-service.service (c.in_ok-service.ensures (can, c.in_ok-root_node.ensures.conditions)) in
    (c.in_ok-serve_allowed.ensures.served.0, record { service = c.in_ok-service.service; described = made; answered = c.in_ok-serve_allowed.ensures.served.1 })

pub returns-in_err-service-clause-reads : goal.returns-in_err-service-clause-reads
returns-in_err-service-clause-reads g c =
    let error = err_from_is_err_and c.from_residual-in_err-service.result c.from_residual-in_err-service.ensures.1 in
    let root = c.in_ok-root_node.root_node in
    let can = tested root c.schema.result.now c.schema.ensures c.schema_is_executable.result true c.schema_is_executable.ensures.value c.if-not-schema_is_executable.false in
    let made = c.in_err-service.ensures (can, c.in_ok-root_node.ensures.conditions) in
    rw (error.1, error.2, unserved _ root c.in_ok-resolver.resolver c.in_ok-table.table _ made) refl

pub returns-in_err-serve_allowed-clause-reads : goal.returns-in_err-serve_allowed-clause-reads
returns-in_err-serve_allowed-clause-reads g c =
    let error = err_from_is_err_and c.from_residual-in_err-serve_allowed.result c.from_residual-in_err-serve_allowed.ensures.1 in
    rw (error.1, error.2) c.in_err-serve_allowed.ensures.reads

pub returns-in_err-service-clause-writes : goal.returns-in_err-service-clause-writes
returns-in_err-service-clause-writes g c =
    let error = err_from_is_err_and c.from_residual-in_err-service.result c.from_residual-in_err-service.ensures.1 in
    let root = c.in_ok-root_node.root_node in
    let can = tested root c.schema.result.now c.schema.ensures c.schema_is_executable.result true c.schema_is_executable.ensures.value c.if-not-schema_is_executable.false in
    let made = c.in_err-service.ensures (can, c.in_ok-root_node.ensures.conditions) in
    rw (error.1, error.2, unserved _ root c.in_ok-resolver.resolver c.in_ok-table.table _ made) refl

pub returns-in_err-serve_allowed-clause-writes : goal.returns-in_err-serve_allowed-clause-writes
returns-in_err-serve_allowed-clause-writes g c =
    let error = err_from_is_err_and c.from_residual-in_err-serve_allowed.result c.from_residual-in_err-serve_allowed.ensures.1 in
    rw (error.1, error.2) c.in_err-serve_allowed.ensures.writes
