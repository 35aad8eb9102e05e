use Rattle.std.proofs.Common.{true, false, refl, sym, subst}
use Rattle.std.proofs.lemmas.Result.{err_from_is_err_and}
use Rattle.graphql_file_service.proofs.Services.{no_records, service_made, tested, unmade, unserved}
use Rattle.graphql_file_service.specs.TableServices.{IsDescribed}
use Rattle.cached_answers.proofs.Caches.{takes-stand-in}
use Rattle.cached_answers.proofs.files.serve_cached.Goals as goal

pub returns-then-not-schema_is_executable-clause-ran : goal.returns-then-not-schema_is_executable-clause-ran
returns-then-not-schema_is_executable-clause-ran g c =
    let root = c.in_ok-root_node.root_node in (
      (
        root,
        (
          c.in_ok-root_node.ensures.read,
          tested root c.schema.result.now c.schema.ensures c.schema_is_executable.result false c.schema_is_executable.ensures.value c.if-not-schema_is_executable.true,
        ),
      ),
      (refl, refl),
    )

pub returns-in_err-table-clause-ran : goal.returns-in_err-table-clause-ran
returns-in_err-table-clause-ran g c =
    let error = err_from_is_err_and c.from_residual-in_err-table.result c.from_residual-in_err-table.ensures.1 in
    let root = c.in_ok-root_node.root_node in
    let can = tested root c.schema.result.now c.schema.ensures c.schema_is_executable.result true c.schema_is_executable.ensures.value c.if-not-schema_is_executable.false in
    rw (error.1, error.2)
    (no_records _ _ c.args.schema.now c.args.records.now root (c.in_ok-root_node.ensures.read, can) c.schema-3.result.now c.schema-3.ensures _ c.in_err-table.ensures, (refl, refl))

pub returns-in_err-service-clause-ran : goal.returns-in_err-service-clause-ran
returns-in_err-service-clause-ran g c =
    let error = err_from_is_err_and c.from_residual-in_err-service.result c.from_residual-in_err-service.ensures.1 in
    let root = c.in_ok-root_node.root_node in
    let can = tested root c.schema.result.now c.schema.ensures c.schema_is_executable.result true c.schema_is_executable.ensures.value c.if-not-schema_is_executable.false in
    let made = c.in_err-service.ensures (can, c.in_ok-root_node.ensures.conditions) in
    rw (error.1, error.2)
    (unmade _ _ c.args.schema.now c.args.records.now root (c.in_ok-root_node.ensures.read, can) _ _ false
    c.in_ok-resolver.resolver c.schema-3.result.now c.schema-3.ensures c.in_ok-table.table c.in_ok-table.ensures _ made (refl, refl))

pub returns-in_err-serve-clause-ran : goal.returns-in_err-serve-clause-ran
returns-in_err-serve-clause-ran g c =
    let error = err_from_is_err_and c.from_residual-in_err-serve.result c.from_residual-in_err-serve.ensures.1 in
    let root = c.in_ok-root_node.root_node in
    let can = tested root c.schema.result.now c.schema.ensures c.schema_is_executable.result true c.schema_is_executable.ensures.value c.if-not-schema_is_executable.false in
    let ready = c.in_ok-service.ensures (can, c.in_ok-root_node.ensures.conditions) in
    let made = service_made _ _ c.args.schema.now c.args.records.now root (c.in_ok-root_node.ensures.read, can) c.schema-2.result.now c.schema-2.ensures c.in_ok-resolver.resolver c.in_ok-resolver.ensures
    c.schema-3.result.now c.schema-3.ensures c.in_ok-table.table c.in_ok-table.ensures c.in_ok-service.service ready in
    let described = subst (IsDescribed _ _ c.args.schema.now c.args.records.now) (sym c.new-cache.ensures.service) made in
    let keeps = c.new-cache.ensures.keeps (takes-stand-in _ c.in_ok-service.service root ready.0.root_node c.in_ok-root_node.ensures.conditions ready.1) in
    rw (error.1, error.2)
    (c.serve.new.self.service.context, record { service = c.new-cache.result.service; described = described; served = c.in_err-serve.ensures.ended keeps })

pub returns-clause-ran : goal.returns-clause-ran
returns-clause-ran g c =
    let root = c.in_ok-root_node.root_node in
    let can = tested root c.schema.result.now c.schema.ensures c.schema_is_executable.result true c.schema_is_executable.ensures.value c.if-not-schema_is_executable.false in
    let ready = c.in_ok-service.ensures (can, c.in_ok-root_node.ensures.conditions) in
    let made = service_made _ _ c.args.schema.now c.args.records.now root (c.in_ok-root_node.ensures.read, can) c.schema-2.result.now c.schema-2.ensures c.in_ok-resolver.resolver c.in_ok-resolver.ensures
    c.schema-3.result.now c.schema-3.ensures c.in_ok-table.table c.in_ok-table.ensures c.in_ok-service.service ready in
    let described = subst (IsDescribed _ _ c.args.schema.now c.args.records.now) (sym c.new-cache.ensures.service) made in
    let keeps = c.new-cache.ensures.keeps (takes-stand-in _ c.in_ok-service.service root ready.0.root_node c.in_ok-root_node.ensures.conditions ready.1) in
    (c.serve.new.self.service.context, record { service = c.new-cache.result.service; described = described; served = c.in_ok-serve.ensures.served keeps })

pub returns-in_err-service-clause-reads : goal.returns-in_err-service-clause-reads
returns-in_err-service-clause-reads g c =
    let error = err_from_is_err_and c.from_residual-in_err-service.result c.from_residual-in_err-service.ensures.1 in
    let root = c.in_ok-root_node.root_node in
    let can = tested root c.schema.result.now c.schema.ensures c.schema_is_executable.result true c.schema_is_executable.ensures.value c.if-not-schema_is_executable.false in
    let made = c.in_err-service.ensures (can, c.in_ok-root_node.ensures.conditions) in
    rw (error.1, error.2, unserved _ root c.in_ok-resolver.resolver c.in_ok-table.table _ made) refl

pub returns-in_err-serve-clause-reads : goal.returns-in_err-serve-clause-reads
returns-in_err-serve-clause-reads g c =
    let error = err_from_is_err_and c.from_residual-in_err-serve.result c.from_residual-in_err-serve.ensures.1 in
    rw (error.1, error.2) c.in_err-serve.ensures.reads

pub returns-in_err-service-clause-writes : goal.returns-in_err-service-clause-writes
returns-in_err-service-clause-writes g c =
    let error = err_from_is_err_and c.from_residual-in_err-service.result c.from_residual-in_err-service.ensures.1 in
    let root = c.in_ok-root_node.root_node in
    let can = tested root c.schema.result.now c.schema.ensures c.schema_is_executable.result true c.schema_is_executable.ensures.value c.if-not-schema_is_executable.false in
    let made = c.in_err-service.ensures (can, c.in_ok-root_node.ensures.conditions) in
    rw (error.1, error.2, unserved _ root c.in_ok-resolver.resolver c.in_ok-table.table _ made) refl

pub returns-in_err-serve-clause-writes : goal.returns-in_err-serve-clause-writes
returns-in_err-serve-clause-writes g c =
    let error = err_from_is_err_and c.from_residual-in_err-serve.result c.from_residual-in_err-serve.ensures.1 in
    rw (error.1, error.2) c.in_err-serve.ensures.writes
