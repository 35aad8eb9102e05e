use Rattle.std.proofs.Common.{refl, sym, ◌∙◌, ap, subst, ◌≡◌, ◌++◌, ◌∷◌, [], reverse, slice_get, Some, None}
use Rattle.std.specs.List.{All}
use Rattle.std.proofs.lemmas.List.Elements.{All-tail}
use Rattle.graphql_collect.specs.Grouped.{all_found, key_at}
use Rattle.graphql_collected.specs.Requests.{fragments_in}
use Rattle.graphql_semantics.specs.Evaluation.{sets_below}
use Rattle.graphql_schema.specs.Types.{TypeOf}
use Rattle.graphql_tree.specs.declared.selection.Selection.TheVariants as selection
use Rattle.graphql_written_out.specs.Written.{head_of}
use Rattle.graphql_execution_walk.specs.Begins.{outcome_at}
use Rattle.graphql_execution_walk.specs.Engines.{engine_of}
use Rattle.graphql_execution_walk.specs.Evaluations.{evaluation_at}
use Rattle.graphql_execution_walk.specs.FieldDeclarations.{declared_type}
use Rattle.graphql_execution_walk.specs.Frames.{TellsFirst, comes_to}
use Rattle.graphql_execution_walk.proofs.BeginLemmas.{told-begins}
use Rattle.graphql_execution_walk.proofs.EngineParts.{engine-declared}
use Rattle.graphql_execution_walk.proofs.FrameLemmas.{group-leads, none-leads, undeclared-leads}
use Rattle.graphql_execution_walk.proofs.GroupLemmas.{group-turns, head_first, nothing_first}
use Rattle.graphql_execution_walk.proofs.KeyLemmas.{IsUnder, all-at, contains-at, found-under}
use Rattle.graphql_execution_walk.proofs.PreparedLemmas.{declared-known, first-known}
use Rattle.graphql_execution_walk.proofs.steps.start.Goals as goal

-- the first field of the group stands where its executor does
pub begin_field-begins-requires-clause-place : goal.begin_field-begins-requires-clause-place
begin_field-begins-requires-clause-place g c =
    let rq = c.args.executor.now.request.now in
    let fr = fragments_in rq in
    let old = c.args.report.now in
    let key = c.args.these.now.0 in
    let fields = c.args.these.now.1 in
    let x = c.in-Some.first.now in
    let first : Some x ≡ slice_get fields 0 = rw c.in-Some.is at c.first.ensures in
    let parts = head_first fields x first in
    let same : key_at x ≡ key = all-at (λ y. key_at y ≡ key) fields 0 x c.requires.keyed (sym first) in
    let keyed : All (λ y. key_at y ≡ key) (x ∷ parts.0) = subst (All (λ y. key_at y ≡ key)) parts.1 c.requires.keyed in
    let alike : All (IsUnder key) (all_found fr parts.0) =
    found-under fr key parts.0 (All-tail (λ y. key_at y ≡ key) x parts.0 keyed) in
    record {
      stands = contains-at x.among.now x.place (selection.Field x.field.now) x.stands;
      declared = ap (declared_type rq.schema.now.types c.args.object.now) (sym c.as_str.ensures) ∙ sym (rw c.in-Some-declared_at.is at c.declared_at.ensures);
      starts = refl;
      above = old.path;
      leads = c.as_slice-keys.ensures ∙ c.in_ok-enter.ensures.path ∙ ap (λ k. old.path ++ k ∷ []) (sym same);
      others = all_found fr parts.0;
      alike = subst (λ k. All (IsUnder k) (all_found fr parts.0)) (sym same) alike;
      selects = ap (λ xs. sets_below (all_found fr xs)) (c.as_slice-fields.ensures ∙ parts.1);
    }

-- what is known of the group is known of its first field
pub declared_at-requires : goal.declared_at-requires
declared_at-requires g c =
    let first : Some c.in-Some.first.now ≡ slice_get c.args.these.now.1 0 = rw c.in-Some.is at c.first.ensures in
    rw c.as_str.ensures (declared-known c.args.executor.now.request.now c.args.object.now c.args.these.now c.in-Some.first.now first c.args.prepared c.requires.prepared)

pub begin_field-begins-requires-clause-prepared : goal.begin_field-begins-requires-clause-prepared
begin_field-begins-requires-clause-prepared g c =
    let first : Some c.in-Some.first.now ≡ slice_get c.args.these.now.1 0 = rw c.in-Some.is at c.first.ensures in
    first-known c.args.executor.now.request.now c.args.object.now c.args.these.now c.in-Some.first.now first c.args.prepared c.requires.prepared

pub returns-in_default-clause-leads : goal.returns-in_default-clause-leads
returns-in_default-clause-leads g c =
    let rq = c.args.executor.now.request.now in
    let ty = g.R.GraphQLValue.type_of c.args.resolver.now c.args.executor.now.context.now in
    let an = g.R.GraphQLValue.answer c.args.resolver.now c.args.executor.now.context.now in
    let e = engine_of g.S.ScalarValue.of_text g.S.ScalarValue.of_bool g.S.ScalarValue.answer rq ty an in
    let fr = fragments_in rq in
    let old = c.args.report.now in
    none-leads fr e old.path c.args.object.now c.args.node.now c.args.these.now.0 c.args.these.now.1 old c.enter.new.self (rw c.in_default.is at c.first.ensures) c.in_ok-enter.ensures.errors

pub returns-in_default-declared_at-clause-leads : goal.returns-in_default-declared_at-clause-leads
returns-in_default-declared_at-clause-leads g c =
    let rq = c.args.executor.now.request.now in
    let ty = g.R.GraphQLValue.type_of c.args.resolver.now c.args.executor.now.context.now in
    let an = g.R.GraphQLValue.answer c.args.resolver.now c.args.executor.now.context.now in
    let e = engine_of g.S.ScalarValue.of_text g.S.ScalarValue.of_bool g.S.ScalarValue.answer rq ty an in
    let fr = fragments_in rq in
    let old = c.args.report.now in
    let object = c.args.object.now in
    let key = c.args.these.now.0 in
    let fields = c.args.these.now.1 in
    let x = c.in-Some.first.now in
    let first : Some x ≡ slice_get fields 0 = rw c.in-Some.is at c.first.ensures in
    let named = ap (λ f. f object (head_of x.field.now).name) (engine-declared g.S.ScalarValue.of_text g.S.ScalarValue.of_bool g.S.ScalarValue.answer rq ty an) ∙ ap (declared_type rq.schema.now.types object) (sym c.as_str.ensures) in
    let declared : e.declared object (head_of x.field.now).name ≡ None = named ∙ sym (rw c.in_default-declared_at.is at c.declared_at.ensures) in
    undeclared-leads fr e old.path object c.args.node.now key fields x first old c.enter.new.self declared c.in_ok-enter.ensures.errors

pub returns-clause-leads : goal.returns-clause-leads
returns-clause-leads g c =
    let rq = c.args.executor.now.request.now in
    let ty = g.R.GraphQLValue.type_of c.args.resolver.now c.args.executor.now.context.now in
    let an = g.R.GraphQLValue.answer c.args.resolver.now c.args.executor.now.context.now in
    let here = evaluation_at g.S.ScalarValue.of_text g.S.ScalarValue.of_bool g.S.ScalarValue.answer (g.R.GraphQLValue.root_node c.args.resolver.now) (g.R.GraphQLValue.type_of c.args.resolver.now) (g.R.GraphQLValue.answer c.args.resolver.now) c.args.executor.now in
    let old = c.args.report.now in
    let object = c.args.object.now in
    let node = c.args.node.now in
    let key = c.args.these.now.0 in
    let fields = c.args.these.now.1 in
    let x = c.in-Some.first.now in
    let first : Some x ≡ slice_get fields 0 = rw c.in-Some.is at c.first.ensures in
    let named = ap (λ f. f object (head_of x.field.now).name) (engine-declared g.S.ScalarValue.of_text g.S.ScalarValue.of_bool g.S.ScalarValue.answer rq ty an) ∙ ap (declared_type rq.schema.now.types object) (sym c.as_str.ensures) in
    let found = c.in-Some-declared_at.declared in
    let type : TypeOf = record { name = found.name.now; modifiers = found.modifiers.now } in
    let declared : here.engine.declared object (head_of x.field.now).name ≡ Some type = named ∙ sym (rw c.in-Some-declared_at.is at c.declared_at.ensures) in
    let mid = c.enter.new.self in
    let down : mid.path ≡ old.path ++ key ∷ [] = c.in_ok-enter.ensures.path in
    let answer = here.engine.answer node object (head_of x.field.now).name (here.engine.arguments object (head_of x.field.now)) in
    let sets = sets_below (all_found here.fragments fields) in
    let now = c.in_ok-begun.begun in
    let at = told-begins here sets type.name x.field.now.span.start (reverse type.modifiers) answer c.begin_field-begins.result mid now c.begun_or_told.new.report (rw c.as_slice-fields.ensures at c.begin_field-begins.ensures) c.in_ok-begun.ensures in
    rw c.is_required-is_needed.ensures
    (group-leads here.fragments here.engine old.path object node key fields x first type answer old mid c.begun_or_told.new.report (comes_to here now (old.path ++ key ∷ [])) declared refl c.in_ok-enter.ensures.errors
    (subst (λ p. TellsFirst (outcome_at here.engine sets type.name x.field.now.span.start (reverse type.modifiers) answer p) mid (comes_to here now p) c.begun_or_told.new.report) down at.leads))

pub returns-in_default-clause-turns : goal.returns-in_default-clause-turns
returns-in_default-clause-turns g c = rw (nothing_first c.args.these.now.1 (rw c.in_default.is at c.first.ensures)) refl

pub returns-in_default-declared_at-clause-turns : goal.returns-in_default-declared_at-clause-turns
returns-in_default-declared_at-clause-turns g c =
    let rq = c.args.executor.now.request.now in
    let ty = g.R.GraphQLValue.type_of c.args.resolver.now c.args.executor.now.context.now in
    let an = g.R.GraphQLValue.answer c.args.resolver.now c.args.executor.now.context.now in
    let e = engine_of g.S.ScalarValue.of_text g.S.ScalarValue.of_bool g.S.ScalarValue.answer rq ty an in
    let object = c.args.object.now in
    let fields = c.args.these.now.1 in
    let x = c.in-Some.first.now in
    let first : Some x ≡ slice_get fields 0 = rw c.in-Some.is at c.first.ensures in
    let named = ap (λ f. f object (head_of x.field.now).name) (engine-declared g.S.ScalarValue.of_text g.S.ScalarValue.of_bool g.S.ScalarValue.answer rq ty an) ∙ ap (declared_type rq.schema.now.types object) (sym c.as_str.ensures) in
    let declared : e.declared object (head_of x.field.now).name ≡ None = named ∙ sym (rw c.in_default-declared_at.is at c.declared_at.ensures) in
    rw (group-turns (fragments_in rq) e object c.args.node.now fields x first, declared) refl

pub returns-clause-turns : goal.returns-clause-turns
returns-clause-turns g c =
    let rq = c.args.executor.now.request.now in
    let ty = g.R.GraphQLValue.type_of c.args.resolver.now c.args.executor.now.context.now in
    let an = g.R.GraphQLValue.answer c.args.resolver.now c.args.executor.now.context.now in
    let here = evaluation_at g.S.ScalarValue.of_text g.S.ScalarValue.of_bool g.S.ScalarValue.answer (g.R.GraphQLValue.root_node c.args.resolver.now) (g.R.GraphQLValue.type_of c.args.resolver.now) (g.R.GraphQLValue.answer c.args.resolver.now) c.args.executor.now in
    let object = c.args.object.now in
    let node = c.args.node.now in
    let fields = c.args.these.now.1 in
    let x = c.in-Some.first.now in
    let first : Some x ≡ slice_get fields 0 = rw c.in-Some.is at c.first.ensures in
    let named = ap (λ f. f object (head_of x.field.now).name) (engine-declared g.S.ScalarValue.of_text g.S.ScalarValue.of_bool g.S.ScalarValue.answer rq ty an) ∙ ap (declared_type rq.schema.now.types object) (sym c.as_str.ensures) in
    let found = c.in-Some-declared_at.declared in
    let type : TypeOf = record { name = found.name.now; modifiers = found.modifiers.now } in
    let declared : here.engine.declared object (head_of x.field.now).name ≡ Some type = named ∙ sym (rw c.in-Some-declared_at.is at c.declared_at.ensures) in
    let answer = here.engine.answer node object (head_of x.field.now).name (here.engine.arguments object (head_of x.field.now)) in
    let at = told-begins here (sets_below (all_found here.fragments fields)) type.name x.field.now.span.start (reverse type.modifiers) answer c.begin_field-begins.result c.enter.new.self c.in_ok-begun.begun c.begun_or_told.new.report (rw c.as_slice-fields.ensures at c.begin_field-begins.ensures) c.in_ok-begun.ensures in
    rw (group-turns here.fragments here.engine object node fields x first, declared) at.turns
