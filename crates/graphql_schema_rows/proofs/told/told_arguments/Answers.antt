use Rattle.std.proofs.Common.{◌≡◌, ◌++◌, ◌∷◌, ◌∙◌, [], ap, arith, rules, sym}
use Rattle.std.specs.Vec.Iter.{into_iter_items}
use Rattle.std.proofs.lemmas.Grind.{common_steps}
use Rattle.graphql_schema_rows.specs.Notes as spec
use Rattle.graphql_schema_rows.proofs.Described.{all_passed, is_passed, stands_behind}
use Rattle.graphql_schema_rows.proofs.Tellings.{hands_on, told_more, told_stops}
use Rattle.graphql_schema_rows.proofs.told.told_arguments.Goals as goal

pub arguments-init : goal.arguments-init
arguments-init g c = record { before = []; is = search rules; told = search rules }

pub returns-in_err-told_argument : goal.returns-in_err-told_argument
returns-in_err-told_argument g c =
    let all = c.args.definitions in
    let before = c.arguments.invariant.before in
    let rest = into_iter_items c.next.new.self in
    let next : into_iter_items c.arguments.definition-iterator ≡ c.in-Some.definition ∷ rest = search rules in
    hands_on c.from_residual-in_err-told_argument.result c.from_residual-in_err-told_argument.ensures.1 c.in_err-told_argument.ensures
    (λ refused. ap spec.told_arguments (stands_behind all before (into_iter_items c.arguments.definition-iterator) rest c.in-Some.definition c.arguments.invariant.is next)
    ∙ told_stops before c.in-Some.definition rest c.arguments.told _ c.arguments.invariant.told refused)

pub arguments-preserved : goal.arguments-preserved
arguments-preserved g c =
    let before = c.arguments.invariant.before in
    let one = c.in_ok-told_argument.field-0 in
    let rest = into_iter_items c.next.new.self in
    let next : into_iter_items c.arguments.definition-iterator ≡ c.in-Some.definition ∷ rest = search rules in
    let pushed : c.push.new.self ≡ c.arguments.told ++ one ∷ [] = search rules in
    record {
      before = before ++ c.in-Some.definition ∷ [];
      is = is_passed c.args.definitions before (into_iter_items c.arguments.definition-iterator) rest c.in-Some.definition c.arguments.invariant.is next;
      told = rw pushed (told_more before c.in-Some.definition c.arguments.told one c.arguments.invariant.told c.in_ok-told_argument.ensures);
    }

pub returns : goal.returns
returns g c =
    let ended : into_iter_items c.arguments.definition-iterator ≡ [] = grind (arith, common_steps) in
    ap spec.told_arguments (sym (all_passed c.args.definitions c.arguments.invariant.before (into_iter_items c.arguments.definition-iterator) c.arguments.invariant.is ended))
    ∙ c.arguments.invariant.told
