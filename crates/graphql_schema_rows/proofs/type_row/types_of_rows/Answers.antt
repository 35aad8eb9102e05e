use Rattle.std.proofs.Common.{◌≡◌, ◌++◌, ◌∷◌, [], arith, rules, subst, sym}
use Rattle.std.specs.List.{AllZip}
use Rattle.std.specs.Vec.Iter.{into_iter_items}
use Rattle.std.proofs.lemmas.Grind.{common_steps}
use Rattle.graphql_schema_rows.specs.Types as spec
use Rattle.graphql_schema_rows.proofs.Described.{all_passed, handed_on, is_passed, stands_behind, zip_push}
use Rattle.graphql_schema_rows.proofs.type_row.types_of_rows.Goals as goal

pub rows-init : goal.rows-init
rows-init g c = record { before = []; is = search rules; made = search rules }

pub returns-in_err-type_of_row : goal.returns-in_err-type_of_row
returns-in_err-type_of_row g c =
    let reads = g.S.ParseScalarValue.reads in
    let of_bool = g.S.ScalarValue.of_bool in
    let answer = g.S.ScalarValue.answer in
    let rows = c.args.rows.items in
    let before = c.rows.invariant.before in
    let rest = into_iter_items c.next.new.self in
    let next : into_iter_items c.rows.checked-iterator ≡ c.in-Some.checked ∷ rest = search rules in
    handed_on (AllZip (spec.IsTypeOf reads of_bool answer) rows) (spec.IsFirstRefused reads of_bool answer rows)
    c.from_residual-in_err-type_of_row.result c.from_residual-in_err-type_of_row.ensures.1
    (λ told. record {
      before = before;
      this = c.in-Some.checked;
      after = rest;
      is = stands_behind rows before (into_iter_items c.rows.checked-iterator) rest c.in-Some.checked c.rows.invariant.is next;
      types = c.rows.types;
      made = c.rows.invariant.made;
      refused = c.in_err-type_of_row.ensures told;
    })
    (λ e refused. refused)

pub rows-preserved : goal.rows-preserved
rows-preserved g c =
    let before = c.rows.invariant.before in
    let one = c.in_ok-type_of_row.field-0 in
    let rest = into_iter_items c.next.new.self in
    let next : into_iter_items c.rows.checked-iterator ≡ c.in-Some.checked ∷ rest = search rules in
    let pushed : c.push.new.self ≡ c.rows.types ++ one ∷ [] = search rules in
    let is_type = spec.IsTypeOf g.S.ParseScalarValue.reads g.S.ScalarValue.of_bool g.S.ScalarValue.answer in
    record {
      before = before ++ c.in-Some.checked ∷ [];
      is = is_passed c.args.rows.items before (into_iter_items c.rows.checked-iterator) rest c.in-Some.checked c.rows.invariant.is next;
      made =
          subst (λ types. AllZip is_type (before ++ c.in-Some.checked ∷ []) types) (sym pushed)
          (zip_push is_type before c.rows.types c.in-Some.checked one c.rows.invariant.made c.in_ok-type_of_row.ensures);
    }

pub returns : goal.returns
returns g c =
    let ended : into_iter_items c.rows.checked-iterator ≡ [] = grind (arith, common_steps) in
    subst (λ rows. AllZip (spec.IsTypeOf g.S.ParseScalarValue.reads g.S.ScalarValue.of_bool g.S.ScalarValue.answer) rows c.rows.types)
    (all_passed c.args.rows.items c.rows.invariant.before (into_iter_items c.rows.checked-iterator) c.rows.invariant.is ended)
    c.rows.invariant.made
