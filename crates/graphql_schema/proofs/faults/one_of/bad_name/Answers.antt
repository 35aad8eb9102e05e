use Rattle.std.proofs.Common.{◌≡◌, ◌∙◌, ◌&&◌, Bool, true, false, not, ap, sym, refl}
use Rattle.std.specs.List.{list_all}
use Rattle.std.specs.Str.{bytes_eq}
use Rattle.graphql_names.specs.Names.{Bytes, is_named}
use Rattle.graphql_names.proofs.NameLemmas.{eq_itself}
use Rattle.graphql_schema.specs.Faults.{is_bad_one_of, is_nullable_without_default}
use Rattle.graphql_schema.specs.Lookups.{own_name}
use Rattle.graphql_schema.proofs.faults.one_of.bad_name.Goals as goal

where_all_are : (b one are : Bool) → are ≡ true → (b && (one && not are)) ≡ false
where_all_are true true are h = ap not h
where_all_are true false are h = refl
where_all_are false one are h = refl

where_one_is_not : (name own : Bytes) (one are : Bool) → own ≡ name → one ≡ true → are ≡ false → (bytes_eq own name && (one && not are)) ≡ true
where_one_is_not name own one are is given h = ap (λ n. bytes_eq n name && (one && not are)) is ∙ ap (λ b. b && (one && not are)) (eq_itself name) ∙ ap (λ b. b && not are) given ∙ ap not h

pub returns-then-are_nullable_without_default : goal.returns-then-are_nullable_without_default
returns-then-are_nullable_without_default g c = λ name.
    let o = c.in-InputObject.object in
    let are : list_all is_nullable_without_default o.input_fields ≡ true = ap (list_all is_nullable_without_default) (sym c.as_slice.ensures) ∙ sym c.are_nullable_without_default.ensures ∙ c.if-are_nullable_without_default.true in
    ap (λ m. is_named own_name name m && is_bad_one_of m) c.in-InputObject.is ∙ where_all_are (bytes_eq o.name name) o.exactly_one (list_all is_nullable_without_default o.input_fields) are

pub returns-else-are_nullable_without_default : goal.returns-else-are_nullable_without_default
returns-else-are_nullable_without_default g c =
    let o = c.in-InputObject.object in
    let name = c.as_str.result.now in
    let are : list_all is_nullable_without_default o.input_fields ≡ false = ap (list_all is_nullable_without_default) (sym c.as_slice.ensures) ∙ sym c.are_nullable_without_default.ensures ∙ c.if-are_nullable_without_default.false in
    let one : o.exactly_one ≡ true = sym c.is_one_of.ensures ∙ c.if-is_one_of.true in
    ap (λ m. is_named own_name name m && is_bad_one_of m) c.in-InputObject.is ∙ where_one_is_not name o.name o.exactly_one (list_all is_nullable_without_default o.input_fields) (sym c.as_str.ensures) one are
