use Rattle.std.proofs.Common.{◌≡◌, false, Option, Some, None, is_some, refl, sym, ap, ◌∙◌, true≢false}
use Rattle.std.specs.Map.{lookup}
use Rattle.std.specs.Option.{option_map}
use Rattle.std.specs.Str.{bytes_eq}
use Rattle.graphql_arguments.specs.GivenValues.{value_told}
use Rattle.graphql_arguments.proofs.FirstValues.{found_in}
use Rattle.graphql_arguments.proofs.arguments.Arguments.get_input_value.Goals as goal

none_found : {A : Type 0} (o : Option A) → is_some o ≡ false → None ≡ o
none_found None h = refl
none_found (Some x) h = absurd (true≢false h)

pub returns-in-Some : goal.returns-in-Some
returns-in-Some g c =
    let held = c.args.self.now.held.entries in
    ap Some c.value.ensures
    ∙ ap (option_map (λ v. value_told v.item)) (sym c.index.ensures ∙ c.in-Some.ensures.value ∙ ap (λ n. lookup (bytes_eq n) held) c.new.ensures)
    ∙ sym (found_in held c.args.name.now)

pub returns-in-None : goal.returns-in-None
returns-in-None g c =
    let held = c.args.self.now.held.entries in
    ap (option_map (λ v. value_told v.item)) (none_found (lookup (bytes_eq c.new.result) held) (sym c.in-None.ensures.found) ∙ ap (λ n. lookup (bytes_eq n) held) c.new.ensures)
    ∙ sym (found_in held c.args.name.now)
