use Rattle.std.proofs.Common.{rules, ap, map, ◌≡◌, ◌∙◌, []}
use Rattle.std.proofs.lemmas.List.{nil_from_length}
use Rattle.std.specs.Slice.Iter.{iter_rest}
use Rattle.graphql_look_ahead.specs.NamesLeft.{key_at}
use Rattle.graphql_look_ahead.proofs.children.names.NamesDoubleEndedIterator.next_back.Goals as goal

pub returns-in_err-child-clause-steps : goal.returns-in_err-child-clause-steps
returns-in_err-child-clause-steps g c =
    let none : iter_rest c.args.self.now.rest ≡ [] = nil_from_length _ c.in_err-child.ensures.steps.0 in
    let same : iter_rest c.next_back.new.self ≡ iter_rest c.args.self.now.rest = search rules in
    rw c.from_residual.ensures (ap (map key_at) none, ap (map key_at) (same ∙ none))
