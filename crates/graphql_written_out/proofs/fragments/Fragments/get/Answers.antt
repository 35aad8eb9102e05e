use Rattle.std.proofs.Common.{Some, sym, ap, ◌∙◌, option_map}
use Rattle.graphql_written_out.proofs.FragmentLemmas.{fragment_at, no-number, number-none, number-read}
use Rattle.graphql_written_out.proofs.fragments.Fragments.get.Goals as goal

pub returns-in_err-number : goal.returns-in_err-number
returns-in_err-number g c =
    ap (option_map (λ f. f.now)) c.from_residual.ensures
    ∙ no-number c.args.self.now.document.now c.args.name.now c.in_err-number.ensures

pub returns-in_err-fragment : goal.returns-in_err-fragment
returns-in_err-fragment g c =
    ap (option_map (λ f. f.now)) c.from_residual-in_err-fragment.ensures
    ∙ number-none c.args.self.now.document.now c.args.name.now c.in_ok-number.field-0 c.in_ok-number.ensures c.in_err-fragment.ensures.lookup.3

pub returns-in-Fragment : goal.returns-in-Fragment
returns-in-Fragment g c =
    let found = c.in_ok-fragment.ensures.lookup in
    sym (ap (λ d. fragment_at (Some d)) c.in-Fragment.is)
    ∙ number-read c.args.self.now.document.now c.args.name.now c.in_ok-number.field-0 c.in_ok-fragment.field-0.now c.in_ok-number.ensures found.3.0 found.1

pub returns-in-Operation : goal.returns-in-Operation
returns-in-Operation g c =
    let found = c.in_ok-fragment.ensures.lookup in
    sym (ap (λ d. fragment_at (Some d)) c.in-Operation.is)
    ∙ number-read c.args.self.now.document.now c.args.name.now c.in_ok-number.field-0 c.in_ok-fragment.field-0.now c.in_ok-number.ensures found.3.0 found.1
