use Rattle.std.proofs.Common.{sym, subst}
use Rattle.std.specs.Str.{chars}
use Rattle.graphql_text.specs.Grammar.{IsDivided}
use Rattle.graphql_stores_tests.proofs.SameTexts.{are-alike}
use Rattle.graphql_stores_tests.proofs.spelled.have_same_tokens.Goals as goal

pub returns : goal.returns
returns c =
    let one = chars c.args.one.now in
    let other = chars c.args.other.now in
    are-alike c.one_list.ensures one other c.as_slice.result.now c.as_slice-2.result.now
    (subst (IsDivided one) (sym c.as_slice.ensures.value) c.in_ok-tokens.ensures.tokens)
    (subst (IsDivided other) (sym c.as_slice-2.ensures.value) c.in_ok-others.ensures.tokens)
    c.have_same_items.result c.have_same_items.ensures
