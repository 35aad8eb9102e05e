-- What two visitors and none tell in one pass, and when a visitor tells nothing.
use Rattle.std.proofs.Common.{◌≡◌, ◌↔◌, refl, false, List, [], ◌++◌, Result, OnOk, IfOk, length, sym, ap, subst, ◌∙◌}
use Rattle.std.specs.Prelude.{IsPermutation}
use Rattle.std.proofs.lemmas.List.{append-nil, nil_from_length}
use Rattle.std.proofs.lemmas.List.Sorted.{IsPermutation-append_right, IsPermutation-refl, IsPermutation-trans, length_permutation}
use Rattle.graphql_rule_errors.specs.Places.{Places}
use Rattle.graphql_rule_errors.specs.declared.rule_error.RuleError.{RuleError}
use Rattle.graphql_visitors.specs.Reports.{Reports}
use Rattle.graphql_visitors.specs.declared.context.ValidatorContext.{ValidatorContext}
use Rattle.graphql_validation.proofs.ReportedLemmas.{errors_none, errors_told}

-- the one's places, and those of the other and of none
pub two_told : (a b one other none rest all : Places) → one ≡ a → other ≡ b → none ≡ []
    → IsPermutation (other ++ none) rest → IsPermutation (one ++ rest) all → IsPermutation (a ++ b) all
two_told a b one other none rest all is_a is_b is_none behind whole =
    let there : IsPermutation b rest =
    subst (λ (x : Places). IsPermutation x rest) ((λ i. is_b i ++ is_none i) ∙ append-nil b) behind in
    IsPermutation-trans (a ++ b) (a ++ rest) all (IsPermutation-append_right a b rest there)
    (subst (λ (x : Places). IsPermutation (x ++ rest) all) is_a whole)

none_where_none : (told : Places) (Right : Type 0) → (told ≡ []) ↔ Right → (other : Places) → IsPermutation told other → (other ≡ []) ↔ Right
none_where_none told Right law other p = (
  λ none. law.0 (nil_from_length told (sym (length_permutation told other p) ∙ ap length none)),
  λ right. nil_from_length other (length_permutation told other p ∙ ap length (law.1 right)),
)

-- a context that had no error has none in the end exactly where nothing is told
pub nothing_told : {S C E : Type 0} (told : Places) (Right : Type 0) → (told ≡ []) ↔ Right → (a b : ValidatorContext S C) (r : Result (List RuleError) E)
    → a.errors ≡ [] → Reports told a b → OnOk r (b.failed ≡ false) → IfOk r (IsPermutation b.errors) → IfOk r (λ errors. (errors ≡ []) ↔ Right)
nothing_told told Right law a b r none reports ok permuted =
    errors_none (IsPermutation told) Right r
    (errors_told (IsPermutation told) a b r none
    (record { as_before = reports.as_before; reported = λ m. (told, IsPermutation-refl told, reports.reported m) })
    ok permuted (λ one other p is. IsPermutation-trans told one other is p))
    (none_where_none told Right law)
