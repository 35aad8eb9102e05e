-- Reports, one after the other.
use Rattle.std.proofs.Common.{◌≡◌, ℕ, ◌+◌, ◌<◌, List, [], ◌∷◌, ◌++◌, true, false, length, get_or, take, refl, sym, ap, subst, ◌∙◌, append-nil}
use Rattle.std.specs.List.{flat_map}
use Rattle.std.proofs.lemmas.Grind.{flat_map-append}
use Rattle.std.proofs.lemmas.List.{take_more}
use Rattle.graphql_rule_errors.specs.Places.{Places, places}
use Rattle.graphql_rule_errors.specs.declared.rule_error.RuleError.{RuleError}
use Rattle.graphql_rule_errors.proofs.ReportLemmas.{reports_behind}
use Rattle.graphql_visitors.specs.Reports.{Adds, Reports}
use Rattle.graphql_visitors.specs.declared.context.ValidatorContext.{ValidatorContext}
use Rattle.graphql_visitors.proofs.RunLemmas.{as_before_after, reported_after, reported_none}

module _ {S C : Type 0} where
  pub reports_none : (c : ValidatorContext S C) → Reports [] c c
  reports_none c = record { as_before = refl; reported = λ h. reported_none c h }

  pub reports_after : (ts us : Places) (a b c : ValidatorContext S C) → Reports ts a b → Reports us b c → Reports (ts ++ us) a c
  reports_after ts us a b c h k = record {
    as_before = as_before_after a b c h.as_before k.as_before;
    reported = λ m. let last = k.reported m in reported_after ts us a b c (h.reported last.memory) last;
  }

  -- of a context that has failed nothing is promised
  pub reports_failed : (told ts : Places) (a b c : ValidatorContext S C) → Reports ts a b → c ≡ record b { failed = true } → Reports told a c
  reports_failed told ts a b c h same = record {
    as_before = as_before_after a b c h.as_before (same ∙ (λ i. record b { errors = ap (λ x. x.errors) (sym same) i; failed = ap (λ x. x.failed) (sym same) i }));
    reported = λ m. absurd (let impossible : true ≡ false = sym (ap (λ x. x.failed) same) ∙ m in cc);
  }

  -- a loop past i of the items
  pub reports_next : {A : Type 0} (says : A → Places) (xs : List A) (i : ℕ) (x : A) → i < length xs → x ≡ get_or xs i x → (a b c : ValidatorContext S C)
      → Reports (flat_map says (take i xs)) a b → Reports (says x) b c → Reports (flat_map says (take (i + 1) xs)) a c
  reports_next says xs i x within is a b c before here =
      let next : flat_map says (take (i + 1) xs) ≡ flat_map says (take i xs) ++ says x =
      ap (flat_map says) (take_more xs i x within ∙ ap (λ y. take i xs ++ y ∷ []) (sym is)) ∙ flat_map-append says (take i xs) (x ∷ []) ∙ ap (λ ps. flat_map says (take i xs) ++ ps) (append-nil (says x)) in
      subst (λ told. Reports told a c) (sym next) (reports_after (flat_map says (take i xs)) (says x) a b c before here)

  -- errors that are added are reported, where they name these places
  pub reports_added : (errors : List RuleError) (told : Places) (a b : ValidatorContext S C) → places errors ≡ told → Adds errors a b → Reports told a b
  reports_added errors told a b is h = record {
    as_before = h.as_before;
    reported = λ m. record { memory = h.memory m; errors = reports_behind told errors a.errors b.errors (h.added m) is };
  }
