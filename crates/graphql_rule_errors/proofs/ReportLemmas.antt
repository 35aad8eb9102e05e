-- Errors that are reported, one after another.
use Rattle.std.proofs.Common.{◌≡◌, ◌≤◌, List, [], ◌++◌, length, take, sym, ap, ◌∙◌, append-nil, append_assoc, arith}
use Rattle.std.proofs.lemmas.List.{length-take, map-append, take-append-le, take-take, take_all}
use Rattle.graphql_rule_errors.specs.declared.rule_error.RuleError.{RuleError}
use Rattle.graphql_rule_errors.specs.Places.{Places, Reports, places}

pub reports_none : (old : List RuleError) → Reports [] old old
reports_none old = record { kept = take_all (length old) old (omega arith); at = sym (append-nil (places old)) }

pub reports_more : (told more : Places) (old mid new : List RuleError) → Reports told old mid → Reports more mid new → Reports (told ++ more) old new
reports_more told more old mid new h k =
    let within : length old ≤ length mid = omega (arith, ap length h.kept, length-take (length old) mid) in
    record {
      kept = sym (take-take (length old) (length mid) new within) ∙ ap (take (length old)) k.kept ∙ h.kept;
      at = k.at ∙ ap (λ ts. ts ++ more) h.at ∙ append_assoc (places old) told more;
    }

pub reports_as : (told told' : Places) (old new : List RuleError) → told ≡ told' → Reports told old new → Reports told' old new
reports_as told told' old new e h = record { kept = h.kept; at = h.at ∙ ap (λ ts. places old ++ ts) e }

-- errors that stand behind the others
pub reports_behind : (told : Places) (errors old new : List RuleError) → new ≡ old ++ errors → places errors ≡ told → Reports told old new
reports_behind told errors old new behind at = record {
  kept = ap (take (length old)) behind ∙ take-append-le (length old) old errors (omega arith) ∙ take_all (length old) old (omega arith);
  at = ap places behind ∙ map-append (λ e. e.locations) old errors ∙ ap (λ ts. places old ++ ts) at;
}
