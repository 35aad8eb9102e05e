use Rattle.std.proofs.Common.{◌≡◌, ◌∙◌, ap, List, ℕ, [], ◌∷◌, ◌++◌, append_assoc, if◌then◌else◌, Result, Ok, Err, OnOk}
use Rattle.std.specs.Result.{is_ok}
use Rattle.graphql_stores.specs.Allowing.{not_allowed_line}
use Rattle.graphql_stores.proofs.allowing_service.push_not_allowed.Goals as goal

-- what is written where all was
on_done : {A E : Type 0} (r : Result A E) (x y z w : List ℕ) → x ≡ (if is_ok r then y else z) → y ≡ w → OnOk r (x ≡ w)
on_done (Ok a) x y z w e f = e ∙ f
on_done (Err b) x y z w e f = tt

pub returns-clause-written : goal.returns-clause-written
returns-clause-written c =
    on_done c.extend_from_slice.result _ (c.refusal_to_json.new.out.items ++ 10 ∷ []) c.refusal_to_json.new.out.items
    (c.args.out.now.items ++ not_allowed_line) c.extend_from_slice.ensures.items
    (ap (λ (ys : List ℕ). ys ++ 10 ∷ []) c.in_ok-refusal_to_json.ensures.written ∙ append_assoc c.args.out.now.items _ (10 ∷ []))
