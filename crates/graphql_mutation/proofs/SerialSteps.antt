-- The groups of a mutation's root, one after the other.
use Rattle.std.proofs.Common.{◌≡◌, refl, sym, ◌∙◌, ap, subst, ◌⊎◌, ⊎_elim, List, [], ◌∷◌, ◌++◌, append-nil, append_assoc, Option, Some, None, option_map, map}
use Rattle.std.proofs.lemmas.List.{map-append}
use Rattle.graphql_names.specs.Names.{Bytes}
use Rattle.graphql_output_values.specs.declared.value.Value.{Value}
use Rattle.graphql_written_out.specs.Fields.{Found}
use Rattle.graphql_field_results.specs.declared.execution_error.ExecutionError.{ExecutionError}
use Rattle.graphql_semantics.specs.Completion.{Members, object_members}
use Rattle.graphql_semantics.specs.Evaluation.{Group}
use Rattle.graphql_mutation.specs.Runs.{HasRun, run_map}
use Rattle.graphql_mutation.specs.Serial.{AfterBeginning, Mutation, Run, root_group, serially, unless_null}

longer : {S : Type 0} (members : Members S) (one : Bytes × Value S) (o : Option (Members S))
    → option_map (λ ms. members ++ ms) (option_map (λ ms. one ∷ ms) o)
    ≡ option_map (λ ms. (members ++ one ∷ []) ++ ms) o
longer members one None = refl
longer members one (Some ms) = ap Some (sym (append_assoc members (one ∷ []) ms))

nothing_before : {A : Type 0} (o : Option (List A)) → o ≡ option_map (λ xs. [] ++ xs) o
nothing_before None = refl
nothing_before (Some xs) = refl

module _ {S X : Type 0} where
  -- a run, where these members and failures came before
  abbrev pub behind : Members S → List (ExecutionError S) → Run S X (Members S) → Run S X (Members S)
  behind members told r = record {
    outcome =
        record { value = option_map (λ ms. members ++ ms) r.outcome.value; failures = told ++ r.outcome.failures };
    after = r.after;
  }

  one_more : (members : Members S) (told : List (ExecutionError S)) (key : Bytes) (r : Run S X (Value S))
      (v : Value S) (rest : Run S X (Members S)) → r.outcome.value ≡ Some v
      → behind members told (unless_null key r r.outcome.value rest)
      ≡ behind (members ++ (key, v) ∷ []) (told ++ r.outcome.failures) rest
  one_more members told key r v rest some =
      let p = longer members (key, v) rest.outcome.value in
      let q = sym (append_assoc told r.outcome.failures rest.outcome.failures) in
      ap (λ o. behind members told (unless_null key r o rest)) some
      ∙ (λ i. record { outcome = record { value = p i; failures = q i }; after = rest.after })

  first_after : (key : Bytes) (r : Run S X (Value S)) (o : Option (Value S)) (rest : Run S X (Members S))
      → rest.after ≡ r.after → (unless_null key r o rest).after ≡ r.after
  first_after key r None rest same = refl
  first_after key r (Some v) rest same = same

module _ {S N X : Type 0} (m : Mutation S N X) (object : Bytes) (start : X) where
  -- after these groups there are these members and failures, and this context
  pub record Goes (done : List (Group S)) (members : Members S) (told : List (ExecutionError S)) (c : X) : Type 0 where
    pub on : (more : List (Group S))
        → serially m object start (done ++ more) ≡ behind members told (serially m object c more)

  goes_first : Goes [] [] [] start
  goes_first = record { on = λ more. alone (serially m object start more) }
    where
      alone : (r : Run S X (Members S)) → r ≡ behind [] [] r
      alone r =
          λ i. record {
            outcome = record { value = nothing_before r.outcome.value i; failures = r.outcome.failures };
            after = r.after;
          }

  module _ (done : List (Group S)) (members : Members S) (told : List (ExecutionError S)) (c : X)
      (goes : Goes done members told c) where
    goes_after : c ≡ (serially m object start done).after
    goes_after =
        sym (ap (λ gs. (serially m object start gs).after) (sym (append-nil done))
        ∙ ap (λ (r : Run S X (Members S)). r.after) (goes.on []))

    goes_end : serially m object start done
        ≡ record { outcome = record { value = Some members; failures = told }; after = c }
    goes_end =
        ap (serially m object start) (sym (append-nil done)) ∙ goes.on []
        ∙ (λ i. record {
          outcome = record { value = Some (append-nil members i); failures = append-nil told i };
          after = c;
        })

    module _ (key : Bytes) (fields : List (Found S)) where
      abbrev here : Run S X (Value S)
      here = root_group m object c key fields

      goes_on : (v : Value S) → here.outcome.value ≡ Some v
          → Goes (done ++ (key, fields) ∷ []) (members ++ (key, v) ∷ []) (told ++ here.outcome.failures) here.after
      goes_on v some = record {
        on = λ more.
            ap (serially m object start) (append_assoc done ((key, fields) ∷ []) more) ∙ goes.on ((key, fields) ∷ more)
            ∙ one_more members told key here v (serially m object here.after more) some;
      }

      goes_no_further : (others : List (Group S)) → here.outcome.value ≡ None
          → serially m object start (done ++ (key, fields) ∷ others)
          ≡ record { outcome = record { value = None; failures = told ++ here.outcome.failures }; after = here.after }
      goes_no_further others none =
          goes.on ((key, fields) ∷ others)
          ∙ ap (λ o. behind members told (unless_null key here o (serially m object here.after others))) none

      goes_one_after : here.after ≡ (serially m object start (done ++ (key, fields) ∷ [])).after
      goes_one_after =
          sym (ap (λ (r : Run S X (Members S)). r.after) (goes.on ((key, fields) ∷ []))
          ∙ first_after key here here.outcome.value (serially m object here.after []) refl)

  -- the same, with the failures behind what was told
  pub record SoFar (done : List (Group S)) (members : Members S) (old new : List (ExecutionError S)) (c : X)
      : Type 0 where
    pub failures : List (ExecutionError S)
    pub told : new ≡ old ++ failures
    pub goes : Goes done members failures c
    pub keys : map (λ p. p.0) members ≡ map (λ (g : Group S). g.0) done

  pub so_far-first : (old : List (ExecutionError S)) → SoFar [] [] old old start
  so_far-first old = record { failures = []; told = sym (append-nil old); goes = goes_first; keys = refl }

  module _ (done : List (Group S)) (members : Members S) (old mid : List (ExecutionError S)) (c : X)
      (far : SoFar done members old mid c) where
    pub so_far-stopped : (others : List (Group S)) → AfterBeginning m object start (done ++ others) c
    so_far-stopped others =
        record { done = done; others = others; is = refl; after = goes_after done members far.failures c far.goes }

    pub so_far-end
        : HasRun (run_map object_members (serially m object start done)) (Some (object_members members)) old mid c
    so_far-end =
        subst (λ r. HasRun (run_map object_members r) (Some (object_members members)) old mid c)
        (sym (goes_end done members far.failures c far.goes))
        (record { is = refl; told = far.told; after = refl })

    module _ (key : Bytes) (fields : List (Found S)) (new : List (ExecutionError S)) (after : X) where
      abbrev run_here : Run S X (Value S)
      run_here = root_group m object c key fields

      told_here : new ≡ mid ++ run_here.outcome.failures → new ≡ old ++ (far.failures ++ run_here.outcome.failures)
      told_here told =
          told ∙ ap (λ es. es ++ run_here.outcome.failures) far.told
          ∙ append_assoc old far.failures run_here.outcome.failures

      pub so_far-more : (v : Value S) (more : Members S) → HasRun run_here (Some v) mid new after
          → more ≡ members ++ (key, v) ∷ [] → SoFar (done ++ (key, fields) ∷ []) more old new after
      so_far-more v more has is =
          let failures = far.failures ++ run_here.outcome.failures in
          let on = goes_on done members far.failures c far.goes key fields v (sym has.is) in
          record {
            failures = failures;
            told = told_here has.told;
            goes =
                subst (λ ms. Goes (done ++ (key, fields) ∷ []) ms failures after) (sym is)
                (subst (Goes (done ++ (key, fields) ∷ []) (members ++ (key, v) ∷ []) failures) (sym has.after) on);
            keys =
                ap (λ ms. map (λ p. p.0) ms) is ∙ map-append (λ p. p.0) members ((key, v) ∷ [])
                ∙ ap (λ ks. ks ++ key ∷ []) far.keys
                ∙ sym (map-append (λ (g : Group S). g.0) done ((key, fields) ∷ []));
          }

      pub so_far-null : (others : List (Group S)) → HasRun run_here None mid new after
          → HasRun (run_map object_members (serially m object start (done ++ (key, fields) ∷ others)))
          None old new after
      so_far-null others has =
          subst (λ r. HasRun (run_map object_members r) None old new after)
          (sym (goes_no_further done members far.failures c far.goes key fields others (sym has.is)))
          (record { is = refl; told = told_here has.told; after = has.after })

      pub so_far-broken : (others : List (Group S)) → (after ≡ c) ⊎ (after ≡ run_here.after)
          → AfterBeginning m object start (done ++ (key, fields) ∷ others) after
      so_far-broken others either =
          ⊎_elim
          (λ same. subst (AfterBeginning m object start (done ++ (key, fields) ∷ others)) (sym same)
          (so_far-stopped ((key, fields) ∷ others)))
          (λ same. record {
            done = done ++ (key, fields) ∷ [];
            others = others;
            is = sym (append_assoc done ((key, fields) ∷ []) others);
            after = same ∙ goes_one_after done members far.failures c far.goes key fields;
          }) either
