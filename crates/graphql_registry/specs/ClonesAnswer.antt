-- Clones answer what the values answer.
use Rattle.std.specs.Prelude.{◌≡◌, List, [], ◌∷◌, Ok, refl}
use Rattle.std.specs.List.{AllZip}
use Rattle.std.proofs.Common.{ap, ◌∙◌}
use Rattle.graphql_text.specs.Memory.{◌>>=◌}
use Rattle.graphql_field_results.specs.declared.resolved.Resolved.TheVariants as resolved
use Rattle.graphql_registry.specs.Resolvables.{AnswerOf, answer_of_list, answers_of}

module _ {S N A : Type 0} (answer : A → AnswerOf S N) (is_clone : A → A → Type 0) where
  -- each clone answers what its value answers
  abbrev pub AnswerAlike : Type 0
  AnswerAlike = (x y : A) → is_clone x y → answer y ≡ answer x

  answers_of_clones : AnswerAlike → (xs ys : List A) → AllZip is_clone xs ys
      → answers_of answer ys ≡ answers_of answer xs
  answers_of_clones alike [] [] zip = refl
  answers_of_clones alike [] (y ∷ ys) zip = absurd zip
  answers_of_clones alike (x ∷ xs) [] zip = absurd zip
  answers_of_clones alike (x ∷ xs) (y ∷ ys) zip =
      ap (λ first. first >>= (λ z. answers_of answer ys >>= (λ zs. Ok (z ∷ zs)))) (alike x y zip.0)
      ∙ ap (λ rest. answer x >>= (λ z. rest >>= (λ zs. Ok (z ∷ zs))))
      (answers_of_clones alike xs ys zip.1)

  -- so do lists, item by item
  pub list_of_clones : AnswerAlike → (xs ys : List A) → AllZip is_clone xs ys
      → answer_of_list answer ys ≡ answer_of_list answer xs
  list_of_clones alike xs ys zip =
      ap (λ some. some >>= (λ all. Ok (resolved.List all))) (answers_of_clones alike xs ys zip)
