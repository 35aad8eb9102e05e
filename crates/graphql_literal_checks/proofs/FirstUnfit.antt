-- The first text of which a fact does not hold, in a list of texts that are lent.
use Rattle.std.proofs.Common.{◌≡◌, ◌<◌, ◌+◌, ◌∙◌, ℕ, List, [], ◌∷◌, ◌++◌, map, take, drop, length, get_or, ap, sym}
use Rattle.std.specs.Borrow.{Bor}
use Rattle.std.specs.List.{All}
use Rattle.std.proofs.lemmas.List.{at_drop_more, map-append, take-append-drop}
use Rattle.std.proofs.lemmas.List.Elements.{All-contains, All-map, All-more}
use Rattle.graphql_names.specs.Names.{Bytes}
use Rattle.graphql_schema.specs.Promises.{IsFirstWithout}

-- what stands behind the end
abbrev pub nowhere : Bor Bytes
nowhere = record { ref_ptr = (0, 0); now = [] }

module _ (P : Bytes → Type 0) (xs : List (Bor Bytes)) where
  abbrev lent : Bor Bytes → Bytes
  lent x = x.now

  -- of all of them it holds
  pub all_named : All (λ x. P x.now) xs → All P (map lent xs)
  all_named all = All-map P lent xs all

  module _ (i : ℕ) (inside : i < length xs) (passed : All (λ x. P x.now) (take i xs)) where
    abbrev this : Bor Bytes
    this = get_or xs i nowhere

    -- of one more
    pub one_more : P this.now → All (λ x. P x.now) (take (i + 1) xs)
    one_more p = All-more (λ x. P x.now) xs i nowhere inside passed p

    -- of this one it does not
    pub first_unfit : (P this.now → ⊥) → IsFirstWithout P (map lent xs) this.now
    first_unfit unfit =
        let whole : xs ≡ take i xs ++ this ∷ drop (i + 1) xs = sym (take-append-drop i xs) ∙ at_drop_more (λ ys. take i xs ++ ys) xs i nowhere inside in
        record {
          before = map lent (take i xs);
          behind = map lent (drop (i + 1) xs);
          stands = ap (map lent) whole ∙ map-append lent (take i xs) (this ∷ drop (i + 1) xs);
          others = λ x there. All-contains P (map lent (take i xs)) x (All-map P lent (take i xs) passed) there;
          without = unfit;
        }
