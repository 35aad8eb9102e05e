-- Texts that are compared.
use Rattle.std.proofs.Common.{◌≡◌, ap, sym, ◌∙◌, ℕ, Bool, true, not, List}
use Rattle.std.specs.Str.{bytes_eq}
use Rattle.std.proofs.lemmas.Slice.Eq.{bytes_eq-Decides}
use Rattle.std.proofs.lemmas.Bool.{false≢true}

pub unlike_text : (p q : List ℕ) (r : Bool) → r ≡ not (bytes_eq p q) → r ≡ true → p ≡ q → ⊥
unlike_text p q r e f same = false≢true (sym (ap not ((bytes_eq-Decides p q).1 same)) ∙ sym e ∙ f)
