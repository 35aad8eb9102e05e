-- Texts as characters, cut in two.
use Rattle.std.proofs.Common.{◌≡◌, ℕ, ◌-◌, ◌≤◌, List, ◌++◌, length, take, sym, ap, ◌∙◌, arith, refl, length-append}
use Rattle.std.specs.Str.{chars, IsUtf8, IsCharBoundary}
use Rattle.std.proofs.lemmas.Str.{encodes-chars, encodes-append, IsCharBoundary-at_seam, chars-append}
use Rattle.std.proofs.Math.Seq.{take-append_seam}
use lib.Utf8.{encodes}
use Rattle.graphql_text.specs.Reading.{IsTail, between}

pub text_split : (whole rest : List ℕ) → IsUtf8 whole → IsUtf8 rest → (t : IsTail (chars whole) (chars rest)) → whole ≡ encodes t.front ++ rest
text_split whole rest u v t =
    sym (encodes-chars whole u) ∙ ap encodes t.is ∙ encodes-append t.front (chars rest) ∙ ap (λ z. encodes t.front ++ z) (encodes-chars rest v)

pub front_len : (whole front rest : List ℕ) → whole ≡ front ++ rest → length whole - length rest ≡ length front
front_len whole front rest e = omega (arith, length-append front rest, ap length e)

pub tail_le : (whole rest : List ℕ) → IsUtf8 whole → IsUtf8 rest → IsTail (chars whole) (chars rest) → length rest ≤ length whole
tail_le whole rest u v t = omega (arith, length-append (encodes t.front) rest, ap length (text_split whole rest u v t))

pub tail_boundary : (whole rest : List ℕ) → IsUtf8 whole → IsUtf8 rest → IsTail (chars whole) (chars rest) → IsCharBoundary whole (length whole - length rest)
tail_boundary whole rest u v t =
    let e = text_split whole rest u v t in
    rw (front_len whole (encodes t.front) rest e) (IsCharBoundary-at_seam whole (encodes t.front) rest e v)

between-append : (xs ys : List ℕ) → between (xs ++ ys) ys ≡ xs
unfolding between
between-append xs ys = rw (front_len (xs ++ ys) xs ys refl) (take-append_seam xs ys)

pub between_front : (whole front rest : List ℕ) → whole ≡ front ++ rest → between whole rest ≡ front
between_front whole front rest e = ap (λ z. between z rest) e ∙ between-append front rest

pub between_is : (whole rest got : List ℕ) → IsUtf8 whole → IsUtf8 rest → IsUtf8 got → IsTail (chars whole) (chars rest) → got ≡ take (length whole - length rest) whole → got ≡ encodes (between (chars whole) (chars rest))
between_is whole rest got u v w t e =
    let s = text_split whole rest u v t in
    let g : got ≡ encodes t.front = e ∙ rw (front_len whole (encodes t.front) rest s) (ap (take (length (encodes t.front))) s ∙ take-append_seam (encodes t.front) rest) in
    let f : whole ≡ got ++ rest = s ∙ ap (λ z. z ++ rest) (sym g) in
    let c : chars whole ≡ chars got ++ chars rest = ap chars f ∙ chars-append got rest w in
    sym (encodes-chars got w) ∙ ap encodes (sym (ap (λ z. between z (chars rest)) c ∙ between-append (chars got) (chars rest)))
