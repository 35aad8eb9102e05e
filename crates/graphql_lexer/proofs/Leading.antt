-- What is read from a place leads to a place in the rest of the text, and counts each character on the way.
use Rattle.std.proofs.Common.{◌≡◌, ◌≤◌, ℕ, Bool, true, false, cond, ◌==◌, List, [], ◌∷◌, ◌++◌, length, sym, subst, ap, ◌∙◌, refl, Result, Ok, Err, append_assoc, arith, length-append}
use Rattle.std.specs.Char.{is_ascii_digit}
use Rattle.graphql_text.specs.declared.position.SourcePosition.{SourcePosition}
use Rattle.graphql_text.specs.declared.class.Class.{Class}
use Rattle.graphql_text.specs.declared.class.Class.TheVariants as class
use Rattle.graphql_text.specs.Position.{step}
use Rattle.graphql_text.specs.Reading.{Place, Refusal, IsTail, ◌>>=◌, is_in, begins, past, past_one}
use Rattle.graphql_text.specs.Numbers.{digits, no_digit, whole, fraction, exponent}

-- the place behind these characters, from a place on
abbrev pub advance : SourcePosition → List ℕ → SourcePosition
advance p [] = p
advance p (c ∷ cs) = advance (step p c) cs

-- one place leads to another: by the characters between them
pub record LeadsTo (p q : Place) : Type 0 where
  pub front : List ℕ
  pub is : p.rest ≡ front ++ q.rest
  pub counts : q.at ≡ advance p.at front

pub tail_of : (p q : Place) → LeadsTo p q → IsTail p.rest q.rest
tail_of p q l = record { front = l.front; is = l.is }

pub leads_length : (p q : Place) → LeadsTo p q → length q.rest ≤ length p.rest
leads_length p q l = omega (arith, ap length l.is, length-append l.front q.rest)

pub advance-append : (at : SourcePosition) (xs ys : List ℕ) → advance at (xs ++ ys) ≡ advance (advance at xs) ys
advance-append at [] ys = refl
advance-append at (x ∷ xs) ys = advance-append (step at x) xs ys

pub leads_refl : (p : Place) → LeadsTo p p
leads_refl p = record { front = []; is = refl; counts = refl }

pub leads_step : (at : SourcePosition) (c : ℕ) (cs : List ℕ) (q : Place) → LeadsTo (record { at = step at c; rest = cs }) q → LeadsTo (record { at = at; rest = c ∷ cs }) q
leads_step at c cs q l = record { front = c ∷ l.front; is = ap (λ z. c ∷ z) l.is; counts = l.counts }

pub leads_one : (at : SourcePosition) (c : ℕ) (cs : List ℕ) → LeadsTo (record { at = at; rest = c ∷ cs }) (record { at = step at c; rest = cs })
leads_one at c cs = leads_step at c cs (record { at = step at c; rest = cs }) (leads_refl (record { at = step at c; rest = cs }))

pub leads_trans : (p q r : Place) → LeadsTo p q → LeadsTo q r → LeadsTo p r
leads_trans p q r s t = record {
  front = s.front ++ t.front;
  is = s.is ∙ ap (λ z. s.front ++ z) t.is ∙ sym (append_assoc s.front t.front r.rest);
  counts = t.counts ∙ ap (λ z. advance z t.front) s.counts ∙ sym (advance-append p.at s.front t.front);
}

-- what was read leads to a place from this one
abbrev pub Leads : {A : Type 0} → Place → (A → Place) → Result A Refusal → Type 0
Leads p f (Ok q) = LeadsTo p (f q)
Leads p f (Err e) = Unit {0}

pub leads_if : {A : Type 0} (p : Place) (f : A → Place) (b : Bool) (r s : Result A Refusal) → Leads p f r → Leads p f s → Leads p f (cond b r s)
leads_if p f true r s x y = x
leads_if p f false r s x y = y

pub leads_on : {A : Type 0} (p q : Place) (f : A → Place) (r : Result A Refusal) → LeadsTo p q → Leads q f r → Leads p f r
leads_on p q f (Ok y) t n = leads_trans p q (f y) t n
leads_on p q f (Err e) t n = tt

pub lead_ok : {A : Type 0} (p : Place) (f : A → Place) (r : Result A Refusal) (x : A) → r ≡ Ok x → Leads p f r → LeadsTo p (f x)
lead_ok p f r x e l = subst (Leads p f) e l

pub leads_then : {A B : Type 0} (p : Place) (f : A → Place) (g : B → Place) (r : Result A Refusal) (k : A → Result B Refusal) → Leads p f r → ((x : A) → Leads (f x) g (k x)) → Leads p g (r >>= k)
leads_then p f g (Ok x) k l m = leads_on p (f x) g (k x) l (m x)
leads_then p f g (Err e) k l m = tt

pub past_leads : (k : Class) (at : SourcePosition) (cs : List ℕ) → LeadsTo (record { at = at; rest = cs }) (past k at cs)
past_leads k at [] = leads_refl (record { at = at; rest = [] })
past_leads k at (c ∷ cs) =
    elim (is_in k c) as (λ b. LeadsTo (record { at = at; rest = c ∷ cs }) (cond b (past k (step at c) cs) (record { at = at; rest = c ∷ cs })))
    [ true ↦ leads_step at c cs (past k (step at c) cs) (past_leads k (step at c) cs) | false ↦ leads_refl (record { at = at; rest = c ∷ cs }) ]

abbrev pub same : Place → Place
same p = p

pub past_one_leads : (k : Class) (p : Place) → LeadsTo p (past_one k p)
unfolding past_one
past_one_leads k p = on p.at p.rest
  where
    on : (at : SourcePosition) (cs : List ℕ) → LeadsTo (record { at = at; rest = cs }) (past_one k (record { at = at; rest = cs }))
    on at [] = leads_refl (record { at = at; rest = [] })
    on at (c ∷ cs) =
        elim (is_in k c) as (λ b. let r : Place = cond b (record { at = step at c; rest = cs }) (record { at = at; rest = c ∷ cs }) in LeadsTo (record { at = at; rest = c ∷ cs }) r)
        [ true ↦ leads_one at c cs | false ↦ leads_refl (record { at = at; rest = c ∷ cs }) ]

pub digits_leads : (p : Place) → Leads p same (digits p)
unfolding digits
digits_leads p = on p.at p.rest
  where
    on : (at : SourcePosition) (cs : List ℕ) → Leads (record { at = at; rest = cs }) same (digits (record { at = at; rest = cs }))
    on at [] = tt
    on at (c ∷ cs) = leads_if (record { at = at; rest = c ∷ cs }) same (is_ascii_digit c) _ _ (leads_step at c cs _ (past_leads class.Digit (step at c) cs)) tt

pub no_digit_leads : (p : Place) → Leads p same (no_digit p)
unfolding no_digit
no_digit_leads p = on p.at p.rest
  where
    on : (at : SourcePosition) (cs : List ℕ) → Leads (record { at = at; rest = cs }) same (no_digit (record { at = at; rest = cs }))
    on at [] = leads_refl (record { at = at; rest = [] })
    on at (c ∷ cs) = leads_if (record { at = at; rest = c ∷ cs }) same (is_ascii_digit c) _ _ tt (leads_refl (record { at = at; rest = c ∷ cs }))

pub whole_leads : (p : Place) → Leads p same (whole p)
unfolding whole
whole_leads p = on p.at p.rest
  where
    on : (at : SourcePosition) (cs : List ℕ) → Leads (record { at = at; rest = cs }) same (whole (record { at = at; rest = cs }))
    on at [] = tt
    on at (c ∷ cs) =
        let p : Place = record { at = at; rest = c ∷ cs } in
        let q : Place = record { at = step at c; rest = cs } in
        leads_if p same (c == 48) _ _ (leads_on p q same (no_digit q) (leads_one at c cs) (no_digit_leads q)) (digits_leads p)

pub fraction_leads : (p : Place) → Leads p same (fraction p)
unfolding fraction
fraction_leads p =
    let q = past_one class.Point p in
    leads_if p same (begins class.Point p) _ _ (leads_on p q same (digits q) (past_one_leads class.Point p) (digits_leads q)) (leads_refl p)

pub exponent_leads : (p : Place) → Leads p same (exponent p)
unfolding exponent
exponent_leads p =
    let q = past_one class.Exponent p in
    let r = past_one class.Sign q in
    leads_if p same (begins class.Exponent p) _ _ (leads_on p r same (digits r) (leads_trans p q r (past_one_leads class.Exponent p) (past_one_leads class.Sign q)) (digits_leads r)) (leads_refl p)

pub number_tail : (p w f e : Place) → whole (past_one class.Minus p) ≡ Ok w → fraction w ≡ Ok f → exponent f ≡ Ok e → IsTail p.rest e.rest
number_tail p w f e a b d =
    let m = past_one class.Minus p in
    let pw = leads_trans p m w (past_one_leads class.Minus p) (lead_ok m same (whole m) w a (whole_leads m)) in
    let pf = leads_trans p w f pw (lead_ok w same (fraction w) f b (fraction_leads w)) in
    tail_of p e (leads_trans p f e pf (lead_ok f same (exponent f) e d (exponent_leads f)))

pub tail_trans : (cs ds es : List ℕ) → IsTail cs ds → IsTail ds es → IsTail cs es
tail_trans cs ds es s t = record { front = s.front ++ t.front; is = s.is ∙ ap (λ z. s.front ++ z) t.is ∙ sym (append_assoc s.front t.front es) }
