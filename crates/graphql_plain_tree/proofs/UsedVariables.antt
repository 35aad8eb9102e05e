-- A plain set uses no variable that the set does not use.
use Rattle.std.proofs.Common.{◌<◌, arith, Bool, true, false, List, [], ◌++◌, cond, ⊎_elim}
use Rattle.std.specs.List.{Contains}
use Rattle.std.proofs.lemmas.List.Elements.{Contains-append_left, Contains-append_right, Contains-append_cases}
use Rattle.graphql_names.specs.Names.{Bytes}
use Rattle.graphql_written_out.specs.Trees.{Directives, Tree, none, field, inline}
use Rattle.graphql_plain_tree.specs.Plain.{drops_all, plain_set, plain}
use Rattle.graphql_plain_tree.specs.PlainOperations.{variables_given, variables_used}

-- what stands in both parts of one list stands in those of another
both : {A : Type 0} (xs ys us vs : List A) (x : A) → (Contains us x → Contains xs x) → (Contains vs x → Contains ys x)
    → Contains (us ++ vs) x → Contains (xs ++ ys) x
both xs ys us vs x f g h =
    ⊎_elim (λ a. Contains-append_left xs ys x (f a)) (λ b. Contains-append_right xs ys x (g b)) (Contains-append_cases us vs x h)

module _ {S : Type 0} (drops : Directives S → Bool) (stand_in : Directives S) (name : Bytes) where
  abbrev set : Bool → Tree S → Tree S
  set = plain_set drops stand_in

  abbrev p : Tree S → Tree S
  p = plain drops stand_in

  abbrev Uses : Tree S → Type 0
  Uses t = Contains (variables_used t) name

  -- a selection with what follows it, of which its own set uses no more and what follows neither
  with-field : (given : List Bytes) (below rest q r : Tree S) → (Uses q → Uses below) → (Uses r → Uses rest)
      → Contains (given ++ (variables_used q ++ variables_used r)) name → Contains (given ++ (variables_used below ++ variables_used rest)) name
  with-field given below rest q r f g =
      both given (variables_used below ++ variables_used rest) given (variables_used q ++ variables_used r) name
      (λ h. h) (both (variables_used below) (variables_used rest) (variables_used q) (variables_used r) name f g)

  with-inline : (below rest q r : Tree S) → (Uses q → Uses below) → (Uses r → Uses rest)
      → Contains (variables_used q ++ variables_used r) name → Contains (variables_used below ++ variables_used rest) name
  with-inline below rest q r f g = both (variables_used below) (variables_used rest) (variables_used q) (variables_used r) name f g

  -- nothing follows a stand-in
  nothing-used : (rest : Tree S) → Uses none → Uses rest
  nothing-used rest h = absurd (let less : h.0 < 0 = h.1 in omega (arith, less))

  uses : (t : Tree S) (out : Bool) → Uses (set out t) → Uses t
  uses none out = λ h. h
  uses (field head directives below rest) true =
      with-field (variables_given head.arguments) below rest (p below) none (uses below (drops_all drops below)) (nothing-used rest)
  uses (field head directives below rest) false =
      let given = variables_given head.arguments in
      elim (drops directives) as (λ d. Uses (cond d (set false rest) (field head [] (p below) (set false rest))) → Uses (field head directives below rest)) [
        | true ↦ λ h. Contains-append_right given (variables_used below ++ variables_used rest) name
            (Contains-append_right (variables_used below) (variables_used rest) name (uses rest false h))
        | false ↦ with-field given below rest (p below) (set false rest) (uses below (drops_all drops below)) (uses rest false)
      ]
  uses (inline on directives below rest) true = with-inline below rest (p below) none (uses below (drops_all drops below)) (nothing-used rest)
  uses (inline on directives below rest) false =
      elim (drops directives) as (λ d. Uses (cond d (set false rest) (inline on [] (p below) (set false rest))) → Uses (inline on directives below rest)) [
        | true ↦ λ h. Contains-append_right (variables_used below) (variables_used rest) name (uses rest false h)
        | false ↦ with-inline below rest (p below) (set false rest) (uses below (drops_all drops below)) (uses rest false)
      ]

  pub uses-plain : (t : Tree S) → Uses (p t) → Uses t
  uses-plain t = uses t (drops_all drops t)
