-- Which set is plain of which, case by case.
use Rattle.std.specs.Prelude.{◌≡◌, Bool, true, false, Option, []}
use Rattle.graphql_names.specs.Names.{Bytes}
use Rattle.graphql_written_out.specs.Trees.{Directives, Head, Tree, none, field, inline}
use Rattle.graphql_plain_tree.specs.Plain.{drops_all}

-- `drops`: which directives leave a selection out; `stand_in`: the directives of a selection that
-- stands for a set of which all are left out
module _ {S : Type 0} (drops : Directives S → Bool) (stand_in : Directives S) where
  mutual
    -- where one selection at least is kept, those that are kept; else the first alone, itself
    -- plain, with the directives of a stand-in
    pub data IsPlainOf : Tree S → Tree S → Type 0 where
      kept : (set p : Tree S) → drops_all drops set ≡ false → KeepsOf set p → IsPlainOf set p
      empty : IsPlainOf none none
      first_field : (head : Head S) (directives : Directives S) (below rest p : Tree S)
          → drops_all drops (field head directives below rest) ≡ true
          → IsPlainOf below p
          → IsPlainOf (field head directives below rest) (field head stand_in p none)
      first_inline : (on : Option Bytes) (directives : Directives S) (below rest p : Tree S)
          → drops_all drops (inline on directives below rest) ≡ true
          → IsPlainOf below p
          → IsPlainOf (inline on directives below rest) (inline on stand_in p none)

    -- the selections that are not left out, in order, without directives and with plain sets
    pub data KeepsOf : Tree S → Tree S → Type 0 where
      end : KeepsOf none none
      field_out : (head : Head S) (directives : Directives S) (below rest q : Tree S)
          → drops directives ≡ true
          → KeepsOf rest q → KeepsOf (field head directives below rest) q
      field_in : (head : Head S) (directives : Directives S) (below rest p q : Tree S)
          → drops directives ≡ false
          → IsPlainOf below p → KeepsOf rest q
          → KeepsOf (field head directives below rest) (field head [] p q)
      inline_out : (on : Option Bytes) (directives : Directives S) (below rest q : Tree S)
          → drops directives ≡ true
          → KeepsOf rest q → KeepsOf (inline on directives below rest) q
      inline_in : (on : Option Bytes) (directives : Directives S) (below rest p q : Tree S)
          → drops directives ≡ false
          → IsPlainOf below p → KeepsOf rest q
          → KeepsOf (inline on directives below rest) (inline on [] p q)
