-- Taking bytes from a source piece by piece.
use Rattle.std.proofs.Common.{◌≡◌, ℕ, ◌+◌, ◌≤◌, List, ◌++◌, length, take, Option, None, Some, refl, sym, ◌∙◌, ap, subst, arith, length-append}
use Rattle.std.proofs.Math.Seq.{take-add}
use Rattle.std.proofs.lemmas.List.{drop-drop, length-take-le}
use Rattle.bf_edge.specs.Source.{left_after, Gives, GivesUpTo, Passes}

-- what was left before gave `got`, from its front, and the rest is left now
pub record Took (before now : Option (List ℕ)) (got : List ℕ) : Type 0 where
  pub front : GivesUpTo before (length got) got
  pub rest : now ≡ left_after before (length got)

pub left_after-add : (left : Option (List ℕ)) (n m : ℕ) → left_after (left_after left n) m ≡ left_after left (n + m)
left_after-add None n m = refl
left_after-add (Some all) n m = ap Some (drop-drop m n all)

length-more : (got into : List ℕ) (n : ℕ) → n ≤ length into → length (got ++ take n into) ≡ length got + n
length-more got into n within = length-append got (take n into) ∙ ap (λ m. length got + m) (length-take-le n into within)

front-more : (before : Option (List ℕ)) (got into : List ℕ) (n : ℕ) → GivesUpTo before (length got) got
    → Gives (left_after before (length got)) n into → GivesUpTo before (length got + n) (got ++ take n into)
front-more None got into n front given = tt
front-more (Some all) got into n front given =
    ap (λ xs. xs ++ take n into) front
    ∙ (ap (λ xs. take (length got) all ++ xs) given ∙ sym (take-add (length got) n all))

-- one more piece, of the first n bytes of `into`
pub Took-more : (before now after : Option (List ℕ)) (got into : List ℕ) (n : ℕ) → Took before now got
    → n ≤ length into → Gives now n into → after ≡ left_after now n → Took before after (got ++ take n into)
Took-more before now after got into n took within given more =
    let size : length (got ++ take n into) ≡ length got + n = length-more got into n within in
    let given' : Gives (left_after before (length got)) n into = subst (λ left. Gives left n into) took.rest given in
    record {
      front = subst (λ most. GivesUpTo before most (got ++ take n into)) (sym size) (front-more before got into n took.front given');
      rest = more ∙ (ap (λ left. left_after left n) took.rest
          ∙ (left_after-add before (length got) n ∙ ap (left_after before) (sym size)));
    }

-- some were gone already, and then some more
pub Took-passes : (before now after : Option (List ℕ)) (got : List ℕ) (room most : ℕ) → Took before now got
    → Passes now after room → length got + room ≤ most → Passes before after most
Took-passes before now after got room most took passed within = record {
  count = length got + passed.count;
  within = omega arith;
  rest = passed.rest ∙ (ap (λ left. left_after left passed.count) took.rest ∙ left_after-add before (length got) passed.count);
}
