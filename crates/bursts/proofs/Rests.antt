-- The part of a list from a place to its end, lent and given back.
use Rattle.std.proofs.Common.{◌≡◌, ℕ, ◌-◌, List, ◌++◌, length, take, drop, append-nil, arith}
use lib.ListN.{length-drop, drop_of_length-le}
use lib.Seq.{take_all}
use Rattle.seq.specs.Tab.Laws.{tab_none, tab_step, tab_whole}

module _ {A : Type 0} (a : ℕ) (l : List A) where
  rest : take (length l - a) (drop a l) ≡ drop a l
  rest = take_all (length l - a) (drop a l) (omega (arith, length-drop a l))

  -- n elements put in front of it
  pub rest_put : (n : ℕ) (xs ys : List A) → ys ≡ xs ++ drop n (take (length l - a) (drop a l)) → take a l ++ (ys ++ drop (length l - a) (drop a l)) ≡ take a l ++ (xs ++ drop n (drop a l))
  rest_put n xs ys e = rw (e, rest, drop_of_length-le (drop a l) {i = length l - a} (omega (arith, length-drop a l)), append-nil)

-- for `grind`, of a loop that writes a list from the front
pub ruleset turns = (tab_none, tab_step, tab_whole)
