-- Counting those that are not a number, one more each turn, is to count the list of them.
use Rattle.std.specs.Prelude.{◌≡◌, ℕ, zero, suc, ◌+◌, ◌≤◌, Bool, true, false, cond, length, take, get_or, is_nan, List, Float}
use Rattle.std.specs.Float.{nan}
use Rattle.std.specs.List.{filter}
use Rattle.std.proofs.Math.Path.{refl, ap}
use Rattle.std.proofs.Common.{sym, ◌∙◌}
use Rattle.std.proofs.lemmas.List.Filters.{length-filter_more}
use native.Mathlib.Omega.{arith}
use native.Mathlib.Numerals.{add-one}
use lib.Seq.{take-length}
use Rattle.seq.specs.Loop.Laws.{for_none, for_next}
use Rattle.ieee.proofs.Floats.{nan_ne}
use Rattle.refine.specs.Refine.{spoilt_turn, spoilt_of}

one_more : (b : Bool) (k : ℕ) → cond b (k + 1) k ≡ k + cond b 1 0
one_more true k = refl
one_more false k = omega arith

-- n turns count among the first n
upto : (xs : List Float) (n : ℕ) → n ≤ length xs → spoilt_of n xs ≡ length (filter is_nan (take n xs))
unfolding spoilt_of spoilt_turn
upto xs zero h = sym (for_none (spoilt_turn xs) 0 0)
upto xs (suc n) h =
    let x : Float = get_or xs n nan in
    let turn : spoilt_turn xs n (spoilt_of n xs) ≡ spoilt_of n xs + cond (is_nan x) 1 0 = rw (nan_ne x) (one_more (is_nan x) (spoilt_of n xs)) in
    let more : spoilt_of (n + 1) xs ≡ length (filter is_nan (take (n + 1) xs)) =
    for_next (spoilt_turn xs) 0 n 0 (omega arith)
    ∙ (turn ∙ (ap (λ (k : ℕ). k + cond (is_nan x) 1 0) (upto xs n (omega (arith, h))) ∙ sym (length-filter_more is_nan xs n nan (omega (arith, h))))) in
    rw (add-one n) at more

pub counted : (xs : List Float) → length (filter is_nan xs) ≡ spoilt_of (length xs) xs
counted xs = sym (upto xs (length xs) (omega arith) ∙ ap (λ (l : List Float). length (filter is_nan l)) (take-length xs))
