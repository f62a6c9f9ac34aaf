-- What is taken from a float that is not below it leaves nothing above zero. Assumes nothing.
use Prim.Native.Nat.{ℕ, ◌+◌, ◌-◌, ◌*◌, ◌<◌}
use mathlib.Core.Path.{◌≡◌, refl, sym}
use mathlib.Core.Bool.{Bool, true, false, not, cond, true≢false}
use mathlib.Core.Logic.{◌⊎◌, inl, inr}
use native.Mathlib.Nat.{mul-pos, zero-lt-suc}
use native.Mathlib.Omega.{arith}
use lib.Dec.{T, ltb, nltb→le}
use lib.IntN.{pos}
use lib.Ieee.{Float, nan, inf, fin, binary32, up, down, below, lt, neg, add, sub, sum, round, of_bits, is_nan}
use lib.Ieee.Fits.{down_pos}
use lib.Ieee.Scale.{round_same}
use borrow.Author.Tests.{ltb-false}
use Rattle.ieee.specs.Num.{◌⊟◌}
use Rattle.ieee.specs.Nearest.{sign}
use Rattle.ieee.specs.Operators.{OperatorsRound}
use Rattle.ieee.proofs.RoundNearest.{ties_to_even}
use Rattle.ieee.proofs.Operators.{operators_round}
use Rattle.elementary.specs.Domain.{NotAbove}
use Rattle.demap.specs.Demap.{lowest}

signed : (v : Float) → sign v ≡ true → NotAbove v
unfolding lt of_bits
signed nan e = tt
signed (inf true) e = tt
signed (inf false) e = absurd (true≢false (sym e))
signed (fin true m d) e = tt
signed (fin false m d) e = absurd (true≢false (sym e))

module _ (c : ℕ) (C : 0 < c) where
  minus : (a : ℕ) → NotAbove (round binary32 true a c)
  minus a = signed (round binary32 true a c) (ties_to_even binary32 true a c C).signed

  none : (a : ℕ) → a ≡ 0 → NotAbove (round binary32 false a c)
  unfolding round lt of_bits
  none a e = rw (e, round_same binary32 false 0 c 0 1 C (zero-lt-suc 0) (omega arith)) tt

  -- ±a - ±b, over c
  difference : (s : Bool) (a : ℕ) (t : Bool) (b : ℕ) → T (not (below t b s a)) → NotAbove (sum binary32 s a (not t) b c)
  unfolding sum
  difference false a false b h = go (ltb a b)
    where
      go : (u : Bool) → NotAbove (cond u (round binary32 true (b - a) c) (round binary32 false (a - b) c))
      go true = minus (b - a)
      go false = none (a - b) (omega (arith, nltb→le b a h))
  difference false a true b h = none (a + b) (omega (arith, nltb→le 0 (b + a) h))
  difference true a false b h = minus (a + b)
  difference true a true b h = go (ltb a b) (ltb b a) refl
    where
      go : (u v : Bool) → ltb b a ≡ v → NotAbove (cond u (round binary32 false (b - a) c) (round binary32 v (a - b) c))
      go true v e = none (b - a) (omega (arith, nltb→le a b h))
      go false true e = minus (a - b)
      go false false e = none (a - b) (omega (arith, ltb-false b a e))

pub not_above : (x m : Float) → T (not (lt m x)) → NotAbove (x ⊟ m)
unfolding sub add neg lt of_bits
not_above nan m h = tt
not_above (inf s) nan h = tt
not_above (inf true) (inf true) h = tt
not_above (inf true) (inf false) h = tt
not_above (inf false) (inf true) h = absurd h
not_above (inf false) (inf false) h = tt
not_above (inf true) (fin t n d) h = tt
not_above (inf false) (fin t n d) h = absurd h
not_above (fin s m e) nan h = tt
not_above (fin s m e) (inf true) h = absurd h
not_above (fin s m e) (inf false) h = tt
not_above (fin s m e) (fin t n d) h = difference (down e * down d) (mul-pos (down_pos e) (down_pos d)) s (m * up e * down d) t (n * up d * down e) h

-- ---- from itself: nothing, or a NaN of an infinity

pub from_itself : (x : Float) → T (not (is_nan x)) → (x ⊟ x ≡ nan) ⊎ (x ⊟ x ≡ fin false 0 (pos 0))
unfolding sub add neg is_nan OperatorsRound
from_itself nan h = absurd h
from_itself (inf true) h = inl refl
from_itself (inf false) h = inl refl
from_itself (fin true m e) h = inr ((operators_round binary32 (fin true m e) (fin false m e) tt tt).nothing true≢false refl)
from_itself (fin false m e) h = inr ((operators_round binary32 (fin false m e) (fin true m e) tt tt).nothing (λ e. true≢false (sym e)) refl)

pub from_lowest : (x : Float) → T (not (lt lowest x)) → x ⊟ lowest ≡ nan
unfolding sub add neg lt
from_lowest nan h = refl
from_lowest (inf true) h = refl
from_lowest (inf false) h = absurd h
from_lowest (fin s m e) h = absurd h
