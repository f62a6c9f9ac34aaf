-- Each gain is the nearest f32: the 80th powers of the midpoints, in units of the smallest value, are compared as whole numbers. Assumes nothing.
use Rattle.std.proofs.Common.{ℕ, zero, suc, ◌*◌, ◌^◌, ◌≤◌, false, refl, inr, arith, lit<, lit≤}
use Prim.Native.Nat.{Ordering}
use lib.Ieee.{binary32, of_bits}
use lib.Ieee.Bits.{of_bits-fits}
use lib.Ieee.Exact.{HasValue}
use Rattle.ieee.specs.Nearest.{NearestRoot}
use Rattle.ieee.proofs.RootNearest.{nearest_root}
use Rattle.elementary.specs.Gain.{gain_at}
use Rattle.elementary.specs.Laws.{GainLaws}

-- the root lies between m and m + 1/2, or between m + 1/2 and m + 1, times 2 ^ 126 units
gain_0 : NearestRoot binary32 80 1 1 (gain_at 0)
gain_0 = nearest_root binary32 80 1 1 8388608 126 Ordering.lt (lit< tt) (lit< tt) (lit< tt) (lit< tt) (inr (lit≤ tt)) (lit≤ tt) (lit< tt) (lit< tt) (gain_at 0) (of_bits-fits binary32 0x3f80_0000) value
  where
    value : HasValue (of_bits binary32 0x3f80_0000) false (8388608 * 2 ^ 126) (2 ^ 149)
    value = unfold of_bits in (refl, refl)

gain_1 : NearestRoot binary32 80 1000 1 (gain_at 1)
gain_1 = nearest_root binary32 80 1000 1 9145130 126 Ordering.lt (lit< tt) (lit< tt) (lit< tt) (lit< tt) (inr (lit≤ tt)) (lit≤ tt) (lit< tt) (lit< tt) (gain_at 1) (of_bits-fits binary32 0x3f8b_8b2a) value
  where
    value : HasValue (of_bits binary32 0x3f8b_8b2a) false (9145130 * 2 ^ 126) (2 ^ 149)
    value = unfold of_bits in (refl, refl)

gain_2 : NearestRoot binary32 80 1000000 1 (gain_at 2)
gain_2 = nearest_root binary32 80 1000000 1 9969879 126 Ordering.lt (lit< tt) (lit< tt) (lit< tt) (lit< tt) (inr (lit≤ tt)) (lit≤ tt) (lit< tt) (lit< tt) (gain_at 2) (of_bits-fits binary32 0x3f98_20d7) value
  where
    value : HasValue (of_bits binary32 0x3f98_20d7) false (9969879 * 2 ^ 126) (2 ^ 149)
    value = unfold of_bits in (refl, refl)

gain_3 : NearestRoot binary32 80 1000000000 1 (gain_at 3)
gain_3 = nearest_root binary32 80 1000000000 1 10869007 126 Ordering.gt (lit< tt) (lit< tt) (lit< tt) (lit< tt) (inr (lit≤ tt)) (lit≤ tt) (lit< tt) (lit< tt) (gain_at 3) (of_bits-fits binary32 0x3fa5_d910) value
  where
    value : HasValue (of_bits binary32 0x3fa5_d910) false (10869008 * 2 ^ 126) (2 ^ 149)
    value = unfold of_bits in (refl, refl)

nearest : (q : ℕ) → q ≤ 3 → NearestRoot binary32 80 (10 ^ (3 * q)) 1 (gain_at q)
nearest zero h = gain_0
nearest (suc zero) h = gain_1
nearest (suc (suc zero)) h = gain_2
nearest (suc (suc (suc zero))) h = gain_3
nearest (suc (suc (suc (suc q)))) h = absurd (omega arith)

pub gain_laws : GainLaws
gain_laws = record { nearest = nearest }
