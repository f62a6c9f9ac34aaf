-- The laws of the four constellations: each table is computed once, and found whole and finite. Assumes nothing.
use Prim.Native.Nat.{ℕ, zero, suc, ◌^◌, ◌≤◌, ◌<◌}
use mathlib.Core.Path.{◌≡◌, refl, ap, ◌∙◌}
use mathlib.Core.Bool.{Bool, true, ◌&&◌}
use mathlib.Core.List.{List, [], ◌∷◌}
use native.Mathlib.Nat.{le_of_suc-le-suc, not-suc-le-zero}
use native.Mathlib.Omega.{arith}
use lib.Dec.{T, eqb, eqb→eq, lit≤}
use lib.ListN.{length, get_or}
use lib.Ieee.{Float, nan, add, sub, mul, div, lt, of_bits, of_int}
use lib.Ieee.Fits.{and_l, and_r}
use Rattle.ieee.specs.Order.{is_finite}
use Rattle.ieee.specs.Narrow.{narrowed}
use Rattle.ieee.specs.Root.{rooted}
use Rattle.elementary.specs.Circular.{sin_at, cos_at}
use Rattle.points.specs.Table.{blank}
use Rattle.points.specs.Constellation.{corner_of, qpsk_turn, qpsk_of, angle, circle_point, psk8_turn, psk8_of, gray_of, label_of, qam_scale, level, qam_turn, qam_row, qam_of, bps_of, points_of}
use Rattle.points.specs.Laws.{PointsLaws}
use Rattle.points.proofs.Below.{run, for_run, run_same}
use Rattle.points.proofs.Counts.{at_most_64}

finites : List Float → Bool
finites [] = true
finites (x ∷ xs) = is_finite x && finites xs

finites_at : (l : List Float) → T (finites l) → (i : ℕ) → i < length l → T (is_finite (get_or l i nan))
unfolding finites
finites_at [] t i h = absurd (not-suc-le-zero h)
finites_at (x ∷ xs) t zero h = and_l (is_finite x) (finites xs) t
finites_at (x ∷ xs) t (suc i) h = finites_at xs (and_r (is_finite x) (finites xs) t) i (le_of_suc-le-suc h)

sound : List Float → Bool
sound l = eqb (length l) 128 && finites l

qpsk_sound : T (sound (run 4 qpsk_turn blank))
unfolding sound finites is_finite blank qpsk_turn corner_of sub mul of_bits of_int
qpsk_sound = tt

psk8_sound : T (sound (run 8 psk8_turn blank))
unfolding sound finites is_finite blank psk8_turn circle_point angle narrowed sin_at cos_at add mul div lt of_bits of_int
psk8_sound = tt

qam16_sound : T (sound (run 4 (λ i. run 4 (qam_turn 2 i)) blank))
unfolding sound finites is_finite blank qam_turn label_of gray_of level qam_scale rooted sub mul div of_bits of_int
qam16_sound = tt

qam64_sound : T (sound (run 8 (λ i. run 8 (qam_turn 3 i)) blank))
unfolding sound finites is_finite blank qam_turn label_of gray_of level qam_scale rooted sub mul div of_bits of_int
qam64_sound = tt

qam_runs : (b : ℕ) (h : b ≤ 3) → (qam_of b h).pts ≡ run (2 ^ b) (λ i. run (2 ^ b) (qam_turn b i)) blank
unfolding qam_of qam_row
qam_runs b h =
    for_run (qam_row b) (2 ^ b) blank
    ∙ run_same (qam_row b) (λ i. run (2 ^ b) (qam_turn b i)) (λ i s. for_run (qam_turn b i) (2 ^ b) s) (2 ^ b) blank

of : (code : ℕ) (l : List Float) → (points_of code).pts ≡ l → T (sound l) → (points_of code).bps ≡ bps_of code → 2 ≤ bps_of code → bps_of code ≤ 6 → PointsLaws code
unfolding sound
of code l e t bits fewest most =
    let whole : length l ≡ 128 = eqb→eq (length l) 128 (and_l (eqb (length l) 128) (finites l) t) in
    record {
      bits = bits;
      fewest = fewest;
      most = most;
      count = at_most_64 (bps_of code) most;
      whole = ap length e ∙ whole;
      finite = λ i h. rw e (finites_at l (and_r (eqb (length l) 128) (finites l) t) i (omega arith));
    }

pub points_laws : (code : ℕ) → PointsLaws code
unfolding points_of qpsk_of psk8_of qam_of
points_laws zero = of 0 (run 4 qpsk_turn blank) (for_run qpsk_turn 4 blank) qpsk_sound refl (lit≤ tt) (lit≤ tt)
points_laws (suc zero) = of 1 (run 8 psk8_turn blank) (for_run psk8_turn 8 blank) psk8_sound refl (lit≤ tt) (lit≤ tt)
points_laws (suc (suc zero)) = of 2 (run 4 (λ i. run 4 (qam_turn 2 i)) blank) (qam_runs 2 (lit≤ tt)) qam16_sound refl (lit≤ tt) (lit≤ tt)
points_laws (suc (suc (suc code))) =
    of (suc (suc (suc code))) (run 8 (λ i. run 8 (qam_turn 3 i)) blank) (qam_runs 3 (lit≤ tt)) qam64_sound refl (lit≤ tt) (lit≤ tt)
