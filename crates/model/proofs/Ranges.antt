-- A scale lies in 1..10 or is not a number.
use Prim.{tt}
use Rattle.std.proofs.Common.{◌≡◌, ℕ, ◌*◌, ◌<◌, ◌≤◌, true, false, ◌&&◌, T, eqb, ◌⊎◌, refl, inl, inr, arith, lit<, eqb→eq, nltb→le}
use lib.Ieee.{Float, nan, inf, fin, binary32, up, down, lt, le, eq, of_bits, round, is_nan}
use lib.Ieee.Fits.{and_r, down_pos}
use lib.Ieee.Order.{round_mono}
use Rattle.ieee.specs.Num.{◌⊖◌, ◌⊘◌, one32, one64}
use Rattle.ieee.specs.Narrow.{narrowed}
use Rattle.ieee.specs.Order.{max_of, clamp_of}
use Rattle.ieee.proofs.Orders.{clamp_laws, le_not_lt}
use Rattle.model.specs.Constants.{e_30, ten}
use Rattle.model.specs.Laws.{ten32}
use Rattle.model.specs.Select.{scale_of}
use Rattle.model.specs.declared.trial.Tried.{Tried}

one_is : one32 ≡ round binary32 false 1 1
unfolding of_bits round
one_is = refl

ten_is : ten32 ≡ round binary32 false 10 1
unfolding of_bits round
ten_is = refl

-- rounding keeps a fraction of 1..10 there
rounded : (a d : ℕ) → 0 < d → d ≤ a → a ≤ 10 * d → T (le one32 (round binary32 false a d)) × T (le (round binary32 false a d) ten32)
rounded a d h l m = (rw one_is (round_mono binary32 1 1 a d (lit< tt) h (omega arith)), rw ten_is (round_mono binary32 a d 10 1 h (lit< tt) (omega arith)))

no_sign : (a b : ℕ) → 0 < a → T (eqb a b && eqb a 0) → ⊥
no_sign a b h t = omega (arith, eqb→eq a 0 (and_r (eqb a b) (eqb a 0) t))

narrow_keeps : (y : Float) → T (le one64 y) → T (le y ten) → T (le one32 (narrowed y)) × T (le (narrowed y) ten32)
narrow_keeps nan l h = absurd (unfold le lt eq of_bits in l)
narrow_keeps (inf true) l h = absurd (unfold le lt eq of_bits in l)
narrow_keeps (inf false) l h = absurd (unfold le lt eq of_bits in h)
narrow_keeps (fin true m e) l h = absurd (unfold le lt eq of_bits in no_sign (1 * down e) (m * up e * 1) (omega (arith, down_pos e)) l)
narrow_keeps (fin false m e) l h =
    unfold narrowed in
    rounded (m * up e) (down e) (down_pos e)
    (unfold lt of_bits in let k : 1 * down e ≤ m * up e * 1 = nltb→le (m * up e * 1) (1 * down e) (le_not_lt one64 (fin false m e) l) in omega arith)
    (unfold lt of_bits in let k : m * up e * 1 ≤ 10 * down e = nltb→le (10 * down e) (m * up e * 1) (le_not_lt (fin false m e) ten h) in omega arith)

limits : T (le one64 ten)
unfolding le lt eq of_bits
limits = tt

held : (x : Float) → (narrowed (clamp_of x one64 ten) ≡ nan) ⊎ (T (le one32 (narrowed (clamp_of x one64 ten))) × T (le (narrowed (clamp_of x one64 ten)) ten32))
held nan = inl (unfold clamp_of lt narrowed of_bits in refl)
held (inf s) = inr (narrow_keeps _ (clamp_laws.low (inf s) one64 ten (unfold is_nan in tt) limits) (clamp_laws.high (inf s) one64 ten (unfold is_nan in tt) limits))
held (fin s m e) = inr (narrow_keeps _ (clamp_laws.low (fin s m e) one64 ten (unfold is_nan in tt) limits) (clamp_laws.high (fin s m e) one64 ten (unfold is_nan in tt) limits))

pub scale_range : (t : Tried) → (scale_of t ≡ nan) ⊎ (T (le one32 (scale_of t)) × T (le (scale_of t) ten32))
unfolding scale_of
scale_range t = held ((t.r ⊖ t.v) ⊘ max_of t.m e_30)
