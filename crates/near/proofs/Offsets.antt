-- The difference of two numbers as an integer, as a float: its sign is put before the float of its size.
use Rattle.std.proofs.Common.{◌≡◌, ℕ, zero, suc, ◌+◌, ◌-◌, ◌*◌, ◌^◌, ◌<◌, Bool, true, false, cond, ltb, refl, arith}
use mir.Facts.{to_z_pos, to_z-of_z}
use native.Mathlib.Decide.{dec_lt}
use lib.Dec.{leb-zero}
use lib.IntN.{pos, ◌-ℤ◌}
use lib.Ieee.{inf, Format, binary32, odd, units, round, neg, low, prec, emax, of_int}
use borrow.Author.Tests.{lt-ltb, le-ltb, le-leb, lt-leb}
use mir.Syntax.{w32}
use mir.Val.{SFits, to_z, of_z}
use Rattle.near.specs.Search.{offset}

odd_neg : (d q k l : ℕ) → odd d true q k l ≡ neg (odd d false q k l)
unfolding odd neg
odd_neg d zero k l = refl
odd_neg d (suc q) k l = refl

units_neg : (f : Format) (q k : ℕ) → units f true q k ≡ neg (units f false q k)
unfolding units
units_neg f q k = go (ltb (q * 2 ^ k) (2 ^ (low f + suc (emax f))))
  where
    go : (b : Bool) → cond b (odd (suc (prec f)) true q k (low f)) (inf true) ≡ neg (cond b (odd (suc (prec f)) false q k (low f)) (inf false))
    go true = odd_neg (suc (prec f)) q k (low f)
    go false = unfold neg in refl

pub round_neg : (f : Format) (n d : ℕ) → round f true n d ≡ neg (round f false n d)
unfolding round
round_neg f n d = units_neg f _ _

rounded : (a b : ℕ) → of_int binary32 (pos a -ℤ pos b) ≡ offset a b
unfolding of_int
rounded a zero =
    let e : a + 0 ≡ a = omega arith in
    let e' : a - 0 ≡ a = omega arith in
    rw (leb-zero a, e, e') refl
rounded a (suc b) = go (dec_lt a (suc b))
  where
    go : Dec (a < suc b) → of_int binary32 (pos a -ℤ pos (suc b)) ≡ offset a (suc b)
    go (yes h) =
        let e : suc (suc b - suc a) ≡ suc b - a = omega arith in
        rw (lt-ltb a (suc b) h, lt-leb (suc b) a h, ← e) (round_neg binary32 (suc (suc b - suc a)) 1)
    go (no h) = rw (le-ltb a (suc b) (omega arith), le-leb (suc b) a (omega arith)) refl

fits : (a b : ℕ) → a < 65536 → b < 65536 → SFits w32 (pos a -ℤ pos b)
fits a zero h k = record { sfits = omega (arith, h) }
fits a (suc b) h k = go (dec_lt a (suc b))
  where
    go : Dec (a < suc b) → SFits w32 (pos a -ℤ pos (suc b))
    go (yes l) = rw (lt-ltb a (suc b) l) (record { sfits = omega (arith, k) })
    go (no l) = rw (le-ltb a (suc b) (omega arith)) (record { sfits = omega (arith, h) })

pub offset_is : (a b : ℕ) → a < 65536 → b < 65536 → of_int binary32 (to_z w32 (of_z w32 (to_z w32 a -ℤ to_z w32 b))) ≡ offset a b
offset_is a b h k = rw (to_z_pos w32 {n = a} (omega (arith, h)), to_z_pos w32 {n = b} (omega (arith, k)), to_z-of_z (fits a b h k)) (rounded a b)
