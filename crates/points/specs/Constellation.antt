-- frame.rs, `qpsk`, `psk8`, `qam`, and phy.rs, `Constellation`, line by line.
use Rattle.std.specs.Prelude.{ℕ, zero, suc, ◌-◌, ◌*◌, ◌/◌, ◌%◌, ◌^◌, ◌≤◌, List, [], ◌∷◌, get_or, Float}
use Rattle.std.proofs.Common.{lit≤}
use Rattle.std.proofs.Math.Nat.{mul-le-mul_left}
use Rattle.std.specs.Int.Bits.{bit_xor, bit_or}
use Rattle.std.specs.Float.{binary32, binary64}
use Rattle.std.specs.Float.Ieee.{of_bits}
use Rattle.seq.specs.Loop.{for}
use Rattle.ieee.specs.Num.{◌⊕◌, ◌⊗◌, ◌⊘◌, ◌⊟◌, ◌⊠◌, ◌⧄◌, one32, f32_of, f64_of}
use Rattle.ieee.specs.Narrow.{narrowed}
use Rattle.ieee.specs.Root.{rooted}
use Rattle.elementary.specs.Constants.{pi}
use Rattle.elementary.specs.Circular.{sin_at, cos_at}
use Rattle.dsp.specs.declared.Complex.{Complex}
use Rattle.dsp.specs.Arithmetic.{complex}
use Rattle.points.specs.declared.table.Points.{Points}
use Rattle.points.specs.Table.{blank, put_at}

abbrev pub two32 : Float
two32 = of_bits binary32 0x4000_0000

abbrev pub three32 : Float
three32 = of_bits binary32 0x4040_0000

abbrev pub eight64 : Float
eight64 = of_bits binary64 0x4020_0000_0000_0000

-- FRAC_1_SQRT_2, FRAC_PI_4
abbrev pub frac_root2 : Float
frac_root2 = of_bits binary32 0x3f35_04f3

abbrev pub frac_pi4 : Float
frac_pi4 = of_bits binary64 0x3fe9_21fb_5444_2d18

-- ---- qpsk

-- k * (1.0 - 2.0 * bit as f32)
abbrev pub signed : ℕ → Float
signed bit = frac_root2 ⊠ (one32 ⊟ two32 ⊠ f32_of bit)

-- Complex::new(.., ..), with b0 = (label >> 1) & 1 and b1 = label & 1
unfoldable pub corner_of : ℕ → Complex
corner_of label = complex (signed (label / 2 % 2)) (signed (label % 2))

-- *p = ..
unfoldable pub qpsk_turn : ℕ → List Float → List Float
qpsk_turn label pts = put_at pts label (corner_of label)

-- for (label, p) in pts.iter_mut().enumerate().take(4)
unfoldable pub qpsk_of : Points
qpsk_of = record { bps = 2; pts = for 0 4 qpsk_turn blank; few = lit≤ tt }

-- ---- psk8

-- GRAY
abbrev pub labels : List ℕ
labels = 0 ∷ 1 ∷ 3 ∷ 2 ∷ 6 ∷ 7 ∷ 5 ∷ 4 ∷ []

-- FRAC_PI_4 * m as f64 + PI / 8.0
unfoldable pub angle : ℕ → Float
angle m = frac_pi4 ⊗ f64_of m ⊕ pi ⊘ eight64

-- Complex::new(a.cos() as f32, a.sin() as f32)
unfoldable pub circle_point : ℕ → Complex
circle_point m = complex (narrowed (cos_at (angle m))) (narrowed (sin_at (angle m)))

-- pts[label] = ..
unfoldable pub psk8_turn : ℕ → List Float → List Float
psk8_turn m pts = put_at pts (get_or labels m 0) (circle_point m)

-- for (m, &label) in GRAY.iter().enumerate()
unfoldable pub psk8_of : Points
psk8_of = record { bps = 3; pts = for 0 8 psk8_turn blank; few = lit≤ tt }

-- ---- qam

-- i ^ (i >> 1)
unfoldable pub gray_of : ℕ → ℕ
gray_of i = bit_xor i (i / 2)

-- ((i ^ (i >> 1)) << b) | (q ^ (q >> 1))
unfoldable pub label_of : ℕ → ℕ → ℕ → ℕ
label_of b i q = bit_or (gray_of i * 2 ^ b) (gray_of q)

-- 1.0 / ((2.0 * (m * m - 1) as f32) / 3.0).sqrt()
unfoldable pub qam_scale : ℕ → Float
qam_scale m = one32 ⧄ rooted binary32 (two32 ⊠ f32_of (m * m - 1) ⧄ three32)

-- k * (2.0 * i as f32 - (m - 1) as f32)
unfoldable pub level : Float → ℕ → ℕ → Float
level k m i = k ⊠ (two32 ⊠ f32_of i ⊟ f32_of (m - 1))

-- pts[label] = Complex::new(.., ..)
unfoldable pub qam_turn : ℕ → ℕ → ℕ → List Float → List Float
qam_turn b i q pts =
    let m = 2 ^ b in
    let k = qam_scale m in
    put_at pts (label_of b i q) (complex (level k m i) (level k m q))

-- for q in 0..m
unfoldable pub qam_row : ℕ → ℕ → List Float → List Float
qam_row b i pts = for 0 (2 ^ b) (qam_turn b i) pts

-- for i in 0..m
unfoldable pub qam_of : (b : ℕ) → b ≤ 3 → Points
qam_of b h = record { bps = 2 * b; pts = for 0 (2 ^ b) (qam_row b) blank; few = mul-le-mul_left 2 h }

-- ---- Constellation

-- bits_per_symbol, after from_code
abbrev pub bps_of : ℕ → ℕ
bps_of zero = 2
bps_of (suc zero) = 3
bps_of (suc (suc zero)) = 4
bps_of (suc (suc (suc code))) = 6

-- points, after from_code
unfoldable pub points_of : ℕ → Points
points_of zero = qpsk_of
points_of (suc zero) = psk8_of
points_of (suc (suc zero)) = qam_of 2 (lit≤ tt)
points_of (suc (suc (suc code))) = qam_of 3 (lit≤ tt)
