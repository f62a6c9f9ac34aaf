-- frame.rs, `Spreader`, for m from 1 on: the discrete Fourier transform of m complex numbers and its inverse, both
-- divided by √m, each sum in the source's order.
use Rattle.std.specs.Prelude.{◌≡◌, ℕ, ◌+◌, ◌-◌, ◌*◌, ◌%◌, ◌<◌, Bool, true, false, cond, List, ◌++◌, replicate, from_bits, nat_le}
use Rattle.std.specs.Prelude.{Float}
use Rattle.std.specs.Float.{binary32, binary64}
use Rattle.std.specs.Float.Ieee.{neg}
use Rattle.seq.specs.Loop.{for}
use Rattle.seq.specs.Cat.{cat}
use Rattle.ieee.specs.Num.{◌⊗◌, ◌⊘◌, ◌⧄◌, zero32, one32, f32_of, f64_of}
use Rattle.ieee.specs.Narrow.{narrowed}
use Rattle.ieee.specs.Root.{rooted}
use Rattle.elementary.specs.Circular.{sin_at, cos_at}
use Rattle.dsp.specs.declared.Complex.{Complex}
use Rattle.dsp.specs.Arithmetic.{complex, zeroᶜ, conjᶜ, scaleᶜ, ◌+ᶜ◌, ◌*ᶜ◌}
use Rattle.dsp.specs.Flat.{complex_at, flat}

-- ---- new

-- core::f64::consts::TAU
abbrev pub tau : Float
tau = from_bits binary64 0x4019_21fb_5444_2d18

-- a, of number k of tw
unfoldable pub angle : ℕ → ℕ → Float
angle m k = neg tau ⊗ f64_of k ⊘ f64_of m

-- number k of tw
unfoldable pub twiddle : ℕ → ℕ → Complex
twiddle m k = complex (narrowed (cos_at (angle m k))) (narrowed (sin_at (angle m k)))

-- tw, in room for 109
unfoldable pub twiddles_of : ℕ → List Float
twiddles_of m = cat m (λ k. flat (twiddle m k)) ++ replicate (218 - 2 * m) zero32

-- ---- transform

-- what v is multiplied by
unfoldable pub factor : Bool → Complex → Complex
factor inverse w = cond inverse (conjᶜ w) w

-- idx, k further on and reduced
unfoldable pub next : ℕ → ℕ → ℕ → ℕ
next m k idx = cond (nat_le m (idx + k)) (idx + k - m) (idx + k)

-- s
unfoldable pub unitary : ℕ → Float
unitary m = one32 ⧄ rooted binary32 (f32_of m)

-- acc and idx, which the inner loop changes
pub record Sum : Type 0 where
  pub acc : Complex
  pub idx : ℕ

abbrev pub start : Sum
start = record { acc = zeroᶜ; idx = 0 }

module _ (m : ℕ) (tw : List Float) (inverse : Bool) (a : List Float) where
  -- a turn of the inner loop, for the output k and number j of a
  unfoldable pub turn : ℕ → ℕ → Sum → Sum
  turn k j s = record { acc = s.acc +ᶜ complex_at a j *ᶜ factor inverse (complex_at tw s.idx); idx = next m k s.idx }

  -- acc past that loop
  unfoldable pub sum_of : ℕ → Complex
  sum_of k = (for 0 m (turn k) start).acc

  -- o, number k of b
  unfoldable pub output : ℕ → Complex
  output k = scaleᶜ (sum_of k) (unitary m)

  -- b
  unfoldable pub transform : List Float
  transform = cat m (λ k. flat (output k))

-- ---- forward, inverse
unfoldable pub forward_of : ℕ → List Float → List Float → List Float
forward_of m tw v = transform m tw false v

unfoldable pub inverse_of : ℕ → List Float → List Float → List Float
inverse_of m tw v = transform m tw true v

-- ---- statement, proved in proofs/Spreading.antt: the index is k j mod m in turn j, so that output k sums a j times
-- twiddle factor k j mod m
pub record Indexed (m : ℕ) (tw : List Float) (inverse : Bool) (a : List Float) : Type 0 where
  pub index : (k j : ℕ) → k < m → (for 0 j (turn m tw inverse a k) start).idx ≡ k * j % m
  pub sum : (k : ℕ) → k < m → sum_of m tw inverse a k ≡ for 0 m (λ j acc. acc +ᶜ complex_at a j *ᶜ factor inverse (complex_at tw (k * j % m))) zeroᶜ
