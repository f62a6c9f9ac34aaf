-- Bursts of every kind are accepted. Assumes nothing.
use Prim.Native.Nat.{ℕ, zero, suc, ◌*◌, ◌≤◌}
use mathlib.Core.Path.{◌≡◌, refl}
use mathlib.Core.Bool.{Bool, true, false}
use mathlib.Core.List.{[]}
use native.Mathlib.Omega.{arith}
use lib.ListN.{length, replicate, length-replicate}
use lib.Dec.{leb}
use lib.Seq.{take-nil}
use lib.Ieee.{Float, of_bits, lt, le}
use borrow.Author.Tests.{le-ltb, le-leb, eq-eqb, ne_eqb}
use Rattle.ieee.specs.Num.{zero32, one32}
use Rattle.ieee.specs.Order.{is_finite}
use Rattle.table.specs.Sizes.{nc_of, grid_cells, ncell_of, nbits_of, work_length}
use Rattle.scan.specs.Fine.{all, is_variance}
use Rattle.table.specs.Rows.{holds, is_power, is_level, bad_layout, bad_codes, bad_symbols, bad_grid, bad_variances, bad_settings, bad_numbers, room_for}
use Rattle.table.specs.Refusals.{refusal_of}
use Rattle.table.specs.Refusals.{lent, refusal_in}
use Rattle.table.specs.Table.{plain, silent, blank, SomeAccepted}
use Rattle.refine.specs.declared.settings.Settings.{Settings}

all_alike : (p : Float → Bool) (n : ℕ) (x : Float) → p x ≡ true → all p (replicate n x) ≡ true
unfolding all
all_alike p zero x e = refl
all_alike p (suc n) x e = rw e (all_alike p n x e)

finite_zero : is_finite zero32 ≡ true
unfolding is_finite of_bits
finite_zero = refl

variance_one : is_variance one32 ≡ true
unfolding is_variance is_finite of_bits lt
variance_one = refl

level_one : is_level one32 ≡ true
unfolding is_level of_bits le
level_one = refl

power_one : is_power one32 ≡ true
unfolding is_power is_finite of_bits lt
power_one = refl

enough : {A : Type 0} (n : ℕ) (x : A) → leb n (length (replicate n x)) ≡ true
enough n x = le-leb n (length (replicate n x)) (omega (arith, length-replicate n x))

module _ (s : Settings) where
  room : room_for s (lent (blank (nbits_of s)) (blank (3 * ncell_of s)) (blank (work_length s)) (replicate (work_length s) 0)) ≡ true
  unfolding room_for holds
  room =
      rw (enough (nbits_of s) zero32, enough (3 * ncell_of s) zero32, enough (work_length s) zero32, enough {A = ℕ} (work_length s) 0) refl

  grid : bad_grid s (silent s).grid ≡ false
  unfolding bad_grid
  grid = rw (eq-eqb _ _ (length-replicate (2 * grid_cells s) zero32)) refl

  variances : bad_variances s (silent s).sigma (silent s).cells ≡ false
  unfolding bad_variances
  variances = rw (eq-eqb _ _ (length-replicate (nc_of s) one32), eq-eqb _ _ (length-replicate (ncell_of s) one32)) refl

  numbers : bad_settings s ≡ false → bad_numbers s (silent s).grid (silent s).sigma (silent s).cells [] ≡ false
  unfolding bad_numbers all
  numbers e =
      rw (all_alike is_finite (2 * grid_cells s) zero32 finite_zero, all_alike is_variance (nc_of s) one32 variance_one, all_alike is_variance (ncell_of s) one32 variance_one, take-nil (nbits_of s)) e

  silent_accepted : bad_layout s ≡ false → bad_codes s ≡ false → bad_symbols s ≡ false → bad_settings s ≡ false → refusal_in (silent s) [] (blank (nbits_of s)) (blank (3 * ncell_of s)) (blank (work_length s)) (replicate (work_length s) 0) ≡ 0
  unfolding refusal_of
  silent_accepted l c n e = rw (l, c, n, grid, variances, room, numbers e) refl

module _ (layout constellation nsym : ℕ) (sparse spread : Bool) (gainCode k : ℕ) where
  abbrev settings : Settings
  settings = plain layout constellation nsym sparse spread gainCode k

  layouts : layout ≤ 8 → bad_layout settings ≡ false
  unfolding bad_layout
  layouts h = le-ltb 8 layout h

  codes : constellation ≤ 3 → gainCode ≤ 3 → bad_codes settings ≡ false
  unfolding bad_codes
  codes h g = rw (le-ltb 3 constellation h, le-ltb 3 gainCode g) refl

  symbols : 1 ≤ nsym → nsym ≤ 1023 → bad_symbols settings ≡ false
  unfolding bad_symbols
  symbols h g = rw (ne_eqb nsym 0 (λ e. omega arith), le-ltb 1023 nsym g) refl

  levels : bad_settings settings ≡ false
  unfolding bad_settings
  levels = rw (level_one, power_one) refl

pub some_accepted : SomeAccepted
unfolding SomeAccepted
some_accepted layout constellation nsym sparse spread gainCode k hl hc h1 hn hg =
    silent_accepted (plain layout constellation nsym sparse spread gainCode k)
    (layouts layout constellation nsym sparse spread gainCode k hl)
    (codes layout constellation nsym sparse spread gainCode k hc hg)
    (symbols layout constellation nsym sparse spread gainCode k h1 hn)
    (levels layout constellation nsym sparse spread gainCode k)
