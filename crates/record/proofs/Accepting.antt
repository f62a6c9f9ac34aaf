-- Records of every kind are accepted, by phy's law of their lists. Assumes nothing.
use Prim.Native.Nat.{ℕ, zero, suc, ◌+◌, ◌*◌, ◌^◌, ◌<◌, ◌≤◌}
use mathlib.Core.Path.{◌≡◌, refl, ◌∙◌}
use mathlib.Core.Bool.{Bool, true, false, not, ◌||◌}
use mathlib.Core.List.{[]}
use native.Mathlib.Omega.{arith}
use lib.Dec.{T}
use lib.ListN.{length, get_or, take, replicate, length-replicate}
use lib.Ieee.{Float, binary32, fits, of_bits}
use lib.Ieee.Bits.{of_bits-fits}
use lib.Ieee.Fits.{and_i}
use Rattle.ieee.specs.Num.{zero32, one32}
use Rattle.ieee.specs.Order.{is_finite}
use Rattle.refine.specs.declared.settings.Settings.{Settings}
use Rattle.table.specs.Sizes.{nc_of, ncell_of, grid_cells, nbits_of, work_length}
use Rattle.scan.specs.Fine.{all, is_variance}
use Rattle.table.specs.Rows.{bad_settings, bad_numbers, room_for}
use Rattle.table.specs.Refusals.{refusal_of}
use Rattle.table.specs.Refusals.{lent}
use Rattle.table.specs.Table as lists
use Rattle.table.specs.Table.{plain, silent, blank}
use Rattle.std.proofs.lemmas.Bool.{true≢false}
use Rattle.table.proofs.Exact as lists-exact
use Rattle.table.proofs.Accepting as lists-accepting
use Rattle.wire.specs.Layout.{Holds}
use Rattle.record.specs.Table.{silent_record, SomeAccepted}
use Rattle.record.proofs.AsLists.{length_laid, laid_out_lem}

pub length_silent : (s : Settings) (priors : ℕ) → length (silent_record s priors) ≡ 6 + 4 * (3 + nc_of s + ncell_of s + 2 * grid_cells s + priors)
length_silent s priors =
    length_laid (silent s) (blank priors)
    ∙ rw (length-replicate (nc_of s) one32, length-replicate (ncell_of s) one32, length-replicate (2 * grid_cells s) zero32, length-replicate priors zero32)

-- ---- numbers that are fine

all_held : (n : ℕ) (x : Float) → T (fits binary32 x) → T (all (fits binary32) (replicate n x))
unfolding all
all_held zero x h = tt
all_held (suc n) x h = and_i (fits binary32 x) (all (fits binary32) (replicate n x)) h (all_held n x h)

some_finite : (n m : ℕ) → all is_finite (take n (blank m)) ≡ true
unfolding all is_finite of_bits
some_finite zero m = refl
some_finite (suc n) zero = refl
some_finite (suc n) (suc m) = some_finite n m

-- the row of cause 7 under other priors, none of them at fault
other_priors : (g v c p q s : Bool) → q ≡ true → not g || (not v || (not c || (not p || s))) ≡ false → not g || (not v || (not c || (not q || s))) ≡ false
other_priors true true true true q s e h = rw e h
other_priors true true true false q s e h = absurd (true≢false h)
other_priors true true false p q s e h = h
other_priors true false c p q s e h = h
other_priors false v c p q s e h = h

-- ---- a silent burst with any number of priors

module _ (layout constellation nsym : ℕ) (sparse spread : Bool) (gainCode k : ℕ)
    (hl : layout ≤ 8) (hc : constellation ≤ 3) (h1 : 1 ≤ nsym) (hn : nsym ≤ 1023) (hg : gainCode ≤ 3) where
  abbrev s : Settings
  s = plain layout constellation nsym sparse spread gainCode k

  abbrev room : Bool
  room = room_for s (lent (blank (nbits_of s)) (blank (3 * ncell_of s)) (blank (work_length s)) (replicate (work_length s) 0))

  -- by phy's law, with no priors
  no_row : (i : ℕ) → get_or (lists.rows (silent s) [] room) i false ≡ false
  unfolding lists.SomeAccepted
  no_row = ((lists-exact.exact).none (silent s) [] room).0 (lists-accepting.some_accepted layout constellation nsym sparse spread gainCode k hl hc h1 hn hg)

  numbers : (priors : ℕ) → bad_numbers s (silent s).grid (silent s).sigma (silent s).cells (blank priors) ≡ false
  unfolding lists.rows bad_numbers
  numbers priors =
      other_priors (all is_finite (silent s).grid) (all is_variance (silent s).sigma) (all is_variance (silent s).cells) (all is_finite (take (nbits_of s) [])) (all is_finite (take (nbits_of s) (blank priors))) (bad_settings s)
      (some_finite (nbits_of s) priors) (no_row 6)

  passed : (priors : ℕ) → refusal_of (silent s) (blank priors) true ≡ 0
  unfolding lists.rows refusal_of
  passed priors = rw (no_row 0, no_row 1, no_row 2, no_row 3, no_row 4, numbers priors) refl

  held : k < 2 ^ 6 → (priors : ℕ) → priors < 2 ^ 20 → Holds (silent s) (blank priors)
  held hk priors hp =
      let one : T (fits binary32 one32) = of_bits-fits binary32 0x3f80_0000 in
      let zero : T (fits binary32 zero32) = of_bits-fits binary32 0 in
      record {
        layout = omega arith;
        constellation = omega arith;
        nsym = omega arith;
        gain_code_lem = omega arith;
        k = hk;
        priors = omega (arith, length-replicate priors zero32);
        sigma = length-replicate (nc_of s) one32;
        cells = length-replicate (ncell_of s) one32;
        grid = length-replicate (2 * grid_cells s) zero32;
        boost_f32 = one;
        pilot_gain_f32 = one;
        power_f32 = one;
        sigma_f32 = all_held (nc_of s) one32 one;
        cells_f32 = all_held (ncell_of s) one32 one;
        grid_f32 = all_held (2 * grid_cells s) zero32 zero;
        prior_f32 = all_held priors zero32 zero;
      }

pub some_accepted : SomeAccepted
unfolding SomeAccepted
some_accepted layout constellation nsym sparse spread gainCode k priors hl hc h1 hn hg hk short =
    let s = plain layout constellation nsym sparse spread gainCode k in
    let few : priors < 2 ^ 20 = omega (arith, length_silent s priors) in
    laid_out_lem (silent s) (blank priors) (held layout constellation nsym sparse spread gainCode k hl hc h1 hn hg hk priors few) short true
    ∙ passed layout constellation nsym sparse spread gainCode k hl hc h1 hn hg priors
