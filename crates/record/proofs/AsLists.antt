-- A burst laid out is given the number that its lists are given. Assumes nothing.
use Prim.Native.Nat.{ℕ, ◌+◌, ◌*◌, ◌%◌, ◌^◌, ◌≤◌}
use mathlib.Core.Path.{◌≡◌, refl, sym, ap, ◌∙◌}
use mathlib.Core.Bool.{Bool, true, false, cond}
use mathlib.Core.List.{List}
use native.Mathlib.Omega.{arith}
use lib.Dec.{eqb}
use lib.ListN.{length, length-append}
use lib.Ieee.{Float}
use borrow.Author.Tests.{eq-eqb, le-ltb}
use Rattle.seq.specs.Tab.Laws.{length_tab}
use Rattle.refine.specs.declared.settings.Settings.{Settings}
use Rattle.refine.specs.Refine.{Burst}
use Rattle.table.specs.Rows.{bad_layout, bad_codes, bad_symbols}
use Rattle.table.specs.Refusals.{refusal_of}
use Rattle.wire.specs.Record.{head, padding, fields, settings, burst_of, prior_of, count_of}
use Rattle.wire.specs.Layout.{head_of, head_bytes, laid_out, Holds}
use Rattle.wire.specs.Shape.{bad_record, bad_length, shape_refusal}
use Rattle.record.specs.Refusals.{refusal_in}
use Rattle.record.specs.Table.{AsLists}
use Rattle.wire.proofs.Digits.{six_bytes}
use Rattle.wire.proofs.RoundTrip.{round_trip}
use Rattle.words.proofs.Stored.{length_word}
use Rattle.record.proofs.Written.{length_numbers}

-- ---- the bytes of a burst laid out

-- every field stands above the two bits of padding
fours : (s t u v w x y z : ℕ) → (s * 2 ^ 44 + t * 2 ^ 42 + u * 2 ^ 32 + v * 2 ^ 31 + w * 2 ^ 30 + x * 2 ^ 28 + y * 2 ^ 22 + z * 2 ^ 2) % 2 ^ 2 ≡ 0
fours s t u v w x y z = omega arith

no_last_bits : (s : Settings) (priors : ℕ) → head_of s priors % 2 ^ 2 ≡ 0
unfolding head_of
no_last_bits s priors = fours s.layout s.constellation s.nsym (cond s.sparse 1 0) (cond s.spread 1 0) s.gain_code s.k priors

module _ (b : Burst) (prior : List Float) where
  pub length_laid : length (laid_out b prior) ≡ 6 + 4 * (3 + length b.sigma + length b.cells + length b.grid + length prior)
  unfolding laid_out head_bytes
  length_laid =
      let s = length_numbers (length b.sigma) b.sigma in
      let c = length_numbers (length b.cells) b.cells in
      let g = length_numbers (length b.grid) b.grid in
      let p = length_numbers (length prior) prior in
      simp (length-append, length_word) (omega arith)

  pub unpadded : padding (head (laid_out b prior)) ≡ 0
  unfolding padding head laid_out head_bytes
  unpadded = ap (λ (h : ℕ). h % 2 ^ 2) (six_bytes (head_of b.settings (length prior))) ∙ no_last_bits b.settings (length prior)

-- ---- its rows are those of its lists

-- layout, codes and symbols stand before both
one_number : (l c s : Bool) (x : ℕ)
    → let shape : ℕ = cond l 1 (cond c 2 (cond s 3 0)) in
    cond (eqb shape 0) (cond l 1 (cond c 2 (cond s 3 x))) shape ≡ cond l 1 (cond c 2 (cond s 3 x))
one_number true c s x = refl
one_number false true s x = refl
one_number false false true x = refl
one_number false false false x = refl

module _ (b : Burst) (prior : List Float) (holds : Holds b prior) (short : length (laid_out b prior) ≤ 8192) where
  abbrev rec : List ℕ
  rec = laid_out b prior

  same_burst : burst_of rec ≡ b
  same_burst = (round_trip.back b prior holds).0

  same_prior : prior_of rec ≡ prior
  same_prior = (round_trip.back b prior holds).1

  same_settings : settings rec ≡ b.settings
  unfolding burst_of
  same_settings = ap (λ (x : Burst). x.settings) same_burst

  same_count : (fields rec).priors ≡ length prior
  unfolding prior_of
  same_count = sym (length_tab _ (fields rec).priors) ∙ ap length same_prior

  record_fits : bad_record rec ≡ false
  unfolding bad_record
  record_fits = rw (le-ltb (length rec) 6 (omega (arith, length_laid b prior)), le-ltb 8192 (length rec) short, eq-eqb _ _ (unpadded b prior)) refl

  whole : length rec ≡ 6 + 4 * count_of rec
  unfolding count_of
  whole = rw (length_laid b prior, holds.sigma, holds.cells, holds.grid, same_settings, same_count)

  length_fits : bad_length rec ≡ false
  unfolding bad_length
  length_fits = rw (eq-eqb _ _ whole) refl

  pub laid_out_lem : (room : Bool) → refusal_in rec room ≡ refusal_of b prior room
  unfolding refusal_in shape_refusal refusal_of
  laid_out_lem room =
      rw (record_fits, length_fits, same_settings, same_burst, same_prior)
      (one_number (bad_layout b.settings) (bad_codes b.settings) (bad_symbols b.settings) _)

pub as_lists : AsLists
unfolding AsLists
as_lists b prior room holds short = laid_out_lem b prior holds short room
