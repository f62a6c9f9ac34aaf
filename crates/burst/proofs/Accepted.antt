-- A record that is not turned away has at most 4,086 bits, so that 16,354 bytes hold its answer. Assumes nothing.
use Prim.Native.Nat.{ℕ, ◌≤◌}
use mathlib.Core.Path.{◌≡◌, refl}
use mathlib.Core.Bool.{Bool, true}
use mathlib.Core.List.{List}
use native.Mathlib.Decide.{ℕ_discrete}
use native.Mathlib.Omega.{arith}
use borrow.Author.Tests.{eq-eqb, ne_eqb, le-leb}
use lib.Dec.{leb}
use Rattle.std.specs.Prelude.{IsSome}
use Rattle.refine.specs.Refine.{nbits}
use Rattle.wire.specs.Record.{burst_of}
use Rattle.wire.specs.Shape.{shape_refusal, bits_in, bits_of, answer_length}
use Rattle.record.specs.Refusals.{refusal_in}
use Rattle.wire.proofs.Shaped.{shaped}

module _ (rec : List ℕ) where
  shape_fits : (room : Bool) → refusal_in rec room ≡ 0 → shape_refusal rec ≡ 0
  unfolding refusal_in
  shape_fits room e = go (ℕ_discrete (shape_refusal rec) 0) e
    where
      go : Dec (shape_refusal rec ≡ 0) → refusal_in rec room ≡ 0 → shape_refusal rec ≡ 0
      go (yes u) e = u
      go (no u) e = rw (ne_eqb (shape_refusal rec) 0 u) at e

  -- a record that has an answer has its bits
  pub some_bits : (room : Bool) → refusal_in rec room ≡ 0 → IsSome (bits_in rec)
  unfolding bits_in
  some_bits room e = rw (eq-eqb (shape_refusal rec) 0 (shape_fits room e)) refl

  few : shape_refusal rec ≡ 0 → nbits (burst_of rec) ≤ 4086
  unfolding burst_of
  few e = (shaped rec e).bits

  pub room_enough : refusal_in rec (leb (answer_length rec) 16354) ≡ refusal_in rec true
  unfolding refusal_in
  room_enough = go (ℕ_discrete (shape_refusal rec) 0)
    where
      go : Dec (shape_refusal rec ≡ 0) → refusal_in rec (leb (answer_length rec) 16354) ≡ refusal_in rec true
      go (yes u) = let h : answer_length rec ≤ 16354 = omega (arith, few u) in rw (le-leb (answer_length rec) 16354 h) refl
      go (no u) = rw (ne_eqb (shape_refusal rec) 0 u) refl

  pub few_bits : bits_of rec ≤ 4086
  unfolding bits_of
  few_bits = go (ℕ_discrete (shape_refusal rec) 0)
    where
      go : Dec (shape_refusal rec ≡ 0) → bits_of rec ≤ 4086
      go (yes u) = rw (eq-eqb (shape_refusal rec) 0 u) (few u)
      go (no u) = rw (ne_eqb (shape_refusal rec) 0 u) (omega arith)

  pub bits_of_lem : (room : Bool) → refusal_in rec room ≡ 0 → bits_of rec ≡ nbits (burst_of rec)
  unfolding bits_of
  bits_of_lem room e = rw (eq-eqb (shape_refusal rec) 0 (shape_fits room e)) refl
