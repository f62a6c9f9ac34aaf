-- The ways in which a call of `fde` ends, and what is known of lists that fit. Assumes nothing.
use Prim.Native.Nat.{ℕ, ◌*◌, ◌≤◌}
use mathlib.Core.Path.{◌≡◌, refl, sym, ap, ◌∙◌}
use mathlib.Core.Bool.{false, not}
use mathlib.Core.List.{List, ◌++◌, append-nil}
use native.Mathlib.Omega.{arith}
use lib.Dec.{ltb, eqb}
use lib.ListN.{length, drop_of_length-le}
use lib.Ieee.{Float}
use borrow.Author.Tests.{ltb-false, eqb-true, eqb-false, not-false}
use Rattle.spread.specs.Spreader.{twiddles_of}
use Rattle.equalize.specs.declared.filter.Equalized.{Equalized}
use Rattle.equalize.specs.Answer.{Room}
use Rattle.equalize.specs.Answer as core
use Rattle.equalize.specs.Fde.{fde_of}
use Rattle.std.proofs.lemmas.Bool.{or_parts}
use Rattle.std.specs.Prelude.{Ok}
use Rattle.beside.specs.Equalizations.{bad_lengths, bad_numbers, refusal_of, equalized, Equalizing}

pub record Fits (y h m z : ℕ) : Type 0 where
  pub some : 1 ≤ m
  pub most : m ≤ 109
  pub in_y : y ≡ 2 * m
  pub in_h : h ≡ 2 * m
  pub in_z : z ≡ 2 * m

pub fits : (y h m z : ℕ) → bad_lengths y h m z ≡ false → Fits y h m z
unfolding bad_lengths
fits y h m z e =
    let a = or_parts (eqb m 0) _ e in
    let b = or_parts (ltb 109 m) _ a.1 in
    let c = or_parts (not (eqb y (2 * m))) _ b.1 in
    let d = or_parts (not (eqb h (2 * m))) (not (eqb z (2 * m))) c.1 in
    let n : m ≡ 0 → ⊥ = eqb-false m 0 a.0 in
    record {
      some = omega arith;
      most = ltb-false 109 m b.0;
      in_y = eqb-true y (2 * m) (not-false _ c.0);
      in_h = eqb-true h (2 * m) (not-false _ d.0);
      in_z = eqb-true z (2 * m) (not-false _ d.1);
    }

module _ (y h v : List Float) (gain : Float) (z : List Float) where
  module _ (fine : false ≡ bad_lengths (length y) (length h) (length v) (length z)) where
    f : Fits (length y) (length h) (length v) (length z)
    f = fits _ _ _ _ (sym fine)

    pub room : Room (length v) y h v z
    room = record { most = f.most; in_y = omega (arith, f.in_y); in_h = omega (arith, f.in_h); in_v = omega arith; in_z = omega (arith, f.in_z) }

    pub some : (1 ≤ length v) × (length v ≤ 109)
    some = (f.some, f.most)

    pub made : false ≡ bad_numbers y h v gain → (r : Equalized) (z₁ : List Float) (tw : List Float) → tw ≡ twiddles_of (length v)
        → core.Equalizes (length v) (fde_of (length v) tw y h v gain) r z z₁ → Equalizing y h v gain (Ok r) z z₁
    unfolding refusal_of equalized
    made e r z₁ tw et c =
        let n : 0 ≡ refusal_of y h v gain z = rw (← fine, ← e) refl in
        let a = fde_of (length v) tw y h v gain in
        let whole : z₁ ≡ a.z = c.symbols ∙ (ap (λ (l : List Float). a.z ++ l) (drop_of_length-le z {i = 2 * length v} (omega (arith, f.in_z))) ∙ append-nil a.z) in
        record {
          number = n;
          accepted = λ q. record { result = ap Ok (rw et at c.result); symbols = rw et at whole };
          refused = λ q. absurd (q (sym n));
        }
