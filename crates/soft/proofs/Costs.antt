-- What `softplus` asks of exp and ln_1p, that it is not below zero, and the two values of a bit. Assumes nothing.
use Prim.Native.Nat.{◌+◌, ◌*◌}
use mathlib.Core.Path.{◌≡◌, refl, sym, ap, ◌∙◌}
use mathlib.Core.Bool.{Bool, true, false, cond}
use native.Mathlib.Omega.{arith}
use lib.Dec.{T}
use lib.Ieee.{Float, nan, inf, fin, up, down, neg, lt, of_bits, is_nan}
use lib.Ieee.Bits.{is_false}
use borrow.Author.Tests.{ltb-true, lt-ltb}
use Rattle.ieee.specs.Num.{◌⊞◌}
use Rattle.ieee.proofs.Orders.{le_not_lt, lt_not_lt}
use Rattle.elementary.specs.Exp.{exp_at}
use Rattle.elementary.specs.Ln.{ln1p_at}
use Rattle.elementary.proofs.Laws.{exp_laws, ln1p_laws}
use Rattle.soft.specs.Soft.{softplus_of, cost_of}
use Rattle.soft.proofs.Signs.{nought, side, nan_side, add_side, neg_side}

-- a test that failed
pub not_above : (x : Float) → lt nought x ≡ false → T (side true x)
not_above x e = rw e tt

-- a test that held, of x and of -x
pub above : (x : Float) → lt nought x ≡ true → T (side false x)
above x e = lt_not_lt nought x e

pub neg_above : (x : Float) → lt nought x ≡ true → T (side true (neg x))
neg_above x e = neg_side true x (above x e)

pub below : (x : Float) → lt x nought ≡ true → T (side true x)
below x e = lt_not_lt x nought e

-- ---- softplus is not below zero

log_side : (x : Float) → T (side false (ln1p_at (exp_at x)))
unfolding exp_at ln1p_at is_nan of_bits
log_side nan = nan_side false
log_side (inf s) = le_not_lt nought (ln1p_at (exp_at (inf s))) (ln1p_laws.low (exp_at (inf s)) (exp_laws.number (inf s) tt) (exp_laws.within (inf s)))
log_side (fin s m e) = le_not_lt nought (ln1p_at (exp_at (fin s m e))) (ln1p_laws.low (exp_at (fin s m e)) (exp_laws.number (fin s m e) tt) (exp_laws.within (fin s m e)))

pub softplus_side : (x : Float) → T (side false (softplus_of x))
unfolding softplus_of of_bits
softplus_side x = go (lt nought x) refl
  where
    go : (b : Bool) → lt nought x ≡ b → T (side false (cond b (x ⊞ ln1p_at (exp_at (neg x))) (ln1p_at (exp_at x))))
    go true e = add_side false x (ln1p_at (exp_at (neg x))) (above x e) (log_side (neg x))
    go false e = log_side x

-- ---- the branches of softplus

module _ (x : Float) where
  pub softplus_above : lt nought x ≡ true → softplus_of x ≡ x ⊞ ln1p_at (exp_at (neg x))
  unfolding softplus_of of_bits
  softplus_above e = rw e

  pub softplus_not_above : T (side true x) → softplus_of x ≡ ln1p_at (exp_at x)
  unfolding softplus_of of_bits
  softplus_not_above h = rw (is_false (lt nought x) h)

-- ---- the two values of a bit

neg_neg : (x : Float) → neg (neg x) ≡ x
unfolding neg
neg_neg nan = refl
neg_neg (inf true) = refl
neg_neg (inf false) = refl
neg_neg (fin true m e) = refl
neg_neg (fin false m e) = refl

above_neg : (x : Float) → lt x nought ≡ true → lt nought (neg x) ≡ true
unfolding lt neg
above_neg nan e = e
above_neg (inf true) e = refl
above_neg (inf false) e = e
above_neg (fin true m d) e = lt-ltb (0 * 1 * down d) (m * up d * 1) (omega (arith, ltb-true 0 (m * up d * 1 + 0 * 1 * down d) e))
above_neg (fin false m d) e = absurd (omega (arith, ltb-true (m * up d * 1) (0 * 1 * down d) e))

module _ (lam : Float) where
  pub zero_above : lt nought lam ≡ true → ln1p_at (exp_at (neg lam)) ≡ cost_of lam 0
  unfolding cost_of
  zero_above e = sym (softplus_not_above (neg lam) (neg_above lam e))

  pub one_above : lt nought lam ≡ true → lam ⊞ ln1p_at (exp_at (neg lam)) ≡ cost_of lam 1
  unfolding cost_of
  one_above e = sym (softplus_above lam e)

  pub zero_below : lt lam nought ≡ true → neg lam ⊞ ln1p_at (exp_at lam) ≡ cost_of lam 0
  unfolding cost_of
  zero_below e = sym (softplus_above (neg lam) (above_neg lam e) ∙ ap (λ (x : Float). neg lam ⊞ ln1p_at (exp_at x)) (neg_neg lam))

  pub one_below : lt lam nought ≡ true → ln1p_at (exp_at lam) ≡ cost_of lam 1
  unfolding cost_of
  one_below e = sym (softplus_not_above lam (below lam e))
