-- The phases of the reference symbol lie where sin and cos are asked: a test of each carrier of the nine layouts.
-- Assumes nothing.
use Rattle.std.proofs.Common.{◌≡◌, ℕ, zero, suc, ◌<◌, Bool, true, not, ◌&&◌, T, ◌⊎◌, inl, inr, le_of_suc-le-suc, eq-or-lt_of_le, arith}
use lib.Ieee.{Float, lt, neg, div, mul, of_int, of_bits}
use lib.Ieee.Fits.{and_l, and_r}
use Rattle.elementary.specs.Constants.{most}
use Rattle.elementary.specs.Domain.{InTurns}
use Rattle.layout.specs.declared.layouts.Layout.{Layout}
use Rattle.layout.specs.Layouts.{normal, long, normal_wide, long_wide, slice, slim, half, quarter, sixth, layouts, layout_of}
use Rattle.layout.specs.Known.{phase_of}
use Rattle.layout.specs.Fit.{FitPhases}
use Rattle.layout.proofs.Each.{each}

in_turns : Float → Bool
in_turns p = not (lt most p) && not (lt p (neg most))

-- the first k carriers'
phases : ℕ → ℕ → Bool
phases nc zero = true
phases nc (suc k) = in_turns (phase_of nc k) && phases nc k

at : (nc k : ℕ) → T (phases nc k) → (c : ℕ) → c < k → InTurns (phase_of nc c)
unfolding phases in_turns
at nc zero t c h = absurd (omega arith)
at nc (suc k) t c h = go (eq-or-lt_of_le (le_of_suc-le-suc h)) (at nc k (and_r (in_turns (phase_of nc k)) (phases nc k) t) c)
  where
    go : (c ≡ k) ⊎ (c < k) → (c < k → InTurns (phase_of nc c)) → InTurns (phase_of nc c)
    go (inl e) f =
        let high = not (lt most (phase_of nc k)) in
        let low = not (lt (phase_of nc k) (neg most)) in
        let held = and_l (in_turns (phase_of nc k)) (phases nc k) t in
        rw e (and_l high low held, and_r high low held)
    go (inr l) f = f l

tested : (number : ℕ) → T (phases (layout_of number).nc (layout_of number).nc)
unfolding layouts normal long normal_wide long_wide slice slim half quarter sixth phases in_turns phase_of lt neg div mul of_int of_bits
tested = each (λ (l : Layout). T (phases l.nc l.nc)) (tt, (tt, (tt, (tt, (tt, (tt, (tt, (tt, (tt, tt))))))))) tt

pub phases_fit : (number : ℕ) → FitPhases (layout_of number).nc
unfolding FitPhases
phases_fit number = at (layout_of number).nc (layout_of number).nc (tested number)
