-- The eight angles of 8PSK are ones that sin and cos are asked for. Assumes nothing.
use Prim.Native.Nat.{ℕ, ◌<◌}
use mathlib.Core.Bool.{Bool, not, ◌&&◌}
use lib.Dec.{T}
use lib.Ieee.{add, mul, div, lt, neg, of_bits, of_int}
use lib.Ieee.Fits.{and_l, and_r}
use Rattle.elementary.specs.Constants.{most}
use Rattle.points.specs.Constellation.{angle}
use Rattle.points.proofs.Below.{all_at}

in_turns : ℕ → Bool
in_turns m = not (lt most (angle m)) && not (lt (angle m) (neg most))

pub angle_in_turns : (m : ℕ) → m < 8 → T (not (lt most (angle m))) × T (not (lt (angle m) (neg most)))
unfolding in_turns angle add mul div lt neg of_bits of_int
angle_in_turns m h =
    let t : T (in_turns m) = all_at 8 in_turns tt m h in
    let low = not (lt most (angle m)) in
    let high = not (lt (angle m) (neg most)) in
    (and_l low high t, and_r low high t)
