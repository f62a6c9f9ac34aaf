-- The laws of the demapper. Assumes nothing.
use Prim.Native.Nat.{ℕ, ◌^◌, ◌≤◌, ◌<◌}
use mathlib.Core.Path.{◌≡◌, subst}
use mathlib.Core.Bool.{not}
use mathlib.Core.List.{List}
use mathlib.Core.Logic.{inl, inr}
use native.Mathlib.Omega.{arith}
use lib.Dec.{T}
use lib.ListN.{drop}
use lib.Ieee.{Float, nan, inf, fin, binary32, neg, lt, le, is_nan, of_bits}
use lib.Ieee.Fits.{sub-fits}
use lib.Ieee.Scale.{finite}
use Rattle.seq.specs.Tab.Laws.{length_tab, get_d_tab}
use Rattle.ieee.specs.Num.{◌⊟◌}
use Rattle.ieee.specs.Nearest.{Of}
use Rattle.ieee.specs.Order.{is_finite}
use Rattle.ieee.proofs.Orders.{clamp_laws}
use Rattle.elementary.specs.Domain.{Number}
use Rattle.points.specs.Table.{point_at}
use Rattle.points.proofs.Counts.{at_most_64}
use Rattle.soft.specs.Tree.{page}
use Rattle.demap.specs.declared.metrics.Cell.{Cell}
use Rattle.demap.specs.Demap.{at, lowest, limit, metric_of, metrics_of, top_of, sum_of, side_of, likelihood_of, likelihoods}
use Rattle.demap.specs.Laws.{Within, OneEach}
use Rattle.demap.proofs.Top.{Taken, Found, found}
use Rattle.demap.proofs.Sums.{label, label_below, label_own, wider, sum_range}
use Rattle.demap.proofs.Sharing.{tabbed_at}
use Rattle.demap.proofs.Logarithm.{ln_small}
use Rattle.demap.proofs.Finite.{sub_number, add_finite}

pub one_each : OneEach
unfolding OneEach likelihoods
one_each c pts bps = length_tab (likelihood_of (metrics_of c pts bps) bps) bps

-- ---- of finite metrics

over_lowest : (x : Float) → T (finite x) → T (not (lt lowest x)) → ⊥
unfolding lt
over_lowest nan p h = p
over_lowest (inf s) p h = p
over_lowest (fin s m e) p h = h

module _ (d : List Float) (bps b : ℕ) (B : b < bps) (six : bps ≤ 6) (all : (k : ℕ) → k < 2 ^ bps → Of binary32 (at d k)) where
  top_held : (bit : ℕ) → bit < 2 → Of binary32 (top_of d bps b bit)
  top_held bit two = go f.taken
    where
      m : Float
      m = top_of d bps b bit

      f : Found d bps b bit (2 ^ bps) m
      f = found d bps b bit

      go : Taken d bps b bit (2 ^ bps) m → Of binary32 m
      go (inl e) =
          let j = label bps b bit B two in
          let h = label_below bps b bit B two in
          absurd (over_lowest (at d j) (all j h).1 (rw e at (f.most j h (label_own bps b bit B two))))
      go (inr q) = rw q.3 (all q.0 q.1)

  side_finite : (bit : ℕ) → bit < 2 → T (finite (side_of d bps b bit))
  unfolding side_of is_nan
  side_finite bit two =
      let m = top_held bit two in
      add_finite (top_of d bps b bit) _ m
      (elim (wider (at_most_64 bps six) (sum_range d bps b bit B six two)) [
        | inl q ↦ absurd (subst (λ (z : Float). Number z) q.0.2 (sub_number (at d q.0.0) (top_of d bps b bit) (all q.0.0 q.0.1).1 m.1))
        | inr l ↦ ln_small (sum_of d bps b bit) l
      ])

  likelihood_number : Number (side_of d bps b 0 ⊟ side_of d bps b 1)
  likelihood_number = sub_number (side_of d bps b 0) (side_of d bps b 1) (side_finite 0 (omega arith)) (side_finite 1 (omega arith))

-- ---- of a cell

pub metrics_at : (c : Cell) (pts : List Float) (bps k : ℕ) → k < 2 ^ bps → at (metrics_of c pts bps) k ≡ metric_of c (point_at pts k)
unfolding metrics_of
metrics_at c pts bps k h = tabbed_at (λ j. metric_of c (point_at pts j)) (2 ^ bps) (drop (2 ^ bps) page) k h

is_finite_lem : (x : Float) → T (is_finite x) → T (finite x)
unfolding is_finite
is_finite_lem nan h = h
is_finite_lem (inf s) h = h
is_finite_lem (fin s m e) h = tt

metric_held : (c : Cell) (pts : List Float) (k : ℕ) → T (is_finite (metric_of c (point_at pts k))) → Of binary32 (metric_of c (point_at pts k))
unfolding metric_of
metric_held c pts k h = (sub-fits binary32 _ _, is_finite_lem (metric_of c (point_at pts k)) h)

ordered : T (le (neg limit) limit)
unfolding le neg of_bits
ordered = tt

pub within : Within
unfolding Within likelihoods likelihood_of
within c pts bps six all b B =
    let d = metrics_of c pts bps in
    let n = likelihood_number d bps b B six (λ k h. rw (metrics_at c pts bps k h) (metric_held c pts k (all k h))) in
    let l = side_of d bps b 0 ⊟ side_of d bps b 1 in
    rw (get_d_tab (likelihood_of d bps) bps b nan B) (clamp_laws.low l (neg limit) limit n ordered, clamp_laws.high l (neg limit) limit n ordered)
