-- `sic_of` writes m complex numbers, and reads no more than m of each list.
use Prim.Native.Nat.{ℕ, ◌*◌}
use mathlib.Core.Path.{◌≡◌, refl, ap, ap₂}
use mathlib.Core.List.{List}
use native.Mathlib.Omega.{arith}
use lib.ListN.{length}
use lib.Ieee.{Float}
use Rattle.seq.specs.Loop.Laws.{for_same}
use Rattle.seq.specs.Cat.Laws.{cat-same}
use Rattle.spread.specs.Spreader.{forward_of, inverse_of}
use Rattle.spread.proofs.Pairs.{length_pairs}
use Rattle.equalize.specs.Filter.{channel_of}
use Rattle.equalize.specs.Sic.{none, weight, turn, filtered, carriers_of, result_of, restored_at, restored, sic_of}
use Rattle.equalize.specs.Laws.{Alike, Same, SicLaws}
use Rattle.equalize.proofs.Stages.{answer, forward_reads}

pub length_carriers : (m : ℕ) (y h v : List Float) (gain : Float) (xs : List Float) (vx : Float) → length (carriers_of m y h v gain xs vx).z ≡ 2 * m
unfolding carriers_of
length_carriers m y h v gain xs vx = length_pairs (filtered h v gain vx y xs) m

pub carriers_read : (m : ℕ) (gain vx : Float) (y y' h h' v v' xs xs' : List Float) → Alike m y y' → Alike m h h' → Same m v v' → Alike m xs xs'
    → carriers_of m y h v gain xs vx ≡ carriers_of m y' h' v' gain xs' vx
unfolding carriers_of turn filtered weight channel_of
carriers_read m gain vx y y' h h' v v' xs xs' sy sh sv sx =
    ap₂ answer
    (for_same (turn h v gain vx) (turn h' v' gain vx) 0 m none (λ j s a b. rw (sh j (omega arith), sv j (omega arith))))
    (cat-same m _ _ (λ j b. rw (sy j b, sh j b, sv j b, sx j b)))

pub length_restored : (m : ℕ) (mu : Float) (xm z : List Float) → length (restored m mu xm z) ≡ 2 * m
unfolding restored
length_restored m mu xm z = length_pairs (restored_at mu xm z) m

pub restored_reads : (m : ℕ) (mu : Float) (xm xm' z z' : List Float) → Alike m xm xm' → Alike m z z' → restored m mu xm z ≡ restored m mu xm' z'
unfolding restored restored_at
restored_reads m mu xm xm' z z' sx sz = cat-same m _ _ (λ j b. rw (sx j b, sz j b))

sic_reads : (m : ℕ) (tw : List Float) (gain vx : Float) (y y' h h' v v' xm xm' : List Float) → Alike m y y' → Alike m h h' → Same m v v' → Alike m xm xm'
    → sic_of m tw y h v gain xm vx ≡ sic_of m tw y' h' v' gain xm' vx
unfolding sic_of
sic_reads m tw gain vx y y' h h' v v' xm xm' sy sh sv sx =
    let a = carriers_of m y' h' v' gain (forward_of m tw xm') vx in
    let r = result_of m vx a.result in
    rw (forward_reads m tw xm xm' sx, carriers_read m gain vx y y' h h' v v' (forward_of m tw xm') (forward_of m tw xm') sy sh sv (λ j b. refl))
    (ap (answer r) (restored_reads m r.mu xm xm' (inverse_of m tw a.z) (inverse_of m tw a.z) sx (λ j b. refl)))

pub sic_laws : SicLaws
unfolding sic_of
sic_laws = record { count = λ m tw y h v gain xm vx. length_restored m _ xm _; reads = sic_reads }
