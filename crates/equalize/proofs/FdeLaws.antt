-- `fde_of` writes m complex numbers, and reads no more than m of each list.
use Prim.Native.Nat.{ℕ, ◌*◌}
use mathlib.Core.Path.{◌≡◌, ap, ap₂}
use mathlib.Core.List.{List}
use native.Mathlib.Omega.{arith}
use lib.ListN.{length}
use lib.Ieee.{Float}
use Rattle.seq.specs.Loop.Laws.{for_same}
use Rattle.seq.specs.Cat.Laws.{cat-same}
use Rattle.spread.specs.Spreader.{inverse_of}
use Rattle.spread.proofs.Pairs.{length_pairs}
use Rattle.spread.proofs.Spreading.{length_inverse}
use Rattle.equalize.specs.declared.equalizer.FdeSums.{FdeSums}
use Rattle.equalize.specs.Answer.{Answer}
use Rattle.equalize.specs.Filter.{channel_of}
use Rattle.equalize.specs.Fde.{none, weight, turn, filtered, carriers_of, result_of, fde_of}
use Rattle.equalize.specs.Laws.{Alike, Same, FdeLaws}
use Rattle.equalize.proofs.Stages.{answer}

pub length_carriers : (m : ℕ) (y h v : List Float) (gain : Float) → length (carriers_of m y h v gain).z ≡ 2 * m
unfolding carriers_of
length_carriers m y h v gain = length_pairs (filtered h v gain y) m

carriers_read : (m : ℕ) (gain : Float) (y y' h h' v v' : List Float) → Alike m y y' → Alike m h h' → Same m v v' → carriers_of m y h v gain ≡ carriers_of m y' h' v' gain
unfolding carriers_of turn filtered weight channel_of
carriers_read m gain y y' h h' v v' sy sh sv =
    ap₂ answer
    (for_same (turn h v gain) (turn h' v' gain) 0 m none (λ j s a b. rw (sh j (omega arith), sv j (omega arith))))
    (cat-same m _ _ (λ j b. rw (sy j b, sh j b, sv j b)))

pub fde_laws : FdeLaws
unfolding fde_of
fde_laws = record {
  count = λ m tw y h v gain. length_inverse m tw (carriers_of m y h v gain).z;
  reads = λ m tw gain y y' h h' v v' sy sh sv.
      ap (λ (a : Answer FdeSums). answer (result_of m a.result) (inverse_of m tw a.z)) (carriers_read m gain y y' h h' v v' sy sh sv);
}
