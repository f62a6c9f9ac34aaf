-- `set_model` meets its contract: each table is written in front of its array.
use Rattle.std.proofs.Common.{◌≡◌, ℕ, ◌+◌, ◌*◌, ◌≤◌, ◌<◌, List, ◌++◌, length, take, replicate, refl, ap, ◌∙◌, subst, arith, length-take-le}
use Rattle.std.proofs.lemmas.List.{length-replicate}
use lib.Ieee.{Float}
use lib.Seq.{take-append_seam}
use Rattle.seq.specs.Tab.{tab}
use Rattle.ieee.specs.Num.{zero64}
use Rattle.seq.specs.Tab.Laws.{length_tab}
use Rattle.est.specs.Model.{rf_of, rt_of, rf_at, rt_at, scales_of}
use Rattle.est.proofs.Angles.{rf_angle, rt_angle}
use Rattle.est.proofs.model.set_model.Goals as goal

-- n numbers in front of what is left
front : (n m : ℕ) (f : ℕ → Float) (l rest : List Float) → m ≡ n → l ≡ tab m f → take n (l ++ rest) ≡ tab n f
front n m f l rest k e = subst (λ (j : ℕ). take n (l ++ rest) ≡ tab j f) k (subst (λ (j : ℕ). take j (l ++ rest) ≡ l) (ap length e ∙ length_tab f m ∙ k) (take-append_seam l rest) ∙ e)

-- as long as the front is, and that it is short
taken : (n m : ℕ) → n ≤ m → length (take n (replicate m zero64)) ≡ n
taken n m h = length-take-le n (replicate m zero64) (omega (arith, length-replicate m zero64))

few : (n m : ℕ) → n ≤ m → m ≤ 219 → length (take n (replicate m zero64)) ≤ 219
few n m h k = omega (arith, taken n m h)

pub fill-requires : goal.fill-requires
fill-requires c =
    let s = c.args in
    let n = 2 * s.l.nc + 1 in
    let k : n ≤ 219 = omega (arith, c.requires.nc) in
    (λ i h. rf_angle s.l s.fd s.tm c.requires i (subst (λ (j : ℕ). i < j) (taken n 219 k) h), few n 219 k (omega arith))

pub fill-requires-2 : goal.fill-requires-2
fill-requires-2 c =
    let s = c.args in
    let n = 4 * s.l.gw + 1 in
    let k : n ≤ 49 = omega (arith, c.requires.gw) in
    (λ i h. rw c.doppler_of-d.ensures (rt_angle s.l s.fd s.tm c.requires i (subst (λ (j : ℕ). i < j) (taken n 49 k) h)), few n 49 k (omega arith))

pub returns : goal.returns
unfolding rf_of rt_of rf_at rt_at scales_of
returns c =
    record {
      carriers = refl;
      symbols = refl;
      set = record {
        along_carriers = front (2 * c.args.l.nc + 1) _ _ _ _ (taken (2 * c.args.l.nc + 1) 219 (omega (arith, c.requires.nc))) c.fill.ensures;
        along_symbols = front (4 * c.args.l.gw + 1) _ _ _ _ (taken (4 * c.args.l.gw + 1) 49 (omega (arith, c.requires.gw))) (rw c.doppler_of-d.ensures at c.fill-2.ensures);
        scales = rw (c.narrow.ensures, c.narrow-2.ensures, c.min64.ensures, c.doppler_of-d.ensures);
      };
    }
