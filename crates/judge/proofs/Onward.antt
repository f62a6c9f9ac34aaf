-- One symbol more is judged. Assumes nothing.
use Prim.Native.Nat.{ℕ, ◌+◌, ◌*◌, ◌<◌}
use mathlib.Core.Path.{◌≡◌, refl, sym, ap, ap₂, ◌∙◌}
use mathlib.Core.Bool.{true, false}
use mathlib.Core.List.{List, ◌++◌}
use native.Mathlib.Nat.{mul_assoc}
use native.Mathlib.Omega.{arith}
use lib.ListN.{get_or, drop}
use lib.Ieee.{Float, nan}
use Rattle.seq.specs.Cat.{cat}
use Rattle.seq.specs.Cat.Laws.{cat-same, get_d_cat}
use Rattle.dsp.specs.declared.Complex.{Complex}
use Rattle.dsp.specs.Arithmetic.{complex}
use Rattle.load.specs.declared.pilot.Pilot.{Pilot}
use Rattle.load.specs.declared.found.Source.{Source}
use Rattle.load.specs.Find.{mean_at}
use Rattle.est.specs.declared.combine.Estimate.{Estimate}
use Rattle.expect.specs.declared.Shape.{Shape}
use Rattle.judge.specs.declared.estimates.Fitted.{Fitted}
use Rattle.judge.specs.Cells.{estimate_at, estimate_for, estimate_in, numbers_of}
use Rattle.judge.specs.Judge.{demapped, equalized, despread, judged}
use Rattle.judge.specs.Fit.{FitCells}
use Rattle.judge.specs.Upto.{Upto}
use Rattle.judge.proofs.Placed.{row_symbol, row_number, row_cell}
use Rattle.judge.proofs.Own.{estimate_own}
use Rattle.judge.proofs.Laws.{length_judged}
use Rattle.judge.proofs.Rows.{lent_of, returned_to, symbol_step, symbol_lent}
use Rattle.judge.proofs.Equalizing.{equalized_same}

abbrev estimate : Complex → Float → Estimate
estimate h mse = record { h = h; mse = mse }

-- an estimate read back from a row of them
estimate_back : (E : ℕ → Estimate) (n j : ℕ) → j < n → estimate_in (cat n (λ k. numbers_of (E k))) j ≡ E j
estimate_back E n j h =
    let row = cat n (λ k. numbers_of (E k)) in
    let part : (i : ℕ) → i < 3 → get_or row (j * 3 + i) nan ≡ get_or (numbers_of (E j)) i nan = λ i b. get_d_cat 3 (λ k. numbers_of (E k)) nan (λ k. refl) n j i h b in
    let a : j * 3 + 0 ≡ 3 * j = omega arith in
    let b : j * 3 + 1 ≡ 3 * j + 1 = omega arith in
    let d : j * 3 + 2 ≡ 3 * j + 2 = omega arith in
    ap₂ estimate (ap₂ complex (rw a at (part 0 (omega arith))) (rw b at (part 1 (omega arith)))) (rw d at (part 2 (omega arith)))

module _ (s : Source) (m : Shape) (f : Fitted) (ps : List Pilot) (start : List ℕ) (rf rt pts soft grid cells : List Float) (fit : FitCells s) (t : ℕ) (ht : s.map.hdr_end + t < s.ng) (e : List Float) where
  abbrev est : ℕ → Estimate
  est = estimate_at s ps start f rf rt cells e

  -- the row's expected values are those of e, though cells before it are overwritten
  row_estimated : (channel : List Float) → channel ≡ cat (t * s.dc) (λ cell. numbers_of (est cell)) ++ drop (t * s.dc * 3) e
      → cat s.dc (λ j. numbers_of (estimate_for s ps start f rf rt (mean_at (lent_of (s.dc * 3) t channel) j) (t * s.dc + j)))
      ≡ cat s.dc (λ j. numbers_of (est (t * s.dc + j)))
  row_estimated channel h =
      cat-same s.dc _ (λ j. numbers_of (est (t * s.dc + j)))
      (λ j b.
      let part : (i : ℕ) → i < 2 → get_or (lent_of (s.dc * 3) t channel) (3 * j + i) nan ≡ get_or e (3 * (t * s.dc + j) + i) nan =
      λ i u.
      let q : t * (s.dc * 3) + (3 * j + i) ≡ 3 * (t * s.dc + j) + i = omega (arith, mul_assoc t s.dc 3) in
      rw q at (symbol_lent 3 s.dc (λ cell. numbers_of (est cell)) (λ k. refl) t (3 * j + i) nan e channel (omega arith) h) in
      let z : 3 * j + 0 ≡ 3 * j = omega arith in
      let z' : 3 * (t * s.dc + j) + 0 ≡ 3 * (t * s.dc + j) = omega arith in
      let x : mean_at (lent_of (s.dc * 3) t channel) j ≡ mean_at e (t * s.dc + j) =
      ap₂ complex (rw (z, z') at (part 0 (omega arith))) (part 1 (omega arith)) in
      ap numbers_of (ap (λ (y : Complex). estimate_for s ps start f rf rt y (t * s.dc + j)) x ∙ sym (estimate_own s cells e fit ps start (t * s.dc + j) (row_cell s fit t j ht b) f rf rt)))

  module _ (row : List Float) (er : row ≡ cat s.dc (λ j. numbers_of (est (t * s.dc + j)))) where
    back : (j : ℕ) → j < s.dc → estimate_in row j ≡ est (t * s.dc + j)
    back j b = rw er (estimate_back (λ k. est (t * s.dc + k)) s.dc j b)

    plain_row : m.spread ≡ false → cat s.dc (λ j. demapped s pts m.bps grid cells (t * s.dc + j) (estimate_in row j)) ≡ cat s.dc (λ j. judged s m pts soft grid cells est (t * s.dc + j))
    unfolding judged
    plain_row h =
        cat-same s.dc _ _ (λ j b. rw h (ap (demapped s pts m.bps grid cells (t * s.dc + j)) (back j b)))

    spread_row_lem : m.spread ≡ true
        → cat s.dc (despread pts m.bps (equalized s m.gain soft grid cells (estimate_in row) t)) ≡ cat s.dc (λ j. judged s m pts soft grid cells est (t * s.dc + j))
    unfolding judged
    spread_row_lem h =
        cat-same s.dc _ _
        (λ j b. rw (h, row_symbol s fit t j b, row_number s fit t j b, equalized_same s m.gain soft grid cells (estimate_in row) t (λ k. est (t * s.dc + k)) (λ k u. back k u)))

  module _ (a channel answer : List Float) (u : Upto s m f ps start rf rt pts soft grid cells (t * s.dc) e a channel answer) (row out : List Float)
      (er : row ≡ cat s.dc (λ j. numbers_of (estimate_for s ps start f rf rt (mean_at (lent_of (s.dc * 3) t channel) j) (t * s.dc + j)))) where
    abbrev Next : Type 0
    Next = Upto s m f ps start rf rt pts soft grid cells (t * s.dc + s.dc) e a
        (returned_to (s.dc * 3) t channel row)
        (returned_to (s.dc * m.bps) t answer out)

    estimates : row ≡ cat s.dc (λ j. numbers_of (est (t * s.dc + j)))
    estimates = er ∙ row_estimated channel u.channel

    next : out ≡ cat s.dc (λ j. judged s m pts soft grid cells est (t * s.dc + j)) → Next
    next eo = record {
      channel = symbol_step 3 s.dc (λ cell. numbers_of (est cell)) (λ k. refl) t e channel row u.channel estimates;
      answer = symbol_step m.bps s.dc (judged s m pts soft grid cells est) (length_judged s m pts soft grid cells est) t a answer out u.answer eo;
    }

    pub plain_next : m.spread ≡ false → out ≡ cat s.dc (λ j. demapped s pts m.bps grid cells (t * s.dc + j) (estimate_in row j)) → Next
    plain_next h eo = next (eo ∙ plain_row row estimates h)

    pub spread_next : m.spread ≡ true → out ≡ cat s.dc (despread pts m.bps (equalized s m.gain soft grid cells (estimate_in row) t)) → Next
    spread_next h eo = next (eo ∙ spread_row_lem row estimates h)
