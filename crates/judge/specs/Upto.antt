-- How far a burst is judged: channel and answer hold the first n cells' numbers, and past them what they held as
-- judging began, the expected values e and a.
use Rattle.std.specs.Prelude.{ℕ, ◌*◌, ◌≡◌, List, ◌++◌, drop, Float}
use Rattle.seq.specs.Cat.{cat}
use Rattle.load.specs.declared.pilot.Pilot.{Pilot}
use Rattle.load.specs.declared.found.Source.{Source}
use Rattle.expect.specs.declared.Shape.{Shape}
use Rattle.judge.specs.declared.estimates.Fitted.{Fitted}
use Rattle.judge.specs.Cells.{estimate_at, numbers_of}
use Rattle.judge.specs.Judge.{judged}

pub record Upto (s : Source) (m : Shape) (f : Fitted) (ps : List Pilot) (start : List ℕ) (rf rt pts soft grid cells : List Float) (n : ℕ) (e a channel₁ answer₁ : List Float) : Type 0 where
  pub channel : channel₁ ≡ cat n (λ cell. numbers_of (estimate_at s ps start f rf rt cells e cell)) ++ drop (n * 3) e
  pub answer : answer₁ ≡ cat n (judged s m pts soft grid cells (estimate_at s ps start f rf rt cells e)) ++ drop (n * m.bps) a
