-- What `expect` asks for and what it leaves.
use Rattle.std.specs.Prelude.{◌*◌, ◌≤◌, ◌≡◌, true, false, List, ◌++◌, length, drop, Float}
use Rattle.expect.specs.declared.Shape.{Shape}
use Rattle.expect.specs.Expect.{soft_cells, expected_of}

pub record Fit (s : Shape) (slots soft out : List Float) : Type 0 where
  pub carriers : 1 ≤ s.dc
  pub few : s.dc ≤ 109
  pub bits : s.bps ≤ 6
  pub long_slots : s.nsym * s.dc * s.bps ≤ length slots
  pub long_soft : s.nsym * s.dc * 3 ≤ length soft
  pub long_out : s.nsym * s.dc * 3 ≤ length out

-- the soft points of a spread burst stay in the list soft
pub record Expects (s : Shape) (unit slots soft₀ soft₁ out₀ out₁ : List Float) : Type 0 where
  pub expected : out₁ ≡ expected_of s unit slots ++ drop (s.nsym * s.dc * 3) out₀
  pub points : s.spread ≡ true → soft₁ ≡ soft_cells unit s.bps (s.nsym * s.dc) slots ++ drop (s.nsym * s.dc * 3) soft₀
  pub kept : s.spread ≡ false → soft₁ ≡ soft₀
