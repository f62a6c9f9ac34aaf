-- What an equalizer is lent, and what its answer is.
use Rattle.std.specs.Prelude.{ℕ, ◌*◌, ◌≤◌, ◌≡◌, List, ◌++◌, length, drop, Float}

-- complex numbers of m carriers in y, h and z, and their variances in v
pub record Room (m : ℕ) (y h v z : List Float) : Type 0 where
  pub most : m ≤ 109
  pub in_y : 2 * m ≤ length y
  pub in_h : 2 * m ≤ length h
  pub in_v : m ≤ length v
  pub in_z : 2 * m ≤ length z

-- what is returned, and the m complex numbers written to z
pub record Answer (R : Type 0) : Type 0 where
  pub result : R
  pub z : List Float

-- r was returned, and z₀ became z: what stands past the m numbers is kept
pub record Equalizes {R : Type 0} (m : ℕ) (a : Answer R) (r : R) (z₀ z : List Float) : Type 0 where
  pub result : r ≡ a.result
  pub symbols : z ≡ a.z ++ drop (2 * m) z₀
