-- A list written out of order, each element at a place of its own, as an interleaver writes it. Outside this module
-- only the laws of `Laws` open `fill`.
pub mod Laws
use Rattle.std.specs.Prelude.{ℕ, zero, suc, ◌<◌, ◌≡◌, List, set}

-- l with the value of i put at place i, for i = 0, .., k - 1
pub fill {ℓ} : {A : Type ℓ} → (ℕ → ℕ) → (ℕ → A) → ℕ → List A → List A
fill place val zero l = l
fill place val (suc k) l = set (fill place val k l) (place k) (val k)

-- of the n places below n each is taken, and by one i below n
pub record EachOnce (n : ℕ) (place : ℕ → ℕ) : Type 0 where
  pub within : (i : ℕ) → i < n → place i < n
  pub once : (i j : ℕ) → i < n → j < n → place i ≡ place j → i ≡ j
  pub taken : (s : ℕ) → s < n → (i : ℕ) × (i < n) × (place i ≡ s)
