-- A list by its elements' rule, as a loop that counts up writes it. Outside this module only the laws of `Laws` open
-- it.
pub mod Laws
use Rattle.std.specs.Prelude.{ℕ, zero, suc, List, [], ◌∷◌, ◌++◌}

-- f 0, .., f (k - 1)
pub tab {ℓ} : {A : Type ℓ} → ℕ → (ℕ → A) → List A
tab zero f = []
tab (suc k) f = tab k f ++ (f k ∷ [])
