-- Lists one after the other, as a loop that gives each its stretch of an answer writes them. Outside this module only
-- the laws of `Laws` open it.
pub mod Laws
use Rattle.std.specs.Prelude.{ℕ, zero, suc, List, [], ◌++◌}

-- f 0, .., f (k - 1), joined
pub cat {ℓ} : {A : Type ℓ} → ℕ → (ℕ → List A) → List A
cat zero f = []
cat (suc k) f = cat k f ++ f k
