-- `for i in a..b { s = f(i, s) }` and `for i in (0..n).rev() { s = f(i, s) }` as functions of the state s. Outside this
-- module only the laws of `Laws` open them.
pub mod Laws
use Rattle.std.specs.Prelude.{ℕ, zero, suc, ◌+◌, ◌-◌}

-- the state after n turns, the first of them at a
turns : {S : Type 0} → (ℕ → S → S) → ℕ → ℕ → S → S
turns f a zero s = s
turns f a (suc n) s = f (a + n) (turns f a n s)

-- the state after the turns a, a + 1, .., b - 1, from s
pub for : {S : Type 0} → ℕ → ℕ → (ℕ → S → S) → S → S
for a b f s = turns f a (b - a) s

-- the state after the turns n - 1, .., 1, 0, from s
pub back : {S : Type 0} → ℕ → (ℕ → S → S) → S → S
back zero f s = s
back (suc n) f s = back n f (f n s)
