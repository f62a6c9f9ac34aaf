-- `ieee::shifted` meets its contract. Assumes nothing.
use mathlib.Core.Path.{◌≡◌, sym, ap, ◌∙◌}
use Prim.Native.Nat.{ℕ, ◌+◌, ◌-◌, ◌*◌, ◌/◌, ◌%◌, ◌^◌, ◌≤◌}
use native.Mathlib.Nat.{one-mul}
use native.Mathlib.Omega.{arith}
use lib.Dec.{lit<}
use lib.Pow.{pow_pos, shl_exact}
use lib.Ieee.Nearest.{closest}
use Rattle.ieee.proofs.Codec.{twice_hid, closest_add}
use Rattle.ieee.proofs.convert.shifted.Goals as goal

one_shl : (sh : ℕ) → sh ≤ 60 → 1 * 2 ^ (sh - 1) % 2 ^ 64 ≡ 2 ^ (sh - 1)
one_shl sh h = shl_exact {a = 1} 1 (sh - 1) 64 (lit< tt) (omega arith) ∙ one-mul (2 ^ (sh - 1))

sum_is : (q sh : ℕ) → 1 ≤ sh → sh ≤ 60 → (q + (1 * 2 ^ (sh - 1) % 2 ^ 64 - 1) + q / 2 ^ sh % 2) / 2 ^ sh ≡ closest q (2 ^ sh)
sum_is q sh a b =
    let h = 2 ^ (sh - 1) in
    ap (λ (x : ℕ). (q + (x - 1) + q / 2 ^ sh % 2) / 2 ^ sh) (one_shl sh b)
    ∙ ap (λ (x : ℕ). (q + (h - 1) + q / x % 2) / x) (twice_hid sh a)
    ∙ sym (closest_add q h (pow_pos (sh - 1)))
    ∙ ap (λ (x : ℕ). closest q x) (sym (twice_hid sh a))

pub returns : goal.returns
returns c = sum_is c.args.q c.args.sh c.requires.1.0 c.requires.1.1
