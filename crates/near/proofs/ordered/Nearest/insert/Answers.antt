-- `insert` meets its contract, by the three ways that it goes.
use Prim.Native.Nat.{ℕ, ◌-◌, ◌+◌, ◌≤◌}
use mathlib.Core.List.{List}
use mathlib.Core.Path.{◌≡◌, ap, sym, subst, ◌∙◌}
use native.Mathlib.Omega.{arith}
use lib.ListN.{length, take}
use Rattle.std.proofs.Common.{length-take-le}
use Rattle.near.specs.Nearest.{insert}
use Rattle.near.specs.Walk.{same, Chain}
use Rattle.near.proofs.Places.{chain_insert, chain_shorter, no_room, too_far}
use Rattle.near.proofs.ordered.Nearest.insert.Goals as goal

pub invariant_of-self : goal.invariant_of-self
invariant_of-self c =
    let i = c.self.inside in
    (omega arith, subst (Chain same 0) (sym c.put_in.ensures) (chain_insert same c.args.x 0 (take i.n i.a) (omega arith) c.self.invariant.1))

-- there are k of them
full : (a l : List ℕ) (n k : ℕ) → n ≤ length a → take n a ≡ l → length l ≤ k → k ≤ n → n ≡ k
full a l n k h e h' h'' = omega (arith, length-take-le n a h, ap length e)

pub put_in-requires-then-x-self : goal.put_in-requires-then-x-self
put_in-requires-then-x-self c =
    let i = c.self.inside in
    (omega arith, chain_shorter same (c.args.k - 1) i.n i.a (omega arith) c.self.invariant.1)

pub invariant_of-self-then-x-self : goal.invariant_of-self-then-x-self
invariant_of-self-then-x-self c =
    let s = c.args in
    let i = c.self.inside in
    let e = full i.a s.self.now i.n s.k (omega arith) c.self.view_is c.requires.2 (omega arith) in
    let e' : s.k - 1 + 1 ≡ i.n = omega arith in
    let chain = chain_insert same s.x 0 (take (s.k - 1) i.a) (omega arith) (chain_shorter same (s.k - 1) i.n i.a (omega arith) c.self.invariant.1) in
    (omega arith, subst (λ (m : ℕ). Chain same 0 (take m c.put_in-then-x-self.new.a)) e' (subst (Chain same 0) (sym c.put_in-then-x-self.ensures) chain))

pub returns-then-x-self : goal.returns-then-x-self
returns-then-x-self c =
    let s = c.args in
    let i = c.self.inside in
    let b = c.put_in-then-x-self.new.a in
    let e = full i.a s.self.now i.n s.k (omega arith) c.self.view_is c.requires.2 (omega arith) in
    ap (λ (m : ℕ). take m b) e
    ∙ (no_room i.a b i.n s.k s.x (omega arith) (omega arith) e c.if-x-self.true c.put_in-then-x-self.ensures
    ∙ ap (λ (l : List ℕ). take s.k (insert same s.x l)) c.self.view_is)

pub returns-else-x-self : goal.returns-else-x-self
returns-else-x-self c =
    let s = c.args in
    let i = c.self.inside in
    let e = full i.a s.self.now i.n s.k (omega arith) c.self.view_is c.requires.2 (omega arith) in
    sym c.self.view_is
    ∙ (ap (λ (m : ℕ). take m i.a) e
    ∙ (too_far i.a i.a i.n s.k s.x (omega arith) (omega arith) e c.self.invariant.1 c.if-x-self.false
    ∙ ap (λ (l : List ℕ). take s.k (insert same s.x l)) c.self.view_is))
