-- `estimate_excl` meets its contract.
use Rattle.std.proofs.Common.{◌≡◌, ℕ, ◌≤◌, List, length, take, sym, refl, ◌∙◌, arith, length-take-le}
use Rattle.est.specs.declared.estimator.Estimator.{Estimator}
use Rattle.est.proofs.Chosen.{may_fetch, some, none_near}
use Rattle.est.proofs.estimator.Estimator.estimate_excl.Goals as goal

-- idx has room for them
counted : (e : Estimator) (n : ℕ) (idx : List ℕ) → n ≤ e.window.k → length idx ≡ 40 → length (take n idx) ≡ n
counted e n idx h h' = length-take-le n idx (omega (arith, e.most))

pub returns-then-n-eq0 : goal.returns-then-n-eq0
returns-then-n-eq0 c =
    let s = c.args in
    let k = c.pick-n in
    none_near s.self.now s.c s.g _ c.requires.0 c.requires.1 _ k.ensures.same (counted s.self.now k.result k.new.idx k.ensures.most k.auto.idx ∙ c.if-n-eq0.true)

pub estimate_of-requires : goal.estimate_of-requires
estimate_of-requires c =
    let s = c.args in
    let e = s.self.now in
    let k = c.pick-n in
    may_fetch e s.c s.g _ c.requires.0 c.requires.1 _ k.ensures.same _ refl refl (omega (arith, counted e k.result k.new.idx k.ensures.most k.auto.idx, k.ensures.most, e.most))

pub returns : goal.returns
returns c =
    let s = c.args in
    let e = s.self.now in
    let k = c.pick-n in
    some e s.c s.g _ c.requires.0 c.requires.1 _ k.ensures.same _ (λ z. c.if-n-eq0.false (sym (counted e k.result k.new.idx k.ensures.most k.auto.idx) ∙ z)) (rw c.f32_to_f64_with_nan.ensures at c.estimate_of.ensures)
