-- `sum_pilots` meets its contract: each step adds a pilot.
use Rattle.std.proofs.Common.{rules, ◌≡◌, ◌+◌, ◌<◌, ◌≤◌, length, arith}
use Rattle.seq.specs.Tab.Laws.{length_tab}
use Rattle.load.specs.Pilots.{listed, pilot_at}
use Rattle.est.specs.declared.estimator.Estimator.{Estimator}
use Rattle.model.specs.Score.{turn, summed}
use Rattle.model.proofs.Strides.{stride_pos, stepped_first, stepped_next, stepped_last, stepped_none}
use Rattle.model.proofs.trial.sum_pilots.Goals as goal

counted : (e : Estimator) → length (listed e.pilots) ≡ length e.pilots.c.now
counted e = length_tab (pilot_at e.pilots.c.now e.pilots.g.now e.pilots.f.now) (length e.pilots.c.now)

pub nonzero_div-i-step : goal.nonzero_div-i-step
nonzero_div-i-step c = rw c.stride-i-step.ensures (stride_pos c.len-np.result)

pub loop-i-init : goal.loop-i-init
loop-i-init c = (c.stride-i-step.ensures, stepped_first _ _ _)

pub add_pilot-t-requires : goal.add_pilot-t-requires
add_pilot-t-requires c = omega (arith, c.loop-i-test.true, c.len-np.ensures, counted c.args.e.now)

pub loop-i-smaller : goal.loop-i-smaller
loop-i-smaller c = omega (arith, c.loop-i-test.true, c.stride-i-step.ensures, stride_pos c.len-np.result)

pub loop-i-preserved : goal.loop-i-preserved
unfolding turn
loop-i-preserved c =
    let i = c.loop-i.invariant in
    let h : c.loop-i.i + c.stride-i-step.result < c.len-np.result = search rules in
    (i.0, rw i.0 (stepped_next _ _ _ _ _ _ i.1 (rw (← c.len-np.ensures, ← i.1.at) c.add_pilot-t.ensures) (rw i.0 at h)))

pub returns : goal.returns
unfolding summed
returns c = let i = c.loop-i.invariant in rw (← c.len-np.ensures) (stepped_none _ _ _ _ _ i.1 (omega (arith, c.loop-i-test.false)))

pub returns-2 : goal.returns-2
unfolding turn summed
returns-2 c =
    let i = c.loop-i.invariant in
    let h : c.len-np.result ≤ c.loop-i.i + c.stride-i-step.result = search rules in
    rw (← c.len-np.ensures) (stepped_last _ _ _ _ _ _ i.1 (rw (← c.len-np.ensures, ← i.1.at) c.add_pilot-t.ensures) c.loop-i-test.true (rw i.0 at h))
