-- The steps of the path, joined, are the definition. Assumes nothing.
use Prim.Native.Nat.{ℕ, ◌+◌, ◌*◌, ◌≤◌}
use mathlib.Core.Path.{◌≡◌, refl, ap, ◌∙◌}
use mathlib.Core.Bool.{Bool, true, false}
use mathlib.Core.List.{List, ◌++◌}
use native.Mathlib.Omega.{arith}
use lib.ListN.{length, take, drop}
use lib.Seq.{take-take}
use lib.Ieee.{Float}
use Rattle.seq.specs.Cat.{cat}
use Rattle.seq.specs.Cat.Laws.{cat-same}
use Rattle.bits.specs.Slots.{bit_order}
use Rattle.layout.specs.Maps.{map_of}
use Rattle.load.specs.declared.found.Source.{Source}
use Rattle.load.specs.declared.found.Found.{Found}
use Rattle.load.specs.Fit.{places}
use Rattle.load.specs.Load.{loaded}
use Rattle.load.specs.Work.{Loads}
use Rattle.load.proofs.Starts.{few_loaded}
use Rattle.est.specs.declared.combine.Estimate.{Estimate}
use Rattle.model.specs.declared.select.Model.{Model}
use Rattle.model.specs.Select.{select_model}
use Rattle.expect.specs.declared.Shape.{Shape}
use Rattle.judge.specs.Cells.{numbers_of, estimate_at}
use Rattle.judge.specs.Judge.{judged}
use Rattle.judge.proofs.Rows.{whole}
use Rattle.refine.specs.declared.settings.Plan.{Plan}
use Rattle.refine.specs.Refine.{Burst, unit, nsym, dc, ncell, nbits, source, shape, expected, soft_points, found, pilots, starts, slots, model, estimate_under, estimate, channel_of, slot_likelihoods, answer_of, spoilt_of, refined_of, Refines, fitted_of, carrier_table, symbol_table, setting}
use Rattle.refine.specs.Plan.{plan_for, unit_for}
use Rattle.refine.specs.Front.{cell_length, Listened}
use Rattle.refine.specs.Back.{Agrees, Symbols, Under}
use Rattle.refine.specs.Whole.{pilots_in, starts_in, soft_in, soft_heard, InWork, ExactFit, Rejudged, RefinesExactly}
use Rattle.refine.proofs.Ready.{ready, agrees, symbols}

-- ---- the pilots in the work lists

pub in_work : (p : Plan) (grid : List Float) (v : ℕ → ℕ → Found) (wf : List Float) (wu : List ℕ) (np : ℕ) → Loads p.source grid v wu (take (3 * places p.source) wf) np
    → places p.source ≤ 118156 → 3 * places p.source + cell_length p ≤ length wf → 2 * places p.source + p.source.ng + 1 ≤ length wu → InWork p np wf wu
in_work p grid v wf wu np l small hf hu =
    let few = few_loaded p.source grid v wu _ np l in
    record { loaded = rw (take-take (3 * np) (3 * places p.source) wf (omega (arith, few))) at l.fit; few = few; small = small; in_wf = hf; in_wu = hu }

same_pilots : (p : Plan) (grid : List Float) (v : ℕ → ℕ → Found) (wf : List Float) (wu : List ℕ) (np : ℕ) → Loads p.source grid v wu (take (3 * places p.source) wf) np
    → pilots_in p np wf wu ≡ loaded p.source.map.nc grid v p.source.ng
same_pilots p grid v wf wu np l =
    let few = few_loaded p.source grid v wu _ np l in
    rw (take-take (3 * np) (3 * places p.source) wf (omega (arith, few))) at l.same

spread_soft : (p : Plan) (wf : List Float) → p.shape.spread ≡ true → soft_heard p wf ≡ soft_in p wf
spread_soft p wf u = rw u refl

-- ---- an unspread burst's likelihoods do not ask for soft points

judged_soft : (s : Source) (m : Shape) (pts soft soft' grid cells : List Float) (est : ℕ → Estimate) (cell : ℕ) (t : Bool) → m.spread ≡ t → (m.spread ≡ true → soft ≡ soft')
    → judged s m pts soft grid cells est cell ≡ judged s m pts soft' grid cells est cell
unfolding judged
judged_soft s m pts soft soft' grid cells est cell true e h = rw (h e)
judged_soft s m pts soft soft' grid cells est cell false e h = rw e

-- ---- judged

module _ (b : Burst) (prior : List Float) (wf : List Float) (wu : List ℕ) (np : ℕ) (e : List Float)
    (l : Listened (plan_for b.settings) (unit b) prior (nbits b) b.grid b.sigma b.cells e wf wu np) where
  p : Plan
  p = plan_for b.settings

  e_is : e ≡ expected b prior
  unfolding expected slots p
  e_is = l.expected

  pilots_are : pilots_in (plan_for b.settings) np wf wu ≡ pilots b prior
  unfolding pilots found map_of
  pilots_are = rw (← e_is) (same_pilots (plan_for b.settings) b.grid _ wf wu np l.loads)

  starts_are : starts_in (plan_for b.settings) wu ≡ starts b prior
  unfolding starts found map_of
  starts_are = rw (← e_is) l.loads.starts

  soft_is : b.settings.spread ≡ true → soft_heard (plan_for b.settings) wf ≡ soft_points b prior
  unfolding soft_points slots
  soft_is u = spread_soft (plan_for b.settings) wf u ∙ l.points u

  pub rejudged : (m : Model) (a channel answer : List Float) → length a ≡ nbits b → length e ≡ 3 * ncell b
      → (m ≡ select_model (plan_for b.settings).setting (pilots_in (plan_for b.settings) np wf wu) (starts_in (plan_for b.settings) wu))
      × Under (plan_for b.settings) m (pilots_in (plan_for b.settings) np wf wu) (starts_in (plan_for b.settings) wu) (unit b) (soft_heard (plan_for b.settings) wf) b.grid b.cells e a channel answer
      → Rejudged b prior m answer channel
  unfolding model estimate_under estimate channel_of slot_likelihoods
  rejudged m a channel answer ha he u =
      let chosen : m ≡ model b prior = u.0 ∙ rw (pilots_are, starts_are) refl in
      let est : ℕ → Estimate = estimate_at (source b) (pilots_in (plan_for b.settings) np wf wu) (starts_in (plan_for b.settings) wu) (fitted_of (setting b) m) (carrier_table (setting b) m) (symbol_table (setting b) m) b.cells e in
      let same : est ≡ estimate b prior = rw (pilots_are, starts_are, chosen, e_is) refl in
      record {
        chosen = chosen;
        likelihoods = u.1.answer
            ∙ (whole _ _ a ha
            ∙ (cat-same (ncell b) _ _ (λ cell h. judged_soft (source b) (shape b) (unit b) _ _ b.grid b.cells est cell b.settings.spread refl soft_is)
            ∙ ap (λ (g : ℕ → Estimate). cat (ncell b) (judged (source b) (shape b) (unit b) (soft_points b prior) b.grid b.cells g)) same));
        estimates = u.1.channel ∙ (whole (nsym b * dc b * 3) _ e (omega (arith, he)) ∙ ap (λ (g : ℕ → Estimate). cat (ncell b) (λ cell. numbers_of (g cell))) same);
      }

-- ---- the same by a plan

-- the points do not depend on the burst's numbers
pub same_unit : (b : Burst) → unit_for b.settings ≡ unit b
unfolding unit
same_unit b = refl

module _ (b : Burst) (prior units : List Float) (p : Plan) (e : p ≡ plan_for b.settings) (answer₀ channel₀ wf₀ : List Float) (wu₀ : List ℕ) (x : ExactFit b answer₀ channel₀ wf₀ wu₀)
    (channel wf : List Float) (wu : List ℕ) (np : ℕ) (l : Listened p units prior (length answer₀) b.grid b.sigma b.cells channel wf wu np) where
  pub may_judge_loaded : (answer : List Float) → length channel ≡ length channel₀ → length answer ≡ length answer₀ → length wf ≡ length wf₀ → length wu ≡ length wu₀
      → Agrees p × InWork p np wf wu × Symbols p.source p.shape b.grid b.cells channel answer × (length channel ≡ cell_length p)
  may_judge_loaded answer hc ha hf hu =
      let r = ready b answer₀ channel₀ wf₀ wu₀ x in
      let l' : Listened (plan_for b.settings) units prior (length answer₀) b.grid b.sigma b.cells channel wf wu np = rw e at l in
      rw e (
        agrees b answer₀ channel₀ wf₀ wu₀ x,
        in_work (plan_for b.settings) b.grid _ wf wu np l'.loads r.small (rw hf r.in_wf) (rw hu r.in_wu),
        symbols b answer₀ channel₀ wf₀ wu₀ x channel answer hc ha,
        hc ∙ r.long_channel,
      )

  pub rejudged_by : (m : Model) (a channel₁ answer : List Float) → units ≡ unit_for b.settings → length a ≡ length answer₀ → length channel ≡ length channel₀
      → (m ≡ select_model p.setting (pilots_in p np wf wu) (starts_in p wu)) × Under p m (pilots_in p np wf wu) (starts_in p wu) units (soft_heard p wf) b.grid b.cells channel a channel₁ answer
      → Rejudged b prior m answer channel₁
  rejudged_by m a channel₁ answer eu ha hc u =
      let l' : Listened (plan_for b.settings) (unit b) prior (nbits b) b.grid b.sigma b.cells channel wf wu np = rw (e, eu, same_unit b, x.whole_answer) at l in
      rejudged b prior wf wu np channel l' m a channel₁ answer (ha ∙ x.whole_answer) (hc ∙ x.whole_channel) (rw (e, eu, same_unit b) at u)

-- ---- in bit order, and in front of what the lists held

pub refined_exactly : (b : Burst) (prior : List Float) (m : Model) (slots₁ answer channel : List Float) (n : ℕ) → length slots₁ ≡ nbits b → length answer ≡ nbits b → Rejudged b prior m slots₁ channel
    → answer ≡ bit_order (length slots₁) slots₁ → n ≡ spoilt_of (length answer) answer
    → RefinesExactly b prior (record { model = m; spoilt = n }) answer channel
unfolding refined_of answer_of
refined_exactly b prior m slots₁ answer channel n hs ha r e s =
    let a : answer ≡ bit_order (nbits b) (slot_likelihoods b prior) = rw (hs, r.likelihoods) at e in
    record { result = rw (s, ha, a, r.chosen) refl; likelihoods = a; estimates = r.estimates }

pub refined : (b : Burst) (prior : List Float) (r : _) (answer₀ answer channel₀ channel : List Float) (n c : ℕ) → n ≡ nbits b → c ≡ 3 * ncell b → RefinesExactly b prior r answer channel
    → Refines b prior r answer₀ (answer ++ drop n answer₀) channel₀ (channel ++ drop c channel₀)
refined b prior r answer₀ answer channel₀ channel n c en ec x = record { result = x.result; answer = rw (en, x.likelihoods) refl; channel = rw (ec, x.estimates) refl }
