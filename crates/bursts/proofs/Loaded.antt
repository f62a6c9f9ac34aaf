-- What stands in the work lists where a burst was loaded, and what the probes answer then. Assumes nothing.
use Prim.Native.Nat.{ℕ, ◌*◌, ◌≤◌}
use mathlib.Core.Path.{◌≡◌, refl, sym, ap, ◌∙◌}
use mathlib.Core.Bool.{false}
use mathlib.Core.List.{List}
use mathlib.Core.Logic.{⊎_elim}
use native.Mathlib.Nat.{mul-le-mul, le_trans}
use native.Mathlib.Omega.{arith}
use borrow.Author.Tests.{ne_eqb}
use lib.Dec.{lit≤}
use lib.Ieee.{Float}
use lib.ListN.{length}
use Rattle.seq.specs.Tab.Laws.{length_tab}
use Rattle.layout.specs.declared.layouts.Layout.{Layout}
use Rattle.layout.specs.Layouts.{layout_of}
use Rattle.layout.specs.Sizes.{ng_of}
use Rattle.layout.specs.Maps.{map_of}
use Rattle.layout.proofs.Bounds.{bounds}
use Rattle.load.specs.declared.pilot.Pilot.{Pilot}
use Rattle.load.specs.declared.pilots.Pilots.{Pilots}
use Rattle.load.specs.Pilots.{OnGrid}
use Rattle.load.specs.Find.{found_at}
use Rattle.load.proofs.Starts.{length_loaded}
use Rattle.est.specs.Estimate.{Held}
use Rattle.model.specs.Values.{FitModels}
use Rattle.model.specs.Score.{Fit}
use Rattle.model.specs.declared.trial.Setting.{Setting}
use Rattle.model.proofs.Models.{models_fit}
use Rattle.probes.specs.declared.pilots.LoadSettings.{LoadSettings}
use Rattle.probes.specs.Loading.{source_for, Lent, Loading}
use Rattle.bursts.specs.declared.estimates.Asked.{Asked}
use Rattle.bursts.specs.declared.models.Selected.{Selected}
use Rattle.bursts.specs.Work.{Set, pilots_in, starts_in, pilots_at, starts_at, InWork}
use Rattle.bursts.specs.Estimating.{estimates_by, put_by, Estimating}
use Rattle.bursts.specs.Modelling.{nothing, selected_of, Modelling}

pub settled : {t : LoadSettings} {k : ℕ} {l : Layout} {ng hk : ℕ} → l ≡ layout_of t.layout → ng ≡ ng_of l t.nsym → Held k hk
    → Set t k (record { l = l; sparse = t.sparse; ng = ng; k = hk; p_h = t.p_h })
settled el en h = record { is = rw (h.same, en, el) refl; some = h.some; most = h.most }

pub fit_in : {s : Setting} {np : ℕ} {w : List ℕ} {pf : List Float} → InWork s np w pf → (ps : Pilots) → OnGrid ps s.l.nc s.ng → Fit s ps × FitModels s.l
fit_in h ps l = (record { loaded = l; some = h.some; most = h.most }, h.models)

few_places : (number nsym : ℕ) → nsym ≤ 1023 → ng_of (layout_of number) nsym * (layout_of number).nc ≤ 118156
few_places number nsym h =
    let b = bounds.layout number false in
    le_trans (mul-le-mul {n₁ = ng_of (layout_of number) nsym} {m₁ = (layout_of number).nc} {n₂ = 1084} {m₂ = 109} (omega (arith, h, b.pre_high)) b.nc_high) (lit≤ tt)

module _ {t : LoadSettings} {grid sigma cells expected : List Float} {w₀ : List ℕ} {pf₀ : List Float} {w : List ℕ} {pf : List Float} {np : ℕ} (h : Loading t grid sigma cells expected w₀ pf₀ w pf np) where
  abbrev ps : List Pilot
  ps = pilots_in (source_for t) grid sigma cells expected

  abbrev starts : List ℕ
  starts = starts_in (source_for t) grid sigma cells expected

  pub estimates_none : {a : Asked} {at : List ℕ} {out : List Float} → np ≡ 0 → Estimating t a at grid sigma cells expected w₀ pf₀ out w pf out 0
  estimates_none e = record { loading = rw e at h; written = refl }

  pub models_none : {k : ℕ} → np ≡ 0 → Modelling t k grid sigma cells expected w₀ pf₀ w pf nothing
  models_none e = record { loading = rw e at h; selected = refl }

  module _ (some : np ≡ 0 → ⊥) where
    lent : Lent t.nsym (source_for t) grid sigma cells expected w₀ pf₀
    lent = ⊎_elim (λ z. absurd (some z)) (λ l. l) h.either

    pub few_symbols : t.nsym ≤ 1023
    few_symbols = lent.symbols

    module _ {k : ℕ} {s : Setting} (e : Set t k s) where
      pub in_work : length w ≡ length w₀ → length pf ≡ length pf₀ → InWork s np w pf
      unfolding map_of
      in_work ew ef =
          let b = bounds.layout t.layout false in
          let q = h.loads lent in
          let count : np ≡ length ps = sym (length_tab _ np) ∙ ap length q.same in
          let low = rw e.is at e.some in
          let high = rw e.is at e.most in
          rw e.is
          (record {
            room = record {
              few = omega (arith, count, length_loaded (layout_of t.layout).nc grid (found_at (source_for t) sigma cells expected) (ng_of (layout_of t.layout) t.nsym));
              small = few_places t.layout t.nsym few_symbols;
              symbols = omega (arith, few_symbols, b.pre_high);
              long = omega (arith, ew, lent.room.long_w);
            };
            long_pf = omega (arith, ef, lent.room.long_pf);
            loaded = q.fit;
            models = models_fit t.layout;
            carriers = omega (arith, b.nc_low);
            width = omega (arith, b.gw_is);
            some = low;
            most = high;
          })

      same_pilots : pilots_at s np w pf ≡ ps
      unfolding map_of
      same_pilots = rw e.is (h.loads lent).same

      same_starts : starts_at s w ≡ starts
      unfolding map_of
      same_starts = rw e.is (h.loads lent).starts

      pub models_some : {r : Selected} → r ≡ selected_of np s (pilots_at s np w pf) (starts_at s w) → Modelling t k grid sigma cells expected w₀ pf₀ w pf r
      models_some u = rw (u, same_pilots, same_starts, e.is) (record { loading = h; selected = rw (ne_eqb np 0 some) refl })

    pub estimates_some : {a : Asked} {s : Setting} {at : List ℕ} {out₀ out : List Float} → Set t a.k s
        → out ≡ put_by at (estimates_by s a (pilots_at s np w pf) (starts_at s w) at) out₀ → Estimating t a at grid sigma cells expected w₀ pf₀ out₀ w pf out np
    estimates_some e u = record { loading = h; written = rw (ne_eqb np 0 some) (rw (same_pilots e, same_starts e, e.is) at u) }
