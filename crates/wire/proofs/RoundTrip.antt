-- What is laid out reads back, and what is read can be laid out. Assumes nothing.
use Prim.Native.Nat.{ℕ, ◌+◌, ◌*◌, ◌/◌, ◌^◌, ◌<◌}
use mathlib.Core.Path.{◌≡◌, refl, sym, ap, ap₂, subst, ◌∙◌}
use mathlib.Core.Bool.{cond}
use mathlib.Core.List.{List, [], ◌∷◌, ◌++◌, append_assoc, append-nil}
use native.Mathlib.Omega.{arith}
use lib.Dec.{T}
use lib.ListN.{length, get_or, length-append}
use lib.Ieee.{Float, binary32, fits, nan}
use lib.Ieee.Bits.{of_bits-fits}
use Rattle.seq.specs.Tab.Laws.{length_tab, get_d_tab}
use Rattle.table.specs.Sizes.{nc_of, ncell_of, grid_cells}
use Rattle.scan.specs.Fine.{all}
use Rattle.refine.specs.declared.settings.Settings.{Settings}
use Rattle.refine.specs.Refine.{Burst, burst}
use Rattle.wire.specs.declared.fields.Fields.{Fields}
use Rattle.words.specs.Bytes.{word_at}
use Rattle.wire.specs.Record.{head, fields_of, fields, number_at, numbers, settings_of, settings, burst_of, prior_of}
use Rattle.wire.specs.Layout.{head_of, head_bytes, numbers_laid, laid_out, Holds, RoundTrip}
use Rattle.wire.proofs.Digits.{six_bytes, bit_back, bit_lt, digits}
use Rattle.wire.proofs.Laid.{all_of, all_append, all_cons, laid_append, laid_cons, number_back, part_back}

-- ---- the fields

fields_in : Settings → ℕ → Fields
fields_in s priors = record {
  layout = s.layout;
  constellation = s.constellation;
  nsym = s.nsym;
  sparse = s.sparse;
  spread = s.spread;
  gain_code = s.gain_code;
  k = s.k;
  priors = priors;
}

head_back : (h : ℕ) (rest : List ℕ) → head (head_bytes h ++ rest) ≡ h
unfolding head head_bytes
head_back h rest = six_bytes h

-- six bytes are below 2 ^ 48
head_lt : (rec : List ℕ) → ((i : ℕ) → get_or rec i 0 < 2 ^ 8) → head rec < 2 ^ 48
unfolding head
head_lt rec h = omega (arith, h 0, h 1, h 2, h 3, h 4, h 5)

high : (h : ℕ) → h < 2 ^ 48 → h / 2 ^ 44 < 2 ^ 4
high h b = omega arith

fields_back : (b : Burst) (prior : List Float) → Holds b prior → fields_of (head_of b.settings (length prior)) ≡ fields_in b.settings (length prior)
unfolding fields_of head_of fields_in
fields_back b prior h =
    let s = b.settings in
    let d = digits s.layout s.constellation s.nsym (cond s.sparse 1 0) (cond s.spread 1 0) s.gain_code s.k (length prior)
    h.constellation h.nsym (bit_lt s.sparse) (bit_lt s.spread) h.gain_code_lem h.k h.priors in
    rw (d.first, d.second, d.third, d.fourth, d.fifth, d.sixth, d.seventh, d.eighth, bit_back s.sparse, bit_back s.spread) refl

-- ---- the numbers

module _ (b : Burst) (prior : List Float) where
  -- all of them, in their order
  abbrev lists : List Float
  lists = b.sigma ++ (b.cells ++ (b.grid ++ prior))

  abbrev whole : List Float
  whole = b.settings.boost ∷ b.settings.pilot_gain ∷ b.settings.p_h ∷ lists

  abbrev hd : List ℕ
  hd = head_bytes (head_of b.settings (length prior))

  laid_whole : laid_out b prior ≡ hd ++ numbers_laid whole
  unfolding laid_out
  laid_whole =
      rw (laid_append b.grid prior, laid_append b.cells (b.grid ++ prior), laid_append b.sigma (b.cells ++ (b.grid ++ prior)), laid_cons b.settings.p_h lists, laid_cons b.settings.pilot_gain (b.settings.p_h ∷ lists), laid_cons b.settings.boost (b.settings.pilot_gain ∷ b.settings.p_h ∷ lists)) refl

  six : length hd ≡ 6
  unfolding head_bytes
  six = refl

  module _ (h : Holds b prior) where
    whole_f32 : T (all (fits binary32) whole)
    whole_f32 =
        let p = fits binary32 in
        all_cons p _ _ h.boost_f32 (all_cons p _ _ h.pilot_gain_f32 (all_cons p _ _ h.power_f32
        (all_append p b.sigma _ h.sigma_f32 (all_append p b.cells _ h.cells_f32 (all_append p b.grid prior h.grid_f32 h.prior_f32)))))

    abbrev rec : List ℕ
    rec = hd ++ numbers_laid whole

    at : (i : ℕ) → i < length whole → number_at rec i ≡ get_or whole i nan
    at = number_back hd six whole whole_f32

    fields_are : fields rec ≡ fields_in b.settings (length prior)
    fields_are = ap fields_of (head_back (head_of b.settings (length prior)) (numbers_laid whole)) ∙ fields_back b prior h

    settings_are : settings rec ≡ b.settings
    unfolding settings settings_of fields_in
    settings_are =
        let s = b.settings in
        let f = fields_in s (length prior) in
        ap (λ (g : Fields). settings_of g (number_at rec 0) (number_at rec 1) (number_at rec 2)) fields_are
        ∙ ap (λ (x : Float). settings_of f x (number_at rec 1) (number_at rec 2)) (at 0 (omega arith))
        ∙ ap (λ (x : Float). settings_of f s.boost x (number_at rec 2)) (at 1 (omega arith))
        ∙ ap (λ (x : Float). settings_of f s.boost s.pilot_gain x) (at 2 (omega arith))

    part : (before xs after : List Float) (a n : ℕ) → whole ≡ before ++ (xs ++ after) → length before ≡ a → length xs ≡ n → numbers rec a n ≡ xs
    part before xs after a n e la ln = part_back rec before xs after a n (subst (λ (w : List Float). (i : ℕ) → i < length w → number_at rec i ≡ get_or w i nan) e at) la ln

    abbrev three : List Float
    three = b.settings.boost ∷ b.settings.pilot_gain ∷ b.settings.p_h ∷ []

    abbrev nc : ℕ
    nc = nc_of b.settings

    abbrev ncell : ℕ
    ncell = ncell_of b.settings

    sigma_is : numbers rec 3 nc ≡ b.sigma
    sigma_is = part three b.sigma (b.cells ++ (b.grid ++ prior)) 3 nc refl refl h.sigma

    cells_are : numbers rec (3 + nc) ncell ≡ b.cells
    cells_are =
        part (three ++ b.sigma) b.cells (b.grid ++ prior) (3 + nc) ncell (sym (append_assoc three b.sigma (b.cells ++ (b.grid ++ prior))))
        (length-append three b.sigma ∙ omega (arith, h.sigma)) h.cells

    grid_is : numbers rec (3 + nc + ncell) (2 * grid_cells b.settings) ≡ b.grid
    grid_is =
        part (three ++ (b.sigma ++ b.cells)) b.grid prior (3 + nc + ncell) (2 * grid_cells b.settings) (rw (append_assoc b.sigma b.cells (b.grid ++ prior)) refl)
        (omega (arith, length-append b.sigma b.cells, h.sigma, h.cells)) h.grid

    prior_is : numbers rec (3 + nc + ncell + 2 * grid_cells b.settings) (length prior) ≡ prior
    prior_is =
        part (three ++ (b.sigma ++ (b.cells ++ b.grid))) prior [] (3 + nc + ncell + 2 * grid_cells b.settings) (length prior)
        (rw (append-nil prior, append_assoc b.sigma (b.cells ++ b.grid) prior, append_assoc b.cells b.grid prior) refl)
        (omega (arith, length-append b.sigma (b.cells ++ b.grid), length-append b.cells b.grid, h.sigma, h.cells, h.grid)) refl

    burst_is : burst_of rec ≡ b
    unfolding burst_of
    burst_is =
        let s = b.settings in
        ap
        (λ (t : Settings).
        burst t (numbers rec (3 + nc_of t + ncell_of t) (2 * grid_cells t)) (numbers rec 3 (nc_of t)) (numbers rec (3 + nc_of t) (ncell_of t)))
        settings_are
        ∙ ap (λ (xs : List Float). burst s xs (numbers rec 3 nc) (numbers rec (3 + nc) ncell)) grid_is
        ∙ ap₂ (λ (xs ys : List Float). burst s b.grid xs ys) sigma_is cells_are

    priors_are : prior_of rec ≡ prior
    unfolding prior_of fields_in
    priors_are =
        ap₂ (λ (t : Settings) (f : Fields). numbers rec (3 + nc_of t + ncell_of t + 2 * grid_cells t) f.priors) settings_are fields_are ∙ prior_is

back : (b : Burst) (prior : List Float) → Holds b prior → (burst_of (laid_out b prior) ≡ b) × (prior_of (laid_out b prior) ≡ prior)
back b prior h = rw (laid_whole b prior) (burst_is b prior h, priors_are b prior h)

-- ---- what is read

module _ (rec : List ℕ) where
  numbers_f32 : (a n : ℕ) → T (all (fits binary32) (numbers rec a n))
  numbers_f32 a n =
      let f : ℕ → Float = λ i. number_at rec (a + i) in
      all_of (fits binary32) (numbers rec a n)
      (λ i b.
      let u : i < n = omega (arith, length_tab f n) in
      rw (get_d_tab f n i nan u) (of_bits-fits binary32 (word_at rec (6 + 4 * (a + i)))))

  held : ((i : ℕ) → get_or rec i 0 < 2 ^ 8) → Holds (burst_of rec) (prior_of rec)
  unfolding burst_of prior_of settings settings_of fields_of
  held bytes = record {
    layout = high (head rec) (head_lt rec bytes);
    constellation = omega arith;
    nsym = omega arith;
    gain_code_lem = omega arith;
    k = omega arith;
    priors = omega (arith, length_tab (λ i. number_at rec (3 + nc_of (settings rec) + ncell_of (settings rec) + 2 * grid_cells (settings rec) + i)) (fields rec).priors);
    sigma = length_tab _ _;
    cells = length_tab _ _;
    grid = length_tab _ _;
    boost_f32 = of_bits-fits binary32 _;
    pilot_gain_f32 = of_bits-fits binary32 _;
    power_f32 = of_bits-fits binary32 _;
    sigma_f32 = numbers_f32 _ _;
    cells_f32 = numbers_f32 _ _;
    grid_f32 = numbers_f32 _ _;
    prior_f32 = numbers_f32 _ _;
  }

pub round_trip : RoundTrip
round_trip = record { back = back; held = held }
