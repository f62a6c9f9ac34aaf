-- The burst that is cut out of a record's numbers is the record's burst. Assumes nothing.
use Prim.Native.Nat.{ℕ, ◌+◌, ◌-◌, ◌*◌, ◌/◌, ◌≤◌}
use mathlib.Core.Path.{◌≡◌, refl, sym, ap, ◌∙◌}
use mathlib.Core.List.{List}
use native.Mathlib.Omega.{arith}
use lib.ListN.{length, take, drop, get_or, length-drop}
use lib.Seq.{take_all, drop-drop, get_or-take, get_or-drop, length-take-le}
use lib.Ieee.{Float, nan}
use Rattle.seq.specs.Tab.{tab}
use Rattle.seq.specs.Tab.Laws.{length_tab, get_d_tab, tab_only}
use Rattle.refine.specs.declared.settings.Settings.{Settings}
use Rattle.refine.specs.Refine.{burst, nbits, ncell}
use Rattle.wire.specs.declared.fields.Fields.{Fields}
use Rattle.wire.specs.declared.shape.Sizes.{Sizes}
use Rattle.wire.specs.Record.{head, fields_of, fields, settings, settings_of, number_at, burst_of, prior_of, count_of}
use Rattle.wire.specs.Sizes.{plain, sizes_of}
use Rattle.record.specs.Judging.{settings_in, burst_in, prior_in, Short, Whole, Judges}
use Rattle.wire.proofs.Reading.{same_sizes, counted_numbers}
use Rattle.wire.specs.Shape.{shape_refusal, answer_length, channel_length}
use Rattle.wire.proofs.Shaped.{Shaped, shaped, counting}

-- k elements from place a
part_tab : (n a k : ℕ) (f : ℕ → Float) → a + k ≤ n → take k (drop a (tab n f)) ≡ tab k (λ i. f (a + i))
part_tab n a k f h =
    tab_only (λ i. f (a + i)) k nan (take k (drop a (tab n f)))
    (length-take-le k (drop a (tab n f)) (omega (arith, length-drop a (tab n f), length_tab f n)))
    (λ i b. get_or-take k (drop a (tab n f)) i nan b ∙ get_or-drop a (tab n f) i nan ∙ get_d_tab f n (a + i) nan (omega arith))

-- the last k
rest_tab : (n a k : ℕ) (f : ℕ → Float) → n ≡ a + k → drop a (tab n f) ≡ tab k (λ i. f (a + i))
rest_tab n a k f h =
    sym (take_all k (drop a (tab n f)) (omega (arith, length-drop a (tab n f), length_tab f n))) ∙ part_tab n a k f (omega arith)

module _ (rec : List ℕ) (n : ℕ) (e : n ≡ count_of rec) where
  abbrev nums : List Float
  nums = tab n (number_at rec)

  some : 3 ≤ n
  some = omega (arith, e, counted_numbers rec)

  same_settings : settings_in (fields rec) nums ≡ settings rec
  unfolding settings_in settings
  same_settings =
      rw (get_d_tab (number_at rec) n 0 nan (omega (arith, some)), get_d_tab (number_at rec) n 1 nan (omega (arith, some)), get_d_tab (number_at rec) n 2 nan (omega (arith, some)))
      refl

  pub same_burst : burst_in (fields rec) nums ≡ burst_of rec
  unfolding burst_in burst_of
  same_burst =
      let z = sizes_of (fields rec) in
      let c = counted_numbers rec in
      rw (
        same_settings,
        part_tab n (3 + z.nc + z.ncell) (2 * z.grid) (number_at rec) (omega (arith, e, c)),
        part_tab n 3 z.nc (number_at rec) (omega (arith, e, c)),
        part_tab n (3 + z.nc) z.ncell (number_at rec) (omega (arith, e, c)),
        same_sizes rec,
      )
      refl

  pub same_prior : prior_in (fields rec) nums ≡ prior_of rec
  unfolding prior_in prior_of
  same_prior =
      let z = sizes_of (fields rec) in
      rw (rest_tab n (3 + z.nc + z.ncell + 2 * z.grid) (fields rec).priors (number_at rec) (e ∙ counted_numbers rec), same_sizes rec) refl

  pub whole_numbers : Shaped rec → Whole (fields rec) nums
  unfolding settings settings_of
  whole_numbers h = record {
    short = record { counted = counting rec h.symbols; bits = h.bits; cells = h.channel; work = h.work };
    count = omega (arith, e, counted_numbers rec, length_tab (number_at rec) n);
    few = omega (arith, e, h.numbers, length_tab (number_at rec) n);
  }

-- the burst's sizes in the fields
module _ (rec : List ℕ) where
  pub bits_of_lem : nbits (burst_of rec) ≡ (sizes_of (fields rec)).nbits
  unfolding burst_of settings settings_of sizes_of
  bits_of_lem = refl

  pub cells_of : ncell (burst_of rec) ≡ (sizes_of (fields rec)).ncell
  unfolding burst_of settings settings_of sizes_of
  cells_of = refl

-- a record of an accepted shape has as many numbers as its length says
pub as_many : (rec : List ℕ) → Shaped rec → (length rec - 6) / 4 ≡ count_of rec
as_many rec h = omega (arith, h.length_is)

-- the sizes of the burst in its numbers, whatever these are
module _ (f : Fields) (nums : List Float) where
  pub bits_in : nbits (burst_in f nums) ≡ (sizes_of f).nbits
  unfolding burst_in settings_in settings_of sizes_of
  bits_in = refl

  pub cells_in : ncell (burst_in f nums) ≡ (sizes_of f).ncell
  unfolding burst_in settings_in settings_of sizes_of
  cells_in = refl

-- how large they can be
pub record Few (z : Sizes) : Type 0 where
  pub bits : z.nbits ≤ 4086
  pub cells : 3 * z.ncell ≤ 2043

module _ (f : Fields) where
  pub few : (z : Sizes) → z ≡ sizes_of f → Short (plain f) → Few z
  unfolding sizes_of
  few z e h = rw e (record { bits = h.bits; cells = h.cells })

  -- no number of the settings is read for them
  pub short_in : (a b c : Float) → Short (plain f) → Short (settings_of f a b c)
  unfolding settings_of
  short_in a b c h = record { counted = record { some = h.counted.some; most = h.counted.most }; bits = h.bits; cells = h.cells; work = h.work }

-- ---- the parts that are lent to the refinement

pub first_settings : (f : Fields) (nums first : List Float) (s : Settings) → first ≡ take 3 nums
    → s ≡ settings_of f (get_or first 0 nan) (get_or first 1 nan) (get_or first 2 nan) → s ≡ settings_in f nums
unfolding settings_in
first_settings f nums first s h e = rw (e, h, get_or-take 3 nums 0 nan (omega arith), get_or-take 3 nums 1 nan (omega arith), get_or-take 3 nums 2 nan (omega arith)) refl

module _ (f : Fields) (nums : List Float) (z : Sizes) (s : Settings) (sigma cells grid prior r₁ r₂ r₃ : List Float)
    (ez : z ≡ sizes_of f) (es : s ≡ settings_in f nums)
    (e₁ : r₁ ≡ drop 3 nums) (es₁ : sigma ≡ take z.nc r₁) (e₂ : r₂ ≡ drop z.nc r₁) (es₂ : cells ≡ take z.ncell r₂) (e₃ : r₃ ≡ drop z.ncell r₂)
    (es₃ : grid ≡ take (2 * z.grid) r₃) (e₄ : prior ≡ drop (2 * z.grid) r₃) where
  at₂ : r₂ ≡ drop (3 + z.nc) nums
  at₂ = rw (e₂, e₁) (drop-drop z.nc 3 nums)

  at₃ : r₃ ≡ drop (3 + z.nc + z.ncell) nums
  at₃ = rw (e₃, at₂) (drop-drop z.ncell (3 + z.nc) nums)

  pub cut_burst : burst s grid sigma cells ≡ burst_in f nums
  unfolding burst_in
  cut_burst = rw (es₃, at₃, es₁, e₁, es₂, at₂, es, ez) refl

  pub cut_prior : prior ≡ prior_in f nums
  unfolding prior_in
  cut_prior = rw (e₄, at₃, ez) (drop-drop _ _ nums)

-- ---- what a call of `judge` is handed

module _ (rec : List ℕ) (f : Fields) (h n : ℕ) (nums : List Float) (eh : h ≡ head rec) (ef : f ≡ fields_of h) (shape : Shaped rec) (en : n ≡ (length rec - 6) / 4)
    (filled : nums ≡ tab n (number_at rec)) where
  read : f ≡ fields rec
  read = ef ∙ ap fields_of eh

  counted : n ≡ count_of rec
  counted = en ∙ as_many rec shape

  pub may_judge : Whole f nums
  may_judge = rw (read, filled) (whole_numbers rec n counted shape)

  pub of_record : (r : ℕ) (out₀ out₁ channel₀ channel₁ : List ℕ) → Judges (burst_in f nums) (prior_in f nums) r out₀ out₁ channel₀ channel₁
      → Judges (burst_of rec) (prior_of rec) r out₀ out₁ channel₀ channel₁
  of_record r out₀ out₁ channel₀ channel₁ j = rw (read, filled, same_burst rec n counted, same_prior rec n counted) at j

-- the sizes of a record's burst, as they were counted
module _ (rec : List ℕ) (f : Fields) (h : ℕ) (eh : h ≡ head rec) (ef : f ≡ fields_of h) where
  pub bits_counted : nbits (burst_of rec) ≡ (sizes_of f).nbits
  bits_counted = rw (ef, eh) (bits_of_lem rec)

  pub cells_counted : ncell (burst_of rec) ≡ (sizes_of f).ncell
  cells_counted = rw (ef, eh) (cells_of rec)

  pub short_record : Shaped rec → Short (plain f)
  unfolding settings settings_of
  short_record s = rw (ef, eh) (record { counted = counting rec s.symbols; bits = s.bits; cells = s.channel; work = s.work })

-- and what is told of them
pub record Sized (rec : List ℕ) (z : Sizes) : Type 0 where
  pub bits : z.nbits ≤ 4086
  pub cells : 3 * z.ncell ≤ 2043
  pub answer : 10 + 4 * z.nbits ≡ answer_length rec
  pub channel : 4 * (3 * z.ncell) ≡ channel_length rec

pub sized : (rec : List ℕ) (z : Sizes) → 0 ≡ shape_refusal rec → z ≡ sizes_of (fields rec) → Sized rec z
sized rec z h e =
    let f = fields rec in
    let w = few f z e (short_record rec f (head rec) refl refl (shaped rec (sym h))) in
    record {
      bits = w.bits;
      cells = w.cells;
      answer = ap (λ (n : ℕ). 10 + 4 * n) (ap (λ (z : Sizes). z.nbits) e ∙ sym (bits_counted rec f (head rec) refl refl));
      channel = ap (λ (n : ℕ). 4 * (3 * n)) (ap (λ (z : Sizes). z.ncell) e ∙ sym (cells_counted rec f (head rec) refl refl));
    }
