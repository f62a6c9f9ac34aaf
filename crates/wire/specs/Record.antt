-- Document 01's burst record, read: six bytes of fields, most significant first, then numbers.
use Rattle.std.specs.Prelude.{ℕ, ◌+◌, ◌*◌, ◌/◌, ◌%◌, ◌^◌, List, get_or, eqb, Float}
use Rattle.seq.specs.Tab.{tab}
use Rattle.table.specs.Sizes.{nc_of, ncell_of, grid_cells}
use Rattle.refine.specs.declared.settings.Settings.{Settings}
use Rattle.refine.specs.Refine.{Burst, burst}
use Rattle.wire.specs.declared.fields.Fields.{Fields}
use Rattle.words.specs.Bytes.{float_at}

-- the six bytes as one number
unfoldable pub head : List ℕ → ℕ
head rec =
    get_or rec 0 0 * 2 ^ 40 + get_or rec 1 0 * 2 ^ 32 + get_or rec 2 0 * 2 ^ 24 + get_or rec 3 0 * 2 ^ 16 + get_or rec 4 0 * 2 ^ 8 + get_or rec 5 0

-- layout 4 bits, constellation 2, nsym 10, sparse 1, spread 1, gain code 2, k 6, prior count 20, two zero bits
unfoldable pub fields_of : ℕ → Fields
fields_of h =
    record {
      layout = h / 2 ^ 44;
      constellation = h / 2 ^ 42 % 2 ^ 2;
      nsym = h / 2 ^ 32 % 2 ^ 10;
      sparse = eqb (h / 2 ^ 31 % 2) 1;
      spread = eqb (h / 2 ^ 30 % 2) 1;
      gain_code = h / 2 ^ 28 % 2 ^ 2;
      k = h / 2 ^ 22 % 2 ^ 6;
      priors = h / 2 ^ 2 % 2 ^ 20;
    }

unfoldable pub padding : ℕ → ℕ
padding h = h % 2 ^ 2

-- what the fields say, with boost, pilot gain and p_h
unfoldable pub settings_of : Fields → (boost pilotGain power : Float) → Settings
settings_of f boost pilotGain power =
    record {
      layout = f.layout;
      constellation = f.constellation;
      nsym = f.nsym;
      sparse = f.sparse;
      spread = f.spread;
      gain_code = f.gain_code;
      k = f.k;
      boost = boost;
      pilot_gain = pilotGain;
      p_h = power;
    }

module _ (rec : List ℕ) where
  abbrev pub fields : Fields
  fields = fields_of (head rec)

  -- number i past the fields
  abbrev pub number_at : ℕ → Float
  number_at i = float_at rec (6 + 4 * i)

  -- n of them from number a
  abbrev pub numbers : (a n : ℕ) → List Float
  numbers a n = tab n (λ i. number_at (a + i))

  -- boost, pilot gain, p_h,
  unfoldable pub settings : Settings
  settings = settings_of fields (number_at 0) (number_at 1) (number_at 2)

  -- carrier variances, cell variances, grid (re, im),
  unfoldable pub burst_of : Burst
  burst_of =
      let nc = nc_of settings in
      let ncell = ncell_of settings in
      burst settings (numbers (3 + nc + ncell) (2 * grid_cells settings)) (numbers 3 nc) (numbers (3 + nc) ncell)

  -- priors
  unfoldable pub prior_of : List Float
  prior_of = numbers (3 + nc_of settings + ncell_of settings + 2 * grid_cells settings) fields.priors

  -- numbers that the fields give
  unfoldable pub count_of : ℕ
  count_of = 3 + nc_of settings + ncell_of settings + 2 * grid_cells settings + fields.priors
