-- frame.rs, `impl Pattern`.
use Rattle.std.specs.Prelude.{ℕ, ◌+◌, ◌-◌, ◌*◌, ◌/◌, ◌%◌, Bool, ◌||◌, ◌==◌}
use Rattle.layout.specs.declared.pattern.Pattern.{Pattern}

-- self.shift * (g % self.period)
unfoldable pub first_pilot : Pattern → ℕ → ℕ
first_pilot p g = p.shift * (g % p.period)

-- is_pilot: c == nc - 1 || c % self.step == self.shift * (g % self.period)
unfoldable pub on_pattern : Pattern → ℕ → ℕ → ℕ → Bool
on_pattern p nc c g = c == nc - 1 || c % p.step == first_pilot p g

-- pilots: (nc - 1) / self.step + 1
unfoldable pub pilots_of : Pattern → ℕ → ℕ
pilots_of p nc = (nc - 1) / p.step + 1
