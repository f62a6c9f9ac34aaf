-- Document 01's worked examples, computed. Assumes nothing.
use Rattle.std.proofs.Common.{◌≡◌, ℕ, zero, suc, Bool, true, false, List, [], ◌∷◌, ◌++◌, ap, ◌∙◌}
use lib.Ieee.{Float}
use Rattle.seq.specs.Cat.{cat}
use Rattle.seq.specs.Cat.Laws.{cat_zero, cat_suc}
use Rattle.layout.specs.Layouts.{quarter, layouts, layout_of}
use Rattle.layout.specs.Patterns.{first_pilot, on_pattern}
use Rattle.layout.specs.Sizes.{pattern_of}
use Rattle.layout.specs.Maps.{map_of, pattern_at, is_pilot}
use Rattle.layout.specs.Carriers.{data_at, data_carriers, Examples}

joined : ℕ → (ℕ → List ℕ) → List ℕ
joined zero f = []
joined (suc n) f = joined n f ++ f n

-- `cat` computes by its laws alone
is_joined : (n : ℕ) (f : ℕ → List ℕ) → cat n f ≡ joined n f
unfolding joined
is_joined zero f = cat_zero f
is_joined (suc n) f = cat_suc f n ∙ ap (λ (l : List ℕ). l ++ f n) (is_joined n f)

listed : (sparse : Bool) (gain : Float) (g : ℕ) → data_carriers (map_of (layout_of 7) sparse gain) g ≡ joined (map_of (layout_of 7) sparse gain).nc (data_at (map_of (layout_of 7) sparse gain) g)
unfolding data_carriers
listed sparse gain g = is_joined (map_of (layout_of 7) sparse gain).nc (data_at (map_of (layout_of 7) sparse gain) g)

pub examples : Examples
unfolding joined layout_of layouts quarter first_pilot on_pattern pattern_of map_of pattern_at is_pilot
examples = record { at_61 = at_61; at_62 = at_62 }
  where
    at_61 : (sparse : Bool) (gain : Float) → data_carriers (map_of (layout_of 7) sparse gain) 61 ≡ 0 ∷ 1 ∷ 3 ∷ []
    at_61 false gain = listed false gain 61
    at_61 true gain = listed true gain 61

    at_62 : (sparse : Bool) (gain : Float) → data_carriers (map_of (layout_of 7) sparse gain) 62 ≡ 1 ∷ 2 ∷ 3 ∷ []
    at_62 false gain = listed false gain 62
    at_62 true gain = listed true gain 62
