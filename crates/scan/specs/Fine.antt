-- Which numbers an entry takes, a whole list at a time.
use Rattle.std.specs.Prelude.{Bool, true, not, ◌&&◌, List, [], ◌∷◌, Float}
use Rattle.std.specs.Float.Ieee.{lt}
use Rattle.ieee.specs.Num.{zero32}
use Rattle.ieee.specs.Order.{is_finite}

unfoldable pub all : (Float → Bool) → List Float → Bool
all p [] = true
all p (x ∷ xs) = p x && all p xs

-- finite and not below 0: -0 is a variance
unfoldable pub is_variance : Float → Bool
is_variance x = not (lt x zero32) && is_finite x
