-- `all` is std's `list_all`, which its lemmas on iterators speak of. Assumes nothing.
use Rattle.std.proofs.Common.{◌≡◌, Bool, ◌&&◌, List, refl}
use Rattle.std.specs.Prelude.{Float}
use Rattle.std.specs.List.{list_all}
use Rattle.std.proofs.lemmas.List.Recursion.{same_from_clauses}
use Rattle.scan.specs.Fine.{all}

pub all_is : (p : Float → Bool) (xs : List Float) → all p xs ≡ list_all p xs
unfolding all
all_is p = same_from_clauses (all p) (list_all p) (λ x r. p x && r) refl (λ _ _. refl) (λ _ _. refl)
