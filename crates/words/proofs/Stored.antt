-- How long a number's bytes are. Assumes nothing.
use Prim.Native.Nat.{ℕ}
use mathlib.Core.Path.{◌≡◌, refl}
use lib.ListN.{length}
use Rattle.words.specs.Bytes.{word}

pub length_word : (x : ℕ) → length (word x) ≡ 4
unfolding word
length_word x = refl
