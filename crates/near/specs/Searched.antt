-- What a search skips, and its keys: those of `Walk`, at what it holds.
use Rattle.std.specs.Prelude.{ℕ, Bool, List}
use Rattle.near.specs.Walk.{skips, keys, found}
use Rattle.near.specs.declared.query.Search.{Search}

module _ (s : Search) where
  abbrev pub skips_of : ℕ → Bool
  skips_of = skips s.q s.w s.x s.pilots.c.now

  abbrev pub keys_of : ℕ → ℕ
  keys_of = keys s.q s.pilots.c.now s.pilots.g.now

  abbrev pub found_of : List ℕ
  found_of = found skips_of s.lo s.hi
