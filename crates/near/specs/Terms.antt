-- The two tables of terms, at a search.
use Rattle.near.specs.Walk.{Right}
use Rattle.near.specs.declared.query.Search.{Search}
use Rattle.near.specs.declared.tables.Terms.{Terms}

abbrev pub RightFor : Search → Terms → Type 0
RightFor s t = Right s.q s.w.nc s.g t.carriers t.symbols
