-- f64 to f32: `narrowed x` is what `ieee::narrow` answers. `Nearest` says that it is the rounding of IEEE 754.
use Rattle.std.specs.Prelude.{◌*◌, Float}
use Rattle.std.specs.Float.{nan, inf, fin, binary32}
use Rattle.std.specs.Float.Ieee.{up, down, round}

-- x at the narrower format, rounded to the nearest, a tie to the even one
unfoldable pub narrowed : Float → Float
narrowed nan = nan
narrowed (inf s) = inf s
narrowed (fin s m e) = round binary32 s (m * up e) (down e)
