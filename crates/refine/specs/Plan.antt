-- The settings as the steps of the path take them.
use Rattle.std.specs.Prelude.{List, [], Float}
use Rattle.refine.specs.declared.settings.Settings.{Settings}
use Rattle.refine.specs.declared.settings.Plan.{Plan}
use Rattle.refine.specs.Refine.{burst, unit, source, shape, setting}

-- they do not depend on a burst's numbers
abbrev pub unit_for : Settings → List Float
unit_for s = unit (burst s [] [] [])

abbrev pub plan_for : Settings → Plan
plan_for s = record { source = source (burst s [] [] []); shape = shape (burst s [] [] []); setting = setting (burst s [] [] []) }
