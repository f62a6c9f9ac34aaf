-- Document 01's table of causes, for a burst: the number of the first row that turns it away, or 0.
use Rattle.std.specs.Prelude.{ℕ, Bool, not, cond, List, length, Some, Float}
use Rattle.refine.specs.Refine.{Burst}
use Rattle.refine.specs.declared.settings.Settings.{Settings}
use Rattle.table.specs.declared.sizes.Lent.{Lent}
use Rattle.table.specs.Rows.{bad_layout, bad_codes, bad_symbols, bad_grid, bad_variances, bad_numbers, room_for}

-- the rows that the settings decide before any list is read
unfoldable pub settings_refusal : Settings → ℕ
settings_refusal s = cond (bad_layout s) 1 (cond (bad_codes s) 2 (cond (bad_symbols s) 3 0))

-- `room` says whether the lists that are lent to be written are long enough: how long differs between the entries
unfoldable pub refusal_of : Burst → (prior : List Float) → (room : Bool) → ℕ
refusal_of b prior room =
    let s = b.settings in
    cond (bad_layout s) 1
    (cond (bad_codes s) 2
    (cond (bad_symbols s) 3
    (cond (bad_grid s b.grid) 4
    (cond (bad_variances s b.sigma b.cells) 5
    (cond (not room) 6
    (cond (bad_numbers s b.grid b.sigma b.cells prior) 7
    0))))))

-- how long the lists are that are lent to be written
abbrev pub lent : (answer channel wf : List Float) → (wu : List ℕ) → Lent
lent answer channel wf wu = record { answer = Some (length answer); channel = Some (length channel); wf = length wf; wu = length wu }

-- the table's number for a call of `refine`
abbrev pub refusal_in : Burst → (prior answer channel wf : List Float) → (wu : List ℕ) → ℕ
refusal_in b prior answer channel wf wu = refusal_of b prior (room_for b.settings (lent answer channel wf wu))
