-- The table where the work area is all that is lent, and what is known of a call that it passes. Assumes nothing.
use Prim.Native.Nat.{ℕ, ◌*◌, ◌^◌, ◌-◌, ◌≤◌}
use mathlib.Core.Path.{◌≡◌, refl, ap, ◌∙◌}
use mathlib.Core.Bool.{Bool, true, false}
use mathlib.Core.List.{List}
use native.Mathlib.Omega.{arith}
use lib.ListN.{length, replicate, length-replicate}
use lib.Ieee.{Float, nan}
use borrow.Author.Tests.{le-leb}
use Rattle.std.specs.Prelude.{Some}
use Rattle.refine.specs.declared.settings.Settings.{Settings}
use Rattle.refine.specs.Refine.{Burst}
use Rattle.channel.specs.Channel.{Fit}
use Rattle.table.specs.Sizes.{ncell_of, nbits_of}
use Rattle.table.specs.Rows.{bad_symbols, holds, room_for}
use Rattle.table.specs.Refusals.{refusal_of}
use Rattle.phy.specs.Channels.{work_room, refusal_within}
use Rattle.table.proofs.Bounded.{small}
use Rattle.table.proofs.Passing.{counted, accepted_fits}

-- the other two lists are long enough
room_is : (s : Settings) (answer channel wf wu : ℕ) → nbits_of s ≤ answer → 3 * ncell_of s ≤ channel
    → room_for s (record { answer = Some answer; channel = Some channel; wf = wf; wu = wu }) ≡ work_room s wf wu
unfolding room_for holds work_room
room_is s answer channel wf wu ha hc = rw (le-leb _ _ ha, le-leb _ _ hc) refl

-- as long as a list can be
abbrev longest : ℕ
longest = 2 ^ 64 - 1

-- the table is the refinement's with the longest answer and channel list
pub same_table : (b : Burst) (prior : List Float) (wf wu : ℕ)
    → refusal_of b prior (room_for b.settings (record { answer = Some longest; channel = Some longest; wf = wf; wu = wu })) ≡ refusal_of b prior (work_room b.settings wf wu)
unfolding refusal_of
same_table b prior wf wu = go (bad_symbols b.settings) refl
  where
    go : (t : Bool) → bad_symbols b.settings ≡ t
        → refusal_of b prior (room_for b.settings (record { answer = Some longest; channel = Some longest; wf = wf; wu = wu })) ≡ refusal_of b prior (work_room b.settings wf wu)
    go true q = rw q refl
    go false q =
        let n = small b.settings (counted b.settings q) in
        ap (refusal_of b prior) (room_is b.settings longest longest wf wu (omega (arith, n.bits)) (omega (arith, n.cells)))

-- a burst that is passed meets what the core asks
pub passed_fits : (b : Burst) (prior wf : List Float) (wu : List ℕ) → refusal_within b prior wf wu ≡ 0 → Fit b wf wu
passed_fits b prior wf wu e =
    let s = b.settings in
    let answer : List Float = replicate (nbits_of s) nan in
    let channel : List Float = replicate (3 * ncell_of s) nan in
    let ha : length answer ≡ nbits_of s = length-replicate (nbits_of s) nan in
    let hc : length channel ≡ 3 * ncell_of s = length-replicate (3 * ncell_of s) nan in
    let f = accepted_fits b prior answer channel wf wu
    (ap (refusal_of b prior) (room_is s (length answer) (length channel) (length wf) (length wu) (omega (arith, ha)) (omega (arith, hc))) ∙ e) in
    record { gains = f.gains; some = f.some; most = f.most; long_grid = f.long_grid; long_sigma = f.long_sigma; long_cells = f.long_cells; in_wf = f.in_wf; in_wu = f.in_wu }
