-- `refine_numbers` meets its contract: the parts are those of the burst.
use Rattle.record.proofs.Cutting.{short_in, first_settings, cut_burst, cut_prior}
use Rattle.record.proofs.judging.refine_numbers.Goals as goal

pub refine_alone-requires : goal.refine_alone-requires
refine_alone-requires c = rw c.settings.ensures (short_in _ _ _ _ c.requires.short)

pub returns : goal.returns
returns c =
    let z = c.sizes_of-z.ensures in
    let a = c.split_at.ensures in
    let b = c.split_at-2.ensures in
    let d = c.split_at-3.ensures in
    let e = c.split_at-4.ensures in
    let s = first_settings _ _ _ _ a.front c.settings.ensures in
    rw (cut_burst _ _ _ _ _ _ _ _ _ _ _ z s a.back b.front b.back d.front d.back e.front e.back, cut_prior _ _ _ _ _ _ _ _ _ _ _ z s a.back b.front b.back d.front d.back e.front e.back)
    at c.refine_alone.ensures
