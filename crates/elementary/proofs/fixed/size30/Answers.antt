-- `elementary::size30` meets its contract. Assumes nothing.
use Rattle.std.proofs.Common.{ℕ, ◌^◌, ◌≤◌, sym, ◌∙◌, subst}
use Rattle.elementary.proofs.Products.{size_scaled}
use Rattle.elementary.proofs.fixed.size30.Goals as goal

pub truncating_f64_to_u64-requires : goal.truncating_f64_to_u64-requires
truncating_f64_to_u64-requires c =
    let r = size_scaled c.args.p c.abs.result c.well_formed.0.1 c.requires c.abs.ensures in
    record { lower_bound = r.low; upper_bound = r.high }

pub returns : goal.returns
returns c =
    let r = size_scaled c.args.p c.abs.result c.well_formed.0.1 c.requires c.abs.ensures in
    let e = c.truncating_f64_to_u64.ensures ∙ r.is in
    (e, subst (λ (x : ℕ). x ≤ 2 ^ 39) (sym e) r.most)
