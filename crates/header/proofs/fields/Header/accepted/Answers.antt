-- `Header::accepted` meets its contract: equality with `PLAIN` is the mode's test.
use Rattle.std.proofs.Common.{◌≡◌, Bool, true, false, ◌∙◌, ap, refl, rules}
use Rattle.std.proofs.Math.Bool.{beq, not, ◌&&◌}
use Rattle.std.specs.Prelude.{nat_eq}
use Rattle.header.specs.Fields.{is_plain, accepted}
use Rattle.header.proofs.fields.Header.accepted.Goals as goal

is_false : (b : Bool) → beq b false ≡ not b
is_false true = refl
is_false false = refl

pub returns-then-not-self : goal.returns-then-not-self
unfolding accepted
returns-then-not-self c =
    let m = c.args.self.mode in
    let plain : c.eq-plain.result ≡ is_plain m = c.eq-plain.ensures ∙ ap (λ (t : Bool). t && nat_eq m.gain_code 0) (is_false m.spread) in
    search rules
