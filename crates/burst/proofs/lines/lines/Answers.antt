use Rattle.std.proofs.Common.{◌≡◌, ◌++◌, ℕ, List, Some, arith, refl, sym, ap, ◌∙◌}
use Rattle.std.specs.declared.option.Option.{Option}
use Rattle.std.specs.Prelude.{unwrap_or}
use Rattle.wire.specs.Shape.{bits_in, bits_of}
use lib.ListN.{length-replicate}
use Rattle.cause.specs.Causes.{cause_number, number_of}
use Rattle.wire.proofs.Rows.{some_number, bits_or_none}
use Rattle.burst.specs.Lines.{refused_of}
use Rattle.burst.proofs.Accepted.{some_bits, few_bits}
use Rattle.burst.proofs.Printing.{print_refused, print_answer}
use Rattle.burst.proofs.lines.lines.Goals as goal

-- the bits that a record has
bits : (rec : List ℕ) (o : Option ℕ) (n : ℕ) → o ≡ Some n → o ≡ bits_in rec → n ≡ bits_of rec
bits rec o n e h = ap (λ (p : Option ℕ). unwrap_or p 0) (sym e ∙ h) ∙ bits_or_none rec

pub unwrap-bits-requires : goal.unwrap-bits-requires
unwrap-bits-requires c =
    let q = c.refine_record in
    rw c.record_bits.ensures (some_bits c.args.rec.now _ (sym q.ensures.result ∙ rw c.in_default.is refl))

pub put_refused-requires : goal.put_refused-requires
put_refused-requires c = rw c.new-text.ensures (omega arith)

pub returns-in-Err : goal.returns-in-Err
returns-in-Err c =
    let q = c.refine_record in
    let r = print_refused c.args.rec.now (cause_number c.in-Err.cause) _ q.new.out (length-replicate {A = ℕ} 16354 0) (rw c.in-Err.is at q.ensures) (some_number c.in-Err.cause) in
    c.put_refused.ensures ∙ (ap (λ (l : List ℕ). l ++ refused_of c.from.result) c.new-text.ensures ∙ (ap refused_of c.from.ensures ∙ r))

pub put_answer-requires : goal.put_answer-requires
put_answer-requires c =
    let n = bits c.args.rec.now c.record_bits.result c.unwrap-bits.result c.unwrap-bits.ensures c.record_bits.ensures in
    let h = few_bits c.args.rec.now in
    record {
      answer = omega (arith, n, h, c.refine_record.auto.out, length-replicate {A = ℕ} 16354 0);
      most = omega (arith, n, h);
      text = rw c.new-text.ensures (omega (arith, n, h));
    }

pub returns : goal.returns
returns c =
    let q = c.refine_record in
    let n = c.unwrap-bits in
    let e = bits c.args.rec.now c.record_bits.result n.result n.ensures c.record_bits.ensures in
    rw (c.put_answer.ensures, c.new-text.ensures) (print_answer c.args.rec.now (number_of q.result) _ q.new.out (length-replicate {A = ℕ} 16354 0) q.ensures n.result e (rw c.in_default.is refl))
