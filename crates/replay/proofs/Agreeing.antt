-- An output that holds the stored answer, and a call that gives it. Assumes nothing.
use Rattle.std.proofs.Common.{◌≡◌, ℕ, ◌-◌, ◌≤◌, Bool, true, false, not, eqb, List, ◌++◌, length, get_or, take, drop, None, Some, IfSome, refl, sym, ap, ap₂, subst, subst₂, ◌∙◌, length-append, length-drop, length-take-le, take-append-drop, take_all, take_at, drop_at, arith}
use Rattle.std.specs.declared.option.Option.{Option}
use Rattle.std.specs.Io.KnownBytes.{Consumes}
use lib.Pointwise.{pointwise, bytes_decides}
use Rattle.record.specs.Answer.{Answers}
use Rattle.replay.specs.Stored.{over, Right, fresh, record_length, answer_length, Holds}

-- the test of two lists of bytes
pub told_same : {xs ys : List ℕ} → true ≡ pointwise eqb xs ys → xs ≡ ys
told_same {xs} {ys} e = (bytes_decides xs ys).0 (sym e)

pub not_other : {xs ys : List ℕ} → false ≡ not (pointwise eqb xs ys) → xs ≡ ys
not_other {xs} {ys} e = told_same (go (pointwise eqb xs ys) e)
  where
    go : (b : Bool) → false ≡ not b → true ≡ b
    go true e = refl
    go false e = sym e

pub joined : (out answer page : List ℕ) (k : ℕ) → k ≡ length answer → take k out ≡ answer → take (length out - k) (drop k out) ≡ take (length page - k) (drop k page)
    → out ≡ over answer page
unfolding over
joined out answer page k e front rest =
    let whole : (l : List ℕ) → take (length l - k) (drop k l) ≡ drop k l = λ l. take_all (length l - k) (drop k l) (omega (arith, length-drop k l)) in
    sym (take-append-drop k out)
    ∙ ap₂ (λ (a b : List ℕ). a ++ b) front (sym (whole out) ∙ (rest ∙ (whole page ∙ ap (λ (m : ℕ). drop m page) e)))

pub right : (rec answer page out₀ out₁ : List ℕ) (q number : ℕ) → Answers rec q out₀ out₁ → out₀ ≡ page → q ≡ number → out₁ ≡ over answer page
    → Right rec number answer page
unfolding Right
right rec answer page out₀ out₁ q number a e f g =
    subst (λ (o : List ℕ). Answers rec number page o) g (subst (λ (m : ℕ). Answers rec m page out₁) f (subst (λ (o : List ℕ). Answers rec q o out₁) e a))

-- a record and an answer that were read one after the other
pub held : (head rec answer : List ℕ) (m k : ℕ) (a b c : Option (List ℕ)) → m ≡ record_length head → k ≡ answer_length head → m ≤ length rec → k ≤ length answer
    → Consumes a b (take m rec) → Consumes b c (take k answer) → Right (take m rec) (get_or head 4 0) (take k answer) fresh → IfSome a (Holds head)
held head rec answer m k None b c e f h h' p q r = tt
held head rec answer m k (Some x) None c e f h h' p q r = absurd p
held head rec answer m k (Some x) (Some y) None e f h h' p q r = absurd q
held head rec answer m k (Some x) (Some y) (Some z) e f h h' p q r =
    let long : length (take m rec) ≡ m = length-take-le m rec h in
    let long' : length (take k answer) ≡ k = length-take-le k answer h' in
    let first : take m x ≡ take m rec = ap (take m) p ∙ take_at (take m rec) y m long in
    let rest : drop m x ≡ y = ap (drop m) p ∙ drop_at (take m rec) y m long in
    let second : take k (drop m x) ≡ take k answer = ap (take k) (rest ∙ q) ∙ take_at (take k answer) z k long' in
    let n : ℕ = get_or head 4 0 in
    let one : Right (take m x) n (take k (drop m x)) fresh = subst₂ (λ (u v : List ℕ). Right u n v fresh) (sym first) (sym second) r in
    let two : Right (take m x) n (take (answer_length head) (drop m x)) fresh = subst (λ (j : ℕ). Right (take m x) n (take j (drop m x)) fresh) f one in
    record {
      whole = omega (arith, e, f, long, long', ap length p, ap length q, length-append (take m rec) y, length-append (take k answer) z);
      right = subst (λ (i : ℕ). Right (take i x) n (take (answer_length head) (drop i x)) fresh) e two;
    }
