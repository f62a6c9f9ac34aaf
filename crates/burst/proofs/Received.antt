-- What was read so far is the front of what the input had. Assumes nothing.
use Rattle.std.proofs.Common.{◌≡◌, ℕ, ◌+◌, ◌≤◌, List, ◌++◌, length, take, None, Some, sym, ap, ◌∙◌, append_assoc, length-take-le}
use Rattle.std.proofs.Math.Seq.{take-append-add}
use Rattle.std.proofs.lemmas.List.{take-append-le}
use Rattle.std.specs.declared.option.Option.{Option}
use Rattle.std.specs.Io.KnownBytes.{Consumes}

-- one read after another
pub more : (a b c : Option (List ℕ)) (bs cs ds : List ℕ) → Consumes a b bs → Consumes b c cs → ds ≡ bs ++ cs → Consumes a c ds
more None b c bs cs ds p q e = tt
more (Some x) None c bs cs ds p q e = absurd p
more (Some x) (Some y) None bs cs ds p q e = absurd q
more (Some x) (Some y) (Some z) bs cs ds p q e = p ∙ ap (λ l. bs ++ l) q ∙ sym (append_assoc bs cs z) ∙ ap (λ l. l ++ z) (sym e)

-- n bytes put after the first a
pub longer : (xs ys zs : List ℕ) (a n : ℕ) → a ≤ length xs → n ≤ length ys → take (a + n) (take a xs ++ (ys ++ zs)) ≡ take a xs ++ take n ys
longer xs ys zs a n h h' =
    let e : length (take a xs) ≡ a = length-take-le a xs h in
    ap (λ m. take (m + n) (take a xs ++ (ys ++ zs))) (sym e)
    ∙ (take-append-add (take a xs) (ys ++ zs) n ∙ ap (λ l. take a xs ++ l) (take-append-le n ys zs h'))
