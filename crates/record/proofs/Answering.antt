-- The ways in which a call of the C functions ends. Assumes nothing.
use Prim.Native.Nat.{ℕ, ◌+◌, ◌*◌, ◌≤◌, ◌<◌}
use mathlib.Core.Path.{◌≡◌, refl, sym, ◌∙◌}
use mathlib.Core.Bool.{Bool, true, false, cond, ◌&&◌}
use mathlib.Core.List.{List}
use native.Mathlib.Omega.{arith}
use borrow.Author.Tests.{le-leb, lt-leb, eq-eqb, ne_eqb, eqb-true}
use lib.ListN.{length}
use lib.Dec.{leb, eqb}
use Rattle.seq.specs.Tab.Laws.{length_tab}
use Rattle.cause.specs.declared.Cause.{Cause}
use Rattle.cause.specs.Causes.{cause_number}
use Rattle.table.specs.Rows.{bad_layout, bad_codes, bad_symbols, bad_grid, bad_variances}
use Rattle.table.specs.Sizes.{nc_of, ncell_of, grid_cells}
use Rattle.table.specs.Refusals.{refusal_of}
use Rattle.wire.specs.Record.{settings, burst_of, prior_of, number_at, numbers}
use Rattle.wire.specs.Shape.{bad_record, bad_length, shape_refusal, answer_length, channel_length}
use Rattle.record.specs.Refusals.{refusal_in}
use Rattle.record.specs.Answer.{answer_bytes, channel_bytes, Answers, AnswersBoth}
use Rattle.record.specs.Judging.{Judges}
use Rattle.wire.proofs.Rows.{some_number}
use Rattle.wire.proofs.Shaped.{passed, shaped}

module _ (rec : List ℕ) where
  -- a record's lists have the lengths that its fields give
  grid_row : (a : ℕ) → bad_grid (settings rec) (numbers rec a (2 * grid_cells (settings rec))) ≡ false
  unfolding bad_grid
  grid_row a = rw (length_tab (λ i. number_at rec (a + i)) (2 * grid_cells (settings rec)), eq-eqb _ _ refl) refl

  variances_row : (a c : ℕ) → bad_variances (settings rec) (numbers rec a (nc_of (settings rec))) (numbers rec c (ncell_of (settings rec))) ≡ false
  unfolding bad_variances
  variances_row a c =
      rw (length_tab (λ i. number_at rec (a + i)) (nc_of (settings rec)), length_tab (λ i. number_at rec (c + i)) (ncell_of (settings rec)), eq-eqb _ _ refl, eq-eqb _ _ refl) refl

  -- the row of cause 6 is the first that can turn it away
  no_room : shape_refusal rec ≡ 0 → 6 ≡ refusal_of (burst_of rec) (prior_of rec) false
  unfolding shape_refusal refusal_of burst_of
  no_room h =
      let s = settings rec in
      let t = passed (bad_record rec) (bad_layout s) (bad_codes s) (bad_symbols s) (bad_length rec) h in
      rw (t.1, t.2, t.3, grid_row _, variances_row _ _) refl

  shaped_refusal : (room : Bool) → shape_refusal rec ≡ 0 → refusal_in rec room ≡ refusal_of (burst_of rec) (prior_of rec) room
  unfolding refusal_in
  shaped_refusal room h = rw (eq-eqb (shape_refusal rec) 0 h) refl

  unshaped_refusal : (room : Bool) → (shape_refusal rec ≡ 0 → ⊥) → refusal_in rec room ≡ shape_refusal rec
  unfolding refusal_in
  unshaped_refusal room h = rw (ne_eqb (shape_refusal rec) 0 h) refl

  module _ (out channel : List ℕ) where
    turned_away : (q : ℕ) → (q ≡ 0 → ⊥) → q ≡ refusal_in rec (leb (answer_length rec) (length out) && leb (channel_length rec) (length channel))
        → AnswersBoth rec q out out channel channel
    turned_away q h e = record { result = e; accepted = λ z. absurd (h z); refused = λ z. (refl, refl) }

    pub bad_shape : (cause : Cause) → cause_number cause ≡ shape_refusal rec → AnswersBoth rec (cause_number cause) out out channel channel
    bad_shape cause e = turned_away _ (some_number cause) (e ∙ sym (unshaped_refusal _ (λ z. some_number cause (e ∙ z))))

    pub no_answer : shape_refusal rec ≡ 0 → length out < answer_length rec → AnswersBoth rec 6 out out channel channel
    no_answer h l = turned_away 6 (λ z. omega arith) (rw (lt-leb (answer_length rec) (length out) l) (no_room h ∙ sym (shaped_refusal false h)))

    pub no_channel : shape_refusal rec ≡ 0 → answer_length rec ≤ length out → length channel < channel_length rec → AnswersBoth rec 6 out out channel channel
    no_channel h a l =
        turned_away 6 (λ z. omega arith)
        (rw (le-leb (answer_length rec) (length out) a, lt-leb (channel_length rec) (length channel) l) (no_room h ∙ sym (shaped_refusal false h)))

    pub both : (n : ℕ) (out₁ channel₁ : List ℕ) → shape_refusal rec ≡ 0 → answer_length rec ≤ length out → channel_length rec ≤ length channel
        → Judges (burst_of rec) (prior_of rec) n out out₁ channel channel₁ → AnswersBoth rec n out out₁ channel channel₁
    unfolding answer_bytes channel_bytes
    both n out₁ channel₁ h a c j = record {
      result = rw (le-leb (answer_length rec) (length out) a, le-leb (channel_length rec) (length channel) c) (j.result ∙ sym (shaped_refusal true h));
      accepted = j.accepted;
      refused = j.refused;
    }

  few : (n : ℕ) → n ≡ 8172 → shape_refusal rec ≡ 0 → channel_length rec ≤ n
  unfolding burst_of
  few n e h = let s = shaped rec h in omega (arith, e, s.channel)

  -- 8,172 bytes are room for any record's estimates
  same_room : (room : Bool) (n : ℕ) → n ≡ 8172 → refusal_in rec (room && leb (channel_length rec) n) ≡ refusal_in rec room
  unfolding refusal_in
  same_room room n e = go (eqb (shape_refusal rec) 0) refl
    where
      with_room : (room t : Bool) → t ≡ true → room && t ≡ room
      with_room true t q = q
      with_room false t q = refl

      go : (t : Bool) → eqb (shape_refusal rec) 0 ≡ t
          → cond (eqb (shape_refusal rec) 0) (refusal_of (burst_of rec) (prior_of rec) (room && leb (channel_length rec) n)) (shape_refusal rec)
          ≡ cond (eqb (shape_refusal rec) 0) (refusal_of (burst_of rec) (prior_of rec) room) (shape_refusal rec)
      go true q = rw (q, with_room room (leb (channel_length rec) n) (le-leb _ _ (few n e (eqb-true _ _ q)))) refl
      go false q = rw q refl

  pub answer_alone : (r : ℕ) (out₀ out₁ channel₀ channel₁ : List ℕ) → length channel₀ ≡ 8172 → AnswersBoth rec r out₀ out₁ channel₀ channel₁ → Answers rec r out₀ out₁
  answer_alone r out₀ out₁ channel₀ channel₁ l h = record {
    result = h.result ∙ same_room (leb (answer_length rec) (length out₀)) (length channel₀) l;
    accepted = λ z. (h.accepted z).0;
    refused = λ z. (h.refused z).0;
  }
