-- A stored answer, and the output that it asks for.
use Rattle.std.specs.Prelude.{ℕ, ◌+◌, ◌*◌, ◌≤◌, List, ◌++◌, length, get_or, take, drop, replicate}
use Rattle.record.specs.Answer.{Answers}

-- the answer's bytes, then the page as it was
unfoldable pub over : (answer page : List ℕ) → List ℕ
over answer page = answer ++ drop (length answer) page

-- `refine_record` on this record and a copy of this page gives this number and this answer
unfoldable pub Right : (rec : List ℕ) (number : ℕ) (answer page : List ℕ) → Type 0
Right rec number answer page = Answers rec number page (over answer page)

-- bytes that no answer left behind
unfoldable pub fresh : List ℕ
fresh = replicate 16354 165

-- how long the record and the answer are that follow an entry's head
abbrev pub record_length : (head : List ℕ) → ℕ
record_length head = get_or head 0 0 * 256 + get_or head 1 0

abbrev pub answer_length : (head : List ℕ) → ℕ
answer_length head = get_or head 2 0 * 256 + get_or head 3 0

-- the input goes on with the record and the answer, and this is the record's answer
pub record Holds (head input : List ℕ) : Type 0 where
  pub whole : record_length head + answer_length head ≤ length input
  pub right : Right (take (record_length head) input) (get_or head 4 0) (take (answer_length head) (drop (record_length head) input)) fresh
