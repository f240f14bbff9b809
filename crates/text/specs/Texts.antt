-- Bytes put into a lent buffer.
use Rattle.std.specs.Prelude.{◌≡◌, List, ℕ, ◌+◌, length}
use Rattle.std.proofs.lemmas.List.Edits.{sets}

-- a text put into a buffer: it stands in e from `at` on, r is the place after it, and nothing else changed
pub record Put (d : List ℕ) (at : ℕ) (text : List ℕ) (r : ℕ) (e : List ℕ) : Type 0 where
  pub next : r ≡ at + length text
  pub bytes : e ≡ sets d at text
  pub long : length e ≡ length d

-- a text begun anew: cleared, and then this put, by what clears and what puts such texts
pub record Anew {S : Type 0} (Clears : S → S → Type 0) (Puts : S → List ℕ → S → Type 0) (s : S) (v : List ℕ) (t : S) : Type 0 where
  pub begun : S
  pub clears : Clears s begun
  pub puts : Puts begun v t
