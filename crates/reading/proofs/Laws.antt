-- What the layers above may know of reading: a line in its buffer reads as the whole line, and what it asks for has a room of at
-- most 512. By cases on what it asks for. Assumes nothing.
use Rattle.std.proofs.Common.{◌≡◌, refl, sym, ap, ◌∙◌, subst, Bool, true, false, cond, List, ℕ, ◌≤◌, arith, leb, eqb, length, take, take_all, length-take-le, leb-true, leb-false, Option, Some, None, option_map, option_and_then}
use Rattle.std.specs.Bool.{then_some}
use Rattle.std.specs.Option.{option_zip}
use Rattle.stamps.specs.declared.Source.{Source}
use Rattle.text.specs.Fields.{fields, field_at}
use Rattle.text.specs.Gathering.{Holds}
use Rattle.sheets.specs.Layout.{pairs_need}
use Rattle.rules.specs.Rounds.{room_in}
use Rattle.reading.specs.Reading.{line_most, number_at, source_at, room_at, roomed, three_of, start, arrive, sourced_of, evict, run, close, room_most, lone, close_line, drain_line, lone_line, line_of, read_line}
use Rattle.reading.specs.Words.{word_of}
use Rattle.reading.specs.declared.Line.{Line}
use Rattle.reading.specs.declared.Line.TheVariants as line
use Rattle.reading.specs.declared.words.Word.{Word}
use Rattle.reading.specs.declared.words.Word.TheVariants as word

-- a line in its buffer reads as the whole line
pub read_held : (l line : List ℕ) → Holds line_most l line → read_line l ≡ read_line line
unfolding read_line
read_held l line h = rw h (go (leb (length line) 80) refl)
  where
    go : (u : Bool) → leb (length line) 80 ≡ u → read_line (take line_most line) ≡ read_line line
    go true e = ap read_line (take_all line_most line (omega (arith, leb-true (length line) 80 e)))
    go false e = let n : length (take line_most line) ≡ 81 = length-take-le line_most line (leb-false (length line) 80 e) in rw (e, n)

-- ---- what a line asks for has a room of at most 512: the one that it names, or that of the whole output

abbrev pub RoomFits : Line → Type 0
RoomFits (line.Start p m n) = Unit
RoomFits (line.Ask c) = room_in c (pairs_need room_most) ≤ room_most
RoomFits (line.Drain room) = room ≤ room_most
RoomFits (line.Lone s room) = room ≤ room_most

-- the same of a line that may say nothing
abbrev pub AskedFits : Option Line → Type 0
AskedFits None = Unit
AskedFits (Some x) = RoomFits x

-- what fits whatever it says
map_fits : {X : Type 0} (f : X → Line) → ((x : X) → RoomFits (f x)) → (o : Option X) → AskedFits (option_map f o)
map_fits f h None = tt
map_fits f h (Some x) = h x

-- a test passed or not: what says nothing fits
fits_if : (u : Bool) (o : Option Line) → AskedFits o → AskedFits (cond u o None)
fits_if true o h = h
fits_if false o h = tt

-- a room that is read is one of at most 512
room_read : (n : Option ℕ) (room : ℕ) → option_and_then roomed n ≡ Some room → room ≤ room_most
room_read None room e = cc
room_read (Some n) room e = go (leb n room_most) refl e
  where
    go : (u : Bool) → leb n room_most ≡ u → then_some u n ≡ Some room → room ≤ room_most
    go true b f = let same : n ≡ room = cc in omega (arith, leb-true n room_most b)
    go false b f = cc

drain-fits : (r : Option ℕ) → ((room : ℕ) → r ≡ Some room → room ≤ room_most) → AskedFits (option_map line.Drain r)
drain-fits None h = tt
drain-fits (Some room) h = h room refl

lone-fits : (s : Option Source) (r : Option ℕ) → ((room : ℕ) → r ≡ Some room → room ≤ room_most) → AskedFits (option_map lone (option_zip s r))
lone-fits None r h = tt
lone-fits (Some s) None h = tt
lone-fits (Some s) (Some room) h = h room refl

line_fits : (fs : List (List ℕ)) (w : Word) → AskedFits (line_of fs w)
unfolding close_line drain_line lone_line
line_fits fs word.Start = map_fits start (λ n. tt) (three_of fs)
line_fits fs (word.Arrive s) = map_fits (arrive s) (λ n. omega arith) (three_of fs)
line_fits fs word.Evict = map_fits evict (λ p. omega arith) (sourced_of fs)
line_fits fs word.Run = map_fits run (λ p. omega arith) (sourced_of fs)
line_fits fs word.Close = fits_if (eqb (length fs) 2) _ (map_fits close (λ s. omega arith) (source_at fs 1))
line_fits fs word.Drain = fits_if (eqb (length fs) 2) _ (drain-fits (room_at fs 1) (room_read (number_at fs 1)))
line_fits fs word.Lone = fits_if (eqb (length fs) 3) _ (lone-fits (source_at fs 1) (room_at fs 2) (room_read (number_at fs 2)))

word_fits : (fs : List (List ℕ)) (w : Option Word) → AskedFits (option_and_then (line_of fs) w)
word_fits fs None = tt
word_fits fs (Some w) = line_fits fs w

pub room_fits : (l : List ℕ) → AskedFits (read_line l)
unfolding read_line
room_fits l = fits_if (leb (length l) 80) _ (word_fits (fields l) (word_of (field_at l 0)))

-- the same of a line that was read
pub read_fits : (l : List ℕ) {o : Option Line} {x : Line} → o ≡ read_line l → o ≡ Some x → RoomFits x
read_fits l e f = subst AskedFits (sym e ∙ f) (room_fits l)
