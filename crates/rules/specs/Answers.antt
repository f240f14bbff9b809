-- Document 01's number and values for each kind of answer.
use Rattle.std.specs.Prelude.{Bool, true, false, ℕ, ◌+◌}
use Rattle.rules.specs.declared.Why.{Why}
use Rattle.rules.specs.declared.Why.TheVariants.{BadSheet, BadKey, BadPart, Closed, SheetFull, ListFull, StillOpen, RoomShort, BadLine, NoStart}
use Rattle.rules.specs.declared.Answer.{Answer}
use Rattle.rules.specs.declared.Answer.TheVariants.{Opened, Taken, Flushed, Ran, Shut, More, Done, MoreLone, DoneLone, Refused}

-- the number of a refusal in the table
abbrev pub code_of : Why → ℕ
code_of BadSheet = 1
code_of BadKey = 2
code_of BadPart = 3
code_of Closed = 4
code_of SheetFull = 5
code_of ListFull = 6
code_of StillOpen = 7
code_of (RoomShort n) = 8
code_of BadLine = 9
code_of NoStart = 10

-- the pairs that an answer says were written
abbrev pub pairs_of : Answer → ℕ
pairs_of Opened = 0
pairs_of (Taken n) = n
pairs_of (Flushed n) = 0
pairs_of (Ran n) = n
pairs_of Shut = 0
pairs_of (More n) = n
pairs_of (Done n) = n
pairs_of (MoreLone n) = 0
pairs_of (DoneLone n) = 0
pairs_of (Refused w) = 0

-- the rows without partner that an answer says were written
abbrev pub singles_of : Answer → ℕ
singles_of Opened = 0
singles_of (Taken n) = 0
singles_of (Flushed n) = 0
singles_of (Ran n) = 0
singles_of Shut = 0
singles_of (More n) = 0
singles_of (Done n) = 0
singles_of (MoreLone n) = n
singles_of (DoneLone n) = n
singles_of (Refused w) = 0

-- what it says was written: pairs or rows without partner, and no answer names both
abbrev pub written_of : Answer → ℕ
written_of x = pairs_of x + singles_of x

-- whether it is a refusal
abbrev pub refused : Answer → Bool
refused Opened = false
refused (Taken n) = false
refused (Flushed n) = false
refused (Ran n) = false
refused Shut = false
refused (More n) = false
refused (Done n) = false
refused (MoreLone n) = false
refused (DoneLone n) = false
refused (Refused w) = true
