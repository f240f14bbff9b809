-- Document 01's worked session in heat 1, computed from the definitions: answers, pairs, stamps, and the one entry.
-- Proved by computing it. Assumes nothing.
use Rattle.std.specs.Prelude.{◌≡◌, refl, [], ◌∷◌, ◌++◌, replicate}
use Rattle.stamps.specs.Keys.{in_range, item_of, items_match, part_of}
use Rattle.stamps.specs.Stamps.{alive, present_at, together, covers, used, done_before}
use Rattle.stamps.specs.declared.Source.TheVariants.{B}
use Rattle.sheets.specs.Layout.{row_at, put_row, entry_at, put_entry, pair_at, put_pair, shows}
use Rattle.sheets.specs.Lists.{entries, list_of, probed_at}
use Rattle.sheets.specs.Rows.{leave, largest_part, victim}
use Rattle.pairs.specs.Pairs.{arrival_pairs, is_due, tried, due_pairs, due_from}
use Rattle.rules.specs.World.{flush, store, note, shut, move}
use Rattle.rules.specs.Refusals.{verdict, session_fits, room_for, own_checks}
use Rattle.rules.specs.Calls.{joins, arrives, evicts, runs, drains, effect, after_call}
use Rattle.rules.specs.declared.Call.TheVariants.{Run, Drain}
use Rattle.rules.specs.declared.Why.TheVariants.{StillOpen}
use Rattle.rules.specs.declared.Answer.TheVariants.{Ran, Shut, More, Done, Refused}
use Rattle.rules.specs.Worked.{ask, play, started, fed, run, drained, fed_stage, run_stage, told}

fed_is : fed ≡ fed_stage
unfolding fed started in_range item_of items_match part_of alive present_at together covers used done_before row_at put_row entry_at put_entry shows pair_at put_pair entries list_of probed_at leave largest_part victim arrival_pairs is_due tried due_pairs due_from flush store note shut move verdict session_fits room_for own_checks joins arrives evicts runs drains effect after_call ask play
fed_is = refl

run_is : run fed_stage ≡ run_stage
unfolding run in_range item_of items_match part_of alive present_at together covers used done_before row_at put_row entry_at put_entry shows pair_at put_pair entries list_of probed_at leave largest_part victim arrival_pairs is_due tried due_pairs due_from flush store note shut move verdict session_fits room_for own_checks joins arrives evicts runs drains effect after_call ask play
run_is = refl

-- after the five rows RUN,B,0 has nothing to write, and leaves its entry all the same
quiet_is : let p = ask 4 (Run B 0) fed_stage in (p.answers ≡ fed_stage.answers ++ (Ran 0 ∷ [])) × (p.world.session.counts ≡ 0 ∷ 0 ∷ 1 ∷ replicate 29 0)
unfolding in_range item_of items_match part_of alive present_at together covers used done_before row_at put_row entry_at put_entry shows pair_at put_pair entries list_of probed_at leave largest_part victim arrival_pairs is_due tried due_pairs due_from flush store note shut move verdict session_fits room_for own_checks joins arrives evicts runs drains effect after_call ask play
quiet_is = (refl, refl)

-- the table is read from the top: a drain with no room, while the sources are open, is StillOpen and not RoomShort
first_is : (ask 0 Drain fed_stage).answers ≡ fed_stage.answers ++ (Refused StillOpen ∷ [])
unfolding in_range item_of items_match part_of alive present_at together covers used done_before row_at put_row entry_at put_entry shows pair_at put_pair entries list_of probed_at leave largest_part victim arrival_pairs is_due tried due_pairs due_from flush store note shut move verdict session_fits room_for own_checks joins arrives evicts runs drains effect after_call ask play
first_is = refl

-- and after the drains: four answers and two pairs more, and no word of the sheets changed
drained_is : ((drained run_stage).answers ≡ run_stage.answers ++ (Shut ∷ Shut ∷ More 1 ∷ Done 1 ∷ []))
    × ((drained run_stage).pairs ≡ run_stage.pairs ++ (told 2 0 12 ∷ told 2 2 12 ∷ []))
    × ((drained run_stage).world.sheets ≡ run_stage.world.sheets)
unfolding drained in_range item_of items_match part_of alive present_at together covers used done_before row_at put_row entry_at put_entry shows pair_at put_pair entries list_of probed_at leave largest_part victim arrival_pairs is_due tried due_pairs due_from flush store note shut move verdict session_fits room_for own_checks joins arrives evicts runs drains effect after_call ask play
drained_is = (refl, refl, refl)
