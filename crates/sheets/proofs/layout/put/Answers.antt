-- What stands before and behind the thing's words is as it was.
use Rattle.std.proofs.Common.{◌≡◌, ℕ, ◌+◌, ◌-◌, ◌≤◌, List, length, take, drop, ◌∙◌, append_assoc, length-drop, length-take-le, arith}
use Rattle.std.proofs.lemmas.List.{drop-drop}
use Rattle.std.proofs.lemmas.List.Edits.{sets, sets-eq}
use borrow.Rule.Slice.PartMut.{put_mid}
use Rattle.sheets.proofs.layout.put.Goals as goal

put_mid-sets : (a k : ℕ) (xs ys : List ℕ) → length ys ≡ length (take (a + k - a) (drop a xs)) → a + k ≤ length xs → put_mid a (a + k - a) xs ys ≡ sets xs a ys
put_mid-sets a k xs ys e h =
    let few : a + k - a ≤ length (drop a xs) = rw length-drop (omega arith) in
    let long : length ys ≡ a + k - a = e ∙ length-take-le (a + k - a) (drop a xs) few in
    rw (sets-eq ys xs a (omega (arith, long)), drop-drop (a + k - a) a xs, long, append_assoc)

pub returns : goal.returns
returns g c = rw (← c.copy_from_slice.ensures.after) (put_mid-sets _ _ _ _ c.copy_from_slice.ensures.len c.requires)
