-- The turns of the loops that hand out a list: what is written, then what is left within the room, is the whole.
-- Assumes nothing.
use Rattle.std.proofs.Common.{◌≡◌, refl, ap, ◌∙◌, List, ◌∷◌, map, ℕ, suc, ◌+◌, ◌-◌, ◌≤◌, ◌<◌, add-one, length, take, Some, arith}
use Rattle.std.proofs.Math.Nat.{sub-zero}
use Rattle.std.specs.Iterator.{MakesProgress, item_count}
use Rattle.pairs.specs.Rooms.{past, put_all}

-- a walk that gave the first of what was left has less before it
pub goes_on : {S A B : Type 0} (rest : S → List B) (s t : S) (r : A) (x : B) → rest s ≡ x ∷ rest t → MakesProgress (λ _. Unit) (item_count rest) s (Some r) t
goes_on rest s t r x e = record { on = λ _. (tt, tt, rw e (omega arith)); keeps = tt; rests = λ _. tt }

-- ---- handed out one by one: ys is what is left of all

pub record Handing {Y : Type 0} (put : ℕ → Y → List ℕ → List ℕ) (all ys : List Y) (o out : List ℕ) (w : ℕ) : Type 0 where
  pub sum : w + length ys ≡ length all
  pub long : length out ≡ length o
  pub rest : put_all put w ys out ≡ put_all put 0 all o

module _ {Y : Type 0} (put : ℕ → Y → List ℕ → List ℕ) where
  pub handing_first : (all : List Y) (o : List ℕ) → Handing put all all o o 0
  handing_first all o = record { sum = omega arith; long = refl; rest = refl }

  module _ (all : List Y) (o out : List ℕ) (w : ℕ) where
    pub handing_next : ((w : ℕ) (y : Y) (o : List ℕ) → length (put w y o) ≡ length o) → (y : Y) (ys : List Y) (out' : List ℕ) → Handing put all (y ∷ ys) o out w
        → out' ≡ put w y out → Handing put all ys o out' (w + 1)
    handing_next same y ys out' h e = record {
      sum = omega (arith, h.sum);
      long = ap length e ∙ same w y out ∙ h.long;
      rest = rw (add-one w, e) h.rest;
    }

-- ---- within a room

-- n were given of all, and left is to come; next is one past the last
pub record Giving {X Y : Type 0} (place : X → ℕ) (end : ℕ) (tell : X → Y) (put : ℕ → Y → List ℕ → List ℕ) (all left : List X) (from room : ℕ) (o out : List ℕ) (n next : ℕ) : Type 0 where
  pub in_room : n ≤ room
  pub sum : n + length left ≡ length all
  pub hands : Handing put (map tell (take room all)) (map tell (take (room - n) left)) o out n
  pub ends : past place next (take (room - n) left) ≡ past place from (take room all)
  pub few : length all ≤ end
  pub within : next ≤ end

module _ {X Y : Type 0} (place : X → ℕ) (end : ℕ) (tell : X → Y) (put : ℕ → Y → List ℕ → List ℕ) (all : List X) (from room : ℕ) (o : List ℕ) where
  pub giving_first : from ≤ end → length all ≤ end → Giving place end tell put all all from room o o 0 from
  giving_first h b = record {
    in_room = omega arith;
    sum = omega arith;
    hands = rw sub-zero (handing_first put _ o);
    ends = rw sub-zero;
    few = b;
    within = h;
  }

  module _ (out : List ℕ) (n next : ℕ) where
    module _ (x : X) (left : List X) (h : Giving place end tell put all (x ∷ left) from room o out n next) where
      ahead : n < room → take (room - n) (x ∷ left) ≡ x ∷ take (room - (n + 1)) left
      ahead b = let e : room - n ≡ suc (room - (n + 1)) = omega arith in rw e

      pub giving_next : ((w : ℕ) (y : Y) (o : List ℕ) → length (put w y o) ≡ length o) → (out' : List ℕ) → n < room → suc (place x) ≤ end → out' ≡ put n (tell x) out
          → Giving place end tell put all left from room o out' (n + 1) (suc (place x))
      giving_next same out' b k e = record {
        in_room = omega arith;
        sum = omega (arith, h.sum);
        hands = handing_next put _ o out n same (tell x) _ out' (rw (ahead b) at h.hands) e;
        ends = rw (ahead b) at h.ends;
        few = h.few;
        within = k;
      }
