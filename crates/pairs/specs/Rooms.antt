-- A list handed out in rooms: from a position on, as many as the room holds; the next call goes on behind them.
-- Drains hand out pairs, and lone calls rows.
use Rattle.std.specs.Prelude.{◌≡◌, cond, List, [], ◌∷◌, map, ℕ, zero, suc, ◌≤◌, ltb, leb, length, take}
use Rattle.stamps.specs.Counting.{keep}
use Rattle.pairs.specs.declared.rooms.Written.{Written}

-- ---- positions: place says where each stands

-- "from the .. position on"
abbrev pub on_from : {X : Type 0} → (X → ℕ) → ℕ → List X → List X
on_from place k xs = keep (λ x. leb k (place x)) xs

-- "one past the last .. written", k if none was
abbrev pub past : {X : Type 0} → (X → ℕ) → ℕ → List X → ℕ
past place k [] = k
past place k (x ∷ xs) = past place (suc (place x)) xs

-- the position after a room: "If any remain, the position becomes one past the last .. written ..; if none remains, it becomes" the end
abbrev pub onward : {X : Type 0} → (X → ℕ) → ℕ → ℕ → ℕ → List X → ℕ
onward place end k room xs = cond (ltb room (length xs)) (past place k (take room xs)) end

-- ---- in an output: at reads number w, and put writes it

-- written one after the other from number w on, every other word as it was
abbrev pub put_all : {Y : Type 0} → (ℕ → Y → List ℕ → List ℕ) → ℕ → List Y → List ℕ → List ℕ
put_all put w [] o = o
put_all put w (y ∷ ys) o = put_all put (suc w) ys (put w y o)

-- n read back, from number w on
abbrev pub read_all : {Y : Type 0} → (List ℕ → ℕ → Y) → List ℕ → ℕ → ℕ → List Y
read_all at o w zero = []
read_all at o w (suc n) = at o w ∷ read_all at o (suc w) n

-- ---- what the functions promise

-- what a walk does with xs, which is left from a position on: as many as there is room for are written, and the position moves
pub record HandsOut {X Y : Type 0} (place : X → ℕ) (end : ℕ) (tell : X → Y) (put : ℕ → Y → List ℕ → List ℕ) (xs : List X) (from room : ℕ) (o o' : List ℕ) (r : Written) : Type 0 where
  pub count : r.count ≡ length (take room xs)
  pub more : r.more ≡ ltb room (length xs)
  pub next : r.next ≡ onward place end from room xs
  pub out : o' ≡ put_all put 0 (map tell (take room xs)) o
  pub few : r.count ≤ end
  pub within : r.next ≤ end
