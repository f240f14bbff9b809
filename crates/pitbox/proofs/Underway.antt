-- What a look at the input leaves of a session that is under way, and what the end of the input does.
-- By what a look at the input finds. Assumes nothing.
use Rattle.std.proofs.Common.{◌≡◌, refl, sym, ap, ◌∙◌, subst, List, [], ◌++◌, append-nil, ℕ}
use Rattle.std.proofs.KnownBytes.{Appends-nil, Appends-trans, Consumes-trans, Consumes-whole}
use Rattle.std.specs.Prelude.{Option, Some, None, IfSome}
use Rattle.std.specs.Io.KnownBytes.{Appends, Consumes, IsAtEnd, append_known}
use Rattle.text.specs.Gathering.{Held, cut, rest_line, lines_from, lines_of, gather}
use Rattle.text.proofs.Laws.{holds_first, gather_finds, cut_pieces}
use Rattle.reading.specs.Reading.{line_most}
use Rattle.answering.specs.Answering.{Left, left, silent, unstarted}
use Rattle.lines.specs.Serving.{served, begun_after, finished, and_then, talk}
use Rattle.lines.proofs.Talking.{behind, looks, talk-append, finish_talks}
use Rattle.pitbox.specs.Session.{sheets_of, Underway}
use Rattle.pitbox.specs.declared.Going.{Going}
use Rattle.pitbox.specs.declared.Storage.{Storage}

-- nothing is gathered yet
pub none_gathered : {all : Left} {begun bytes : List ℕ} {k : Option (List ℕ)} {g : Going} {s : Storage} (k' : Option (List ℕ)) {xs : List ℕ} → xs ≡ []
    → Underway all begun k bytes g s k' → Underway all begun k bytes g s (append_known k' xs)
none_gathered None e u = u
none_gathered (Some y) e u = rw (e, append-nil y) u

known_written : (k k' k'' : Option (List ℕ)) (xs ys : List ℕ) → Appends k (append_known k' xs) ys → Appends k' k'' xs → Appends k k'' ys
known_written None k' k'' xs ys p q = tt
known_written (Some x) None k'' xs ys p q = absurd p
known_written (Some x) (Some y) None xs ys p q = absurd q
known_written (Some x) (Some y) (Some z) xs ys p q = q ∙ p

-- what was gathered is written
pub gathered_written : {all : Left} {begun bytes : List ℕ} (k k' k'' : Option (List ℕ)) {g : Going} {s : Storage} (xs : List ℕ) → Underway all begun k bytes g s (append_known k' xs) → Appends k' k'' xs
    → Underway all begun k bytes g s k''
gathered_written k k' k'' xs u p = record { said = u.said; line = u.line; written = known_written k k' k'' xs u.said u.written p; holds = u.holds; lines = u.lines; rest = u.rest }

-- what `serve` leaves, once its reply is written or gathered
pub serves_on : (k k' k'' : Option (List ℕ)) (piece rest : List ℕ) {all : Left} {begun : List ℕ} (g g' : Going) (s s' : Storage) (reply : List ℕ) → let h = gather line_most g.line.items piece in
    behind h ≡ rest → Underway all begun k piece g s k' → left g'.state (sheets_of s') s'.out reply ≡ served h g.state (sheets_of s) s.out → g'.line.items ≡ begun_after h
    → Appends k' k'' reply → Underway all begun k rest g' s' k''
serves_on k k' k'' piece rest g g' s s' reply q u says line p =
    let h : Held = gather line_most g.line.items piece in
    let x : Left = left g.state (sheets_of s) s.out u.said in
    let w = looks u.line piece x h (gather_finds line_most g.line.items u.line piece u.holds) in
    rw (← q)
    (record {
      said = u.said ++ reply;
      line = w.begun;
      written = Appends-trans k k' k'' u.said reply u.written p;
      holds = rw line w.holds;
      lines = u.lines ∙ w.lines ∙ ap (λ (y : Left). talk (and_then x y) (cut w.begun (behind h)).ended) (sym says);
      rest = u.rest ∙ w.rest;
    })

-- where the piece is at its end, nothing is said
pub serves_end : (k k' : Option (List ℕ)) (piece : List ℕ) {all : Left} {begun : List ℕ} (g g' : Going) (s s' : Storage) (reply : List ℕ) → let h = gather line_most g.line.items piece in
    h.rest ≡ None → Underway all begun k piece g s k' → left g'.state (sheets_of s') s'.out reply ≡ served h g.state (sheets_of s) s.out → g'.line.items ≡ begun_after h
    → Underway all begun k [] g' s' k'
serves_end k k' piece g g' s s' reply e u says line =
    let none : reply ≡ [] = ap (λ (y : Left). y.text) (rw e at says) in
    serves_on k k' k' piece [] g g' s s' reply (rw e) u says line (rw none (Appends-nil k'))

-- ---- the end of a piece, and of the input

-- one more piece of the input
piece_comes : {all : Left} {begun : List ℕ} {k k' : Option (List ℕ)} {g : Going} {s : Storage} (bytes : List ℕ)
    → Underway all begun k [] g s k' → Underway (talk all (cut begun bytes).ended) (cut begun bytes).begun k bytes g s k'
unfolding talk cut
piece_comes bytes u = record { said = u.said; line = u.line; written = u.written; holds = u.holds; lines = rw (u.lines, u.rest); rest = rw u.rest }

-- the end of the input answers the rest
pub rest_comes : (k k' k'' : Option (List ℕ)) {all : Left} {begun : List ℕ} (g : Going) (s : Storage) (y : Left)
    → Underway all begun k [] g s k' → y ≡ finished g.line.items g.state (sheets_of s) s.out → Appends k' k'' y.text → Appends k k'' (talk all (rest_line begun)).text
unfolding lines_from talk cut
rest_comes k k' k'' {all} {begun} g s y u says p =
    let x : Left = left g.state (sheets_of s) s.out u.said in
    let whole : talk all (rest_line begun) ≡ and_then x y = rw (u.lines, u.rest) (finish_talks g.line.items u.line x u.holds) ∙ ap (and_then x) (sym says) in
    subst (λ (v : Left). Appends k k'' v.text) (sym whole) (Appends-trans k k' k'' u.said y.text u.written p)

-- ---- turns

-- a session that has not begun
pub way_first : (g : Going) (s : Storage) (k : Option (List ℕ)) → g.state ≡ unstarted → g.line.items ≡ []
    → Underway (talk (silent unstarted (sheets_of s) s.out) (cut [] []).ended) (cut [] []).begun k [] g s k
unfolding talk cut
way_first g s k e n = record { said = []; line = []; written = Appends-nil k; holds = rw n (holds_first line_most); lines = rw e; rest = refl }

-- the bytes of one more turn, which are answered
pub way_more : (x : Left) (bytes more : List ℕ) {k w w' : Option (List ℕ)} {g g' : Going} {s s' : Storage} → Underway (talk x (cut [] bytes).ended) (cut [] bytes).begun k [] g s w
    → ((all : Left) (begun : List ℕ) (k : Option (List ℕ)) → Underway all begun k more g s w → Underway all begun k [] g' s' w')
    → Underway (talk x (cut [] (bytes ++ more)).ended) (cut [] (bytes ++ more)).begun k [] g' s' w'
way_more x bytes more u feeds = rw (cut_pieces [] bytes more, talk-append) (feeds _ _ _ (piece_comes more u))

-- the input is at its end, and what is left of it is answered
pub input_ends : (x : Left) (bytes : List ℕ) (a b c k w w' : Option (List ℕ)) {g : Going} {s : Storage} → Consumes a b bytes → Consumes b c [] → IsAtEnd c
    → Underway (talk x (cut [] bytes).ended) (cut [] bytes).begun k [] g s w
    → ((all : Left) (begun : List ℕ) (k : Option (List ℕ)) → Underway all begun k [] g s w → Appends k w' (talk all (rest_line begun)).text)
    → IfSome a (λ input. Appends k w' (talk x (lines_of input)).text)
unfolding lines_from
input_ends x bytes a b c k w w' p q end u ends =
    let all : Consumes a c bytes = subst (Consumes a c) (append-nil bytes) (Consumes-trans a b c bytes [] p q) in
    Consumes-whole a c bytes (λ input. Appends k w' (talk x (lines_of input)).text) all end (rw talk-append (ends _ _ _ u))
