-- A promise allows one result, with the line and the reply in lent arrays too.
use Rattle.std.proofs.Common.{◌≡◌, sym, ◌∙◌, ℕ, List}
use Rattle.std.specs.Borrow.{Bor}
use Rattle.std.specs.Option.{option_map}
use Rattle.std.specs.Prelude.{Option}
use Rattle.text.specs.Gathering.{Held, Took}
use Rattle.text.specs.Texts.{Put}
use Rattle.text.proofs.Laws.{rest_one_result, placed_one_result}
use Rattle.rules.specs.World.{Sheets}
use Rattle.rules.specs.declared.Session.{Session}
use Rattle.answering.specs.Answering.{Left, left}
use Rattle.answering.proofs.Laws.{says_one_result, placed_says_one_result}
use Rattle.lines.specs.Serving.{begun_after}

pub serves_one_result : (h : Held) (r r' : Option (Bor (List ℕ))) {x : Left} {t t' : Option Session} {z z' : Sheets} {o o' e e' l l' : List ℕ}
    → left t z o e ≡ x → l ≡ begun_after h → Took h r → left t' z' o' e' ≡ x → l' ≡ begun_after h → Took h r'
    → (t ≡ t') × (z ≡ z') × (o ≡ o') × (e ≡ e') × (l ≡ l') × (option_map (λ rest. rest.now) r ≡ option_map (λ rest. rest.now) r')
serves_one_result h r r' p a u q b v = let (t, z, o, e) = says_one_result p q in (t, z, o, e, a ∙ sym b, rest_one_result h r r' u v)

pub placed_serves_one_result : (h : Held) (r r' : Option (Bor (List ℕ))) {x : Left} {t t' : Option Session} {z z' : Sheets} {o o' d e e' l m m' v : List ℕ} {n n' at p p' w k k' : ℕ}
    → left t z o x.text ≡ x → Put d 0 x.text n e → Put l at v p m → k ≡ w → Took h r
    → left t' z' o' x.text ≡ x → Put d 0 x.text n' e' → Put l at v p' m' → k' ≡ w → Took h r'
    → (t ≡ t') × (n ≡ n') × (z ≡ z') × (o ≡ o') × (e ≡ e') × (m ≡ m') × (k ≡ k') × (option_map (λ rest. rest.now) r ≡ option_map (λ rest. rest.now) r')
placed_serves_one_result h r r' s a b c u s' a' b' c' u' = let (t, n, z, o, e) = placed_says_one_result s a s' a' in let (p, m) = placed_one_result b b' in
    (t, n, z, o, e, m, c ∙ sym c', rest_one_result h r r' u u')
