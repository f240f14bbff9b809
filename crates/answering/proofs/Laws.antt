-- A promise allows one result, with the reply in a lent array too.
use Rattle.std.proofs.Common.{◌≡◌, sym, ap, ◌∙◌, ℕ, List}
use Rattle.std.specs.Prelude.{Option}
use Rattle.text.specs.Texts.{Put}
use Rattle.text.proofs.Laws.{placed_one_result}
use Rattle.rules.specs.World.{Sheets}
use Rattle.rules.specs.declared.Session.{Session}
use Rattle.answering.specs.Answering.{Left, left}

pub says_one_result : {x : Left} {t t' : Option Session} {z z' : Sheets} {o o' e e' : List ℕ} → left t z o e ≡ x → left t' z' o' e' ≡ x
    → (t ≡ t') × (z ≡ z') × (o ≡ o') × (e ≡ e')
says_one_result p q = let s = p ∙ sym q in
    (ap (λ (y : Left). y.state) s, ap (λ (y : Left). y.sheets) s, ap (λ (y : Left). y.out) s, ap (λ (y : Left). y.text) s)

pub placed_says_one_result : {x : Left} {t t' : Option Session} {z z' : Sheets} {o o' d e e' : List ℕ} {n n' : ℕ} → left t z o x.text ≡ x → Put d 0 x.text n e
    → left t' z' o' x.text ≡ x → Put d 0 x.text n' e' → (t ≡ t') × (n ≡ n') × (z ≡ z') × (o ≡ o') × (e ≡ e')
placed_says_one_result p a q b = let (t, z, o, same) = says_one_result p q in let (n, e) = placed_one_result a b in (t, n, z, o, e)
