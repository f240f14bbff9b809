-- What is printed line by line is the text of what a request leaves.
use Rattle.std.proofs.Common.{◌≡◌, List, ℕ, subst, codes}
use Rattle.std.specs.Prelude.{Option}
use Rattle.std.specs.Io.KnownBytes.{Appends}
use Rattle.std.proofs.KnownBytes.{Appends-trans}
use Rattle.text.specs.Putting.{line_text}
use Rattle.rules.specs.World.{bundle}
use Rattle.rules.specs.Calls.{After, leaves}
use Rattle.rules.specs.declared.Reply.{Reply}
use Rattle.printout.specs.Printed.{reply_lines}
use Rattle.caller.specs.Cases.{text_of}

pub appends_text : (t u v w x y : Option (List ℕ)) (reply : Reply) (a b probe out : List ℕ) (left : After) →
    leaves reply (bundle a b probe) out ≡ left → Appends t u (reply_lines reply) → Appends u v (line_text (codes "A") a) →
    Appends v w (line_text (codes "B") b) → Appends w x (line_text (codes "PROBE") probe) →
    Appends x y (line_text (codes "OUT") out) → Appends t y (text_of left)
appends_text t u v w x y reply a b probe out left e p q r s o =
    subst (λ (z : After). Appends t y (text_of z)) e
    (Appends-trans t x y _ _ (Appends-trans t w x _ _ (Appends-trans t v w _ _ (Appends-trans t u v _ _ p q) r) s) o)
