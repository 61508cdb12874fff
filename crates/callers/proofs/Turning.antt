-- Turns of one connection, one after another.
use Rattle.std.proofs.Common.{ℕ, List, ◌++◌, ◌∙◌, ap, append_assoc, append-nil, sym}
use Rattle.model.specs.Run.{Happening}
use Rattle.model.specs.Arrivals.{World, Turns, Works, none_more, one_more}

works_then : (c : ℕ) (a b d : World) (hs ks : List Happening) → Works c a hs b → Works c b ks d → Works c a (hs ++ ks) d
works_then c a b d hs ks none_more w = w
works_then c a b d hs ks (one_more {mid = m} {first = f} {rest = r} t rest e) w =
    one_more t (works_then c m b d r ks rest w) (ap (λ (z : List Happening). z ++ ks) e ∙ append_assoc f r ks)

-- one turn more
pub works_more : (c : ℕ) (a b d : World) (hs ks : List Happening) → Works c a hs b → Turns b c ks d → Works c a (hs ++ ks) d
works_more c a b d hs ks w t = works_then c a b d hs ks w (one_more t none_more (sym (append-nil ks)))
