-- The bytes of the ready bodies, added up.
use Rattle.queue.proofs.Names.{◌≡◌, ℕ, ◌+◌, ◌<◌, List, [], ◌∷◌, length, get_or, drop, filter, refl, sym, ap, ◌∙◌, arith, Bool, true, false, cond, sum_by, drop_more, is_ready, body_bytes, ready_bytes, Entry, total, ready_size}
use Rattle.std.proofs.lemmas.List.Sums.{sum_by-cons}

-- the ready ones count for their bodies
pub total-ready : (es : List Entry) → total ready_size es ≡ ready_bytes es
total-ready [] = refl
total-ready (e ∷ es) = go (is_ready e) (total-ready es)
  where
    go : (b : Bool) → total ready_size es ≡ sum_by body_bytes (filter is_ready es) → cond b (body_bytes e) 0 + total ready_size es ≡ sum_by body_bytes (cond b (e ∷ filter is_ready es) (filter is_ready es))
    go true more = ap (λ (n : ℕ). body_bytes e + n) more ∙ sym (sum_by-cons body_bytes e (filter is_ready es))
    go false more = omega (arith, more)

-- the next one counts too
pub total-next : (es : List Entry) (i : ℕ) (e : Entry) → i < length es → e ≡ get_or es i e → total ready_size (drop i es) ≡ ready_size e + total ready_size (drop (i + 1) es)
total-next es i e lt is = ap (total ready_size) (drop_more es i e lt) ∙ ap (λ (x : Entry). ready_size x + total ready_size (drop (i + 1) es)) (sym is)
