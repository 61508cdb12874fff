-- Ready entries that are taken out, and their publish numbers.
use Rattle.queue.proofs.Names.{◌≡◌, ◌∙◌, ◌+◌, ◌<◌, ◌≤◌, ◌++◌, ◌∷◌, [], ℕ, Bool, true, false, cond, List, length, get_or, drop, map, filter, sym, ap, append-nil, arith, None, find, drop_more, length-append, length-map, is_ready, Entry, number_of, ready_count}
use Rattle.queue.proofs.Slotted.{none_filtered}

-- the numbers are all there
pub purged_all : (numbers : List ℕ) (es : List Entry) → find is_ready es ≡ None → numbers ≡ numbers ++ map number_of (filter is_ready es)
purged_all numbers es h = sym (append-nil numbers) ∙ ap (λ (ys : List Entry). numbers ++ map number_of ys) (sym (none_filtered es h))

-- ---- the numbers appended one by one

ready_first : (e : Entry) (es : List Entry) → ready_count (e ∷ es) ≡ ready_count (e ∷ []) + ready_count es
ready_first e es = go (is_ready e)
  where
    go : (b : Bool) → length (cond b (e ∷ filter is_ready es) (filter is_ready es)) ≡ length (cond b (e ∷ []) []) + ready_count es
    go true = omega arith
    go false = omega arith

numbers-length : (numbers : List ℕ) (es : List Entry) → length (numbers ++ map number_of (filter is_ready es)) ≡ length numbers + ready_count es
numbers-length numbers es = length-append numbers (map number_of (filter is_ready es)) ∙ ap (λ (n : ℕ). length numbers + n) (length-map (filter is_ready es) number_of)

-- where there is room for all of them there is room for the next one
pub room_next : (numbers start : List ℕ) (es : List Entry) (i capacity : ℕ) (e : Entry) → i < length es → e ≡ get_or es i e
    → numbers ++ map number_of (filter is_ready (drop i es)) ≡ start ++ map number_of (filter is_ready es) → length start + ready_count es ≤ capacity
    → length numbers + ready_count (e ∷ []) ≤ capacity
room_next numbers start es i capacity e lt is same enough =
    let a = numbers-length numbers (drop i es) in
    let b = numbers-length start es in
    let l = ap length same in
    let n = ap ready_count (drop_more es i e lt ∙ ap (λ (x : Entry). x ∷ drop (i + 1) es) (sym is)) in
    let m = ready_first e (drop (i + 1) es) in
    omega arith
