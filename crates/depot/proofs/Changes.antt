-- Queues changed one after another, seen as their entries.
use Rattle.depot.proofs.Names.{◌≡◌, ℕ, ◌<◌, List, [], All, map, filter, length, get_or, set, sym, ap, ◌∙◌, arith, length-map, map-set, is_held_as, holder_of_delivery, Entry, Holder, Delivery, Line, entries_of, left_at, no_line}
use Rattle.std.proofs.Common.{not}
use Rattle.std.proofs.Math.Seq.{map-set_same}
use Rattle.std.proofs.lemmas.List.{get_or-map}

-- ---- the first i of a list changed, the others as they were

pub entries_of-length : (lines : List Line) → length (entries_of lines) ≡ length lines
entries_of-length lines = length-map lines (λ (l : Line). l.entries)

pub entries_of-at : (lines : List Line) (i : ℕ) (d : Line) → i < length lines → get_or (entries_of lines) i [] ≡ (get_or lines i d).entries
entries_of-at lines i d lt = get_or-map (λ (l : Line). l.entries) lines i d [] lt

-- the index of the queue that an element of `xs` names is below `m`
pub below_at : {X : Type 0} (f : X → ℕ) (n m : ℕ) (xs : List X) (i : ℕ) (x : X) → All (λ (k : ℕ). k < n) (map f xs) → m ≡ n → i < length xs → x ≡ get_or xs i x → f x < m
below_at f n m xs i x all same lt is =
    let long = length-map xs f in
    let within = all i 0 (omega (arith, long, lt)) in
    let here = get_or-map f xs i x 0 lt ∙ ap f (sym is) in
    omega (arith, within, here, same)

pub entries_of-set : (lines : List Line) (i : ℕ) (l : Line) (es : List Entry) → l.entries ≡ es → entries_of (set lines i l) ≡ set (entries_of lines) i es
entries_of-set lines i l es h = map-set (λ (m : Line). m.entries) lines i l ∙ ap (set (entries_of lines) i) h

-- one queue is written whose entries stay
pub same_write : (lines : List Line) (i : ℕ) (l d : Line) → l.entries ≡ (get_or lines i d).entries → entries_of (set lines i l) ≡ entries_of lines
same_write lines i l d h = map-set_same (λ (m : Line). m.entries) lines i l d h

-- one queue is written whose entries are changed
pub changed_write : (f : List Entry → List Entry) (lines : List Line) (i : ℕ) (l d : Line) → i < length lines → l.entries ≡ f (get_or lines i d).entries
    → entries_of (set lines i l) ≡ set (entries_of lines) i (f (get_or (entries_of lines) i []))
changed_write f lines i l d lt new = entries_of-set lines i l (f (get_or (entries_of lines) i [])) (new ∙ ap f (sym (entries_of-at lines i d lt)))

-- the queue of delivery `d` is written without its message, which the holder `a` had
pub left_write : (c h : ℕ) (d : Delivery) (a : Holder) (lines : List Line) (old new : Line) → d.queue < length lines → old ≡ get_or lines d.queue no_line → a ≡ holder_of_delivery c h d
    → new.entries ≡ filter (λ (e : Entry). not (is_held_as a e)) old.entries → entries_of (set lines d.queue new) ≡ left_at c h (entries_of lines) d
left_write c h d a lines old new lt was is has =
    let leaves = λ (b : Holder) (es : List Entry). filter (λ (e : Entry). not (is_held_as b e)) es in
    let holder = holder_of_delivery c h d in
    changed_write (leaves holder) lines d.queue new no_line lt (has ∙ ap (λ (b : Holder). leaves b old.entries) is ∙ ap (λ (l : Line). leaves holder l.entries) was)
