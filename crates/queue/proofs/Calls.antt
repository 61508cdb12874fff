-- The calls of a queue in blocks.
use Rattle.queue.proofs.Names.{◌≡◌, ℕ, ◌+◌, ◌-◌, ◌<◌, ◌≤◌, List, [], length, get_or, map, filter, sym, ap, ◌∙◌, subst, arith, Bool, true, Option, Some, None, find, is_some, false≢true, is_ready, body_bytes, freed, is_under, is_held_as, held_as, freed_now, change_first, without_first, Entry, Holder, requeued, rules, vec_len, Stretch, parts, joined, some_pass, size_of, IsCounted, Vec}
use Rattle.std.proofs.Common.{not}
use Rattle.std.proofs.Math.ListN.{set}
use Rattle.queue.proofs.Joined.{FirstIn, first_within, joined_found, joined_changed, joined_without, joined_none, nowhere_in, only_in, part_once, once_left_out, none_changed_in, none_without_in, not_found}
use Rattle.queue.proofs.Signed.{parts-length}
use Rattle.queue.proofs.Counts.{hold_counted, take_counted, remove_counted, release_counted, ready_least, held_least, freed_once}

-- ---- what is found, or isn't

-- a ready message is found: the counts have room for a step
pub ready_there : (ps : List (List Entry)) (ready live bytes i : ℕ) → IsCounted (joined ps) ready live bytes → FirstIn is_ready ps i
    → (1 ≤ ready) × ((1 ≤ live) × (size_of body_bytes (find is_ready (get_or ps i [])) ≤ bytes))
ready_there ps ready live bytes i c f = go (find is_ready (get_or ps i [])) (joined_found is_ready ps i f) f.there
  where
    go : (o : Option Entry) → find is_ready (joined ps) ≡ o → is_some o ≡ true → (1 ≤ ready) × ((1 ≤ live) × (size_of body_bytes o ≤ bytes))
    go None e h = absurd (false≢true h)
    go (Some x) e h = ready_least (joined ps) ready live bytes x c e

-- it is held from now on
pub hold_there : (ps now : List (List Entry)) (ready live bytes ready' bytes' size i : ℕ) (holder : Holder) → IsCounted (joined ps) ready live bytes → FirstIn is_ready ps i
    → find (is_held_as holder) (joined ps) ≡ None → now ≡ set ps i (change_first is_ready (held_as holder) (get_or ps i []))
    → size ≡ size_of body_bytes (find is_ready (get_or ps i [])) → ready' + 1 ≡ ready → bytes' + size ≡ bytes → IsCounted (joined now) ready' live bytes'
hold_there ps now ready live bytes ready' bytes' size i holder c f free e s r b =
    subst (λ (es : List Entry). IsCounted es ready' live bytes') (joined_changed is_ready (held_as holder) ps i f ∙ ap (λ (xs : List (List Entry)). joined xs) (sym e))
    (go (find is_ready (get_or ps i [])) (joined_found is_ready ps i f) f.there s)
  where
    go : (o : Option Entry) → find is_ready (joined ps) ≡ o → is_some o ≡ true → size ≡ size_of body_bytes o → IsCounted (change_first is_ready (held_as holder) (joined ps)) ready' live bytes'
    go None e h s = absurd (false≢true h)
    go (Some x) e h s = hold_counted (joined ps) ready live bytes ready' bytes' x holder c e free r (omega (arith, s, b))

-- it is taken out
pub take_there : (ps now : List (List Entry)) (ready live bytes ready' live' bytes' size i : ℕ) → IsCounted (joined ps) ready live bytes → FirstIn is_ready ps i
    → now ≡ set ps i (without_first is_ready (get_or ps i [])) → size ≡ size_of body_bytes (find is_ready (get_or ps i []))
    → ready' + 1 ≡ ready → live' + 1 ≡ live → bytes' + size ≡ bytes → IsCounted (joined now) ready' live' bytes'
take_there ps now ready live bytes ready' live' bytes' size i c f e s r l b =
    subst (λ (es : List Entry). IsCounted es ready' live' bytes') (joined_without is_ready ps i f ∙ ap (λ (xs : List (List Entry)). joined xs) (sym e))
    (go (find is_ready (get_or ps i [])) (joined_found is_ready ps i f) f.there s)
  where
    go : (o : Option Entry) → find is_ready (joined ps) ≡ o → is_some o ≡ true → size ≡ size_of body_bytes o → IsCounted (without_first is_ready (joined ps)) ready' live' bytes'
    go None e h s = absurd (false≢true h)
    go (Some x) e h s = take_counted (joined ps) ready live bytes ready' live' bytes' x c e r l (omega (arith, s, b))

-- so the counts go down by it
pub take_now : (ps now : List (List Entry)) (ready live bytes size i : ℕ) → IsCounted (joined ps) ready live bytes → FirstIn is_ready ps i
    → now ≡ set ps i (without_first is_ready (get_or ps i [])) → size ≡ size_of body_bytes (find is_ready (get_or ps i [])) → IsCounted (joined now) (ready - 1) (live - 1) (bytes - size)
take_now ps now ready live bytes size i c f e s =
    let least = ready_there ps ready live bytes i c f in
    let r = least.0 in
    let l = least.1.0 in
    let b = least.1.1 in
    take_there ps now ready live bytes (ready - 1) (live - 1) (bytes - size) size i c f e s (omega (arith, r)) (omega (arith, l)) (omega (arith, s, b))

-- nothing is held under this tag in any block
pub free_there : (ps : List (List Entry)) (i : ℕ) (holder : Holder) → find (is_held_as holder) (joined ps) ≡ None → find (is_held_as holder) (get_or ps i []) ≡ None
free_there ps i holder e = nowhere_in (is_held_as holder) ps i (not_found (is_held_as holder) (joined ps) e)

-- a block with a message that passes is in the list
pub block_within : (p : Entry → Bool) (blocks : Vec Stretch) (i : ℕ) → some_pass p (get_or (parts blocks.items) i []) ≡ true → i < vec_len blocks
block_within p blocks i some =
    let lt = first_within p (parts blocks.items) i some in
    let n = parts-length blocks.items in
    let l : vec_len blocks ≡ length blocks.items = search rules in
    omega (arith, lt)

-- ---- what is held under a tag

-- it is the first such message
pub held_first : (ps : List (List Entry)) (ready live bytes i : ℕ) (holder : Holder) → IsCounted (joined ps) ready live bytes → some_pass (is_held_as holder) (get_or ps i []) ≡ true
    → FirstIn (is_held_as holder) ps i
held_first ps ready live bytes i holder c h = only_in (is_held_as holder) ps i h (c.distinct holder)

-- the counts have room for a step
pub held_there : (ps : List (List Entry)) (ready live bytes i : ℕ) (holder : Holder) → IsCounted (joined ps) ready live bytes → some_pass (is_held_as holder) (get_or ps i []) ≡ true
    → (1 ≤ live) × ((ready < live) × (size_of body_bytes (find (is_held_as holder) (get_or ps i [])) ≤ 18446744073709551615))
held_there ps ready live bytes i holder c h = go (find (is_held_as holder) (get_or ps i [])) (joined_found (is_held_as holder) ps i (held_first ps ready live bytes i holder c h)) h
  where
    go : (o : Option Entry) → find (is_held_as holder) (joined ps) ≡ o → is_some o ≡ true → (1 ≤ live) × ((ready < live) × (size_of body_bytes o ≤ 18446744073709551615))
    go None e h = absurd (false≢true h)
    go (Some x) e h = held_least (joined ps) ready live bytes x holder c e

-- it is ready again: in its block, and in all of them
pub freed_there_is : (ps : List (List Entry)) (ready live bytes i : ℕ) (holder : Holder) → IsCounted (joined ps) ready live bytes → some_pass (is_held_as holder) (get_or ps i []) ≡ true
    → requeued (is_under holder) (joined ps) ≡ joined (set ps i (requeued (is_under holder) (get_or ps i [])))
freed_there_is ps ready live bytes i holder c h =
    freed_once (joined ps) holder (c.distinct holder)
    ∙ joined_changed (is_held_as holder) freed_now ps i (held_first ps ready live bytes i holder c h)
    ∙ ap (λ (es : List Entry). joined (set ps i es)) (sym (freed_once (get_or ps i []) holder (part_once (is_held_as holder) ps i (c.distinct holder))))

pub release_there : (ps now : List (List Entry)) (ready live bytes ready' bytes' size i : ℕ) (holder : Holder) → IsCounted (joined ps) ready live bytes
    → some_pass (is_held_as holder) (get_or ps i []) ≡ true → now ≡ set ps i (requeued (is_under holder) (get_or ps i []))
    → size ≡ size_of body_bytes (find (is_held_as holder) (get_or ps i [])) → ready' ≡ ready + 1 → bytes' ≡ bytes + size → IsCounted (joined now) ready' live bytes'
release_there ps now ready live bytes ready' bytes' size i holder c h e s r b =
    subst (λ (es : List Entry). IsCounted es ready' live bytes') (freed_there_is ps ready live bytes i holder c h ∙ ap (λ (xs : List (List Entry)). joined xs) (sym e))
    (go (find (is_held_as holder) (get_or ps i [])) (joined_found (is_held_as holder) ps i (held_first ps ready live bytes i holder c h)) h s)
  where
    go : (o : Option Entry) → find (is_held_as holder) (joined ps) ≡ o → is_some o ≡ true → size ≡ size_of body_bytes o → IsCounted (map (freed (is_under holder)) (joined ps)) ready' live bytes'
    go None e h s = absurd (false≢true h)
    go (Some x) e h s = release_counted (joined ps) ready live bytes ready' bytes' x holder c e r (omega (arith, s, b))

-- it is taken out: of its block, and of all of them
pub left_out_is : (ps : List (List Entry)) (ready live bytes i : ℕ) (holder : Holder) → IsCounted (joined ps) ready live bytes → some_pass (is_held_as holder) (get_or ps i []) ≡ true
    → filter (λ e. not (is_held_as holder e)) (joined ps) ≡ joined (set ps i (filter (λ e. not (is_held_as holder e)) (get_or ps i [])))
left_out_is ps ready live bytes i holder c h =
    once_left_out (is_held_as holder) (joined ps) (c.distinct holder)
    ∙ joined_without (is_held_as holder) ps i (held_first ps ready live bytes i holder c h)
    ∙ ap (λ (es : List Entry). joined (set ps i es)) (sym (once_left_out (is_held_as holder) (get_or ps i []) (part_once (is_held_as holder) ps i (c.distinct holder))))

pub remove_there : (ps now : List (List Entry)) (ready live bytes live' i : ℕ) (holder : Holder) → IsCounted (joined ps) ready live bytes
    → some_pass (is_held_as holder) (get_or ps i []) ≡ true → now ≡ set ps i (filter (λ e. not (is_held_as holder e)) (get_or ps i []))
    → live' + 1 ≡ live → IsCounted (joined now) ready live' bytes
remove_there ps now ready live bytes live' i holder c h e l =
    subst (λ (es : List Entry). IsCounted es ready live' bytes) (left_out_is ps ready live bytes i holder c h ∙ ap (λ (xs : List (List Entry)). joined xs) (sym e))
    (go (find (is_held_as holder) (get_or ps i [])) (joined_found (is_held_as holder) ps i (held_first ps ready live bytes i holder c h)) h)
  where
    go : (o : Option Entry) → find (is_held_as holder) (joined ps) ≡ o → is_some o ≡ true → IsCounted (filter (λ x. not (is_held_as holder x)) (joined ps)) ready live' bytes
    go None e h = absurd (false≢true h)
    go (Some x) e h = remove_counted (joined ps) ready live bytes live' x holder c e l

-- so the count of all goes down by one
pub remove_now : (ps now : List (List Entry)) (ready live bytes i : ℕ) (holder : Holder) → IsCounted (joined ps) ready live bytes
    → some_pass (is_held_as holder) (get_or ps i []) ≡ true → now ≡ set ps i (filter (λ e. not (is_held_as holder e)) (get_or ps i [])) → IsCounted (joined now) ready (live - 1) bytes
remove_now ps now ready live bytes i holder c h e =
    let o = (held_there ps ready live bytes i holder c h).0 in
    remove_there ps now ready live bytes (live - 1) i holder c h e (omega (arith, o))

-- ---- nothing is found

pub nothing_found : {X : Type 0} (p : X → Bool) (ps : List (List X)) → ((k : ℕ) → find p (get_or ps k []) ≡ None) → find p (joined ps) ≡ None
nothing_found p ps n = joined_none p ps (λ k. ap is_some (n k))

pub nothing_freed : (ps : List (List Entry)) (holder : Holder) → ((k : ℕ) → find (is_held_as holder) (get_or ps k []) ≡ None) → requeued (is_under holder) (joined ps) ≡ joined ps
nothing_freed ps holder n =
    let none = nothing_found (is_held_as holder) ps n in
    freed_once (joined ps) holder (let z = not_found (is_held_as holder) (joined ps) none in omega arith)
    ∙ none_changed_in (is_held_as holder) freed_now (joined ps) none

pub nothing_left_out : (ps : List (List Entry)) (holder : Holder) → ((k : ℕ) → find (is_held_as holder) (get_or ps k []) ≡ None) → filter (λ e. not (is_held_as holder e)) (joined ps) ≡ joined ps
nothing_left_out ps holder n =
    let none = nothing_found (is_held_as holder) ps n in
    once_left_out (is_held_as holder) (joined ps) (let z = not_found (is_held_as holder) (joined ps) none in omega arith)
    ∙ none_without_in (is_held_as holder) (joined ps) none
