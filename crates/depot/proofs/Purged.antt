-- Notes of a purge, one by one.
use Rattle.depot.proofs.Names.{◌≡◌, ◌<◌, ◌≤◌, ◌+◌, ℕ, List, [], ◌∷◌, ◌++◌, Bool, true, false, cond, None, Some, arith, length, take, drop, get_or, set, map, filter, refl, sym, ap, subst, ◌∙◌, append_assoc, length-append, Result, Ok, Err, IfOk, OnErr, slice_get, Topology, is_ready, number_of, without_first, with_queue, ready_in, purge_notes, Entry, Note, Left, Entered, Published, Refused, queue_name, Line, Store, entries_of, entries_named, queue_at, with_entries_at, IsStoreWhole, no_line, store_of, IsPurgedBy, take_at}
use Rattle.std.specs.Prelude.{find}
use Rattle.std.proofs.lemmas.List.{take-append-drop, length-take-le, length_push, set_at, get_or_at, replicate_more}
use Rattle.std.proofs.lemmas.Option.{slice_get-get_or}
use Rattle.model.specs.declared.notes.Note.TheVariants.{Returned, Confirmed, Reloaded, ReloadRefused}
use Rattle.notes.specs.Numbered.{numbered}
use Rattle.queue.proofs.Firsts.{rest_filtered}
use Rattle.queue.proofs.Slotted.{first_filtered, none_filtered}
use Rattle.std.proofs.Common.{not, replicate}
use Rattle.depot.proofs.Changes.{same_write}
use Rattle.depot.proofs.Named.{queue_of-changed, queue_of-place}

-- a number is set once
pub numbered-numbered : (n m : ℕ) (x : Note) → numbered n (numbered m x) ≡ numbered n x
numbered-numbered n m (Published number connection channel exchange key confirm) = refl
numbered-numbered n m (Entered number queue way) = refl
numbered-numbered n m (Refused number queue) = refl
numbered-numbered n m (Returned number) = refl
numbered-numbered n m (Confirmed number answer) = refl
numbered-numbered n m (Left number queue cause) = refl
numbered-numbered n m Reloaded = refl
numbered-numbered n m (ReloadRefused obstacle) = refl

-- where none is ready, all are others
pub none_ready : (es : List Entry) → ready_in es ≡ 0 → filter (λ (e : Entry). not (is_ready e)) es ≡ es
none_ready [] z = refl
none_ready (e ∷ es) z = go (is_ready e) (none_ready es) z
  where
    go : (b : Bool) → (ready_in es ≡ 0 → filter (λ (x : Entry). not (is_ready x)) es ≡ es) → length (cond b (e ∷ filter is_ready es) (filter is_ready es)) ≡ 0
        → cond (not b) (e ∷ filter (λ (x : Entry). not (is_ready x)) es) (filter (λ (x : Entry). not (is_ready x)) es) ≡ e ∷ es
    go true rest z = absurd (cc)
    go false rest z = ap (λ (xs : List Entry). e ∷ xs) (rest z)

-- one note more of a kind
pub blanks_more : (start : List Note) (n : ℕ) (x : Note) (was now : List Note) → was ≡ start ++ replicate n x → now ≡ was ++ x ∷ [] → now ≡ start ++ replicate (n + 1) x
blanks_more start n x was now is e = e ∙ ap (λ (ns : List Note). ns ++ x ∷ []) is ∙ append_assoc start (replicate n x) (x ∷ []) ∙ ap (λ (ns : List Note). start ++ ns) (replicate_more n x)

-- behind these notes others were put
pub front_stays : (start rest now : List Note) → now ≡ start ++ rest → take (length start) now ≡ start
front_stays start rest now e = ap (λ (ns : List Note). take (length start) ns) e ∙ take_at start rest (length start) refl

-- Of the ready messages of a queue some have left it, and the notes before a place tell of them. Behind them is a note for each that is still to leave,
-- as this one but for its number, 0. In the end the notes are these, and these entries are left.
pub record Purging (x : Note) (all : List Note) (left entries : List Entry) (place : ℕ) (notes : List Note) : Type 0 where
  pub front : List Note
  pub is : notes ≡ front ++ replicate (length (filter is_ready entries)) (numbered 0 x)
  pub at : length front ≡ place
  pub whole : front ++ map (λ (e : Entry). numbered (number_of e) x) (filter is_ready entries) ≡ all
  pub rest : filter (λ (e : Entry). not (is_ready e)) entries ≡ left

pub purging_begins : (x : Note) (entries : List Entry) (first : ℕ) (notes : List Note) → first ≤ length notes → drop first notes ≡ replicate (ready_in entries) (numbered 0 x)
    → Purging x (take first notes ++ map (λ (e : Entry). numbered (number_of e) x) (filter is_ready entries)) (filter (λ (e : Entry). not (is_ready e)) entries) entries first notes
purging_begins x entries first notes le blank = record {
  front = take first notes;
  is = sym (take-append-drop first notes) ∙ ap (λ (ns : List Note). take first notes ++ ns) blank;
  at = length-take-le first notes le;
  whole = refl;
  rest = refl;
}

-- the next of them
record Next (x : Note) (entries : List Entry) (e : Entry) : Type 0 where
  pub ready : filter is_ready entries ≡ e ∷ filter is_ready (without_first is_ready entries)
  pub count : replicate (length (filter is_ready entries)) (numbered 0 x) ≡ numbered 0 x ∷ replicate (length (filter is_ready (without_first is_ready entries))) (numbered 0 x)

next_is : (x : Note) (entries : List Entry) (e : Entry) → find is_ready entries ≡ Some e → Next x entries e
next_is x entries e f = let r = first_filtered entries e f in record { ready = r; count = ap (λ (es : List Entry). replicate (length es) (numbered 0 x)) r }

slice_get_at : {X : Type 0} (p : List X) (y : X) (ys : List X) (n : ℕ) → length p ≡ n → slice_get (p ++ y ∷ ys) n ≡ Some y
slice_get_at {X} p y ys n len =
    let long = length-append p (y ∷ ys) in
    let all : List X = p ++ y ∷ ys in
    slice_get-get_or all n y (omega (arith, long, len)) ∙ ap (λ (x : X). Some x) (get_or_at p y ys y n len)

pub purging_at : (x : Note) (all : List Note) (left entries : List Entry) (place : ℕ) (notes : List Note) (e : Entry) → Purging x all left entries place notes → find is_ready entries ≡ Some e
    → slice_get notes place ≡ Some (numbered 0 x)
purging_at x all left entries place notes e p f =
    let n = next_is x entries e f in
    let is = p.is ∙ ap (λ (ns : List Note). p.front ++ ns) n.count in
    ap (λ (ns : List Note). slice_get ns place) is ∙ slice_get_at p.front (numbered 0 x) (replicate (length (filter is_ready (without_first is_ready entries))) (numbered 0 x)) place p.at

pub purging_within : (x : Note) (all : List Note) (left entries : List Entry) (place : ℕ) (notes : List Note) (e : Entry) → Purging x all left entries place notes → find is_ready entries ≡ Some e
    → place < length notes
purging_within x all left entries place notes e p f =
    let n = next_is x entries e f in
    let long = ap length (p.is ∙ ap (λ (ns : List Note). p.front ++ ns) n.count) in
    let at = p.at in
    let parts = length-append p.front (numbered 0 x ∷ replicate (length (filter is_ready (without_first is_ready entries))) (numbered 0 x)) in
    omega (arith, long, at, parts)

pub purging_next : (x : Note) (all : List Note) (left entries : List Entry) (place : ℕ) (notes : List Note) (e : Entry) (new : List Note) (after : List Entry)
    → Purging x all left entries place notes → find is_ready entries ≡ Some e → new ≡ set notes place (numbered (number_of e) x) → after ≡ without_first is_ready entries
    → Purging x all left after (place + 1) new
purging_next x all left entries place notes e new after p f is gone =
    let n = next_is x entries e f in
    let reported = numbered (number_of e) x in
    let blanks = replicate (length (filter is_ready (without_first is_ready entries))) (numbered 0 x) in
    let others : List Note = map (λ (y : Entry). numbered (number_of y) x) (filter is_ready (without_first is_ready entries)) in
    let was = p.is ∙ ap (λ (ns : List Note). p.front ++ ns) n.count in
    subst (λ (es : List Entry). Purging x all left es (place + 1) new) (sym gone) (record {
      front = p.front ++ reported ∷ [];
      is = is ∙ ap (λ (ns : List Note). set ns place reported) was ∙ set_at p.front (numbered 0 x) blanks reported place p.at ∙ sym (append_assoc p.front (reported ∷ []) blanks);
      at = length_push p.front reported ∙ ap (λ (n : ℕ). n + 1) p.at;
      whole = append_assoc p.front (reported ∷ []) others ∙ ap (λ (es : List Entry). p.front ++ map (λ (y : Entry). numbered (number_of y) x) es) (sym n.ready) ∙ p.whole;
      rest = rest_filtered is_ready entries ∙ p.rest;
    })

-- at the end there is a note of each
pub purging_ends : (x : Note) (all : List Note) (left entries : List Entry) (place : ℕ) (notes : List Note) → Purging x all left entries place notes → find is_ready entries ≡ None → notes ≡ all
purging_ends x all left entries place notes p f =
    let none = none_filtered entries f in
    p.is ∙ ap (λ (es : List Entry). p.front ++ replicate (length es) (numbered 0 x)) none
    ∙ sym (ap (λ (es : List Entry). p.front ++ map (λ (y : Entry). numbered (number_of y) x) es) none)
    ∙ p.whole

-- a purge by the place of its queue is one by its name
pub purged_by : (old new : Store) (place : ℕ) (before after : List Note) (count : ℕ) → IsStoreWhole old → place < length old.topology.queues → new.published ≡ old.published → new.topology ≡ old.topology
    → count ≡ ready_in (queue_at old place) → after ≡ before ++ purge_notes (queue_name old.topology place) (filter is_ready (queue_at old place))
    → new.queues ≡ set old.queues place (filter (λ (e : Entry). not (is_ready e)) (queue_at old place))
    → IsPurgedBy old (queue_name old.topology place) before after count new
purged_by old new place before after count whole lt counted same reported noted lists =
    let name = queue_name old.topology place in
    let here : queue_at old place ≡ entries_named old name = sym (queue_of-place old place whole lt) in
    let left : List Entry = filter (λ (e : Entry). not (is_ready e)) (queue_at old place) in
    let done : with_entries_at old place left ≡ new = rw (same, counted, lists) refl in
    record {
      reported = reported ∙ ap ready_in here;
      noted = noted ∙ ap (λ (es : List Entry). before ++ purge_notes name (filter is_ready es)) here;
      queues = λ q. ap (λ (s : Store). entries_named s q) (sym done)
          ∙ queue_of-changed old place left q whole lt
          ∙ ap (λ (es : List Entry). with_queue (entries_named old) name (filter (λ (e : Entry). not (is_ready e)) es) q) here;
      counted = counted;
      topology = same;
    }

-- what was so, where it was done, gives this
pub if_ok : {X E : Type 0} {A B C D : X → Type 0} (r : Result X E) → ((x : X) → A x → B x → C x → D x) → IfOk r A → IfOk r B → IfOk r C → IfOk r D
if_ok (Ok x) f a b d = f x a b d
if_ok (Err e) f a b d = a

pub on_err : {X E : Type 0} {A B : Type 0} (r : Result X E) → (A → B) → OnErr r A → OnErr r B
on_err (Ok x) f a = a
on_err (Err e) f a = f a

-- a queue that was lent comes back with its entries, so the store is as it was
pub same_store : (t : Topology) (lines : List Line) (n place : ℕ) (s : Store) (l w : Line) → store_of t (entries_of lines) n ≡ s → l ≡ get_or lines place no_line → w.entries ≡ l.entries → store_of t (entries_of (set lines place w)) n ≡ s
same_store t lines n place s l w view is same = ap (λ (es : List (List Entry)). store_of t es n) (same_write lines place w no_line (same ∙ ap (λ (m : Line). m.entries) is)) ∙ view
