-- The queue at one place, by its name.
use Rattle.depot.proofs.Names.{◌≡◌, ℕ, zero, suc, ◌<◌, List, [], ◌∷◌, length, get_or, set, refl, sym, ap, subst, ◌∙◌, arith, Bool, true, false, cond, bytes_eq, bytes_eq-Decides, Text, queue_names, IsIn, AreDistinct, listed, Entry, queue_name, Store, entries_named, queue_at, with_entries_at, IsStoreWhole}
use Rattle.std.proofs.Common.{if◌then◌else◌}
use Rattle.depot.proofs.Naming.{names-length, is_in, other_name, listed_at}

-- another list at one place: its name has that, and any other what it had
pub listed-put : (names : List Text) (lists : List (List Entry)) (i : ℕ) (x : List Entry) (q : Text) → AreDistinct names → length names ≡ length lists → i < length names
    → listed names (set lists i x) q ≡ cond (bytes_eq (get_or names i []) q) x (listed names lists q)
listed-put [] lists i x q distinct len lt = absurd (omega arith)
listed-put (n ∷ ns) [] i x q distinct len lt = absurd (omega arith)
listed-put (n ∷ ns) (es ∷ ess) zero x q distinct len lt = go (bytes_eq n q)
  where
    go : (b : Bool) → cond b x (listed ns ess q) ≡ cond b x (cond b es (listed ns ess q))
    go true = refl
    go false = refl
listed-put (n ∷ ns) (es ∷ ess) (suc i) x q distinct len lt = go (bytes_eq n q) refl (listed-put ns ess i x q distinct.1 (omega arith) (omega arith))
  where
    go : (b : Bool) → bytes_eq n q ≡ b → listed ns (set ess i x) q ≡ cond (bytes_eq (get_or ns i []) q) x (listed ns ess q)
        → cond b es (listed ns (set ess i x) q) ≡ cond (bytes_eq (get_or ns i []) q) x (cond b es (listed ns ess q))
    go true is ih =
        let same : n ≡ q = (bytes_eq-Decides n q).0 is in
        let other : bytes_eq (get_or ns i []) q ≡ false
        = other_name (get_or ns i []) q (λ e. distinct.0 (subst (λ (z : Text). IsIn z ns) (e ∙ sym same) (is_in ns i (omega arith)))) in
        sym (ap (λ (b : Bool). cond b x es) other)
    go false is ih = ih

-- one queue is changed, and every other is as it was
pub queue_of-changed : (s : Store) (place : ℕ) (entries : List Entry) (q : Text) → IsStoreWhole s → place < length s.topology.queues
    → entries_named (with_entries_at s place entries) q ≡ (if bytes_eq (queue_name s.topology place) q then entries else entries_named s q)
queue_of-changed s place entries q whole lt =
    let len = whole.len in
    let long = names-length s.topology.queues in
    listed-put (queue_names s.topology.queues) s.queues place entries q whole.formed.queues_distinct (omega arith) (omega arith)

-- the queue at a place is the queue of its name
pub queue_of-place : (s : Store) (place : ℕ) → IsStoreWhole s → place < length s.topology.queues → entries_named s (queue_name s.topology place) ≡ queue_at s place
queue_of-place s place whole lt =
    let len = whole.len in
    let long = names-length s.topology.queues in
    listed_at (queue_names s.topology.queues) s.queues place whole.formed.queues_distinct (omega arith) (omega arith)
