-- What a command did on a channel that was lent, as what is kept.
use Rattle.commands.proofs.Names.{◌≡◌, ◌∙◌, ℕ, zero, suc, List, [], ◌∷◌, get_or, set, nat_eq, Option, None, Result, Ok, Err, sym, ap, subst, option_map, none-some, Topology, queue_names, Broker, Connection, with_pair, IsAgreed, refusal, Content, Send, Method, Note, open_in, Store, Stop, running_in, channel_in, channel_of, connection_at, connection_of, seen_in, limits_of, with_running, with_channel_in, PutsChannel, set_same, found_channel, found_written, IsPlaced, Kept, ArePlaced, broker_of, names_of, topology_kept, Side, Turns, CanCommand, Answers, AnswersHere, AnswersOn, DeliversHere, DeliversTo, UnlessPerformed, seen, IsPick, Pick, Done, Performed}
use Rattle.std.proofs.Common.{Some}
use Rattle.channels.specs.Open.{Open}
use Rattle.channels.specs.RunningConnections.{Running, with_channel}
use Rattle.channels.proofs.Putting.{put_same}
use Rattle.channels.specs.Lends.{LentArePut}
use Rattle.commands.specs.declared.commands.Done.TheVariants.{Left}
use Rattle.commands.proofs.Stepping.{seen_put}
use Rattle.commands.proofs.Placing.{placed_put, placed_some}

-- what is kept beside the queues
abbrev pub side_of : Kept → Side
side_of kept = record { connection = connection_of kept.connections; channel = seen_in (names_of kept) kept.connections }

-- a command can be done on a channel that is kept
pub can_command : (kept : Kept) (c h : ℕ) (ch : Open) → IsAgreed (broker_of kept) → ArePlaced kept → channel_of kept.connections c h ≡ Some ch → CanCommand c h kept.store ch
can_command kept c h ch agreed placed is = record { side = side_of kept; there = ap (option_map (open_in (names_of kept))) is; agreed = agreed; placed = placed c h ch is }

-- the channel of a connection that is found is kept
pub there_in : (connections : List (ℕ × Running)) (c h : ℕ) (l : Running) (o : Option Open) → running_in connections c ≡ Some l → channel_in l h ≡ o → channel_of connections c h ≡ o
there_in connections c h l o found is = sym (found_channel connections c h l found) ∙ is

-- A channel was lent out of its connection, and came back as this one.
pub record IsLent (old new : Kept) (c h : ℕ) (l : Running) (was ch : Open) : Type 0 where
  pub found : running_in old.connections c ≡ Some l
  pub there : channel_in l h ≡ Some was
  pub written : new.connections ≡ with_running old.connections c (with_channel_in l h ch)
  pub put : PutsChannel old.connections c h (Some ch) new.connections
  pub topology : topology_kept new ≡ topology_kept old

pub is_lent : LentArePut → (old new : Kept) (c h : ℕ) (l : Running) (was ch : Open) → running_in old.connections c ≡ Some l → channel_in l h ≡ Some was
    → new.connections ≡ with_running old.connections c (with_channel_in l h ch) → topology_kept new ≡ topology_kept old → IsLent old new c h l was ch
is_lent are old new c h l was ch found is written same = record {
  found = found;
  there = is;
  written = written;
  put = subst (PutsChannel old.connections c h (Some ch)) (sym (written ∙ found_written old.connections c h l ch found)) (are old.connections c h was ch (there_in old.connections c h l (Some was) found is));
  topology = same;
}

-- it was put where it was
put_there : LentArePut → (old new : Kept) (c h : ℕ) (was ch : Open) → channel_of old.connections c h ≡ Some was → new.connections ≡ with_channel old.connections c h ch → PutsChannel old.connections c h (Some ch) new.connections
put_there are old new c h was ch there written = subst (PutsChannel old.connections c h (Some ch)) (sym written) (are old.connections c h was ch there)

-- a channel that was there is another in what is kept
turns_put : (old new : Kept) (c h : ℕ) (was ch : Open) → channel_of old.connections c h ≡ Some was → PutsChannel old.connections c h (Some ch) new.connections → topology_kept new ≡ topology_kept old
    → Turns c h (seen old.store was) (seen new.store ch) (side_of old) (side_of new)
turns_put old new c h was ch there put same =
    record {
      was = ap (option_map (open_in (names_of old))) there;
      connections = put.connections;
      channels = λ d k. seen_put (names_of old) (names_of new) old.connections new.connections c h (Some ch) (ap (λ (t : Topology). queue_names t.queues) same) put d k
          ∙ ap (λ (t : Topology). with_pair (seen_in (names_of old) old.connections) c h (Some (open_in (queue_names t.queues) ch)) d k) (sym same);
    }

turns : (old new : Kept) (c h : ℕ) (l : Running) (was ch : Open) → IsLent old new c h l was ch → Turns c h (seen old.store was) (seen new.store ch) (side_of old) (side_of new)
turns old new c h l was ch lent = turns_put old new c h was ch (there_in old.connections c h l (Some was) lent.found lent.there) lent.put lent.topology

-- so what a command came to there it came to in what is kept
pub answers_on : (old new : Kept) (c h max : ℕ) (l : Running) (was ch : Open) (m : Method) (content : Option Content) (r : Result Done Stop) → IsLent old new c h l was ch → l.channel_max ≡ max
    → AnswersHere max c h old.store was m content r new.store ch → AnswersOn old c h m content (Some r) new
answers_on old new c h max l was ch m content r lent same answers = (
  limits_of l,
  ap connection_at lent.found,
  subst (λ (o : Option Open). Answers (refusal (topology_kept old) (broker_of old) (limits_of l) h m (option_map (open_in (names_of old)) o)) (topology_kept old) (broker_of old) c h (option_map (open_in (names_of old)) o) m content r (broker_of new))
      (sym (there_in old.connections c h l (Some was) lent.found lent.there))
      (answers (side_of old) (side_of new) (limits_of l) same (turns old new c h l was ch lent)),
)

-- the same where the channel is not open
pub answers_none : (old new : Kept) (c h max : ℕ) (l : Running) (m : Method) (content : Option Content) (r : Result Done Stop) → running_in old.connections c ≡ Some l → channel_in l h ≡ None → l.channel_max ≡ max
    → ((t : Topology) (b b' : Broker) (d : ℕ) (conn : Connection) (x : Option Content) → conn.channel_max ≡ max → Answers (refusal t b conn h m None) t b d h None m x r b') → AnswersOn old c h m content (Some r) new
answers_none old new c h max l m content r found is same answers = (
  limits_of l,
  ap connection_at found,
  subst (λ (o : Option Open). Answers (refusal (topology_kept old) (broker_of old) (limits_of l) h m (option_map (open_in (names_of old)) o)) (topology_kept old) (broker_of old) c h (option_map (open_in (names_of old)) o) m content r (broker_of new))
      (sym (there_in old.connections c h l None found is))
      (answers (topology_kept old) (broker_of old) (broker_of new) c (limits_of l) content same),
)

-- what is agreed, or placed, stays so where nothing changed
pub still_agreed : (old new : Kept) → new ≡ old → IsAgreed (broker_of old) → IsAgreed (broker_of new)
still_agreed old new same agreed = subst (λ (k : Kept). IsAgreed (broker_of k)) (sym same) agreed

pub still_placed : (old new : Kept) → new ≡ old → ArePlaced old → ArePlaced new
still_placed old new same placed = subst (λ (k : Kept). ArePlaced k) (sym same) placed

-- what is kept stays placed
pub lent_placed : (old new : Kept) (c h : ℕ) (l : Running) (was ch : Open) → IsLent old new c h l was ch → IsPlaced (topology_kept old) ch → ArePlaced old → ArePlaced new
lent_placed old new c h l was ch lent own placed = placed_put old new c h (Some ch) lent.topology lent.put (placed_some (topology_kept old) ch own) placed

-- what is at a number is set there again
set_there : (xs : List (Option Open)) (i : ℕ) (x : Open) → get_or xs i None ≡ Some x → set xs i (Some x) ≡ xs
set_there [] i x e = absurd (none-some x e)
set_there (y ∷ ys) zero x e = ap (λ (z : Option Open). z ∷ ys) (sym e)
set_there (y ∷ ys) (suc i) x e = ap (λ (zs : List (Option Open)). y ∷ zs) (set_there ys i x e)

-- a connection that came back as it was left all as it was
pub running_same : (old new : Kept) (c : ℕ) (l l' : Running) → running_in old.connections c ≡ Some l → new.connections ≡ with_running old.connections c l' → l' ≡ l → new.store ≡ old.store → new ≡ old
running_same old new c l l' found written same stored =
    ap (λ (s : Store). record { store = s; connections = new.connections }) stored
    ∙ ap (λ (ls : List (ℕ × Running)). record { store = old.store; connections = ls }) (written ∙ ap (with_running old.connections c) same ∙ set_same (nat_eq c) old.connections l found)

-- so did a channel
pub lent_same : (old new : Kept) (c h : ℕ) (l : Running) (was ch : Open) → IsLent old new c h l was ch → new.store ≡ old.store → ch ≡ was → new ≡ old
lent_same old new c h l was ch lent stored same =
    running_same old new c l (with_channel_in l h ch) lent.found lent.written
    (ap (with_channel_in l h) same ∙ ap (λ (xs : List (Option Open)). record l { channels = xs }) (set_there l.channels h was lent.there)) stored

-- a delivery that was made on a channel that was lent was made in what is kept
pub delivered_on : LentArePut → (old now new : Kept) (p : Pick) (was ch : Open) (sends : List Send) (notes : List Note) → old ≡ now → channel_of old.connections p.connection p.channel ≡ Some was
    → new.connections ≡ with_channel old.connections p.connection p.channel ch → topology_kept new ≡ topology_kept old → IsPick (broker_of now) p → DeliversHere p old.store was sends notes new.store ch
    → DeliversTo (broker_of now) p sends notes (broker_of new)
delivered_on are old now new p was ch sends notes same there written topology pick delivers =
    subst (λ (k : Kept). DeliversTo (broker_of k) p sends notes (broker_of new)) same
    (delivers (side_of old) (side_of new) (turns_put old new p.connection p.channel was ch there (put_there are old new p.connection p.channel was ch there written) topology)
    (subst (λ (k : Kept). IsPick (broker_of k) p) (sym same) pick))

-- so it stays placed
pub put_placed : LentArePut → (old new : Kept) (c h : ℕ) (was ch : Open) → channel_of old.connections c h ≡ Some was → new.connections ≡ with_channel old.connections c h ch → topology_kept new ≡ topology_kept old
    → IsPlaced (topology_kept old) ch → ArePlaced old → ArePlaced new
put_placed are old new c h was ch there written same own placed = placed_put old new c h (Some ch) same (put_there are old new c h was ch there written) (placed_some (topology_kept old) ch own) placed

-- and all stays where the channel and the queues do
pub put_stays : (old new : Kept) (c h : ℕ) (was ch : Open) → channel_of old.connections c h ≡ Some was → new.connections ≡ with_channel old.connections c h ch → new.store ≡ old.store → ch ≡ was → new ≡ old
put_stays old new c h was ch there written stored same =
    ap (λ (s : Store). record { store = s; connections = new.connections }) stored
    ∙ ap (λ (ls : List (ℕ × Running)). record { store = old.store; connections = ls }) (written ∙ ap (with_channel old.connections c h) same ∙ put_same old.connections c h was there)

-- what is so unless a command was performed, and what follows from it
pub unless : (X Y : Type 0) (r : Result Done Stop) → UnlessPerformed r X → (X → Y) → UnlessPerformed r Y
unless X Y (Ok (Performed s)) x f = tt
unless X Y (Ok (Left act)) x f = f x
unless X Y (Err stop) x f = f x

-- what is so in any case
pub always : (X : Type 0) (r : Result Done Stop) → X → UnlessPerformed r X
always X (Ok (Performed s)) x = tt
always X (Ok (Left act)) x = x
always X (Err stop) x = x
