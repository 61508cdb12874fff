-- A connection that changed in its place, and is taken out where it is gone.
use Rattle.engine.proofs.Names.{◌≡◌, ◌<◌, ℕ, zero, suc, List, [], ◌∷◌, Bool, true, false, cond, get_or, set, length, remove, refl, sym, ap, subst, ◌∙◌, arith, Option, ◌&&◌, not, nat_lt, IsOk, IfOk, OnOk, OnErr, AllByRecursion, false≢true, Rules, rules_of, Topology, is_ended, Session, User, Event, Broker, Held, stream_of, IsKeptEvent, HasMore, kept_of, ConnectionTook, ConnectionWaits, MayTurn, has_performed, is_connection_gone, IsConnection, Changes, IsSwept, IsNotGone, ConnectionTookOr, ConnectionSent, ConnectionFed, ConnectionsTook, ConnectionsSent, ConnectionsFed, Connection, Turn}
use Rattle.std.proofs.Common.{Result, Ok, Err}
use Rattle.std.proofs.lemmas.List.{set-get_or, get_or_default}
use Rattle.engine.specs.declared.turning.Turn.TheVariants as turn
use Rattle.engine.proofs.Numbered.{all_at}

at_set : (ls : List Connection) (i : ℕ) (x d : Connection) → i < length ls → get_or (set ls i x) i d ≡ x
at_set [] i x d lt = absurd (omega (arith, lt))
at_set (y ∷ ys) zero x d lt = refl
at_set (y ∷ ys) (suc i) x d lt = at_set ys i x d (omega (arith, lt))

remove_set : (ls : List Connection) (i : ℕ) (x : Connection) → i < length ls → remove (set ls i x) i ≡ remove ls i
remove_set [] i x lt = absurd (omega (arith, lt))
remove_set (y ∷ ys) zero x lt = refl
remove_set (y ∷ ys) (suc i) x lt = ap (λ (z : List Connection). y ∷ z) (remove_set ys i x (omega (arith, lt)))

pub changes_swept : (ls : List Connection) (i : ℕ) (old new : Connection) (new_ls : List Connection) → i < length ls → get_or ls i old ≡ old → new.number ≡ old.number → (IsKeptEvent old.number old.kept old.stream.fault → IsKeptEvent new.number new.kept new.stream.fault)
    → ((l : Connection) → get_or (set ls i new) i l ≡ l → IsSwept (set ls i new) i l new_ls) → Changes ls i old new new_ls
changes_swept ls i old new new_ls lt here number kept swept =
    let s = swept new (at_set ls i new new lt) in
    record {
      within = lt;
      here = here;
      number = number;
      kept = kept;
      left = s.left ∙ ap (λ (z : List Connection). cond (is_connection_gone new) z (set ls i new)) (remove_set ls i new lt);
      over = s.over;
    }

-- one that is not gone is left where it is
pub swept_not_gone : (ls : List Connection) (i : ℕ) (l : Connection) → is_connection_gone l ≡ false → IsSwept ls i l ls
swept_not_gone ls i l not_gone = record {
  left = ap (λ (b : Bool). cond b (remove ls i) ls) (sym not_gone);
  over = λ gone. absurd (false≢true (sym not_gone ∙ gone));
}

gone_same : (old new : Connection) → new.session ≡ old.session → new.output.bytes ≡ old.output.bytes → is_connection_gone new ≡ is_connection_gone old
gone_same old new session output =
    ap (λ (s : Session). is_ended s.phase && not (nat_lt 0 (length new.output.bytes))) session ∙ ap (λ (o : List ℕ). is_ended old.session.phase && not (nat_lt 0 (length o))) output

gone_waits : (b new_b : Broker) (old new : Connection) → ConnectionWaits b old new_b new → is_connection_gone new ≡ is_connection_gone old
gone_waits b new_b old new waits = gone_same old new waits.session waits.output

-- a turn that performs nothing leaves its connection as far as it was
unperformed : {E : Type 0} (what : Result Turn E) (r : Rules) (b : Broker) (old : Connection) (new_b : Broker) (new : Connection) → IfOk what (λ x. ConnectionTook r b old x new_b new)
    → OnErr what (ConnectionWaits b old new_b new) → has_performed what ≡ false → is_connection_gone new ≡ is_connection_gone old
unperformed (Ok (turn.Did notes)) r b old new_b new took waits none = absurd (false≢true (sym none))
unperformed (Ok turn.Idle) r b old new_b new took waits none = gone_waits b new_b old new took.1.waits
unperformed (Ok turn.Paused) r b old new_b new took waits none = ap is_connection_gone took.2.connection
unperformed (Ok turn.Over) r b old new_b new took waits none = ap is_connection_gone took.1.connection
unperformed (Err e) r b old new_b new took waits none = gone_waits b new_b old new waits

-- then it is not gone
pub not_gone_after : {E : Type 0} (what : Result Turn E) (r : Rules) (b : Broker) (given : ℕ) (ls : List Connection) (i : ℕ) (old new : Connection) (new_b : Broker)
    → AllByRecursion (IsConnection given) ls → i < length ls → get_or ls i old ≡ old → IfOk what (λ x. ConnectionTook r b old x new_b new) → OnErr what (ConnectionWaits b old new_b new)
    → has_performed what ≡ false → IsNotGone (set ls i new) i
not_gone_after what r b given ls i old new new_b all lt here took waits none l there =
    ap is_connection_gone (sym there ∙ at_set ls i new l lt) ∙ unperformed what r b old new_b new took waits none ∙ (all_at (IsConnection given) ls i old all lt here).here

pub took_or : {E : Type 0} (r : Result Turn E) (t : Rules) (b : Broker) (old : Connection) (new_b : Broker) (new : Connection) → IfOk r (λ x. ConnectionTook t b old x new_b new) → OnErr r (ConnectionWaits b old new_b new) → OnErr r (MayTurn old)
    → OnErr r (HasMore (kept_of old.kept) (stream_of old.stream)) → ConnectionTookOr t b old r new_b new
took_or (Ok x) t b old new_b new ok err awake more = ok
took_or (Err e) t b old new_b new ok err awake more = record { awake = awake; more = more; waits = err }

-- one turn of the connection at this place, which was taken out where it was gone by then
pub connections_took : {E : Type 0} (what : Result Turn E) (t : Topology) (given users : List User) (b : Broker) (ls : List Connection) (i : ℕ) (old new : Connection) (new_b : Broker) (new_ls : List Connection)
    → given ≡ users → i < length ls → get_or ls i old ≡ old → new.number ≡ old.number → IsKeptEvent new.number new.kept new.stream.fault
    → ((l : Connection) → get_or (set ls i new) i l ≡ l → IsSwept (set ls i new) i l new_ls)
    → IfOk what (λ x. ConnectionTook (rules_of t given) b old x new_b new) → OnErr what (ConnectionWaits b old new_b new) → OnErr what (MayTurn old) → OnErr what (HasMore (kept_of old.kept) (stream_of old.stream))
    → ConnectionsTook (rules_of t users) b ls i what new_b new_ls
connections_took what t given users b ls i old new new_b new_ls is within here number kept swept ok err awake more =
    subst (λ (us : List User). ConnectionsTook (rules_of t us) b ls i what new_b new_ls) is (record {
      old = old;
      new = new;
      changes = changes_swept ls i old new new_ls within here number (λ k. kept) swept;
      took = took_or what (rules_of t given) b old new_b new ok err awake more;
    })

-- output of it was taken
pub connections_sent : (t : Topology) (b : Broker) (ls : List Connection) (i n : ℕ) (old new : Connection) (new_b : Broker) (new_ls : List Connection) → i < length ls → get_or ls i old ≡ old
    → ((l : Connection) → get_or (set ls i new) i l ≡ l → IsSwept (set ls i new) i l new_ls) → ConnectionSent t b old n new_b new → ConnectionsSent t b ls i n new_b new_ls
connections_sent t b ls i n old new new_b new_ls within here swept sent = record {
  old = old;
  new = new;
  changes = changes_swept ls i old new new_ls within here sent.number
      (λ k. subst (λ (c : ℕ). IsKeptEvent c new.kept new.stream.fault) (sym sent.number)
      (subst (λ (o : Option Event). IsKeptEvent old.number o new.stream.fault) (sym sent.kept) (subst (λ (s : Held). IsKeptEvent old.number old.kept s.fault) (sym sent.stream) k))) swept;
  sent = sent;
}

-- it heard bytes
pub connections_fed : {T E : Type 0} (r : Result T E) (ls : List Connection) (i : ℕ) (bytes : List ℕ) (old new : Connection) → i < length ls → get_or ls i old ≡ old → OnOk r (ConnectionFed old bytes new) → OnOk r (ConnectionsFed ls i bytes (set ls i new))
connections_fed (Ok x) ls i bytes old new within here fed = record { within = within; old = old; here = here; new = new; fed = fed; left = refl }
connections_fed (Err x) ls i bytes old new within here fed = tt

-- ---- what is at an index

pub same_at : (ls : List Connection) (i : ℕ) (l m : Connection) → i < length ls → get_or ls i l ≡ l → get_or ls i m ≡ m → l ≡ m
same_at ls i l m lt here there = sym here ∙ get_or_default ls i l m lt ∙ there

set_same : (ls : List Connection) (i : ℕ) (old new : Connection) → get_or ls i old ≡ old → new ≡ old → set ls i new ≡ ls
set_same ls i old new here same = ap (λ (z : Connection). set ls i z) (same ∙ sym here) ∙ set-get_or ls i old

-- of one that is over nothing was heard, and it is as it was
pub connections_over : {T E : Type 0} (r : Result T E) (ls : List Connection) (i : ℕ) (l new : Connection) → i < length ls → get_or ls i l ≡ l → (is_ended l.session.phase ≡ true → IsOk r × (new ≡ l))
    → (m : Connection) → get_or ls i m ≡ m → is_ended m.session.phase ≡ true → IsOk r × (set ls i new ≡ ls)
connections_over r ls i l new lt here over m there is =
    let both = over (subst (λ (k : Connection). is_ended k.session.phase ≡ true) (same_at ls i m l lt there here) is) in
    (both.0, set_same ls i l new here both.1)

-- an allocation failed, and nothing has changed
pub connections_err : {T E : Type 0} (r : Result T E) (ls : List Connection) (i : ℕ) (l new : Connection) → get_or ls i l ≡ l → OnErr r (new ≡ l) → OnErr r (set ls i new ≡ ls)
connections_err (Ok x) ls i l new here same = tt
connections_err (Err x) ls i l new here same = set_same ls i l new here same

-- an allocation failed for more bytes than fitted its spare capacity
pub connections_full : {T E : Type 0} (r : Result T E) (ls : List Connection) (i n : ℕ) (l : Connection) → i < length ls → get_or ls i l ≡ l → OnErr r (l.stream.room < n)
    → (m : Connection) → get_or ls i m ≡ m → OnErr r (m.stream.room < n)
connections_full r ls i n l lt here full m there = subst (λ (k : Connection). OnErr r (k.stream.room < n)) (same_at ls i l m lt here there) full
