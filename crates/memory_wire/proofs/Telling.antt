-- What is told by a log, call by call, and where it is whole.
use Rattle.memory_wire.proofs.Names.{◌≡◌, ◌+◌, ◌≤◌, ◌<◌, ℕ, List, [], ◌∷◌, ◌++◌, map, Option, Some, None, Bool, true, false, sym, ap, ◌∙◌, inl, inr, arith, flat_map, count_by, if◌then◌else◌, Call, Accepted, Traffic, AddsCalls, Follows, is_failed, accept_call, read_call, write_call, Served, calls, call_of, logged_calls, traffic_with, Log}
use Rattle.std.proofs.lemmas.Bool.{ltb-true, lt-ltb}
use Rattle.std.proofs.lemmas.Option.{none-some}
use Rattle.model.specs.Topology.{IsIn}
use Rattle.model.specs.State.{Config}
use Rattle.runs.specs.Wants.{Lacks}
use Rattle.serving.specs.declared.wire.Accept.{Accept}
use Rattle.serving.specs.declared.wire.Accept.TheVariants as accept
use Rattle.serving.specs.declared.wire.Read.{Read}
use Rattle.serving.specs.declared.wire.Read.TheVariants as read
use Rattle.serving.specs.declared.wire.Write.{Write}
use Rattle.serving.specs.declared.wire.Write.TheVariants as write
use Rattle.serving.specs.Whole.{IsServed}
use Rattle.memory_wire.specs.Served.{LogsBytes}

-- a call that didn't fail adds no failure
pub none_failed : (call : Call) → is_failed call ≡ false → 0 ≡ 0 + count_by is_failed (call ∷ [])
none_failed call e =
    let none : count_by is_failed (call ∷ []) ≡ 0 = ap (λ (b : Bool). count_by (λ (x : Bool). x) (b ∷ [])) e in
    omega (arith, none)

-- ---- one call

pub tells_one : (old new : Option (List Call)) (come more : ℕ) (call : Call) → Follows old (call ∷ []) new → is_failed call ≡ false → come ≤ more → ((s : ℕ) → Accepted s ≡ call → s < more) → AddsCalls (traffic_with old come) (call ∷ []) (traffic_with new more)
tells_one old new come more call follows fine le accepted = record {
  calls = follows;
  failures = none_failed call fine;
  kept = λ s e. let lt = ltb-true s come e in lt-ltb s more (omega (arith, lt, le));
  given = λ s i. lt-ltb s more (is_one s i);
  totals = λ s t e. absurd (none-some t e);
}
  where
    is_one : (s : ℕ) → IsIn (Accepted s) (call ∷ []) → s < more
    is_one s (inl e) = accepted s e
    is_one s (inr i) = absurd i

-- a name that is accepted is that of the socket
pub accepted_lt : (s more : ℕ) (a : Accept) → ((n : ℕ) → a ≡ accept.Socket n → n < more) → Accepted s ≡ accept_call a → s < more
accepted_lt s more (accept.Socket n) f e = f s (cc e)
accepted_lt s more accept.Nothing f e = absurd (cc e)
accepted_lt s more accept.Failed f e = absurd (cc e)

-- no other call accepts one
pub not_read : (s socket room : ℕ) (r : Read) (buffer : List ℕ) → Accepted s ≡ read_call socket room r buffer → ⊥
not_read s socket room (read.Got n) buffer e = cc e
not_read s socket room read.Wait buffer e = cc e
not_read s socket room read.End buffer e = cc e
not_read s socket room read.Failed buffer e = cc e

pub not_write : (s socket : ℕ) (r : Write) (offered : List ℕ) → Accepted s ≡ write_call socket r offered → ⊥
not_write s socket (write.Took n) offered e = cc e
not_write s socket write.Wait offered e = cc e
not_write s socket write.Failed offered e = cc e

-- ---- all calls

-- what is told now was told before these calls, and they follow it
told_before : (old new : Option (List Call)) (more all : List Call) → Follows old more new → new ≡ Some all → (before : List Call) × (old ≡ Some before) × (all ≡ before ++ more)
told_before old None more all f e = absurd (cc e)
told_before old (Some calls) more all (before, is, here) e =
    let same : calls ≡ all = cc e in
    (before, is, sym same ∙ here)

-- a whole log that began with no call has the calls of the deeds
log_is : (old new : Option (List Call)) (more : List Call) → old ≡ Some [] → Follows old more new → (all : List Call) → new ≡ Some all → new ≡ Some more
log_is old new more none f all e =
    let was = told_before old new more all f e in
    let first : was.0 ≡ [] = cc (none, was.1) in
    e ∙ ap (λ (z : List Call). Some z) (was.2 ∙ ap (λ (z : List Call). z ++ more) first)

whole_tells : (l : Log) → l.is_whole ≡ true → (all : List Call) × (logged_calls l ≡ Some all)
whole_tells l e = (map call_of l.calls.items, ap (λ (b : Bool). if b then Some (map call_of l.calls.items) else None) e)

pub tells_bytes : (L : Lacks) (f : Config) (old new : Traffic) (l : Log) (v : Served) → new.calls ≡ logged_calls l → old.calls ≡ Some [] → v.traffic ≡ new → l.is_whole ≡ true → IsServed L f old v → LogsBytes L f (logged_calls l) v.world
tells_bytes L f old new l v is none last whole s =
    let tells = whole_tells l whole in
    let at_end : v.traffic.calls ≡ logged_calls l = ap (λ (t : Traffic). t.calls) last ∙ is in
    let all : v.traffic.calls ≡ Some tells.0 = at_end ∙ tells.1 in
    record {
      deeds = s.deeds;
      occurrences = s.occurrences;
      log = sym at_end ∙ log_is old.calls v.traffic.calls (flat_map calls s.deeds) none s.asked.calls tells.0 all;
      arrives = s.arrives;
      promises = s.promises;
      joined = s.joined;
      written = s.written;
    }
