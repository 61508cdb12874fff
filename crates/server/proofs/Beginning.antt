-- What comes of reporting the address, and of serving.
use Rattle.server.proofs.Names.{◌≡◌, ℕ, Bool, true, false, List, [], Option, Some, None, inl, inr, sym, subst, ap, ◌∙◌, same_Some, kind_of, Error, Text, Config, Wanted, AsksFor, AreWordsRefused, Known, OutputStream, GetsText, PutsOut, TriesPut, IsStarted, ShowsError, out_of_memory, IsTaken, Openings, CanCome, Begins, ServesClients, IsTurns}
use Rattle.model.specs.Arrivals.{World, new_world}
use Rattle.engine.specs.Allocating.{MayAllocate}
use Rattle.serving.specs.Wire.{Traffic}
use Rattle.serving.specs.Story.{Served, served}
use Rattle.serving.specs.Rounds.{Rounds}
use Rattle.serving.specs.Whole.{IsServed}
use Rattle.serving.specs.declared.peers.Peer.{Peer}
use Rattle.std.specs.Prelude.{IfNone, IfSome, option_map}
use Rattle.server.specs.Clients.{EndsUnserved, ServeEnds}

-- ---- the line

pub taken : (s : OutputStream) (bytes line : Text) (done : Bool) → bytes ≡ line → done ≡ true → IsTaken s bytes done → GetsText s line
taken s bytes line done same e h = subst (λ (t : Text). GetsText s t) same (subst (λ (b : Bool). IsTaken s bytes b) e h)

pub not_taken : (s : OutputStream) (bytes line : Text) (done : Bool) → bytes ≡ line → done ≡ false → IsTaken s bytes done → (d : Bool) × PutsOut s line d
not_taken s bytes line done same e h = subst (λ (t : Text). (d : Bool) × PutsOut s t d) same (subst (λ (b : Bool). IsTaken s bytes b) e h)

-- ---- a service

-- a broker that was just started, with no connection, and sockets
pub begins : (holds : Text → Known) (d g c : Text) (may : Openings) (out err : OutputStream) (w : World) (ps : List (Option Peer)) (t : Traffic)
    → IsStarted holds d g c w → ps ≡ [] → CanCome may t out err → Begins holds d g c may out err (served w ps t)
begins holds d g c may out err w ps t s none can = record {
  force = s.0;
  in_force = s.1;
  traffic = t;
  can_come = can;
  is = ap (λ (x : World). served x ps t) s.2 ∙ ap (λ (xs : List (Option Peer)). served (new_world s.0) xs t) none;
}

-- `count` rounds of it
pub serves_clients : (holds : Text → Known) (d g c : Text) (turns : Option Text) (may : Openings) (out err : OutputStream) (start end : Served) (count : ℕ)
    → Begins holds d g c may out err start → IsTurns turns count → Rounds MayAllocate count start end
    → ((f : Config) → start.world ≡ new_world f → start.peers ≡ [] → IsServed MayAllocate f start.traffic end) → ServesClients holds d g c turns may out err end
serves_clients holds d g c turns may out err start end count b counted turns_are kept = record {
  force = b.force;
  in_force = b.in_force;
  start = b.traffic;
  can_come = b.can_come;
  count = count;
  counted = counted;
  rounds = subst (λ (v : Served). Rounds MayAllocate count v end) b.is turns_are;
  kept = subst (λ (t : Traffic). IsServed MayAllocate b.force t end) (ap (λ (v : Served). v.traffic) b.is) (kept b.force (ap (λ (v : Served). v.world) b.is) (ap (λ (v : Served). v.peers) b.is));
}

-- what is said of a service that was returned, and what if none was, is how `serve` ends
pub serve_ends : {S : Type 0} (holds : Text → Known) (d g c : Text) (turns : Option Text) (Unasked : Type 0) (may : Openings) (out err : OutputStream) (state_of : S → Served) (service : Option S) (status : ℕ)
    → IfNone service (EndsUnserved holds d g c Unasked may out err status)
    → IfSome service (λ s. ServesClients holds d g c turns may out err (state_of s) × (status ≡ 0))
    → ServeEnds holds d g c turns Unasked may out err (option_map state_of service) status
serve_ends holds d g c turns Unasked may out err state_of None status none some = none
serve_ends holds d g c turns Unasked may out err state_of (Some s) status none some = some

-- ---- the words

-- words ask for one command
pub asked_once : (words : List Text) (v w : Wanted) → AsksFor words v → AsksFor words w → v ≡ w
asked_once words v w a b = same_Some v w (sym a.named ∙ b.named)

pub asks_same : (words : List Text) (v w : Wanted) → v ≡ w → AsksFor words v → AsksFor words w
asks_same words v w e a = subst (λ (x : Wanted). AsksFor words x) e a

-- where words that ask for a command are refused, an allocation failure was reported
pub memory_reported : (words : List Text) (e : Error) (err : OutputStream) (n : ℕ) (wanted : Wanted) → AreWordsRefused words e → ShowsError (kind_of e) err n → AsksFor words wanted → TriesPut err out_of_memory 4 n
memory_reported words e err n wanted is shown asks =
    elim is [
      | inl memory ↦ elim shown [ inl traffic ↦ traffic.1 | inr other ↦ absurd (other.0 memory) ]
      | inr nothing ↦ absurd (nothing wanted asks)
    ]
