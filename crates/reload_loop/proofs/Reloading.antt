-- What comes of serving with looks at the files.
use Rattle.reload_loop.proofs.Imports.{◌≡◌, ℕ, Bool, List, [], Option, Some, None, IfNone, IfSome, option_map, ap, subst, sym, asked_once, Text, Config, new_world, MayAllocate, Known, AreKept, FileNames, Served, IsServed, OutputStream, change, Snap, IsReadFrom, known_in, ServesTelling, BetweenRounds, between_rounds, AsksToServe, IsEvery, IsNotServe, ServesReloading, reloading}
use Rattle.std.proofs.Common.{true}
use Rattle.command_line.specs.CommandLine.{Wanted, Serve, AsksFor}
use Rattle.serving.specs.Wire.{Traffic}
use Rattle.server.specs.Clients.{Begins, IsTurns, Openings}
use Rattle.server.specs.Streams.{status_after}
use Rattle.reload_loop.specs.Program.{ReloadsEnd}
use Rattle.reload_loop.proofs.Outcomes.{same_holds}

-- a broker that was just started by what was read, and then this number of rounds
pub serves_reloading : (gives : ℕ → Type 0) (holds : Text → Known) (names : FileNames) (turns : Option Text) (every : Text) (may : Openings) (out : OutputStream) (before said after : Option Text) (first last : Snap) (start end : Served) (count step : ℕ) (whole : Bool)
    → IsReadFrom holds names first → Begins (known_in names first) names.definitions names.guarantees names.certificates may out (change before said) start
    → IsTurns turns count → IsEvery every step → ServesTelling gives holds names step count (between_rounds start first None said true) (between_rounds end last None after whole)
    → ((f : Config) → start.world ≡ new_world f → start.peers ≡ [] → IsServed MayAllocate f start.traffic end)
    → ServesReloading gives holds names turns every may out (change before after) end whole
serves_reloading gives holds names turns every may out before said after first last start end count step whole read b counted stepped serves kept = record {
  first = first;
  read = read;
  force = b.force;
  in_force = b.in_force;
  start = b.traffic;
  said = said;
  can_come = b.can_come;
  count = count;
  counted = counted;
  step = step;
  stepped = stepped;
  last = last;
  serves = subst (λ (v : Served). ServesTelling gives holds names step count (between_rounds v first None said true) (between_rounds end last None after whole)) b.is serves;
  kept = subst (λ (t : Traffic). IsServed MayAllocate b.force t end) (ap (λ (v : Served). v.traffic) b.is) (kept b.force (ap (λ (v : Served). v.world) b.is) (ap (λ (v : Served). v.peers) b.is));
}

-- what is said of a service that was returned, and what if none was, is how `serve --reload` ends
pub reload_ends : {S : Type 0} (gives : ℕ → Type 0) (holds : Text → Known) (names : FileNames) (turns : Option Text) (every : Text) (Unasked : Type 0) (may : Openings) (out err : OutputStream) (state_of : S → Served) (service : Option S) (status : ℕ)
    → IfNone service (ReloadsEnd gives holds names turns every Unasked may out err None status)
    → IfSome service (λ s. (whole : Bool) × ServesReloading gives holds names turns every may out err (state_of s) whole × (status ≡ status_after whole 0))
    → ReloadsEnd gives holds names turns every Unasked may out err (option_map state_of service) status
reload_ends gives holds names turns every Unasked may out err state_of None status none some = none
reload_ends gives holds names turns every Unasked may out err state_of (Some s) status none some =
    subst (λ (n : ℕ). ReloadsEnd gives holds names turns every Unasked may out err (Some (state_of s)) n) (sym some.2) (reloading some.1)

-- what is done over files that were kept is done over the files before
pub serves_kept : (gives : ℕ → Type 0) (a b : Text → Known) (names : FileNames) (every turns : ℕ) (old : BetweenRounds) (end : Served) (last : Snap) (after : Option Text) (whole : Bool) → AreKept a b
    → ServesTelling gives b names every turns old (between_rounds end last None after whole) → ServesTelling gives a names every turns old (between_rounds end last None after whole)
serves_kept gives a b names every turns old end last after whole k h = subst (λ (x : Text → Known). ServesTelling gives x names every turns old (between_rounds end last None after whole)) (same_holds a b k) h

-- what is not to serve was not asked to
pub not_to_serve : (words : List Text) (wanted : Wanted) (names : FileNames) (l : Text) (t every : Option Text) → AsksFor words wanted → IsNotServe wanted → AsksToServe words names l t every → ⊥
not_to_serve words wanted names l t every a not b =
    subst (λ (w : Wanted). IsNotServe w) (asked_once words wanted (Serve names.definitions names.guarantees names.certificates l t every) a b) not
