-- What one call does goes on from the server as the call found it.
use Rattle.serving.proofs.Names.{ℕ, List, [], refl, sym, inl, inr, AllByRecursion, IsIn, Config, IsConsistent, new_world, new_is_consistent, Lacks, Traffic, Served, served, Rounds, arrived, IsServed, IsOf, TakesOn, GoesOn, Peer}
use Rattle.serving.proofs.Staying.{attempts_stay, story_offered}
use Rattle.serving.proofs.Pairs.{peer_of, PairsWith, AllGo, known_after, stays_known, met_known, all_go, pairs_each, knows_none}
use Rattle.serving.proofs.Joining.{joined_all}
use Rattle.serving.proofs.Flowing.{Accounts, flows_story, story_accounts, beginning}
use Rattle.serving.proofs.Keeping.{Went, story_arrives, story_asked, went_rounds}

goes_on : {L : Lacks} (f : Config) (traffic : Traffic) (old new : Served) → IsServed L f traffic old → Went L old new → GoesOn L old new
goes_on {L = L} f traffic old new was (es, ps, t) = record {
  deeds = es;
  occurrences = ps;
  story = t;
  asked = story_asked L es old new ps t;
  arrives = story_arrives L es old new ps t;
  joined = λ p of. joined_all L p es old new ps t (pairs_now p (is_known p of));
  written = λ p of. takes_on p (is_known p of);
}
  where
    start : Served
    start = served (new_world f) [] traffic

    before : AllGo [] was.deeds old
    before = all_go L was.deeds [] start old was.occurrences was.story (knows_none start refl)

    known : List Peer
    known = known_after [] was.deeds

    after : AllGo known es new
    after = all_go L es known old new ps t before.knows

    is_known : (p : Peer) → IsOf old.peers es p → IsIn p (known_after known es)
    is_known p (inl at) = stays_known es known p (before.knows.slots at.0 p at.1)
    is_known p (inr met) = met_known es known p met

    pairs_before : (p : Peer) → IsIn p (known_after known es) → AllByRecursion (λ d. PairsWith p (peer_of d)) was.deeds
    pairs_before p i = pairs_each known p (λ q x. after.knows.pairs p q i (stays_known es known q x)) was.deeds before.mine

    pairs_now : (p : Peer) → IsIn p (known_after known es) → AllByRecursion (λ d. PairsWith p (peer_of d)) es
    pairs_now p i = pairs_each (known_after known es) p (λ q x. after.knows.pairs p q i x) es after.mine

    consistent : IsConsistent old.world
    consistent = attempts_stay L (arrived was.deeds) (new_world f) old.world was.occurrences (story_offered L was.deeds start old was.occurrences was.story) (new_is_consistent f was.sound) was.arrives

    -- what waits is all that is put out, and nothing of it is taken
    found : (p : Peer) → IsIn p (known_after known es) → Accounts p.connection [] (old.world.wire p.connection).output old.world
    found p i =
        let acc = story_accounts L f p was.deeds traffic old was.occurrences was.sound was.story (pairs_before p i) in
        record { fits = inl refl; unopened = λ lt. let u = acc.unopened lt in (u.0, u.1, sym u.0) }

    takes_on : (p : Peer) → IsIn p (known_after known es) → TakesOn old es ps p
    takes_on p i = beginning p.connection _ _ new.world ((flows_story L p es old new ps consistent t (pairs_now p i)).keeps [] (old.world.wire p.connection).output (found p i))

pub rounds_go_on : {L : Lacks} (f : Config) (traffic : Traffic) (n : ℕ) (old new : Served) → Rounds L n old new → IsServed L f traffic old → GoesOn L old new
rounds_go_on {L = L} f traffic n old new rs was = goes_on f traffic old new was (went_rounds L n old new rs)
