-- From what is reported index by index to the obstacle to a reload.
use Rattle.reloading.proofs.Names.{◌≡◌, ℕ, zero, suc, ◌+◌, List, [], ◌∷◌, Bool, Option, Some, None, refl, sym, subst, ◌∙◌, inl, inr, slice_get, Text, Topology, IsIn, queue_names, Guarantee, Config, IsInUse, by_entry, by_consumer, Endangers, Spot, IsBefore, IsDanger, NoneIsOrphaned, IsObstacle, HasNoObstacle, Entry, Obstacle, in_from_contains, IsReportedFirst, ReportsFirst, IsUsed, ReportsUse, ReportsQueue, ReportsEntry, ReportsEntries, ReportsQueues, Judges}
use Rattle.model.specs.Broker.{Broker}
use Rattle.laws.proofs.Returned.{place_of}
use Rattle.reloading.specs.LiveQueues.{ShowsQueues}

in_at : {A : Type 0} (xs : List A) (i : ℕ) (x : A) → slice_get xs i ≡ Some x → IsIn x xs
in_at [] i x e = absurd (cc)
in_at (y ∷ ys) zero x e = inl (let h : Some y ≡ Some x = e in cc)
in_at (y ∷ ys) (suc i) x e = inr (in_at ys i x e)

module _ (old : Topology) (g : Config) (entries : ℕ → List Entry) (consumed : ℕ → Bool) (b : Broker) (s : ShowsQueues old entries consumed b) where
  abbrev pub names : List Text
  names = queue_names old.queues

  -- ---- queues in use

  used : (p : ℕ) (q : Text) → slice_get names p ≡ Some q → IsInUse b q → IsUsed (entries p) (consumed p)
  used p q at (by_entry e i) = inl (λ none. subst (IsIn e) (s.queue p q at ∙ none) i)
  used p q at (by_consumer c h ch k there among takes) = inr ((s.consumers p q at).1 (record { connection = c; number = h; channel = ch; there = there; consumer = k; among = among; takes = takes }))

  by_some : (q : Text) (es : List Entry) → b.queue q ≡ es → (es ≡ [] → ⊥) → IsInUse b q
  by_some q [] e some = absurd (some refl)
  by_some q (x ∷ xs) e some = by_entry x (subst (IsIn x) (sym e) (inl refl))

  in_use : (p : ℕ) (q : Text) → slice_get names p ≡ Some q → IsUsed (entries p) (consumed p) → IsInUse b q
  in_use p q at (inl some) = by_some q (entries p) (s.queue p q at) some
  in_use p q at (inr y) = let c = (s.consumers p q at).0 y in by_consumer c.connection c.number c.channel c.consumer c.there c.among c.takes

  pub orphaned_stands : (o : Obstacle) → ReportsFirst (ReportsQueue g.topology entries consumed) names (Some o) → IsObstacle old g b o
  orphaned_stands o first =
      let q = first.one in
      subst (IsObstacle old g b) (sym first.reports.1.1) (record {
        place = first.place;
        named = first.there;
        orphaned = record { was = in_at names first.place q first.there; gone = first.reports.0; in_use = in_use first.place q first.there first.reports.1.0 };
        none_before = λ i r lt at str. first.none_before i r lt at str.gone (used i r at str.in_use);
      })

  pub none_stranded : ReportsFirst (ReportsQueue g.topology entries consumed) names None → NoneIsOrphaned old g.topology b
  none_stranded none q str = let p = place_of q names str.was in none p.0 q p.1 str.gone (used p.0 q p.1 str.in_use)

  -- ---- messages that are endangered

  entry_at : (p : ℕ) (q : Text) (j : ℕ) (e : Entry) → slice_get names p ≡ Some q → slice_get (b.queue q) j ≡ Some e → slice_get (entries p) j ≡ Some e
  entry_at p q j e at there = subst (λ (es : List Entry). slice_get es j ≡ Some e) (s.queue p q at) there

  pub breach_stands : NoneIsOrphaned old g.topology b → (o : Obstacle) → ReportsFirst (ReportsQueues g.topology names entries) g.guarantees (Some o) → IsObstacle old g b o
  breach_stands none o first = subst (IsObstacle old g b) (sym third.reports.1) (
    none,
    record {
      spot = spot;
      guarantee = u;
      entry = e;
      danger = record { guarantee = first.there; queue = second.there; entry = subst (λ (es : List Entry). slice_get es third.place ≡ Some e) (sym (s.queue second.place q second.there)) third.there; endangers = third.reports.0 };
      none_before = before;
      key_is = refl;
      number_is = refl;
    },
  )
    where
      u : Guarantee
      u = first.one

      second : IsReportedFirst (ReportsEntries g.topology u (first.place + 1) entries) names o
      second = first.reports

      q : Text
      q = second.one

      third : IsReportedFirst (ReportsEntry g.topology u (first.place + 1) q) (entries second.place) o
      third = second.reports

      e : Entry
      e = third.one

      spot : Spot
      spot = record { guarantee = first.place; queue = second.place; entry = third.place }

      before : (r : Spot) (v : Guarantee) (p : Text) (d : Entry) → IsBefore r spot → IsDanger old g b r v p d → ⊥
      before r v p d (inl lt) k = first.none_before r.guarantee v lt k.guarantee r.queue p k.queue r.entry d (entry_at r.queue p r.entry d k.queue k.entry) k.endangers
      before r v p d (inr (same, inl lt)) k =
          let at : Some v ≡ Some u = sym k.guarantee ∙ subst (λ (i : ℕ). slice_get g.guarantees i ≡ Some u) (sym same) first.there in
          let is : v ≡ u = cc in
          second.none_before r.queue p lt k.queue r.entry d (entry_at r.queue p r.entry d k.queue k.entry) (subst (λ (z : Guarantee). Endangers g.topology z p d.message) is k.endangers)
      before r v p d (inr (same, inr (here, lt))) k =
          let at : Some v ≡ Some u = sym k.guarantee ∙ subst (λ (i : ℕ). slice_get g.guarantees i ≡ Some u) (sym same) first.there in
          let is : v ≡ u = cc in
          let named : Some p ≡ Some q = sym k.queue ∙ subst (λ (i : ℕ). slice_get names i ≡ Some q) (sym here) second.there in
          let of : p ≡ q = cc in
          let there : slice_get (entries second.place) r.entry ≡ Some d = subst (λ (i : ℕ). slice_get (entries i) r.entry ≡ Some d) here (entry_at r.queue p r.entry d k.queue k.entry) in
          third.none_before r.entry d lt there (subst (λ (z : Text). Endangers g.topology u z d.message) of (subst (λ (z : Guarantee). Endangers g.topology z p d.message) is k.endangers))

  pub nothing_stands : NoneIsOrphaned old g.topology b → ReportsFirst (ReportsQueues g.topology names entries) g.guarantees None → HasNoObstacle old g b
  nothing_stands none quiet = record {
    none_stranded = none;
    none_endangered = λ u q e has there i.
        let n = place_of u g.guarantees (in_from_contains g.guarantees u has.0 has.1 has.2) in
        let p = place_of q names there in
        let j = place_of e (b.queue q) i in
        quiet n.0 u n.1 p.0 q p.1 j.0 e (entry_at p.0 q j.0 e p.1 j.1);
  }

  pub breach_judges : NoneIsOrphaned old g.topology b → (o : Option Obstacle) → ReportsFirst (ReportsQueues g.topology names entries) g.guarantees o → Judges old g b o
  breach_judges none None quiet = nothing_stands none quiet
  breach_judges none (Some o) first = breach_stands none o first

-- of a queue that is gone
pub gone_tells : (new : Topology) (entries : ℕ → List Entry) (consumed : ℕ → Bool) (p : ℕ) (q : Text) (o : Option Obstacle) → (IsIn q (queue_names new.queues) → ⊥) → ReportsUse (entries p) (consumed p) q o → ReportsQueue new entries consumed p q o
gone_tells new entries consumed p q None gone reported = λ g used. reported used
gone_tells new entries consumed p q (Some o) gone reported = (gone, reported)
